-- What a read is refused for, and the number and layer of each fault.
use Rattle.std.specs.Option.{option_or}
use Rattle.std.specs.Prelude.{◌≡◌, ℕ, ◌<◌, Bool, true, false, Some, None, Option, nat_le}
use Rattle.refusals.specs.declared.refusal.Refusal.{Refusal}
use Rattle.refusals.specs.Searching.{unless}
use Rattle.walker.specs.Faults.{of_room}
use Rattle.walker.specs.Refusals.{most_bytes, most_marks}
use Rattle.taps.specs.declared.fault.PacketFault.{PacketFault}
use Rattle.taps.specs.declared.fault.PacketFault.TheVariants.{LongPacket, FewMarks, NothingLoaded}

-- 10 to 12, of the layer 'read', with no place
abbrev pub of_packet : PacketFault → Refusal
of_packet LongPacket = of_room 10
of_packet FewMarks = of_room 11
of_packet NothingLoaded = of_room 12

-- whether something is loaded
abbrev pub is_loaded : {X : Type 0} → Option X → Bool
is_loaded None = false
is_loaded (Some x) = true

module _ {X : Type 0} (size room : ℕ) (loaded : Option X) where
  -- in words: a packet of more than 9,600 bytes; room for fewer than 32 marks; nothing loaded
  abbrev pub PacketApplies : PacketFault → Type 0
  PacketApplies LongPacket = most_bytes < size
  PacketApplies FewMarks = room < most_marks
  PacketApplies NothingLoaded = loaded ≡ None

  -- the first of them, as a test
  abbrev pub packet_fault : Option PacketFault
  packet_fault = option_or (unless (nat_le size most_bytes) LongPacket) (option_or (unless (nat_le most_marks room) FewMarks) (unless (is_loaded loaded) NothingLoaded))
