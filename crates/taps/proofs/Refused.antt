-- What a read is refused for is the least that applies.
use Rattle.std.proofs.Common.{◌≡◌, ℕ, ◌<◌, ◌≤◌, cond, eqb, Some, None, Option, sym, refl, ap, ◌∙◌, inr, arith}
use Rattle.refusals.specs.Least.{last_number, NotAfter, Least}
use Rattle.refusals.proofs.Ranking.{lower, least_same}
use Rattle.walker.specs.Refusals.{most_bytes, most_marks}
use Rattle.taps.specs.declared.fault.PacketFault.{PacketFault}
use Rattle.taps.specs.declared.fault.PacketFault.TheVariants.{LongPacket, FewMarks, NothingLoaded}
use Rattle.taps.specs.Faults.{of_packet, PacketApplies}

number_within : (e : PacketFault) → (of_packet e).number ≤ last_number
number_within LongPacket = omega arith
number_within FewMarks = omega arith
number_within NothingLoaded = omega arith

before : (e d : PacketFault) → (of_packet e).number < (of_packet d).number → NotAfter (of_packet e) (of_packet d)
before e d h = lower (of_packet e) (of_packet d) h (number_within d)

module _ {X : Type 0} (size room : ℕ) (loaded : Option X) where
  pub long_packet : most_bytes < size → Least of_packet (PacketApplies size room loaded) LongPacket
  long_packet h = record {
    applies = h;
    first = elim [ LongPacket ↦ λ _. inr (refl, inr (refl, omega arith)) | FewMarks ↦ λ _. before LongPacket FewMarks (omega arith) | NothingLoaded ↦ λ _. before LongPacket NothingLoaded (omega arith) ];
  }

  pub few_marks : size ≤ most_bytes → room < most_marks → Least of_packet (PacketApplies size room loaded) FewMarks
  few_marks short h = record {
    applies = h;
    first = elim [ LongPacket ↦ λ d. absurd (omega arith) | FewMarks ↦ λ _. inr (refl, inr (refl, omega arith)) | NothingLoaded ↦ λ _. before FewMarks NothingLoaded (omega arith) ];
  }

  pub nothing_loaded : size ≤ most_bytes → most_marks ≤ room → loaded ≡ None → Least of_packet (PacketApplies size room loaded) NothingLoaded
  nothing_loaded short enough h = record {
    applies = h;
    first = elim [ LongPacket ↦ λ d. absurd (omega arith) | FewMarks ↦ λ d. absurd (omega arith) | NothingLoaded ↦ λ _. inr (refl, inr (refl, omega arith)) ];
  }

  pub none_applies : (x : X) → size ≤ most_bytes → most_marks ≤ room → loaded ≡ Some x → (e : PacketFault) → PacketApplies size room loaded e → ⊥
  none_applies x short enough there LongPacket d = omega arith
  none_applies x short enough there FewMarks d = omega arith
  none_applies x short enough there NothingLoaded d = cc

-- a fault is known by its number
abbrev fault_at : ℕ → PacketFault
fault_at n = cond (eqb n 10) LongPacket (cond (eqb n 11) FewMarks NothingLoaded)

fault_back : (e : PacketFault) → fault_at (of_packet e).number ≡ e
fault_back LongPacket = refl
fault_back FewMarks = refl
fault_back NothingLoaded = refl

-- so two relations that say the same of packets have one least fault
pub least_packet_same : (P Q : PacketFault → Type 0) (e d : PacketFault) → ((x : PacketFault) → P x → Q x) → ((x : PacketFault) → Q x → P x)
    → Least of_packet P e → Least of_packet Q d → e ≡ d
least_packet_same P Q e d to from x y = sym (fault_back e) ∙ ap fault_at (least_same of_packet P Q e d to from x y).number ∙ fault_back d
