-- Fields and payload as parts of the packet itself.
use Rattle.std.specs.Prelude.{◌≡◌, ℕ, ◌+◌, ◌-◌, cond, List, length, take, drop, Some, None, Ok, Err, Option, Result, nat_le, ◌≢◌}
use Rattle.std.specs.Borrow.{Bor}
use Rattle.headers.specs.declared.faults.PartFault.{PartFault}
use Rattle.headers.specs.declared.faults.PartFault.TheVariants.{UnknownKind, FieldOutside, PayloadOutside}
use Rattle.headers.specs.declared.mark.Mark.{Mark}
use Rattle.headers.specs.declared.table.FieldPlace.{FieldPlace}
use Rattle.headers.specs.declared.table.KindTable.{KindTable}
use Rattle.headers.specs.Kinds.{kind_at}
use Rattle.headers.specs.Table.{field_in}

-- What a call answers, in numbers: no such field, the part of the packet from an offset on of a length, or a fault.
pub data Answer : Type 0 where
  absent : Answer
  part : ℕ → ℕ → Answer
  refused : PartFault → Answer

-- the field of a header that begins at an offset, in a packet of a size
abbrev pub field_within : ℕ → ℕ → Option FieldPlace → Answer
field_within size offset None = absent
field_within size offset (Some p) = cond (nat_le (offset + p.offset + p.length) size) (part (offset + p.offset) p.length) (refused FieldOutside)

-- a field of a mark, by a table of kinds: a kind over 10 is refused first; the mark's node and length do not matter
abbrev pub field_answer : KindTable → ℕ → Mark → ℕ → Answer
field_answer t size m n = cond (nat_le m.kind 10) (field_within size m.offset (field_in t (kind_at m.kind) n)) (refused (UnknownKind m.kind))

-- a mark has each field of its kind: whatever number is asked for, the answer is a part of the packet or that there is no such field
abbrev pub HasItsFields : KindTable → ℕ → Mark → Type 0
HasItsFields t size m = (n : ℕ) (e : PartFault) → field_answer t size m n ≢ refused e

-- the payload: from an offset to the packet's end, where it is empty
abbrev pub payload_answer : ℕ → ℕ → Answer
payload_answer size from = cond (nat_le from size) (part from (size - from)) (refused PayloadOutside)

-- A part of a slice: the same memory, from an offset on, of a length.
pub record Part {X : Type 0} (whole : Bor (List X)) (at n : ℕ) (r : Bor (List X)) : Type 0 where
  pub block : r.ref_ptr.0 ≡ whole.ref_ptr.0
  pub place : r.ref_ptr.1 ≡ whole.ref_ptr.1 + at
  pub holds : r.now ≡ take n (drop at whole.now)
  pub long : length r.now ≡ n

-- a slice that is handed out is the part of the packet that the answer names
abbrev pub Handed : Bor (List ℕ) → Bor (List ℕ) → Answer → Type 0
Handed packet r a = (at : ℕ) × (n : ℕ) × (a ≡ part at n) × Part packet at n r

-- the result of `field` gives the answer
abbrev pub SaysField : Bor (List ℕ) → Result (Option (Bor (List ℕ))) PartFault → Answer → Type 0
SaysField packet (Ok None) a = a ≡ absent
SaysField packet (Ok (Some r)) a = Handed packet r a
SaysField packet (Err e) a = a ≡ refused e

-- the result of `payload` gives the answer
abbrev pub SaysPayload : Bor (List ℕ) → Result (Bor (List ℕ)) PartFault → Answer → Type 0
SaysPayload packet (Ok r) a = Handed packet r a
SaysPayload packet (Err e) a = a ≡ refused e
