-- What is refused where a part of a packet is asked for.
use Rattle.headers.specs.declared.faults.PartFault.{PartFault}
use Rattle.headers.specs.declared.faults.PartFault.TheVariants.{UnknownKind, FieldOutside, PayloadOutside}
use Rattle.refusals.specs.declared.refusal.Layer.{Layer}
use Rattle.refusals.specs.declared.refusal.Layer.TheVariants.{Field, Payload}
use Rattle.refusals.specs.declared.refusal.Refusal.{Refusal}

-- refusal 17, which names no place
abbrev pub outside : Layer → Refusal
outside asked = record { number = 17; layer = asked; first = 0; second = 0 }

-- the refusal of a fault
abbrev pub of_part : PartFault → Refusal
of_part (UnknownKind k) = outside Field
of_part FieldOutside = outside Field
of_part PayloadOutside = outside Payload
