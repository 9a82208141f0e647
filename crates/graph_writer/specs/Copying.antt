-- What is told of a file that is read and written again.
use Rattle.std.specs.Option.{option_or, option_map}
use Rattle.std.specs.Prelude.{ℕ, List, Option, nat_le}
use Rattle.refusals.specs.Searching.{unless}
use Rattle.headers.specs.declared.kinds.Kind.{Kind}
use Rattle.graph_reader.specs.Reading.{read_fault}
use Rattle.graph_writer.specs.declared.fault.WriteFault.{WriteFault}
use Rattle.graph_writer.specs.declared.fault.WriteFault.TheVariants.{Area}
use Rattle.graph_writer.specs.Faults.{from_read}

-- what reading tells of the file, or else that the area is shorter than the longest file
abbrev pub copy_fault : (Kind → ℕ) → List ℕ → ℕ → Option WriteFault
copy_fault minimum f room = option_or (option_map from_read (read_fault minimum f)) (unless (nat_le 5762 room) Area)
