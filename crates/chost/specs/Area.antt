-- What is laid out in an area.
use Rattle.std.specs.Prelude.{ℕ, ◌-◌, ◌/◌, min, List, ◌∷◌, ◌++◌, length, take, drop}
use Rattle.std.specs.List.{flat_map}
use Rattle.headers.specs.declared.mark.Mark.{Mark}
use Rattle.graph_reader.specs.Encoding.{two}
use Rattle.readers.specs.declared.read.Reading.{Reading}

-- how many marks an area of so many bytes has room for: six bytes each, behind the first six. At most 32, which is from 198 bytes on
abbrev pub room : ℕ → ℕ
room size = min ((size - 6) / 6) 32

-- the first six bytes: how many marks and how many questions, the node, zero, and the offset in two bytes, the highest first
abbrev pub head : Reading → List ℕ
head r = r.marks ∷ r.questions ∷ r.outcome.node ∷ 0 ∷ two r.outcome.offset

-- the six bytes of a mark: node, kind, offset and length
abbrev pub mark_bytes : Mark → List ℕ
mark_bytes m = m.node ∷ m.kind ∷ (two m.offset ++ two m.length)

-- a reading, whose marks stand at the front of a list: the first six bytes, and then each mark's
abbrev pub laid : Reading → List Mark → List ℕ
laid r marks = head r ++ flat_map mark_bytes (take r.marks marks)

-- an area with bytes at its front, and the bytes behind them as they were
abbrev pub with_front : List ℕ → List ℕ → List ℕ
with_front bytes area = bytes ++ drop (length bytes) area
