-- The headers of nodes one right behind the other, by what a program says of the nodes.
use Rattle.std.specs.Prelude.{ℕ, ◌+◌, List, [], ◌∷◌, map}
use Rattle.headers.specs.declared.mark.Mark.{Mark}
use Rattle.graphs.specs.View.{NodeView}
use Rattle.walks.specs.Bytes.{byte_at}
use Rattle.walks.specs.Walk.{measured}
use Rattle.walker.specs.Steps.{marked}
use Rattle.compiler.specs.declared.program.Program.{Program}
use Rattle.compiler.specs.Programs.{head_at, head_view}
use Rattle.readers.specs.declared.behind.Behind.{Behind}

module _ (program : Program) where
  -- node n without its rows
  abbrev pub node_by : ℕ → NodeView
  node_by n = head_view (head_at program n)

  module _ (p : List ℕ) where
    -- its header at an offset, marked
    abbrev pub mark_by : ℕ → ℕ → Mark
    mark_by n at = marked n (node_by n).kind at (measured (node_by n).len p at)

-- the bytes at places from an offset on
abbrev pub bytes_at : List ℕ → ℕ → List ℕ → List ℕ
bytes_at p at places = map (λ i. byte_at p (at + i)) places

-- the offset behind a marked header
abbrev pub end_of : Mark → ℕ
end_of m = m.offset + m.length

-- the headers of nodes, marked: the first at an offset, each right behind the one before
abbrev pub marks_by : Program → List ℕ → List ℕ → ℕ → List Mark
marks_by program p [] at = []
marks_by program p (n ∷ ns) at = mark_by program p n at ∷ marks_by program p ns (end_of (mark_by program p n at))

-- the marks that an iterator leaves
abbrev pub marks_left : Behind → List Mark
marks_left h = marks_by h.program.now h.packet.now h.nodes.now h.at
