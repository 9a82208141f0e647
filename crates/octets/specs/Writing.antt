-- What stands in an area after bytes are written into it.
use Rattle.std.specs.Prelude.{ℕ, ◌+◌, List, ◌++◌, length, take, drop}

-- an area with bytes written from a place on
abbrev pub written : List ℕ → ℕ → List ℕ → List ℕ
written area at bytes = take at area ++ (bytes ++ drop (at + length bytes) area)
