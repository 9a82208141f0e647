-- Bytes of a list, and the numbers that they spell, the highest byte first.
use Rattle.std.specs.Prelude.{ℕ, ◌+◌, ◌*◌, List, [], ◌∷◌, slice_index}

-- the byte at a place; 0 behind the end
abbrev pub byte_at : List ℕ → ℕ → ℕ
byte_at bs i = slice_index bs i

-- four bytes from a place on
abbrev pub bytes4 : List ℕ → ℕ → List ℕ
bytes4 bs i = byte_at bs i ∷ byte_at bs (i + 1) ∷ byte_at bs (i + 2) ∷ byte_at bs (i + 3) ∷ []

-- the number that four bytes spell
abbrev pub spelled4 : ℕ → ℕ → ℕ → ℕ → ℕ
spelled4 a b c d = a * 16777216 + b * 65536 + c * 256 + d

-- the number in two and in four bytes from a place on
abbrev pub number2 : List ℕ → ℕ → ℕ
number2 bs i = byte_at bs i * 256 + byte_at bs (i + 1)

abbrev pub number4 : List ℕ → ℕ → ℕ
number4 bs i = spelled4 (byte_at bs i) (byte_at bs (i + 1)) (byte_at bs (i + 2)) (byte_at bs (i + 3))
