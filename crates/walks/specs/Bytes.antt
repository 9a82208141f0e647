-- Bytes, and the numbers that they spell.
use Rattle.std.specs.Prelude.{ℕ, zero, suc, ◌+◌, ◌*◌, ◌%◌, ◌^◌, List, [], ◌∷◌, length, slice_index}

-- the byte at a place, 0 past the end. A slice of bytes holds nothing from 256 on, but a list of numbers may: hence the remainder
abbrev pub byte_at : List ℕ → ℕ → ℕ
byte_at p i = slice_index p i % 256

-- n items: those of a list from its front, and z for each that is missing
abbrev pub filled : {X : Type 0} → X → ℕ → List X → List X
filled z zero xs = []
filled z (suc n) [] = z ∷ filled z n []
filled z (suc n) (x ∷ xs) = x ∷ filled z n xs

-- the number that bytes spell, the first topmost
abbrev pub spelled : List ℕ → ℕ
spelled [] = 0
spelled (b ∷ bs) = b * 2 ^ (8 * length bs) + spelled bs

-- n bytes as a number: those of a list from its front, then zeros
abbrev pub spelled_in : ℕ → List ℕ → ℕ
spelled_in n bs = spelled (filled 0 n bs)
