-- Bytes of a file, and the numbers that they spell.
use Rattle.std.specs.Prelude.{ℕ, ◌+◌, List}
use Rattle.octets.specs.Reading.{byte_at, spelled4}
use Rattle.captures.specs.declared.format.ByteOrder.{ByteOrder}
use Rattle.captures.specs.declared.format.ByteOrder.TheVariants.{Big, Little}

-- the byte at a place; 0 behind the end
abbrev pub at : List ℕ → ℕ → ℕ
at f i = byte_at f i

-- the number of four bytes, the highest first
abbrev pub spelled : ℕ → ℕ → ℕ → ℕ → ℕ
spelled a b c d = spelled4 a b c d

-- the number of four bytes, in an order
abbrev pub spelled_in : ByteOrder → ℕ → ℕ → ℕ → ℕ → ℕ
spelled_in Big a b c d = spelled a b c d
spelled_in Little a b c d = spelled d c b a

-- the number in the four bytes from a place on
abbrev pub number_at : ByteOrder → List ℕ → ℕ → ℕ
number_at o f i = spelled_in o (at f i) (at f (i + 1)) (at f (i + 2)) (at f (i + 3))
