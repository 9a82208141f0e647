-- The header of a capture file, of 24 bytes:
--   0  magic number, 4 bytes: which of its four spellings stands there gives the byte order and the resolution
--   4  major and minor version, 2 bytes each, and two numbers of 4 bytes that nothing uses: not looked at
--  16  the most bytes that were kept of a packet, 4 bytes: not looked at
--  20  link type, 4 bytes: the low 16 bits name it, and the others are not looked at
use Rattle.std.specs.Option.{option_or, option_map}
use Rattle.std.specs.Prelude.{◌≡◌, ℕ, ◌%◌, ◌<◌, ◌≤◌, cond, List, [], ◌∷◌, length, take, Some, None, Ok, Err, Option, Result, ◌==◌, ◌≢◌, nat_le}
use Rattle.captures.specs.declared.fault.CaptureFault.{CaptureFault}
use Rattle.captures.specs.declared.fault.CaptureFault.TheVariants.{NotCapture, NotEthernet}
use Rattle.captures.specs.declared.format.ByteOrder.{ByteOrder}
use Rattle.captures.specs.declared.format.ByteOrder.TheVariants.{Big, Little}
use Rattle.captures.specs.declared.format.Resolution.{Resolution}
use Rattle.captures.specs.declared.format.Resolution.TheVariants.{Micro, Nano}
use Rattle.captures.specs.declared.format.Format.{Format}
use Rattle.captures.specs.Numbers.{number_at}

abbrev pub format_of : ByteOrder → Resolution → Format
format_of o r = record { order = o; resolution = r }

-- the magic number of a resolution
abbrev pub magic : Resolution → ℕ
magic Micro = 0xA1B2C3D4
magic Nano = 0xA1B23C4D

-- its four bytes in an order
abbrev pub bytes_of : ByteOrder → Resolution → List ℕ
bytes_of Big Micro = 0xA1 ∷ 0xB2 ∷ 0xC3 ∷ 0xD4 ∷ []
bytes_of Big Nano = 0xA1 ∷ 0xB2 ∷ 0x3C ∷ 0x4D ∷ []
bytes_of Little Micro = 0xD4 ∷ 0xC3 ∷ 0xB2 ∷ 0xA1 ∷ []
bytes_of Little Nano = 0x4D ∷ 0x3C ∷ 0xB2 ∷ 0xA1 ∷ []

-- the resolution of a magic number
abbrev pub resolution_of : ℕ → Option Resolution
resolution_of n = cond (n == magic Micro) (Some Micro) (cond (n == magic Nano) (Some Nano) None)

-- the format of a file: in one of the orders, its first four bytes spell a magic number
abbrev pub format_in : List ℕ → Option Format
format_in f = option_or (option_map (format_of Big) (resolution_of (number_at Big f 0))) (option_map (format_of Little) (resolution_of (number_at Little f 0)))

-- the link type
abbrev pub link_type : Format → List ℕ → ℕ
link_type m f = number_at m.order f 20 % 65536

-- what `open` answers
abbrev pub opened_as : List ℕ → Option Format → Result Format CaptureFault
opened_as f None = Err NotCapture
opened_as f (Some m) =
    cond (nat_le 24 (length f)) (cond (link_type m f == 1) (Ok m) (Err (NotEthernet (link_type m f)))) (Err NotCapture)

abbrev pub opened : List ℕ → Result Format CaptureFault
opened f = opened_as f (format_in f)

-- In words

-- the file begins with the magic number of the format
abbrev pub Begins : List ℕ → Format → Type 0
Begins f m = take 4 f ≡ bytes_of m.order m.resolution

-- a file that is opened
pub record Opens (f : List ℕ) (m : Format) : Type 0 where
  pub begins : Begins f m
  pub long : 24 ≤ length f
  pub ethernet : link_type m f ≡ 1

-- and one that is not
pub data Refused (f : List ℕ) : CaptureFault → Type 0 where
  short : length f < 24 → Refused f NotCapture
  strange : ((m : Format) → Begins f m → ⊥) → Refused f NotCapture
  foreign : (m : Format) → Begins f m → 24 ≤ length f → (link_type m f ≢ 1) → Refused f (NotEthernet (link_type m f))
