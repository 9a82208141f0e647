-- Worked examples: a small capture of two packets, and what becomes of it where it is cut or changed.
use Rattle.std.specs.Prelude.{◌≡◌, ℕ, List, [], ◌∷◌, ◌++◌, take, Some, None, Ok, Err, Option, slice_set}
use Rattle.captures.specs.declared.fault.CaptureFault.{CaptureFault}
use Rattle.captures.specs.declared.fault.CaptureFault.TheVariants.{NotCapture, NotEthernet, HeaderCut, PacketCut}
use Rattle.captures.specs.declared.format.ByteOrder.TheVariants.{Big, Little}
use Rattle.captures.specs.declared.format.Resolution.TheVariants.{Micro, Nano}
use Rattle.captures.specs.declared.records.Entry.{Entry}
use Rattle.captures.specs.Formats.{format_of, opened}
use Rattle.captures.specs.Records.{record_at}
use Rattle.captures.specs.Captures.{Capture}

-- the header: microseconds, the lowest byte first, version 2.4, at most 65,535 bytes of a packet, Ethernet
abbrev pub little_header : List ℕ
little_header = 0xD4 ∷ 0xC3 ∷ 0xB2 ∷ 0xA1 ∷ 2 ∷ 0 ∷ 4 ∷ 0 ∷ 0 ∷ 0 ∷ 0 ∷ 0 ∷ 0 ∷ 0 ∷ 0 ∷ 0 ∷ 0xFF ∷ 0xFF ∷ 0 ∷ 0 ∷ 1 ∷ 0 ∷ 0 ∷ 0 ∷ []

-- the same in nanoseconds and the highest byte first
abbrev pub big_header : List ℕ
big_header = 0xA1 ∷ 0xB2 ∷ 0x3C ∷ 0x4D ∷ 0 ∷ 2 ∷ 0 ∷ 4 ∷ 0 ∷ 0 ∷ 0 ∷ 0 ∷ 0 ∷ 0 ∷ 0 ∷ 0 ∷ 0 ∷ 0 ∷ 0xFF ∷ 0xFF ∷ 0 ∷ 0 ∷ 0 ∷ 1 ∷ []

-- a record of 14 bytes, all that was kept of 60
abbrev pub first_record : List ℕ
first_record =
    0x00 ∷ 0x10 ∷ 0x5E ∷ 0x5F ∷ 0x20 ∷ 0xA1 ∷ 0x07 ∷ 0x00 ∷ 14 ∷ 0 ∷ 0 ∷ 0 ∷ 60 ∷ 0 ∷ 0 ∷ 0
    ∷ 0xFF ∷ 0xFF ∷ 0xFF ∷ 0xFF ∷ 0xFF ∷ 0xFF ∷ 0x02 ∷ 0x00 ∷ 0x00 ∷ 0x00 ∷ 0x00 ∷ 0x01 ∷ 0x08 ∷ 0x06 ∷ []

-- and one of 3 bytes, a millionth of a second later
abbrev pub second_record : List ℕ
second_record = 0x00 ∷ 0x10 ∷ 0x5E ∷ 0x5F ∷ 0x21 ∷ 0xA1 ∷ 0x07 ∷ 0x00 ∷ 3 ∷ 0 ∷ 0 ∷ 0 ∷ 3 ∷ 0 ∷ 0 ∷ 0 ∷ 0xAA ∷ 0xBB ∷ 0xCC ∷ []

abbrev pub capture : List ℕ
capture = little_header ++ (first_record ++ second_record)

abbrev pub first_entry : Entry
first_entry = record { seconds = 1600000000; fraction = 500000; original = 60; begin = 40; length = 14; next = 54 }

abbrev pub second_entry : Entry
second_entry = record { seconds = 1600000000; fraction = 500001; original = 3; begin = 70; length = 3; next = 73 }

-- a file is read from byte 24 on, as microseconds with the lowest byte first, as so many records and an end
abbrev pub CaptureHolds : List ℕ → List Entry → Option CaptureFault → Type 0
CaptureHolds f es end = Capture (format_of Little Micro) f 24 es end

pub record WorkedExamples : Type 0 where
  -- headers
  pub little : opened capture ≡ Ok (format_of Little Micro)
  pub big : opened big_header ≡ Ok (format_of Big Nano)
  pub upper_bits : opened (slice_set capture 23 0x24) ≡ Ok (format_of Little Micro)
  pub one_short : opened (take 23 capture) ≡ Err NotCapture
  pub no_magic : opened (slice_set capture 0 0xD5) ≡ Err NotCapture
  pub other_link : opened (slice_set capture 20 105) ≡ Err (NotEthernet 105)
  -- records
  pub none : CaptureHolds (take 24 capture) [] None
  pub both : CaptureHolds capture (first_entry ∷ second_entry ∷ []) None
  pub cut_in_packet : CaptureHolds (take 72 capture) (first_entry ∷ []) (Some (PacketCut 54 3 2))
  pub cut_in_header : CaptureHolds (take 69 capture) (first_entry ∷ []) (Some (HeaderCut 54))
  -- behind the end
  pub behind : record_at (format_of Little Micro) capture 74 ≡ Err (HeaderCut 74)
