-- A record of a capture file, 16 bytes and then the packet:
--   0  seconds, 4 bytes
--   4  the fraction of a second, 4 bytes
--   8  captured length, 4 bytes: how many bytes of the packet stand in the file
--  12  original length, 4 bytes: how many there were
--  16  the packet
-- The next record begins where the packet ends.
use Rattle.std.specs.Prelude.{◌≡◌, ℕ, ◌+◌, ◌-◌, ◌<◌, ◌≤◌, cond, List, length, Some, None, Ok, Err, Option, Result, ◌==◌, nat_le}
use Rattle.std.specs.Borrow.{Bor}
use Rattle.std.specs.Iterator.{Count, at_most}
use Rattle.headers.specs.Part.{Part}
use Rattle.captures.specs.declared.fault.CaptureFault.{CaptureFault}
use Rattle.captures.specs.declared.fault.CaptureFault.TheVariants.{HeaderCut, PacketCut}
use Rattle.captures.specs.declared.format.Format.{Format}
use Rattle.captures.specs.declared.records.Entry.{Entry}
use Rattle.captures.specs.declared.records.Record.{Record}
use Rattle.captures.specs.declared.records.Records.{Records}
use Rattle.captures.specs.Numbers.{number_at}

-- the captured length of the record at an offset
abbrev pub captured : Format → List ℕ → ℕ → ℕ
captured m f o = number_at m.order f (o + 8)

-- what the record at an offset says
abbrev pub entry_of : Format → List ℕ → ℕ → Entry
entry_of m f o = record {
  seconds = number_at m.order f o;
  fraction = number_at m.order f (o + 4);
  original = number_at m.order f (o + 12);
  begin = o + 16;
  length = captured m f o;
  next = o + 16 + captured m f o;
}

-- what stands at an offset: nothing more at the file's end; else a record, all of whose bytes are there
abbrev pub record_at : Format → List ℕ → ℕ → Result (Option Entry) CaptureFault
record_at m f o =
    cond (o == length f) (Ok None)
    (cond (nat_le (o + 16) (length f))
    (cond (nat_le (o + 16 + captured m f o) (length f)) (Ok (Some (entry_of m f o))) (Err (PacketCut o (captured m f o) (length f - (o + 16)))))
    (Err (HeaderCut o)))

-- From one record to the next the offset grows, past the header and the packet, and stays within the file.
pub record Onward (size o : ℕ) (e : Entry) : Type 0 where
  pub begins : e.begin ≡ o + 16
  pub ends : e.next ≡ e.begin + e.length
  pub grows : o < e.next
  pub within : e.next ≤ size

abbrev pub Steps : ℕ → ℕ → Result (Option Entry) CaptureFault → Type 0
Steps size o (Ok None) = o ≡ size
Steps size o (Ok (Some e)) = Onward size o e
Steps size o (Err e) = Unit {0}

-- A record that `next` hands out: what stands at the offset, the next offset behind it, and the packet as the part of the file
-- that the record names.
pub record Handed (m : Format) (file : Bor (List ℕ)) (o : ℕ) (r : Record) : Type 0 where
  pub says : record_at m file.now o ≡ Ok (Some r.entry)
  pub onward : Onward (length file.now) o r.entry
  pub packet : Part file r.entry.begin r.entry.length r.packet

-- the result of `next`
abbrev pub Gives : Format → Bor (List ℕ) → ℕ → Result (Option Record) CaptureFault → Type 0
Gives m file o (Ok None) = record_at m file.now o ≡ Ok None
Gives m file o (Ok (Some r)) = Handed m file o r
Gives m file o (Err e) = record_at m file.now o ≡ Err e

-- the iterator over the records of a file, where the next begins at an offset, or where no more come
abbrev pub records_at : Format → Bor (List ℕ) → Option ℕ → Records
records_at m file o = record { file = file; format = m; offset = o }

-- What a call of the iterator's `next` gives, and where it leaves the iterator: the record at the offset, and then the next
-- begins behind it; nothing at the file's end; a fault, and then no more
abbrev pub GivesFrom : Format → Bor (List ℕ) → Option ℕ → Option (Result Record CaptureFault) → Records → Type 0
GivesFrom m file None r t = (r ≡ None) × (t ≡ records_at m file None)
GivesFrom m file (Some o) None t = (record_at m file.now o ≡ Ok None) × (t ≡ records_at m file (Some o))
GivesFrom m file (Some o) (Some (Ok r)) t = Handed m file o r × (t ≡ records_at m file (Some r.entry.next))
GivesFrom m file (Some o) (Some (Err e)) t = (record_at m file.now o ≡ Err e) × (t ≡ records_at m file None)

abbrev pub GivesNext : Records → Option (Result Record CaptureFault) → Records → Type 0
GivesNext s r t = GivesFrom s.format s.file s.offset r t

-- no more items come than bytes are left, and one: a record has a byte at least, and a fault may come behind the last
abbrev pub left_at : ℕ → Option ℕ → ℕ
left_at size None = 0
left_at size (Some o) = size - o + 1

abbrev pub records_left : Records → Count
records_left s = at_most (left_at (length s.file.now) s.offset)
