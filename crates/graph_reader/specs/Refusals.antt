-- What a graph file is refused for, in words: the condition of each fault at its place. Each presupposes that no lower number applies.
use Rattle.std.specs.Prelude.{◌≡◌, ℕ, ◌+◌, ◌*◌, ◌<◌, ◌≤◌, List, length, ◌≢◌, bit_and}
use Rattle.headers.specs.declared.kinds.Kind.{Kind}
use Rattle.graphs.specs.Refusals.{GraphApplies}
use Rattle.graph_reader.specs.declared.fault.FileFault.{FileFault}
use Rattle.graph_reader.specs.declared.fault.FileFault.TheVariants.{Shape, Pair, Byte}
use Rattle.graph_reader.specs.declared.fault.ReadFault.{ReadFault}
use Rattle.graph_reader.specs.declared.fault.ReadFault.TheVariants.{File, Graph}
use Rattle.graph_reader.specs.Records.{at, at2}
use Rattle.graph_reader.specs.Files.{offset, size, begins, record_at}
use Rattle.graph_reader.specs.Decoding.{nodes_in}

-- 1: the file is too short or too long, its node count is not 1 to 32, or byte 1 is not zero
pub data WrongShape (f : List ℕ) : Type 0 where
  short : length f < 2 → WrongShape f
  long : 5762 < length f → WrongShape f
  no_node : at f 0 ≡ 0 → WrongShape f
  many_nodes : 32 < at f 0 → WrongShape f
  byte_one : (at f 1 ≢ 0) → WrongShape f

-- 2: pair i is missing; its record does not begin where the one before ends, lies past the file's end, or has not 16 bytes
-- and 10 for each row; or it is the last and does not end the file
pub data WrongPair (f : List ℕ) (i : ℕ) : Type 0 where
  missing : length f < 6 + 4 * i → WrongPair f i
  apart : (offset f i ≢ begins f i) → WrongPair f i
  past_end : length f < offset f i + size f i → WrongPair f i
  odd_size : (size f i ≢ 16 + 10 * at f (offset f i + 14)) → WrongPair f i
  not_last : at f 0 < i + 2 → (offset f i + size f i ≢ length f) → WrongPair f i

-- where byte j of row k stands in a record
abbrev pub row_byte : ℕ → ℕ → ℕ
row_byte k j = 16 + 10 * k + j

-- 3: the byte at a place of a record breaks a rule; one constructor for each rule
pub data OutOfRange (r : List ℕ) : ℕ → Type 0 where
  -- the kind is over 10, the length rule over 1
  kind : 10 < at r 0 → OutOfRange r 0
  length_rule : 1 < at r 1 → OutOfRange r 1
  -- a fixed length is zero, or one of bytes 3 to 7 behind it is not
  fixed_length : at r 1 ≡ 0 → at r 2 ≡ 0 → OutOfRange r 2
  behind_fixed : (b : ℕ) → at r 1 ≡ 0 → 3 ≤ b → b ≤ 7 → (at r b ≢ 0) → OutOfRange r b
  -- a counted length's place is over 63, its shift over 7, its unit not 1 to 8, or byte 7 behind it is not zero
  place : (at r 1 ≢ 0) → 63 < at r 2 → OutOfRange r 2
  shift : (at r 1 ≢ 0) → 7 < at r 4 → OutOfRange r 4
  no_unit : (at r 1 ≢ 0) → at r 5 ≡ 0 → OutOfRange r 5
  unit : (at r 1 ≢ 0) → 8 < at r 5 → OutOfRange r 5
  behind_counted : (at r 1 ≢ 0) → (at r 7 ≢ 0) → OutOfRange r 7
  -- the lookup count is over 4; the place of a lookup that is counted is over 63, that of another is not zero
  lookup_count : 4 < at r 8 → OutOfRange r 8
  lookup_place : (i : ℕ) → i < 4 → i < at r 8 → 63 < at r (9 + i) → OutOfRange r (9 + i)
  unused_place : (i : ℕ) → i < 4 → at r 8 ≤ i → (at r (9 + i) ≢ 0) → OutOfRange r (9 + i)
  -- the rows' sort is over 1, or is range with fewer than two lookups
  sort : 1 < at r 13 → OutOfRange r 13
  lone_range : at r 8 < 2 → (at r 13 ≢ 0) → OutOfRange r 13
  -- the row count is not 1 to 16, or byte 15 is not zero
  no_row : at r 14 ≡ 0 → OutOfRange r 14
  many_rows : 16 < at r 14 → OutOfRange r 14
  byte_fifteen : (at r 15 ≢ 0) → OutOfRange r 15
  -- ternary row k: a byte of value or mask without a lookup place is not zero, or a value byte has a bit outside its mask byte
  unused_value : (k j : ℕ) → at r 13 ≡ 0 → j < 4 → at r 8 ≤ j → (at r (row_byte k j) ≢ 0) → OutOfRange r (row_byte k j)
  unused_mask : (k j : ℕ) → at r 13 ≡ 0 → j < 4 → at r 8 ≤ j → (at r (row_byte k (j + 4)) ≢ 0) → OutOfRange r (row_byte k (j + 4))
  outside_mask : (k j : ℕ) → at r 13 ≡ 0 → j < 4 → j < at r 8
      → (bit_and (at r (row_byte k j)) (at r (row_byte k (j + 4))) ≢ at r (row_byte k j)) → OutOfRange r (row_byte k j)
  -- range row k: low is over high, which is told at the row's first byte; or one of the four bytes behind them is not zero
  low_over_high : (k : ℕ) → (at r 13 ≢ 0) → at2 r (row_byte k 2) < at2 r (row_byte k 0) → OutOfRange r (row_byte k 0)
  behind_high : (k j : ℕ) → (at r 13 ≢ 0) → 4 ≤ j → j < 8 → (at r (row_byte k j) ≢ 0) → OutOfRange r (row_byte k j)
  -- the sort of row k's target is over 2, or its node is not zero where the target is no node
  target_sort : (k : ℕ) → 2 < at r (row_byte k 8) → OutOfRange r (row_byte k 8)
  needless_node : (k : ℕ) → (at r (row_byte k 8) ≢ 0) → (at r (row_byte k 9) ≢ 0) → OutOfRange r (row_byte k 9)

-- byte b of the record of node n
abbrev pub WrongByte : List ℕ → ℕ → ℕ → Type 0
WrongByte f n b = (b < length (record_at f n)) × OutOfRange (record_at f n) b

-- numbers 1 to 3 of a file
abbrev pub FileApplies : List ℕ → FileFault → Type 0
FileApplies f Shape = WrongShape f
FileApplies f (Pair i) = (i < at f 0) × WrongPair f i
FileApplies f (Byte n b) = (n < at f 0) × WrongByte f n b

-- numbers 1 to 6 of a file; 4 to 6 are those of the graph that it says
abbrev pub Applies : (Kind → ℕ) → List ℕ → ReadFault → Type 0
Applies minimum f (File e) = FileApplies f e
Applies minimum f (Graph e) = GraphApplies minimum (nodes_in f) e
