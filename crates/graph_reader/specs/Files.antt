-- The file as a whole: where its pairs say that a record lies, and the checks of shape, pairs and records as tests. The tests are
-- proved to find what `Refusals` says in words, so nothing need be believed of them.
use Rattle.std.specs.Option.{option_or, option_map}
use Rattle.std.specs.Prelude.{ℕ, ◌+◌, ◌-◌, ◌*◌, Bool, cond, ◌&&◌, ◌||◌, List, length, take, drop, Option, ◌==◌, nat_le, nat_lt}
use Rattle.graph_reader.specs.declared.fault.FileFault.{FileFault}
use Rattle.graph_reader.specs.declared.fault.FileFault.TheVariants.{Shape, Pair, Byte}
use Rattle.graph_reader.specs.Records.{at, at2, right}
use Rattle.refusals.specs.Searching.{first_told, unless}

-- 2 to 5,762 bytes, 1 to 32 nodes, then a zero
abbrev pub shape_right : List ℕ → Bool
shape_right f = nat_le 2 (length f) && (nat_le (length f) 5762 && (nat_le 1 (at f 0) && (nat_le (at f 0) 32 && at f 1 == 0)))

-- what the pair at i says
abbrev pub offset : List ℕ → ℕ → ℕ
offset f i = at2 f (2 + 4 * i)

abbrev pub size : List ℕ → ℕ → ℕ
size f i = at2 f (4 + 4 * i)

-- where its record has to begin: behind the pairs, or where the record before ends
abbrev pub begins : List ℕ → ℕ → ℕ
begins f i = cond (i == 0) (2 + 4 * at f 0) (offset f (i - 1) + size f (i - 1))

-- the pair lies in the file; its record touches the one before, lies in the file, has 16 bytes and 10 for each row,
-- and the last one ends the file
unfoldable pub pair_right : List ℕ → ℕ → Bool
pair_right f i =
    nat_le (6 + 4 * i) (length f)
    && (offset f i == begins f i
    && (nat_le (offset f i + size f i) (length f)
    && (size f i == 16 + 10 * at f (offset f i + 14)
    && (nat_lt (i + 1) (at f 0) || offset f i + size f i == length f))))

-- the record of node i
abbrev pub record_at : List ℕ → ℕ → List ℕ
record_at f i = take (size f i) (drop (offset f i) f)

-- the first wrong byte of a record
abbrev pub first_wrong : List ℕ → Option ℕ
first_wrong r = first_told (λ b. unless (right r b) b) 0 (length r)

-- numbers 1 to 3, in their order
abbrev pub shape_fault : List ℕ → Option FileFault
shape_fault f = unless (shape_right f) Shape

abbrev pub pair_fault : List ℕ → Option FileFault
pair_fault f = first_told (λ i. unless (pair_right f i) (Pair i)) 0 (at f 0)

abbrev pub record_fault : List ℕ → ℕ → Option FileFault
record_fault f n = option_map (Byte n) (first_wrong (record_at f n))

abbrev pub byte_fault : List ℕ → Option FileFault
byte_fault f = first_told (record_fault f) 0 (at f 0)

abbrev pub file_fault : List ℕ → Option FileFault
file_fault f = option_or (shape_fault f) (option_or (pair_fault f) (byte_fault f))
