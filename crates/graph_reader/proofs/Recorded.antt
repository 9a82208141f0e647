-- A record all of whose bytes are right.
use Rattle.std.proofs.Common.{◌≡◌, ℕ, ◌+◌, ◌-◌, ◌*◌, ◌/◌, ◌%◌, ◌<◌, ◌≤◌, true, ltb, List, length, drop, None, sym, ap, ◌∙◌, ap₂, arith}
use Rattle.std.proofs.lemmas.Bool.{and_parts, leb-true, le-ltb, cond-false}
use Rattle.std.proofs.lemmas.List.{get_or-take, get_or-drop}
use Rattle.graph_reader.specs.declared.fault.FileFault.TheVariants.{Pair, Byte}
use Rattle.graph_reader.specs.Records.{at, right, row_right}
use Rattle.graph_reader.specs.Files.{offset, size, pair_right, record_at, first_wrong, pair_fault, record_fault, byte_fault}
use Rattle.refusals.proofs.Searching.{holds, nowhere, option_map_none}
use Rattle.graph_reader.proofs.Pairing.{Right, right_says, record_length_lem}

-- the rows fill the record, they are 1 to 16, the places at most 4, and each byte is right
pub record Whole (r : List ℕ) : Type 0 where
  pub some : 1 ≤ at r 14
  pub few : at r 14 ≤ 16
  pub places : at r 8 ≤ 4
  pub counted : length r ≡ 16 + 10 * at r 14
  pub each : (j : ℕ) → j < length r → right r j ≡ true

few_places : (r : List ℕ) → right r 8 ≡ true → at r 8 ≤ 4
unfolding right
few_places r e = leb-true _ _ e

some_rows : (r : List ℕ) → right r 14 ≡ true → 1 ≤ at r 14
unfolding right
some_rows r e = leb-true _ _ (and_parts _ _ e).0

few_rows : (r : List ℕ) → right r 14 ≡ true → at r 14 ≤ 16
unfolding right
few_rows r e = leb-true _ _ (and_parts _ _ e).1

record_counts : (f : List ℕ) (i : ℕ) → Right f i → length (record_at f i) ≡ 16 + 10 * at (record_at f i) 14
record_counts f i p =
    let h : 14 < size f i = omega (arith, p.counts) in
    record_length_lem f i p ∙ p.counts
    ∙ ap (λ x. 16 + 10 * x) (sym (get_or-take (size f i) (drop (offset f i) f) 14 0 h ∙ get_or-drop (offset f i) f 14 0))

pub whole_from : (r : List ℕ) → length r ≡ 16 + 10 * at r 14 → first_wrong r ≡ None → Whole r
whole_from r e w =
    let each : (j : ℕ) → j < length r → right r j ≡ true = λ j h. holds (right r) (λ b. b) (length r) j w h in
    record { some = some_rows r (each 14 (omega arith)); few = few_rows r (each 14 (omega arith)); places = few_places r (each 8 (omega arith)); counted = e; each = each }

pub record_whole : (f : List ℕ) (i : ℕ) → pair_fault f ≡ None → byte_fault f ≡ None → i < at f 0 → Whole (record_at f i)
record_whole f i p b h =
    whole_from (record_at f i) (record_counts f i (right_says f i (holds (pair_right f) Pair (at f 0) i p h)))
    (option_map_none (Byte i) (first_wrong (record_at f i)) (nowhere (record_fault f) (at f 0) 0 b i (omega arith) (omega arith)))

-- the test of byte j of row k
pub row_test : (r : List ℕ) (k j : ℕ) → j < 10 → right r (16 + 10 * k + j) ≡ row_right r (16 + 10 * k) j
unfolding right
row_test r k j h =
    let i = 16 + 10 * k + j in
    let a : 8 ≤ i = omega arith in
    let b : 16 ≤ i = omega arith in
    let row : (i - 16) / 10 ≡ k = omega arith in
    let byte : (i - 16) % 10 ≡ j = omega arith in
    cond-false (ltb i 8) _ _ (le-ltb i 8 a) ∙ cond-false (ltb i 16) _ _ (le-ltb i 16 b) ∙ ap₂ (λ k j. row_right r (16 + 10 * k) j) row byte

-- each byte of each row of a record all of whose bytes are right
pub row_bytes_right : (r : List ℕ) → Whole r → (k : ℕ) → k < at r 14 → (j : ℕ) → j < 10 → row_right r (16 + 10 * k) j ≡ true
row_bytes_right r whole k h j l = sym (row_test r k j l) ∙ whole.each (16 + 10 * k + j) (omega (arith, whole.counted))
