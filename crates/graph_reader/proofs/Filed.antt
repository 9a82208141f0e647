-- A file that numbers 1 to 3 do not refuse is the encoding of the nodes read off it.
use Rattle.std.proofs.Common.{◌≡◌, ℕ, zero, suc, ◌+◌, ◌-◌, ◌*◌, ◌<◌, ◌≤◌, eqb, ltb, List, ◌∷◌, ◌++◌, map, length, drop, None, sym, ap, ◌∙◌, ap₂, inl, inr, arith}
use Rattle.std.proofs.lemmas.Bool.{eqb-true, ltb-true, or_cases, cond-false, cond_both, ne_eqb, cases_lt}
use Rattle.std.proofs.lemmas.List.{drop-drop, take-append-drop, get_or-take, get_or-drop, get_or_past, drop_all, length-take}
use Rattle.std.proofs.lemmas.List.FromFn.{length-map-range_with_len}
use Rattle.std.specs.List.{range_with_len, flat_map}
use Rattle.graph_reader.specs.declared.fault.FileFault.TheVariants.{Shape, Pair}
use Rattle.graphs.specs.View.{NodeView, row_count}
use Rattle.graph_reader.specs.Encoding.{two, record_of, record_length, pairs_from, encode}
use Rattle.graph_reader.specs.Records.{at}
use Rattle.graph_reader.specs.Files.{shape_right, shape_fault, offset, size, begins, pair_right, record_at, pair_fault, byte_fault}
use Rattle.graph_reader.specs.Decoding.{ternary_in, range_in, rows_in, node_in, nodes_in}
use Rattle.refusals.proofs.Searching.{holds, unless_none}
use Rattle.graph_reader.proofs.Pairing.{shape_says, Right, right_says, record_length_lem}
use Rattle.graph_reader.proofs.Recorded.{Whole, record_whole}
use Rattle.graph_reader.proofs.Spelling.{two_digits, peel, spelled}

pub row_count_lem : (r : List ℕ) → row_count (rows_in r) ≡ at r 14
row_count_lem r =
    cond_both (eqb (at r 13) 0) _ _ (λ v. row_count v ≡ at r 14)
    (λ _. length-map-range_with_len (λ k. ternary_in r (16 + 10 * k)) 0 (at r 14))
    (λ _. length-map-range_with_len (λ k. range_in r (16 + 10 * k)) 0 (at r 14))

node_length : (r : List ℕ) → Whole r → record_length (node_in r) ≡ length r
unfolding node_in
node_length r w = ap (λ n. 16 + 10 * n) (row_count_lem r) ∙ sym w.counted

four_off : (f : List ℕ) (i : ℕ) → 6 + 4 * i ≤ length f
    → at f (2 + 4 * i) ∷ at f (2 + 4 * i + 1) ∷ at f (4 + 4 * i) ∷ at f (4 + 4 * i + 1) ∷ drop (2 + 4 * (i + 1)) f ≡ drop (2 + 4 * i) f
four_off f i h =
    let a : 2 + 4 * i + 0 ≡ 2 + 4 * i = omega arith in
    let b : 2 + 4 * i + 2 ≡ 4 + 4 * i = omega arith in
    let c : 2 + 4 * i + 3 ≡ 4 + 4 * i + 1 = omega arith in
    let d : 2 + 4 * i + 4 ≡ 2 + 4 * (i + 1) = omega arith in
    let e = peel f (2 + 4 * i) 4 0 (omega arith) in
    cc

module _ (f : List ℕ) (byte : (i : ℕ) → at f i < 256) (p : pair_fault f ≡ None) (b : byte_fault f ≡ None) where
  pair : (i : ℕ) → i < at f 0 → Right f i
  pair i h = right_says f i (holds (pair_right f) Pair (at f 0) i p h)

  whole : (i : ℕ) → i < at f 0 → Whole (record_at f i)
  whole i h = record_whole f i p b h

  pub record_byte : (i j : ℕ) → at (record_at f i) j < 256
  record_byte i j =
      elim (cases_lt j (size f i)) [
        | inl h ↦ omega (arith, get_or-take (size f i) (drop (offset f i) f) j 0 h, get_or-drop (offset f i) f j 0, byte (offset f i + j))
        | inr h ↦ omega (arith, get_or_past (record_at f i) j 0 (simp length-take (omega arith)))
      ]

  next : (i : ℕ) → i < at f 0 → begins f (i + 1) ≡ begins f i + size f i
  next i h =
      let e : i + 1 - 1 ≡ i = omega arith in
      cond-false (eqb (i + 1) 0) _ _ (ne_eqb (i + 1) 0 (λ z. omega arith))
      ∙ ap (λ j. offset f j + size f j) e ∙ ap (λ x. x + size f i) (pair i h).touches

  abbrev node : ℕ → NodeView
  node i = node_in (record_at f i)

  node_size : (i : ℕ) → i < at f 0 → record_length (node i) ≡ size f i
  node_size i h = node_length (record_at f i) (whole i h) ∙ record_length_lem f i (pair i h)

  pairs_off : (n i : ℕ) → i + n ≡ at f 0 → pairs_from (begins f i) (map node (range_with_len i n)) ++ drop (2 + 4 * at f 0) f ≡ drop (2 + 4 * i) f
  pairs_off zero i e = ap (λ x. drop (2 + 4 * x) f) (omega arith)
  pairs_off (suc n) i e =
      let h : i < at f 0 = omega arith in
      let rest = pairs_off n (i + 1) (omega arith) in
      ap (λ y. two (begins f i) ++ (two y ++ pairs_from (begins f i + y) (map node (range_with_len (i + 1) n))) ++ drop (2 + 4 * at f 0) f) (node_size i h)
      ∙ ap₂ (λ x y. two x ++ (two (size f i) ++ y)) (sym (pair i h).touches)
      (ap (λ x. pairs_from x (map node (range_with_len (i + 1) n)) ++ drop (2 + 4 * at f 0) f) (sym (next i h)) ∙ rest)
      ∙ ap₂ (λ x y. x ++ (y ++ drop (2 + 4 * (i + 1)) f))
      (two_digits (at f (2 + 4 * i)) (at f (2 + 4 * i + 1)) (byte (2 + 4 * i + 1)))
      (two_digits (at f (4 + 4 * i)) (at f (4 + 4 * i + 1)) (byte (4 + 4 * i + 1)))
      ∙ four_off f i (pair i h).inside

  last_ends : (i : ℕ) (h : i < at f 0) → at f 0 ≤ i + 1 → offset f i + size f i ≡ length f
  last_ends i h l =
      elim (or_cases (ltb (i + 1) (at f 0)) (eqb (offset f i + size f i) (length f)) (pair i h).ends) [
        | inl t ↦ absurd (omega (arith, ltb-true _ _ t))
        | inr t ↦ eqb-true _ _ t
      ]

  records_off : (n i : ℕ) → i + n ≡ at f 0 → 1 ≤ at f 0 → flat_map record_of (map node (range_with_len i n)) ≡ drop (begins f i) f
  records_off zero i e l =
      let h : i - 1 < at f 0 = omega arith in
      let back : i - 1 + 1 ≡ i = omega arith in
      let end : offset f (i - 1) + size f (i - 1) ≡ length f = last_ends (i - 1) h (omega arith) in
      let b : begins f i ≡ offset f (i - 1) + size f (i - 1) =
      ap (begins f) (sym back) ∙ next (i - 1) h ∙ ap (λ x. x + size f (i - 1)) (sym (pair (i - 1) h).touches) in
      sym (drop_all (begins f i) f (omega arith))
  records_off (suc n) i e l =
      ap₂ (λ x y. x ++ y) (spelled (record_at f i) (record_byte i) (whole i (omega arith)))
      (records_off n (i + 1) (omega arith) l ∙ ap (λ x. drop x f) (next i (omega arith) ∙ ap (λ x. x + size f i) (sym (pair i (omega arith)).touches))
      ∙ sym (drop-drop (size f i) (offset f i) f))
      ∙ take-append-drop (size f i) (drop (offset f i) f) ∙ ap (λ x. drop x f) (pair i (omega arith)).touches

  encoded : 2 ≤ length f → 1 ≤ at f 0 → at f 1 ≡ 0 → encode (nodes_in f) ≡ f
  encoded l h z =
      let n = length-map-range_with_len node 0 (at f 0) in
      ap (λ m. m ∷ 0 ∷ (pairs_from (2 + 4 * m) (nodes_in f) ++ flat_map record_of (nodes_in f))) n
      ∙ ap₂ (λ x y. at f 0 ∷ x ∷ y) (sym z)
      (ap (λ x. pairs_from (2 + 4 * at f 0) (nodes_in f) ++ x) (records_off (at f 0) 0 (omega arith) h) ∙ pairs_off (at f 0) 0 (omega arith))
      ∙ sym (peel f 0 2 0 l)

  pub file_encoded : shape_fault f ≡ None → encode (nodes_in f) ≡ f
  file_encoded e = let s = shape_says f (unless_none (shape_right f) Shape e) in encoded s.begun s.some s.zero
