-- The test of a record's byte fails exactly where the byte breaks a rule.
use Rattle.std.proofs.Common.{◌≡◌, ℕ, zero, suc, ◌+◌, ◌-◌, ◌*◌, ◌/◌, ◌%◌, ◌<◌, ◌≤◌, ◌≢◌, Bool, true, false, cond, true≢false, ltb, leb, eqb, List, bit_and, sym, refl, ap, ◌∙◌, subst, inl, inr, add-zero, arith}
use Rattle.std.proofs.lemmas.Bool.{cases_eq, cases_lt, cond-true, cond-false, eq-eqb, ne_eqb, lt-ltb, le-ltb, lt-leb, leb-false, eqb-false, and_cases, and_left, and_right}
use Rattle.graph_reader.specs.Records.{at, at2, length_right, lookup_right, range_right, row_right, right}
use Rattle.graph_reader.specs.Refusals.{OutOfRange, kind, length_rule, fixed_length, behind_fixed, place, shift, no_unit, unit, behind_counted, lookup_count, lookup_place, unused_place, sort, lone_range, no_row, many_rows, byte_fifteen, unused_value, unused_mask, outside_mask, low_over_high, behind_high, target_sort, needless_node, row_byte}
use Rattle.graph_reader.proofs.Recorded.{row_test}

module _ (r : List ℕ) where
  -- a test that a choice between two asks for
  chosen : (b x y : Bool) → b ≡ true → cond b x y ≡ false → x ≡ false
  chosen b x y h e = sym (cond-true b x y h) ∙ e

  other : (b x y : Bool) → b ≡ false → cond b x y ≡ false → y ≡ false
  other b x y h e = sym (cond-false b x y h) ∙ e

  zero_or : (n : ℕ) → leb 1 n ≡ false → n ≡ 0
  zero_or n e = let l = leb-false 1 n e in omega arith

  -- the tests of bytes that one rule speaks of together: bytes 3 to 7 behind a fixed length
  fixed_test : (b : ℕ) → 3 ≤ b → b ≤ 7 → at r 1 ≡ 0 → length_right r b ≡ eqb (at r b) 0
  fixed_test zero l m z = absurd (omega arith)
  fixed_test (suc zero) l m z = absurd (omega arith)
  fixed_test (suc (suc zero)) l m z = absurd (omega arith)
  fixed_test (suc (suc (suc zero))) l m z = cond-true _ _ _ (eq-eqb _ _ z)
  fixed_test (suc (suc (suc (suc zero)))) l m z = cond-true _ _ _ (eq-eqb _ _ z)
  fixed_test (suc (suc (suc (suc (suc zero))))) l m z = cond-true _ _ _ (eq-eqb _ _ z)
  fixed_test (suc (suc (suc (suc (suc (suc zero)))))) l m z = cond-true _ _ _ (eq-eqb _ _ z)
  fixed_test (suc (suc (suc (suc (suc (suc (suc zero))))))) l m z = cond-true _ _ _ (eq-eqb _ _ z)
  fixed_test (suc (suc (suc (suc (suc (suc (suc (suc b)))))))) l m z = absurd (omega arith)

  -- lookup place i
  place_test : (i : ℕ) → i < 4 → lookup_right r (9 + i) ≡ cond (ltb i (at r 8)) (leb (at r (9 + i)) 63) (eqb (at r (9 + i)) 0)
  place_test zero h = refl
  place_test (suc zero) h = refl
  place_test (suc (suc zero)) h = refl
  place_test (suc (suc (suc zero))) h = refl
  place_test (suc (suc (suc (suc i)))) h = absurd (omega arith)

  module _ (o : ℕ) where
    -- byte j of a ternary row's value, and of its mask
    value_test : (j : ℕ) → j < 4 → at r 13 ≡ 0
        → row_right r o j ≡ cond (ltb j (at r 8)) (eqb (bit_and (at r (o + j)) (at r (o + (j + 4)))) (at r (o + j))) (eqb (at r (o + j)) 0)
    value_test zero h z = cond-true _ _ _ (eq-eqb _ _ z)
    value_test (suc zero) h z = cond-true _ _ _ (eq-eqb _ _ z)
    value_test (suc (suc zero)) h z = cond-true _ _ _ (eq-eqb _ _ z)
    value_test (suc (suc (suc zero))) h z = cond-true _ _ _ (eq-eqb _ _ z)
    value_test (suc (suc (suc (suc j)))) h z = absurd (omega arith)

    mask_test : (j : ℕ) → j < 4 → at r 13 ≡ 0 → row_right r o (j + 4) ≡ cond (ltb j (at r 8)) true (eqb (at r (o + (j + 4))) 0)
    mask_test zero h z = cond-true _ _ _ (eq-eqb _ _ z)
    mask_test (suc zero) h z = cond-true _ _ _ (eq-eqb _ _ z)
    mask_test (suc (suc zero)) h z = cond-true _ _ _ (eq-eqb _ _ z)
    mask_test (suc (suc (suc zero))) h z = cond-true _ _ _ (eq-eqb _ _ z)
    mask_test (suc (suc (suc (suc j)))) h z = absurd (omega arith)

    -- a range row's low and high, and the bytes behind them
    range_test : (j : ℕ) → j < 8 → (at r 13 ≢ 0) → row_right r o j ≡ range_right r o j
    range_test j h n = cond-true _ _ _ (lt-ltb j 8 h) ∙ cond-false _ _ _ (ne_eqb _ _ n)

    bounds_test : (at r 13 ≢ 0) → row_right r o 0 ≡ leb (at2 r (o + 0)) (at2 r (o + 2))
    bounds_test n = range_test 0 (omega arith) n ∙ ap (λ p. leb (at2 r p) (at2 r (o + 2))) (sym (add-zero o))

    behind_test : (j : ℕ) → 4 ≤ j → j < 8 → (at r 13 ≢ 0) → row_right r o j ≡ eqb (at r (o + j)) 0
    behind_test j l h n =
        range_test j h n ∙ cond-false _ _ _ (ne_eqb j 0 (λ z. omega arith)) ∙ cond-false _ _ _ (le-ltb j 4 l)

  -- a test that fails: a rule that is broken
  wrong_fixed : (b : ℕ) → 3 ≤ b → b ≤ 7 → at r 1 ≡ 0 → length_right r b ≡ false → OutOfRange r b
  wrong_fixed b l m z e = behind_fixed b z l m (eqb-false (at r b) 0 (sym (fixed_test b l m z) ∙ e))

  wrong_length : (b : ℕ) → b < 8 → length_right r b ≡ false → OutOfRange r b
  wrong_length zero h e = kind (leb-false _ _ e)
  wrong_length (suc zero) h e = length_rule (leb-false _ _ e)
  wrong_length (suc (suc zero)) h e = elim (cases_eq (at r 1) 0) [
    | inl z ↦ fixed_length z (zero_or (at r 2) (chosen _ _ _ (eq-eqb _ _ z) e))
    | inr n ↦ place n (leb-false _ _ (other _ _ _ (ne_eqb _ _ n) e))
  ]
  wrong_length (suc (suc (suc zero))) h e = elim (cases_eq (at r 1) 0) [
    | inl z ↦ wrong_fixed 3 (omega arith) (omega arith) z e
    | inr n ↦ absurd (true≢false (other _ _ _ (ne_eqb _ _ n) e))
  ]
  wrong_length (suc (suc (suc (suc zero)))) h e = elim (cases_eq (at r 1) 0) [
    | inl z ↦ wrong_fixed 4 (omega arith) (omega arith) z e
    | inr n ↦ shift n (leb-false _ _ (other _ _ _ (ne_eqb _ _ n) e))
  ]
  wrong_length (suc (suc (suc (suc (suc zero))))) h e = elim (cases_eq (at r 1) 0) [
    | inl z ↦ wrong_fixed 5 (omega arith) (omega arith) z e
    | inr n ↦ elim (and_cases _ _ (other _ _ _ (ne_eqb _ _ n) e)) [ inl a ↦ no_unit n (zero_or (at r 5) a) | inr a ↦ unit n (leb-false _ _ a) ]
  ]
  wrong_length (suc (suc (suc (suc (suc (suc zero)))))) h e = elim (cases_eq (at r 1) 0) [
    | inl z ↦ wrong_fixed 6 (omega arith) (omega arith) z e
    | inr n ↦ absurd (true≢false (other _ _ _ (ne_eqb _ _ n) e))
  ]
  wrong_length (suc (suc (suc (suc (suc (suc (suc zero))))))) h e = elim (cases_eq (at r 1) 0) [
    | inl z ↦ wrong_fixed 7 (omega arith) (omega arith) z e
    | inr n ↦ behind_counted n (eqb-false _ _ (other _ _ _ (ne_eqb _ _ n) e))
  ]
  wrong_length (suc (suc (suc (suc (suc (suc (suc (suc b)))))))) h e = absurd (omega arith)

  wrong_place : (i : ℕ) → i < 4 → lookup_right r (9 + i) ≡ false → OutOfRange r (9 + i)
  wrong_place i h e =
      let t = sym (place_test i h) ∙ e in
      elim (cases_lt i (at r 8)) [
        | inl l ↦ lookup_place i h l (leb-false _ _ (chosen _ _ _ (lt-ltb _ _ l) t))
        | inr l ↦ unused_place i h l (eqb-false _ _ (other _ _ _ (le-ltb _ _ l) t))
      ]

  -- byte 8 + b
  wrong_lookup : (b : ℕ) → b < 8 → lookup_right r (8 + b) ≡ false → OutOfRange r (8 + b)
  wrong_lookup zero h e = lookup_count (leb-false _ _ e)
  wrong_lookup (suc zero) h e = wrong_place 0 (omega arith) e
  wrong_lookup (suc (suc zero)) h e = wrong_place 1 (omega arith) e
  wrong_lookup (suc (suc (suc zero))) h e = wrong_place 2 (omega arith) e
  wrong_lookup (suc (suc (suc (suc zero)))) h e = wrong_place 3 (omega arith) e
  wrong_lookup (suc (suc (suc (suc (suc zero))))) h e = elim (cases_lt (at r 8) 2) [
    | inl l ↦ lone_range l (eqb-false _ _ (chosen _ _ _ (lt-ltb _ _ l) e))
    | inr l ↦ sort (leb-false _ _ (other _ _ _ (le-ltb _ _ l) e))
  ]
  wrong_lookup (suc (suc (suc (suc (suc (suc zero)))))) h e = elim (and_cases _ _ e) [ inl a ↦ no_row (zero_or (at r 14) a) | inr a ↦ many_rows (leb-false _ _ a) ]
  wrong_lookup (suc (suc (suc (suc (suc (suc (suc zero))))))) h e = byte_fifteen (eqb-false _ _ e)
  wrong_lookup (suc (suc (suc (suc (suc (suc (suc (suc b)))))))) h e = absurd (omega arith)

  module _ (k : ℕ) where
    abbrev o : ℕ
    o = 16 + 10 * k

    wrong_value : (j : ℕ) → j < 4 → at r 13 ≡ 0 → row_right r o j ≡ false → OutOfRange r (o + j)
    wrong_value j h z e =
        let t = sym (value_test o j h z) ∙ e in
        elim (cases_lt j (at r 8)) [
          | inl l ↦ outside_mask k j z h l (eqb-false _ _ (chosen _ _ _ (lt-ltb _ _ l) t))
          | inr l ↦ unused_value k j z h l (eqb-false _ _ (other _ _ _ (le-ltb _ _ l) t))
        ]

    wrong_mask : (j : ℕ) → j < 4 → at r 13 ≡ 0 → row_right r o (j + 4) ≡ false → OutOfRange r (o + (j + 4))
    wrong_mask j h z e =
        let t = sym (mask_test o j h z) ∙ e in
        elim (cases_lt j (at r 8)) [
          | inl l ↦ absurd (true≢false (chosen _ _ _ (lt-ltb _ _ l) t))
          | inr l ↦ unused_mask k j z h l (eqb-false _ _ (other _ _ _ (le-ltb _ _ l) t))
        ]

    -- byte j of low and high: only the first is told of
    wrong_bound : (j : ℕ) → j < 4 → (at r 13 ≢ 0) → row_right r o j ≡ false → OutOfRange r (o + j)
    wrong_bound zero h n e = low_over_high k n (leb-false _ _ (sym (bounds_test o n) ∙ e))
    wrong_bound (suc zero) h n e = absurd (true≢false (sym (range_test o 1 (omega arith) n) ∙ e))
    wrong_bound (suc (suc zero)) h n e = absurd (true≢false (sym (range_test o 2 (omega arith) n) ∙ e))
    wrong_bound (suc (suc (suc zero))) h n e = absurd (true≢false (sym (range_test o 3 (omega arith) n) ∙ e))
    wrong_bound (suc (suc (suc (suc j)))) h n e = absurd (omega arith)

    wrong_behind : (j : ℕ) → 4 ≤ j → j < 8 → (at r 13 ≢ 0) → row_right r o j ≡ false → OutOfRange r (o + j)
    wrong_behind j l h n e = behind_high k j n l h (eqb-false _ _ (sym (behind_test o j l h n) ∙ e))

    wrong_pattern : (j : ℕ) → j < 8 → row_right r o j ≡ false → OutOfRange r (o + j)
    wrong_pattern j h e = elim (cases_eq (at r 13) 0) [
      | inl z ↦ elim (cases_lt j 4) [
        | inl l ↦ wrong_value j l z e
        | inr l ↦
            let back : j - 4 + 4 ≡ j = omega arith in
            subst (λ j. OutOfRange r (o + j)) back (wrong_mask (j - 4) (omega arith) z (ap (row_right r o) back ∙ e))
      ]
      | inr n ↦ elim (cases_lt j 4) [ inl l ↦ wrong_bound j l n e | inr l ↦ wrong_behind j l h n e ]
    ]

    wrong_node : at r (o + 8) ≢ 0 → row_right r o 9 ≡ false → OutOfRange r (o + 9)
    wrong_node n e = needless_node k n (eqb-false _ _ (other _ _ _ (ne_eqb _ _ n) e))

    wrong_row : (j : ℕ) → j < 10 → row_right r o j ≡ false → OutOfRange r (o + j)
    wrong_row j h e = elim (cases_lt j 8) [
      | inl l ↦ wrong_pattern j l e
      | inr l ↦ elim (cases_eq j 8) [
        | inl s ↦ subst (λ j. OutOfRange r (o + j)) (sym s) (target_sort k (leb-false _ _ (ap (row_right r o) (sym s) ∙ e)))
        | inr s ↦
            let nine : 9 ≡ j = omega arith in
            let t : row_right r o 9 ≡ false = ap (row_right r o) nine ∙ e in
            subst (λ j. OutOfRange r (o + j)) nine (elim (cases_eq (at r (o + 8)) 0) [
              | inl z ↦ absurd (true≢false (chosen _ _ _ (eq-eqb _ _ z) t))
              | inr n ↦ wrong_node n t
            ])
      ]
    ]

  pub wrong_byte : (b : ℕ) → right r b ≡ false → OutOfRange r b
  unfolding right
  wrong_byte b e = elim (cases_lt b 8) [
    | inl l ↦ wrong_length b l (chosen _ _ _ (lt-ltb b 8 l) e)
    | inr l ↦
        let later = other _ _ _ (le-ltb b 8 l) e in
        elim (cases_lt b 16) [
          | inl m ↦
              let back : 8 + (b - 8) ≡ b = omega arith in
              subst (OutOfRange r) back (wrong_lookup (b - 8) (omega arith) (ap (lookup_right r) back ∙ chosen _ _ _ (lt-ltb b 16 m) later))
          | inr m ↦
              let back : row_byte ((b - 16) / 10) ((b - 16) % 10) ≡ b = omega arith in
              subst (OutOfRange r) back (wrong_row ((b - 16) / 10) ((b - 16) % 10) (omega arith) (other _ _ _ (le-ltb b 16 m) later))
        ]
  ]

  -- a rule that is broken: a test that fails
  not_length : (b : ℕ) → b < 8 → length_right r b ≡ false → right r b ≡ false
  unfolding right
  not_length b l e = cond-true _ _ _ (lt-ltb b 8 l) ∙ e

  not_place : (i : ℕ) → i < 4 → lookup_right r (9 + i) ≡ false → right r (9 + i) ≡ false
  unfolding right
  not_place i h e = cond-false _ _ _ (le-ltb (9 + i) 8 (omega arith)) ∙ cond-true _ _ _ (lt-ltb (9 + i) 16 (omega arith)) ∙ e

  pub not_byte : (b : ℕ) → OutOfRange r b → right r b ≡ false
  unfolding right
  not_byte _ (kind h) = lt-leb _ _ h
  not_byte _ (length_rule h) = lt-leb _ _ h
  not_byte _ (fixed_length z h) = cond-true _ _ _ (eq-eqb _ _ z) ∙ lt-leb 1 (at r 2) (omega arith)
  not_byte b (behind_fixed _ z l m n) = not_length b (omega arith) (fixed_test b l m z ∙ ne_eqb _ _ n)
  not_byte _ (place n h) = cond-false _ _ _ (ne_eqb _ _ n) ∙ lt-leb _ _ h
  not_byte _ (shift n h) = cond-false _ _ _ (ne_eqb _ _ n) ∙ lt-leb _ _ h
  not_byte _ (no_unit n z) = cond-false _ _ _ (ne_eqb _ _ n) ∙ and_left _ _ (lt-leb 1 (at r 5) (omega arith))
  not_byte _ (unit n h) = cond-false _ _ _ (ne_eqb _ _ n) ∙ and_right _ _ (lt-leb _ _ h)
  not_byte _ (behind_counted n h) = cond-false _ _ _ (ne_eqb _ _ n) ∙ ne_eqb _ _ h
  not_byte _ (lookup_count h) = lt-leb _ _ h
  not_byte _ (lookup_place i h l m) = not_place i h (place_test i h ∙ cond-true _ _ _ (lt-ltb _ _ l) ∙ lt-leb _ _ m)
  not_byte _ (unused_place i h l n) = not_place i h (place_test i h ∙ cond-false _ _ _ (le-ltb _ _ l) ∙ ne_eqb _ _ n)
  not_byte _ (sort h) = elim (cases_lt (at r 8) 2) [
    | inl l ↦ cond-true _ _ _ (lt-ltb _ _ l) ∙ ne_eqb (at r 13) 0 (λ z. omega arith)
    | inr l ↦ cond-false _ _ _ (le-ltb _ _ l) ∙ lt-leb _ _ h
  ]
  not_byte _ (lone_range l n) = cond-true _ _ _ (lt-ltb _ _ l) ∙ ne_eqb _ _ n
  not_byte _ (no_row z) = and_left _ _ (lt-leb 1 (at r 14) (omega arith))
  not_byte _ (many_rows h) = and_right _ _ (lt-leb _ _ h)
  not_byte _ (byte_fifteen n) = ne_eqb _ _ n
  not_byte _ (unused_value k j z h l n) = row_test r k j (omega arith) ∙ value_test (16 + 10 * k) j h z ∙ cond-false _ _ _ (le-ltb _ _ l) ∙ ne_eqb _ _ n
  not_byte _ (unused_mask k j z h l n) = row_test r k (j + 4) (omega arith) ∙ mask_test (16 + 10 * k) j h z ∙ cond-false _ _ _ (le-ltb _ _ l) ∙ ne_eqb _ _ n
  not_byte _ (outside_mask k j z h l n) = row_test r k j (omega arith) ∙ value_test (16 + 10 * k) j h z ∙ cond-true _ _ _ (lt-ltb _ _ l) ∙ ne_eqb _ _ n
  not_byte _ (low_over_high k n h) = row_test r k 0 (omega arith) ∙ bounds_test (16 + 10 * k) n ∙ lt-leb _ _ h
  not_byte _ (behind_high k j n l h m) = row_test r k j (omega arith) ∙ behind_test (16 + 10 * k) j l h n ∙ ne_eqb _ _ m
  not_byte _ (target_sort k h) = row_test r k 8 (omega arith) ∙ lt-leb _ _ h
  not_byte _ (needless_node k n h) = row_test r k 9 (omega arith) ∙ cond-false _ _ _ (ne_eqb _ _ n) ∙ ne_eqb _ _ h
