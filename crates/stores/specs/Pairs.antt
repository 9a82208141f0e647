-- What a pair's calls make of its meaning.
use Rattle.std.specs.Prelude.{◌≡◌, ℕ, ◌+◌, ◌-◌, ◌^◌, ◌<◌, ◌≤◌, min, Bool, false, List, [], ◌∷◌, ◌++◌, length, take, Some, None, ◌≢◌, nat_eq}
use Rattle.std.proofs.Common.{sym, ◌∙◌, arith}
use Rattle.std.proofs.lemmas.Bool.{ne_eqb, eq-eqb, lt-ltb}
use Rattle.std.proofs.lemmas.List.{length-take, length-append, length_push, append_assoc, append-nil, take_all, nil_from_length}
use Rattle.stores.specs.declared.question.Question.{Question}
use Rattle.stores.specs.declared.question.Row.{Row}
use Rattle.stores.specs.Fits.{fits}
use Rattle.stores.specs.Meaning.{Meaning, Bounded, holding, answer, appended, admits}
use Rattle.stores.specs.Paired.{paired, both_rows, both_take, behind, cut}
use Rattle.stores.specs.Answering.{answer_append, answer_take, answer_below}

module _ (a b : Meaning) where
  pub both_length : length (both_rows a b) ≡ min (length a.rows + length b.rows) 65535
  both_length = length-take 65535 (a.rows ++ b.rows) ∙ rw length-append (omega arith)

  pub take_empty : length b.rows ≡ 0 → both_take a b ≡ a.takes + b.takes
  take_empty e = rw (eq-eqb _ _ e)

  pub take_second : (length b.rows ≢ 0) → both_take a b ≡ b.takes
  take_second n = rw (ne_eqb _ _ n)

  pub paired_bounded : (n : ℕ) → n < 2 ^ 64 → Bounded (paired a b n)
  paired_bounded n h = record { rows_fit = omega (arith, both_length); capacity_fits = omega arith; takes_fit = omega arith; questions_fit = h }

  -- the first answers for both
  pub answer_first : (q : Question) (i : ℕ) → length a.rows ≤ 65535 → answer a.rows q ≡ Some i → Some i ≡ answer (both_rows a b) q
  answer_first q i h e =
      let below : i < 65535 = omega (arith, answer_below q a.rows i e) in
      sym (answer_take q 65535 (a.rows ++ b.rows) ∙ rw (answer_append q a.rows b.rows, e, lt-ltb i 65535 below))

  -- the second answers where the first does not
  pub answer_second : (q : Question) → answer a.rows q ≡ None → cut 65535 (behind (length a.rows) (answer b.rows q)) ≡ answer (both_rows a b) q
  answer_second q e = sym (answer_take q 65535 (a.rows ++ b.rows) ∙ rw (answer_append q a.rows b.rows, e))

-- two stores that take a row answer alike
pub admits_same : (m n : Meaning) → (m.takes ≢ 0) → (n.takes ≢ 0) → admits m ≡ admits n
admits_same m n p q = rw (ne_eqb _ _ p, ne_eqb _ _ q)

-- appending, where a row is taken
taken : (m : Meaning) (r : Row) → (m.takes ≢ 0) → appended m r ≡ holding m (m.rows ++ (fits r ∷ [])) (m.takes - 1)
taken m r n = rw (ne_eqb _ _ n)

same_meaning : (m : Meaning) {rows rows' : List (Question → Bool)} {takes takes' : ℕ} → rows ≡ rows' → takes ≡ takes' → holding m rows takes ≡ holding m rows' takes'
same_meaning m p q = rw (p, q)

-- a row more at the end of a list that is cut far enough behind
cut_push : (xs : List (Question → Bool)) (f : Question → Bool) → length xs < 65535 → take 65535 (xs ++ (f ∷ [])) ≡ take 65535 xs ++ (f ∷ [])
cut_push xs f h = rw (take_all 65535 xs (omega arith), take_all 65535 (xs ++ (f ∷ [])) (omega (arith, length_push xs f)))

module _ (a b : Meaning) (r : Row) (n : ℕ) (room : min (both_take a b) (65535 - length (both_rows a b)) ≡ 0 → ⊥) where
  pub taken_by_both : 0 < both_take a b
  taken_by_both = omega arith

  fewer : length a.rows + length b.rows < 65535
  fewer = omega (arith, both_length a b)

  pub append_first : length b.rows ≡ 0 → (a.takes ≢ 0) → paired (appended a r) b n ≡ appended (paired a b n) r
  append_first empty some =
      let f = fits r in
      let none : b.rows ≡ [] = nil_from_length b.rows empty in
      let rows : take 65535 ((a.rows ++ (f ∷ [])) ++ b.rows) ≡ both_rows a b ++ (f ∷ []) =
      rw (none, append-nil (a.rows ++ (f ∷ [])), append-nil a.rows) (cut_push a.rows f (omega (arith, fewer))) in
      let size : length (both_rows a b ++ (f ∷ [])) ≡ length (both_rows a b) + 1 = length_push (both_rows a b) f in
      let before : both_take a b ≡ a.takes + b.takes = take_empty a b empty in
      rw (taken a r some, taken (paired a b n) r room) (same_meaning (paired a b n) rows (rw (rows, size, before, eq-eqb _ _ empty) (omega arith)))

  pub append_second : both_take a b ≡ b.takes → paired a (appended b r) n ≡ appended (paired a b n) r
  append_second before =
      let f = fits r in
      let some : b.takes ≡ 0 → ⊥ = omega (arith, taken_by_both) in
      let rows : take 65535 (a.rows ++ (b.rows ++ (f ∷ []))) ≡ both_rows a b ++ (f ∷ []) =
      rw (← append_assoc a.rows b.rows (f ∷ [])) (cut_push (a.rows ++ b.rows) f (omega (arith, fewer, length-append a.rows b.rows))) in
      let size : length (both_rows a b ++ (f ∷ [])) ≡ length (both_rows a b) + 1 = length_push (both_rows a b) f in
      let more : nat_eq (length (b.rows ++ (f ∷ []))) 0 ≡ false = ne_eqb _ _ (omega (arith, length_push b.rows f)) in
      rw (taken b r some, taken (paired a b n) r room) (same_meaning (paired a b n) rows (rw (rows, size, before, more) (omega arith)))
