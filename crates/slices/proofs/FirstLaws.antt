-- The first row that fits, in a list made from a function of the place.
use Rattle.std.proofs.Common.{◌≡◌, ℕ, zero, suc, ◌+◌, ◌-◌, ◌<◌, ◌≤◌, Bool, true, false, cond, ltb, List, map, Some, None, sym, refl, ap, ◌∙◌, ⊎_elim, arith}
use lib.Count.{count_trailing_zeros}
use Rattle.std.specs.List.{range_with_len}
use Rattle.std.proofs.lemmas.Bool.{ltb-true, ltb-false, cond_both, cases_eq}
use Rattle.stores.specs.declared.question.Question.{Question}
use Rattle.slices.specs.Bit.{bit}
use Rattle.stores.specs.Meaning.{answer, later}
use Rattle.slices.specs.Words.{row_at, rows_of, named, half_of, lowest_bit}
use Rattle.slices.specs.BitLaws.{trailing_below, trailing_at}
use Rattle.slices.specs.WordLaws.{bit_named}

module _ (f : ℕ → Question → Bool) (q : Question) where
  pub first_none : (a n : ℕ) → ((k : ℕ) → a ≤ k → k < a + n → f k q ≡ false) → answer (map f (range_with_len a n)) q ≡ None
  first_none a zero h = refl
  first_none a (suc n) h =
      ap (λ b. cond b (Some 0) (later (answer (map f (range_with_len (a + 1) n)) q))) (h a (omega arith) (omega arith))
      ∙ ap later (first_none (a + 1) n (λ k l u. h k (omega arith) (omega arith)))

  pub first_at : (a n k : ℕ) → a ≤ k → k < a + n → f k q ≡ true → ((j : ℕ) → a ≤ j → j < k → f j q ≡ false)
      → answer (map f (range_with_len a n)) q ≡ Some (k - a)
  first_at a zero k l u t h = absurd (omega arith)
  first_at a (suc n) k l u t h =
      ⊎_elim
      (λ (e : a ≡ k).
      let here : 0 ≡ k - a = omega arith in
      ap (λ b. cond b (Some 0) (later (answer (map f (range_with_len (a + 1) n)) q))) (ap (λ x. f x q) e ∙ t) ∙ ap Some here)
      (λ (ne : a ≡ k → ⊥).
      let lt : a < k = omega arith in
      let more : k - (a + 1) + 1 ≡ k - a = omega arith in
      ap (λ b. cond b (Some 0) (later (answer (map f (range_with_len (a + 1) n)) q))) (h a (omega arith) lt)
      ∙ ap later (first_at (a + 1) n k (omega arith) (omega arith) t (λ j l2 u2. h j (omega arith) u2))
      ∙ ap Some more)
      (cases_eq a k)

-- trailing zeros give the first row, where the word's bits are the rows' answers
pub first_trailing : (ws : List ℕ) (held : ℕ) (q : Question) (all : ℕ) → held ≤ 64 → ((r : ℕ) → r < 64 → bit r all ≡ row_at ws r q)
    → answer (rows_of ws held) q ≡ lowest_bit all held
first_trailing ws held q all h e =
    let z = count_trailing_zeros 64 all in
    cond_both (ltb z held) (Some z) None (λ x. answer (map (row_at ws) (range_with_len 0 held)) q ≡ x)
    (λ t.
    let lt : z < held = ltb-true z held t in
    let whole : z - 0 ≡ z = omega arith in
    first_at (row_at ws) q 0 held z (omega arith) (omega arith) (sym (e z (omega arith)) ∙ trailing_at 64 all (omega arith))
    (λ j l u. sym (e j (omega arith)) ∙ trailing_below 64 all j u)
    ∙ ap Some whole)
    (λ t.
    let le : held ≤ z = ltb-false z held t in
    first_none (row_at ws) q 0 held
    (λ k l u. sym (e k (omega arith)) ∙ trailing_below 64 all k (omega arith)))

-- what asking answers, on both ways
pub first_named : (ws : List ℕ) (held : ℕ) (q : Question) (all : ℕ) → held ≤ 64 → all ≡ named ws (half_of q.state.number q.key) 18
    → answer (rows_of ws held) q ≡ lowest_bit all held
unfolding row_at
first_named ws held q all h e =
    first_trailing ws held q all h (λ r l. ap (bit r) e ∙ bit_named ws (half_of q.state.number q.key) r 18 l)
