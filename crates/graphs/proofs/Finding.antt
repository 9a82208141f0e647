-- What an iterator's search over the first numbers finds is what is told first of them.
use Rattle.std.specs.Option.{option_or, option_map}
use Rattle.std.proofs.Common.{◌≡◌, ℕ, zero, suc, ◌+◌, ◌<◌, ◌≤◌, Bool, true, false, Some, None, Option, MatchOption, sym, refl, ap, ◌∙◌, inl, inr, arith}
use Rattle.std.proofs.lemmas.Bool.{cases_eq}
use Rattle.refusals.specs.Searching.{first_told, unless}
use Rattle.refusals.proofs.Searching.{none_of}

-- nothing before j, and something at j
told_at : {X : Type 0} (f : ℕ → Option X) (x : X) (j n i : ℕ) → i ≤ j → j < i + n → ((k : ℕ) → i ≤ k → k < j → f k ≡ None) → f j ≡ Some x
    → first_told f i n ≡ Some x
told_at f x j zero i l h none some = absurd (omega arith)
told_at f x j (suc n) i l h none some = elim (cases_eq i j) [
  | inl e ↦ ap (λ k. option_or (f k) (first_told f (i + 1) n)) e ∙ ap (λ o. option_or o (first_told f (i + 1) n)) some
  | inr e ↦
      ap (λ o. option_or o (first_told f (i + 1) n)) (none i (omega arith) (omega arith))
      ∙ told_at f x j n (i + 1) (omega arith) (omega arith) (λ k a b. none k (omega arith) b) some
]

module _ {X : Type 0} (test : ℕ → Bool) (say : ℕ → X) (n : ℕ) where
  -- no number below n fails a test, or i is the first that does
  abbrev pub First : Option ℕ → Type 0
  First o = MatchOption o ((k : ℕ) → 0 ≤ k → k < n → test k ≡ true)
      (λ i. (0 ≤ i) × (i < n) × (test i ≡ false) × ((k : ℕ) → 0 ≤ k → k < i → test k ≡ true))

  pub told_first : (o : Option ℕ) → First o → option_map say o ≡ first_told (λ k. unless (test k) (say k)) 0 n
  told_first None h = sym (none_of (λ k. unless (test k) (say k)) n 0 (λ k l m. ap (λ b. unless b (say k)) (h k l (omega arith))))
  told_first (Some i) h =
      sym (told_at (λ k. unless (test k) (say k)) (say i) i n 0 (omega arith) (omega (arith, h.1))
      (λ k l m. ap (λ b. unless b (say k)) (h.3 k l m)) (ap (λ b. unless b (say i)) h.2))

pub wrapped_same : {X : Type 0} (o : Option X) → option_map (λ x. x) o ≡ o
wrapped_same None = refl
wrapped_same (Some x) = refl
