-- What the largest block is. Assumes nothing.
use Rattle.std.proofs.Common.{◌≡◌, ℕ, zero, suc, ◌-◌, ◌^◌, ◌<◌, ◌≤◌, true, false, sym, ap, ◌∙◌, subst, inl, inr, arith}
use native.Mathlib.Nat.{mod-one}
use lib.Pow.{pow-lt}
use Rattle.std.proofs.lemmas.Bool.{cond-true, cond-false, cond_both, and_from, and_parts, eq-eqb, eqb-true, le-leb, leb-true, cases_lt, cases_eq, both_ways}
use Rattle.patterns.specs.Splitting.{LargestBlock, block_ok, largest, top_block}

pub pow_back : (i j : ℕ) → 2 ^ i ≤ 2 ^ j → i ≤ j
pow_back i j h =
    elim (cases_lt j i) [
      | inl l ↦ (let p : 2 ^ j < 2 ^ i = pow-lt l in absurd (omega arith))
      | inr l ↦ l
    ]

module _ (low high : ℕ) where
  pub largest_down : (k : ℕ) → 0 < k → block_ok low high k ≡ false → largest low high k ≡ largest low high (k - 1)
  largest_down zero h e = absurd (omega arith)
  largest_down (suc k) h e = cond-false _ _ _ e ∙ (let z : k ≡ suc k - 1 = omega arith in ap (largest low high) z)

  pub largest_here : (k : ℕ) → 0 < k → block_ok low high k ≡ true → largest low high k ≡ k
  largest_here zero h e = absurd (omega arith)
  largest_here (suc k) h e = cond-true _ _ _ e

  pub largest_le : (n : ℕ) → largest low high n ≤ n
  largest_le zero = omega arith
  largest_le (suc n) =
      cond_both (block_ok low high (suc n)) (suc n) (largest low high n) (λ x. x ≤ suc n) (λ _. omega arith) (λ _. omega (arith, largest_le n))

  pub largest_ok : low ≤ high → (n : ℕ) → block_ok low high (largest low high n) ≡ true
  largest_ok h zero = and_from _ _ (eq-eqb _ _ (mod-one low)) (le-leb _ _ (omega arith))
  largest_ok h (suc n) =
      cond_both (block_ok low high (suc n)) (suc n) (largest low high n) (λ x. block_ok low high x ≡ true) (λ e. e) (λ _. largest_ok h n)

  pub largest_max : (n j : ℕ) → j ≤ n → block_ok low high j ≡ true → j ≤ largest low high n
  largest_max zero j h e = h
  largest_max (suc n) j h e =
      cond_both (block_ok low high (suc n)) (suc n) (largest low high n) (λ x. j ≤ x) (λ _. h)
      (λ f. elim (cases_eq j (suc n)) [
        | inl same ↦ absurd (both_ways (block_ok low high j) (subst (λ x. block_ok low high x ≡ false) (sym same) f) e)
        | inr other ↦ largest_max n j (omega arith) e
      ])

pub top_is : (low high : ℕ) → low ≤ high → high < 2 ^ 16 → LargestBlock low high (top_block low high)
unfolding top_block
top_is low high h w =
    let k = largest low high 16 in
    let both = and_parts _ _ (largest_ok low high h 16) in
    record {
      aligned = eqb-true _ _ both.0;
      inside = leb-true _ _ both.1;
      most = λ j a i.
          let small : 2 ^ j ≤ 2 ^ 16 = omega arith in
          largest_max low high 16 j (pow_back j 16 small) (and_from _ _ (eq-eqb _ _ a) (le-leb _ _ i));
    }

pub top_le : (low high : ℕ) → top_block low high ≤ 16
unfolding top_block
top_le low high = largest_le low high 16
