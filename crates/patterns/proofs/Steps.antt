-- The blocks of a range one by one: any number of steps that is enough gives the same blocks, and they follow the rule. Assumes nothing.
use Rattle.std.proofs.Common.{◌≡◌, ℕ, zero, suc, ◌+◌, ◌-◌, ◌^◌, ◌<◌, ◌≤◌, [], ◌∷◌, sym, refl, ap, ◌∙◌, subst, inl, inr, le_refl, arith, pow_pos}
use Rattle.std.proofs.lemmas.Bool.{cases_lt}
use Rattle.patterns.specs.Splitting.{SplitsInto, top_block, block_of, split_by, split_of}
use Rattle.patterns.proofs.Largest.{top_is}
use Rattle.patterns.proofs.Few.{at_step, at_end}

none_left : (steps low high : ℕ) → high < low → split_by steps low high ≡ []
none_left zero low high h = refl
none_left (suc steps) low high h = at_end steps low high h

pub enough : (s t low high : ℕ) → high + 1 - low ≤ s → high + 1 - low ≤ t → split_by s low high ≡ split_by t low high
enough zero t low high hs ht = sym (none_left t low high (omega arith))
enough (suc s) zero low high hs ht = none_left (suc s) low high (omega arith)
enough (suc s) (suc t) low high hs ht =
    elim (cases_lt high low) [
      | inl l ↦ none_left (suc s) low high l ∙ sym (none_left (suc t) low high l)
      | inr l ↦ (
          let k = top_block low high in
          let p : 0 < 2 ^ k = pow_pos k in
          at_step s low high l ∙ ap (λ bs. block_of low k ∷ bs) (enough s t (low + 2 ^ k) high (omega arith) (omega arith)) ∙ sym (at_step t low high l))
    ]

pub split_none : (low high : ℕ) → high < low → split_of low high ≡ []
split_none low high h = none_left (high + 1 - low) low high h

pub split_more : (low high : ℕ) → low ≤ high → split_of low high ≡ block_of low (top_block low high) ∷ split_of (low + 2 ^ top_block low high) high
split_more low high l =
    let k = top_block low high in
    let p : 0 < 2 ^ k = pow_pos k in
    enough (high + 1 - low) (suc (high - low)) low high (le_refl _) (omega arith) ∙ at_step (high - low) low high l
    ∙ ap (λ bs. block_of low k ∷ bs) (enough (high - low) (high + 1 - (low + 2 ^ k)) (low + 2 ^ k) high (omega arith) (le_refl _))

-- the blocks follow the rule
pub split_rule : (steps low high : ℕ) → high + 1 - low ≤ steps → high < 2 ^ 16 → SplitsInto low high (split_by steps low high)
split_rule zero low high f w = omega arith
split_rule (suc steps) low high f w =
    elim (cases_lt high low) [
      | inl l ↦ subst (SplitsInto low high) (sym (at_end steps low high l)) l
      | inr l ↦ (
          let k = top_block low high in
          let p : 0 < 2 ^ k = pow_pos k in
          subst (SplitsInto low high) (sym (at_step steps low high l))
          (k, top_is low high l w, refl, split_rule steps (low + 2 ^ k) high (omega arith) w))
    ]
