-- The blocks of a range hold its numbers and no others. Assumes nothing.
use Rattle.std.specs.List.{list_any}
use Rattle.std.proofs.Common.{◌≡◌, ℕ, zero, suc, ◌+◌, ◌-◌, ◌*◌, ◌/◌, ◌%◌, ◌^◌, ◌<◌, ◌≤◌, false, ◌&&◌, ◌||◌, ltb, leb, [], ◌∷◌, sym, ap, ◌∙◌, subst, ap₂, mod-lt, add-mul, one-mul, div-add-mod', arith, pow_pos}
use native.Mathlib.Nat.{div-eq_of_lt-le}
use lib.Bits.{bit_and, and_high}
use lib.Pow.{shr_mod}
use Rattle.std.proofs.lemmas.Bool.{cond_both, leb-true, leb-false, eqb-true, eq-eqb, and_from, and_parts, le-leb, lt-ltb, ltb-true}
use Rattle.std.proofs.lemmas.Bool.Decides.{same_from_decides, nat_tests}
use Rattle.patterns.specs.Splitting.{top_block, block_of, block_fits, split_by}
use Rattle.patterns.proofs.Largest.{top_is, pow_back}

module _ (low k key : ℕ) (aligned : low % 2 ^ k ≡ 0) (inside : low + 2 ^ k ≤ 2 ^ 16) (wide : key < 2 ^ 16) where
  -- the mask clears the k low digits
  pub masked : bit_and key (2 ^ 16 - 2 ^ k) ≡ key / 2 ^ k * 2 ^ k
  masked =
      let kle : k ≤ 16 = pow_back k 16 (omega arith) in
      let e : 16 ≡ (16 - k) + k = omega arith in
      let w : key < 2 ^ ((16 - k) + k) = subst (λ n. key < 2 ^ n) e wide in
      ap (λ n. bit_and key (2 ^ n - 2 ^ k)) e ∙ and_high key (16 - k) k ∙ ap (λ x. x * 2 ^ k) (shr_mod (16 - k) k w)

  there : key / 2 ^ k * 2 ^ k ≡ low → (low ≤ key) × (key < low + 2 ^ k)
  there e =
      let r = mod-lt key (pow_pos k) in
      let d = div-add-mod' key (2 ^ k) in
      (omega arith, omega arith)

  back : low ≤ key → key < low + 2 ^ k → key / 2 ^ k * 2 ^ k ≡ low
  back l h =
      let d : low / 2 ^ k * 2 ^ k + low % 2 ^ k ≡ low = div-add-mod' low (2 ^ k) in
      let e : low / 2 ^ k * 2 ^ k ≡ low = omega arith in
      let m : (low / 2 ^ k + 1) * 2 ^ k ≡ low / 2 ^ k * 2 ^ k + 1 * 2 ^ k = add-mul (low / 2 ^ k) 1 (2 ^ k) in
      let o : 1 * 2 ^ k ≡ 2 ^ k = one-mul (2 ^ k) in
      let q : key / 2 ^ k ≡ low / 2 ^ k = div-eq_of_lt-le {k = low / 2 ^ k} (2 ^ k) {m = key} (omega arith) (omega arith) in
      ap (λ x. x * 2 ^ k) q ∙ e

  pub block_fits_lem : block_fits (block_of low k) key ≡ (leb low key && ltb key (low + 2 ^ k))
  block_fits_lem =
      same_from_decides {P = key / 2 ^ k * 2 ^ k ≡ low} _ _
      ((λ t. sym masked ∙ eqb-true _ _ t), (λ e. eq-eqb _ _ (masked ∙ e))) (
        (λ t. let b = and_parts _ _ t in back (leb-true _ _ b.0) (ltb-true _ _ b.1)),
        (λ e. let b = there e in and_from _ _ (le-leb _ _ b.0) (lt-ltb _ _ b.1)),
      )

joined : (low high key n : ℕ) → low ≤ high → low + n ≤ high + 1
    → ((leb low key && ltb key (low + n)) || (leb (low + n) key && leb key high)) ≡ (leb low key && leb key high)
joined low high key n l h = grind (arith, nat_tests)

past : (low high key : ℕ) → high < low → false ≡ (leb low key && leb key high)
past low high key h = grind (arith, nat_tests)

pub split_fits : (steps low high key : ℕ) → high + 1 - low ≤ steps → high < 2 ^ 16 → key < 2 ^ 16
    → list_any (λ b. block_fits b key) (split_by steps low high) ≡ (leb low key && leb key high)
split_fits zero low high key f w h = past low high key (omega arith)
split_fits (suc steps) low high key f w h =
    let k = top_block low high in
    cond_both (leb low high) (block_of low k ∷ split_by steps (low + 2 ^ k) high) []
    (λ bs. list_any (λ b. block_fits b key) bs ≡ (leb low key && leb key high))
    (λ t.
    let l : low ≤ high = leb-true low high t in
    let top = top_is low high l w in
    let p : 0 < 2 ^ k = pow_pos k in
    let i : low + 2 ^ k ≤ 2 ^ 16 = omega (arith, top.inside) in
    ap₂ ◌||◌ (block_fits_lem low k key top.aligned i h) (split_fits steps (low + 2 ^ k) high key (omega arith) w h)
    ∙ joined low high key (2 ^ k) l top.inside)
    (λ t. past low high key (leb-false low high t))
