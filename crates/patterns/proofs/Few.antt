-- A range of 16-bit numbers has at most 30 blocks: those that its low end limits grow, and those that its high end limits shrink. Assumes nothing.
use Rattle.std.proofs.Common.{◌≡◌, ℕ, zero, suc, ◌+◌, ◌-◌, ◌*◌, ◌/◌, ◌%◌, ◌^◌, ◌<◌, ◌≤◌, leb, [], ◌∷◌, length, sym, refl, ap, ◌∙◌, subst, inl, inr, mul-le-mul_right, mod-lt, mul_comm, add-mul, pow-suc, div-add-mod', zero-add, zero-mul, mul-one, mul-add, arith, pow_pos, pow_mono}
use native.Mathlib.Nat.{mod-one, zero-mod, add-div_right, mul-mod_left}
use lib.Pow.{mod-mod-pow, mod-pow-add}
use Rattle.std.proofs.lemmas.Bool.{cond-true, cond-false, cases_lt, cases_eq, le-leb, lt-leb}
use Rattle.patterns.specs.Splitting.{top_block, block_of, split_by, split_of}
use Rattle.patterns.proofs.Largest.{top_is, pow_back}

-- a multiple of a power is one of each lower power
lower : (n j k : ℕ) → j ≤ k → n % 2 ^ k ≡ 0 → n % 2 ^ j ≡ 0
lower n j k h e =
    let s : k ≡ (k - j) + j = omega arith in
    sym (mod-mod-pow n (k - j) j) ∙ ap (λ x. x % 2 ^ j) (ap (λ x. n % 2 ^ x) (sym s) ∙ e) ∙ zero-mod (2 ^ j)

next_aligned : (n k : ℕ) → n % 2 ^ k ≡ 0 → (n + 2 ^ k) % 2 ^ k ≡ 0
next_aligned n k e =
    let B = 2 ^ k in
    let d : n / B * B + n % B ≡ n = div-add-mod' n B in
    let m : (n / B + 1) * B ≡ n / B * B + 1 * B = add-mul (n / B) 1 B in
    let o : 1 * B ≡ B = mul_comm 1 B ∙ mul-one B in
    let s : n + B ≡ (n / B + 1) * B = omega arith in
    ap (λ x. x % B) s ∙ mul-mod_left (n / B + 1) B

-- an odd multiple of 2^k, and 2^k more, is a multiple of twice that
next_even : (n k : ℕ) → n % 2 ^ k ≡ 0 → (n % 2 ^ (1 + k) ≡ 0 → ⊥) → (n + 2 ^ k) % 2 ^ (1 + k) ≡ 0
next_even n k e odd =
    let B = 2 ^ k in
    let p : n % 2 ^ (1 + k) ≡ (n / B % 2) * B + n % B = mod-pow-add n 1 k in
    let q : (n + B) % 2 ^ (1 + k) ≡ ((n + B) / B % 2) * B + (n + B) % B = mod-pow-add (n + B) 1 k in
    let s : (n + B) / B ≡ n / B + 1 = add-div_right n (pow_pos k) in
    let h : n / B % 2 < 2 = mod-lt (n / B) (pow_pos 1) in
    let none : (x : ℕ) → 0 * B + x ≡ x = λ x. ap (λ y. y + x) (zero-mul B) ∙ zero-add x in
    elim (cases_eq (n / B % 2) 0) [
      | inl z ↦ absurd (odd (p ∙ ap (λ x. x * B + n % B) z ∙ none (n % B) ∙ e))
      | inr o ↦ (let t : (n / B + 1) % 2 ≡ 0 = omega arith in
          q ∙ ap (λ x. x % 2 * B + (n + B) % B) s ∙ ap (λ x. x * B + (n + B) % B) t ∙ none ((n + B) % B) ∙ next_aligned n k e)
    ]

twice : (k : ℕ) → 2 ^ (1 + k) ≡ 2 ^ k + 2 ^ k
twice k = ap (λ x. 2 ^ x) (omega arith) ∙ pow-suc 2 k ∙ omega arith

-- the blocks of a range, by whether there is a number left
module _ (steps low high : ℕ) where
  pub at_step : low ≤ high → split_by (suc steps) low high ≡ block_of low (top_block low high) ∷ split_by steps (low + 2 ^ top_block low high) high
  at_step l = cond-true (leb low high) _ _ (le-leb low high l)

  pub at_end : high < low → split_by (suc steps) low high ≡ []
  at_end l = cond-false (leb low high) _ _ (lt-leb low high l)

-- where no block as long as the alignment of low is left, the blocks halve at least: n of them hold 2^n - 1 numbers or more
shrinking : (steps m low high : ℕ) → high < 2 ^ 16 → low % 2 ^ m ≡ 0 → high + 1 - low < 2 ^ m
    → 2 ^ length (split_by steps low high) ≤ high + 1 - low + 1
shrinking zero m low high w a h = omega arith
shrinking (suc steps) m low high w a h =
    elim (cases_lt high low) [
      | inl e ↦ subst (λ bs. 2 ^ length bs ≤ high + 1 - low + 1) (sym (at_end steps low high e)) (omega arith)
      | inr l ↦ (
          let k = top_block low high in
          let top = top_is low high l w in
          let ti = top.inside in
          let p : 0 < 2 ^ k = pow_pos k in
          let below : high + 1 - low < 2 ^ (1 + k) =
          elim (cases_lt (high + 1 - low) (2 ^ (1 + k))) [
            | inl y ↦ y
            | inr y ↦ (
                let q : 2 ^ (1 + k) ≤ 2 ^ m = omega arith in
                let more : 1 + k ≤ k = top.most (1 + k) (lower low (1 + k) m (pow_back (1 + k) m q) a) (omega arith) in
                absurd (omega arith))
          ] in
          let t = twice k in
          let rest = split_by steps (low + 2 ^ k) high in
          let ih : 2 ^ length rest ≤ high + 1 - (low + 2 ^ k) + 1 =
          shrinking steps k (low + 2 ^ k) high w (next_aligned low k top.aligned) (omega arith) in
          let s : 2 ^ suc (length rest) ≡ 2 ^ length rest * 2 = pow-suc 2 (length rest) in
          let got : 2 ^ suc (length rest) ≤ high + 1 - low + 1 = omega arith in
          subst (λ bs. 2 ^ length bs ≤ high + 1 - low + 1) (sym (at_step steps low high l)) got)
    ]

-- n blocks that grow and j that shrink, over a range that begins at a multiple of 2^m
pub record Hill (m size count : ℕ) : Type 0 where
  pub up : ℕ
  pub down : ℕ
  pub all : count ≡ up + down
  pub held : 2 ^ m * (2 ^ up - 1) + 2 ^ down ≤ size + 1

hill : (steps m low high : ℕ) → high < 2 ^ 16 → low % 2 ^ m ≡ 0 → Hill m (high + 1 - low) (length (split_by steps low high))
hill zero m low high w a = record { up = 0; down = 0; all = refl; held = omega (arith, mul_comm (2 ^ m) 0) }
hill (suc steps) m low high w a =
    elim (cases_lt high low) [
      | inl e ↦ subst (λ bs. Hill m (high + 1 - low) (length bs)) (sym (at_end steps low high e))
          (record { up = 0; down = 0; all = refl; held = omega (arith, mul_comm (2 ^ m) 0) })
      | inr l ↦ (
          let k = top_block low high in
          let top = top_is low high l w in
          let ti = top.inside in
          let flat : (j : ℕ) → low % 2 ^ j ≡ 0 → high + 1 - low < 2 ^ j → Hill m (high + 1 - low) (length (split_by (suc steps) low high)) = λ j aj hj.
          record {
            up = 0;
            down = length (split_by (suc steps) low high);
            all = omega arith;
            held = omega (arith, mul_comm (2 ^ m) 0, shrinking (suc steps) j low high w aj hj);
          } in
          elim (cases_lt (high + 1 - low) (2 ^ m)) [
            | inl small ↦ flat m a small
            | inr big ↦ elim (cases_eq (low % 2 ^ (1 + k)) 0) [
              | inl even ↦ flat (1 + k) even (elim (cases_lt (high + 1 - low) (2 ^ (1 + k))) [
                | inl y ↦ y
                | inr y ↦ (let more : 1 + k ≤ k = top.most (1 + k) even (omega arith) in absurd (omega arith))
              ])
              | inr odd ↦ (
                  let mk : m ≤ k = top.most m a (omega arith) in
                  let rest = split_by steps (low + 2 ^ k) high in
                  let ih = hill steps (1 + k) (low + 2 ^ k) high w (next_even low k top.aligned odd) in
                  let Z = 2 ^ ih.up - 1 in
                  let pu : 0 < 2 ^ ih.up = pow_pos ih.up in
                  let su : 2 ^ suc ih.up ≡ 2 ^ ih.up * 2 = pow-suc 2 ih.up in
                  let grown : 2 ^ suc ih.up - 1 ≡ Z + Z + 1 = omega arith in
                  let p : 2 ^ m * (Z + Z + 1) ≤ 2 ^ k * (Z + Z + 1) = mul-le-mul_right (Z + Z + 1) (pow_mono mk) in
                  let m1 : 2 ^ k * (Z + Z + 1) ≡ 2 ^ k * (Z + Z) + 2 ^ k * 1 = mul-add (2 ^ k) (Z + Z) 1 in
                  let m2 : 2 ^ k * (Z + Z) ≡ 2 ^ k * Z + 2 ^ k * Z = mul-add (2 ^ k) Z Z in
                  let m3 : 2 ^ k * 1 ≡ 2 ^ k = mul-one (2 ^ k) in
                  let m4 : 2 ^ (1 + k) * Z ≡ 2 ^ k * Z + 2 ^ k * Z = ap (λ x. x * Z) (twice k) ∙ add-mul (2 ^ k) (2 ^ k) Z in
                  let ht : 2 ^ (1 + k) * Z + 2 ^ ih.down ≤ high + 1 - (low + 2 ^ k) + 1 = ih.held in
                  let bound : 2 ^ m * (Z + Z + 1) + 2 ^ ih.down ≤ high + 1 - low + 1 = omega arith in
                  subst (λ bs. Hill m (high + 1 - low) (length bs)) (sym (at_step steps low high l))
                  (record {
                    up = suc ih.up;
                    down = ih.down;
                    all = omega (arith, ih.all);
                    held = subst (λ x. 2 ^ m * x + 2 ^ ih.down ≤ high + 1 - low + 1) (sym grown) bound;
                  }))
            ]
          ])
    ]

sides : (r s : ℕ) → 2 ^ r + 2 ^ s ≤ 2 ^ 16 + 2 → r + s ≤ 30
sides r s h =
    let pr : 0 < 2 ^ r = pow_pos r in
    let ps : 0 < 2 ^ s = pow_pos s in
    elim (cases_lt r 16) [
      | inl a ↦ elim (cases_lt s 16) [
        | inl b ↦ omega arith
        | inr b ↦ (
            let q : 2 ^ 16 ≤ 2 ^ s = pow_mono b in
            let rr : r ≤ 1 = pow_back r 1 (omega arith) in
            let ss : s ≤ 17 = pow_back s 17 (omega arith) in
            omega arith)
      ]
      | inr a ↦ (
          let q : 2 ^ 16 ≤ 2 ^ r = pow_mono a in
          let ss : s ≤ 1 = pow_back s 1 (omega arith) in
          let rr : r ≤ 17 = pow_back r 17 (omega arith) in
          omega arith)
    ]

pub few : (low high : ℕ) → high < 2 ^ 16 → length (split_of low high) ≤ 30
few low high w =
    let t = hill (high + 1 - low) 0 low high w (mod-one low) in
    let o : 2 ^ 0 * (2 ^ t.up - 1) ≡ 2 ^ t.up - 1 = mul_comm 1 (2 ^ t.up - 1) ∙ mul-one (2 ^ t.up - 1) in
    let p : 0 < 2 ^ t.up = pow_pos t.up in
    let q = sides t.up t.down (omega (arith, t.held)) in
    omega (arith, t.all)
