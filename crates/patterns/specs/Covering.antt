-- At both sorts one pattern covers another exactly when every key that fits the other fits it. Assumes nothing.
use Rattle.std.proofs.Common.{rules, sym, ap, ap₂, ◌∙◌, arith}
use Rattle.std.specs.Prelude.{◌≡◌, ℕ, ◌^◌, ◌<◌, Bool, true, false, T, Decides, ◌==◌, bit_and, bit_xor, nat_lt, refl}
use Rattle.std.proofs.lemmas.Nat.{and_comm, and_le_r, xor_lt}
use Rattle.std.specs.Int.Bits.{xor_zero_r}
use Rattle.std.proofs.lemmas.Bool.{eqb-true, eq-eqb, ltb-true, and_parts, and_from}
use Rattle.patterns.specs.Sorts.{ternary_fits, ternary_covers, span_fits, span_covers}
use Rattle.patterns.specs.declared.ternary.Ternary.{Ternary}
use Rattle.patterns.specs.declared.span.Span.{Span}
use Rattle.std.proofs.lemmas.Nat.{and_assoc}
use Rattle.patterns.specs.BitLaws.{xor_over_and, xor_none, outside, outside_unseen, outside_kept, within_from}

pub from_T : (b : Bool) → T b → b ≡ true
from_T true t = refl
from_T false t = absurd t

pub record Parts (v m : ℕ) : Type 0 where
  pub inside : bit_and v m ≡ v
  pub wide : m < 2 ^ 32

pub parts : (p : Ternary) → Parts p.value p.mask
parts p =
    let both = and_parts (bit_and p.value p.mask == p.value) (nat_lt p.mask (2 ^ 32)) (from_T _ p.inside) in
    record { inside = eqb-true _ _ both.0; wide = ltb-true _ _ both.1 }

module _ (p q : Ternary) where
  forward : ternary_covers p q ≡ true → (k : ℕ) → k < 2 ^ 32 → ternary_fits q k ≡ true → ternary_fits p k ≡ true
  forward c k h f =
      let both = and_parts (bit_and p.mask q.mask == p.mask) (bit_and q.value p.mask == p.value) c in
      let em : bit_and p.mask q.mask ≡ p.mask = eqb-true _ _ both.0 in
      let ev : bit_and q.value p.mask ≡ p.value = eqb-true _ _ both.1 in
      let ek : bit_and k q.mask ≡ q.value = eqb-true _ _ f in
      eq-eqb _ _
      (ap (bit_and k) (sym em ∙ and_comm p.mask q.mask) ∙ sym (and_assoc p.mask k q.mask)
      ∙ ap (λ x. bit_and x p.mask) ek ∙ ev)

  backward : ((k : ℕ) → k < 2 ^ 32 → ternary_fits q k ≡ true → ternary_fits p k ≡ true) → ternary_covers p q ≡ true
  backward all =
      let ip = parts p in
      let iq = parts q in
      let d = outside p.mask q.mask in
      let vlt : q.value < 2 ^ 32 = omega (arith, and_le_r q.value q.mask, iq.inside, iq.wide) in
      let dlt : d < 2 ^ 32 = omega (arith, and_le_r d p.mask, outside_kept p.mask q.mask, ip.wide) in
      let ev : bit_and q.value p.mask ≡ p.value = eqb-true _ _ (all q.value vlt (eq-eqb _ _ iq.inside)) in
      let turned : bit_and (bit_xor q.value d) q.mask ≡ q.value =
      xor_over_and q.value d q.mask ∙ ap₂ bit_xor iq.inside (outside_unseen p.mask q.mask) ∙ xor_zero_r q.value in
      let seen : bit_and (bit_xor q.value d) p.mask ≡ p.value =
      eqb-true _ _ (all (bit_xor q.value d) (xor_lt 32 q.value d vlt dlt) (eq-eqb _ _ turned)) in
      let none : bit_xor p.value d ≡ p.value =
      ap₂ bit_xor (sym ev) (sym (outside_kept p.mask q.mask)) ∙ sym (xor_over_and q.value d p.mask) ∙ seen in
      and_from _ _ (eq-eqb _ _ (within_from p.mask q.mask (xor_none p.value d none))) (eq-eqb _ _ ev)

pub ternary_covering : (p q : Ternary) → Decides (ternary_covers p q) ((k : ℕ) → k < 2 ^ 32 → ternary_fits q k ≡ true → ternary_fits p k ≡ true)
ternary_covering p q = (forward p q, backward p q)

value_wide : (p : Ternary) → p.value < 2 ^ 32
value_wide p = let i = parts p in omega (arith, and_le_r p.value p.mask, i.inside, i.wide)

pub ternary_named : (p : Ternary) → (k : ℕ) × (k < 2 ^ 32) × (ternary_fits p k ≡ true)
ternary_named p = (p.value, value_wide p, eq-eqb _ _ (parts p).inside)

pub span_covering : (p q : Span) → Decides (span_covers p q) ((k : ℕ) → k < 2 ^ 16 → span_fits q k ≡ true → span_fits p k ≡ true)
span_covering p q = search rules

pub span_named : (p : Span) → (k : ℕ) × (k < 2 ^ 16) × (span_fits p k ≡ true)
span_named p = search rules
