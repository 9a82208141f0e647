-- The laws of ranks, and what they say of refusals that are tried one before the other. Assumes nothing.
use Rattle.std.proofs.Common.{◌≡◌, ℕ, ◌<◌, ◌≤◌, ap, inl, inr, arith}
use Rattle.refusals.specs.declared.refusal.Refusal.{Refusal}
use Rattle.refusals.specs.Least.{last_number, rank_of, rank, NotAfter, Least}

-- up to the last number of the table a lower number has the lower rank
pub rank_below : (m n : ℕ) → m < n → n ≤ last_number → rank_of m < rank_of n
unfolding rank_of
rank_below m n h within = h

-- equal ranks are equal numbers
pub rank_injective : (m n : ℕ) → rank_of m ≡ rank_of n → m ≡ n
unfolding rank_of
rank_injective m n e = e

-- refusals of one number have one rank
pub rank_same : (a b : Refusal) → a.number ≡ b.number → rank a ≡ rank b
rank_same a b e = ap rank_of e

-- a lower number goes first
pub lower : (a b : Refusal) → a.number < b.number → b.number ≤ last_number → NotAfter a b
lower a b h within = inl (rank_below a.number b.number h within)

-- two refusals with one number and one place
pub record SamePlace (a b : Refusal) : Type 0 where
  pub number : a.number ≡ b.number
  pub first : a.first ≡ b.first
  pub second : a.second ≡ b.second

-- so are two of which neither goes after the other
pub same_place : (a b : Refusal) → NotAfter a b → NotAfter b a → SamePlace a b
same_place a b h k = elim h [
  | inl x ↦ elim k [ inl y ↦ absurd (omega arith) | inr y ↦ absurd (omega (arith, y.0)) ]
  | inr x ↦ elim k [
    | inl y ↦ absurd (omega (arith, x.0))
    | inr y ↦ elim x.1 [
      | inl v ↦ elim y.1 [ inl w ↦ absurd (omega arith) | inr w ↦ absurd (omega (arith, w.0)) ]
      | inr v ↦ elim y.1 [
        | inl w ↦ absurd (omega (arith, v.0))
        | inr w ↦ record { number = rank_injective a.number b.number x.0; first = v.0; second = omega (arith, v.1, w.1) }
      ]
    ]
  ]
]

-- and so are the least faults of two relations that say the same
pub least_same : {E : Type 0} (refusal : E → Refusal) (P Q : E → Type 0) (e d : E) → ((x : E) → P x → Q x) → ((x : E) → Q x → P x)
    → Least refusal P e → Least refusal Q d → SamePlace (refusal e) (refusal d)
least_same refusal P Q e d to from x y = same_place (refusal e) (refusal d) (x.first d (from d y.applies)) (y.first e (to e x.applies))
