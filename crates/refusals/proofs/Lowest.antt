-- The first answer of a search is the lowest of all that could be told. Assumes nothing.
use Rattle.std.specs.Option.{option_or, option_map}
use Rattle.std.proofs.Common.{◌≡◌, ℕ, zero, suc, ◌+◌, ◌<◌, ◌≤◌, Bool, true, false, ◌⊎◌, Some, None, Option, sym, refl, subst, inl, inr, arith, MatchOption}
use Rattle.std.proofs.lemmas.Bool.{cases_eq, cases_lt, both_ways}
use Rattle.refusals.specs.Searching.{first_told, unless}

module _ {E : Type 0} (order : E → E → Type 0) where
  abbrev pub Lowest : (E → Type 0) → Option E → Type 0
  Lowest P o = MatchOption o ((e : E) → P e → ⊥) (λ e. P e × ((d : E) → P d → order e d))

  -- the same under other words
  pub lowest_like : (P Q : E → Type 0) → ((e : E) → P e → Q e) → ((e : E) → Q e → P e) → (o : Option E) → Lowest P o → Lowest Q o
  lowest_like P Q to from None h = λ e q. h e (from e q)
  lowest_like P Q to from (Some e) h = (to e h.0, λ d q. h.1 d (from d q))

  -- one search behind another, where what the first finds goes before what the second finds
  pub lowest_or : (P Q : E → Type 0) → ((e d : E) → P e → Q d → order e d) → (a b : Option E) → Lowest P a → Lowest Q b
      → Lowest (λ e. P e ⊎ Q e) (option_or a b)
  lowest_or P Q before (Some e) b p q = (inl p.0, λ d h. elim h [ inl x ↦ p.1 d x | inr y ↦ before e d p.0 y ])
  lowest_or P Q before None None p q = λ e h. elim h [ inl x ↦ p e x | inr y ↦ q e y ]
  lowest_or P Q before None (Some e) p q = (inr q.0, λ d h. elim h [ inl x ↦ absurd (p d x) | inr y ↦ q.1 d y ])

  -- a search from place to place
  pub lowest_of : (P : ℕ → E → Type 0) (f : ℕ → Option E) → ((i : ℕ) → Lowest (P i) (f i))
      → ((i j : ℕ) (e d : E) → i < j → P i e → P j d → order e d)
      → (k i : ℕ) → Lowest (λ e. (j : ℕ) × (i ≤ j) × (j < i + k) × P j e) (first_told f i k)
  lowest_of P f each before zero i = λ e h. absurd (omega (arith, h.1, h.2))
  lowest_of P f each before (suc k) i =
      lowest_like (λ e. P i e ⊎ ((j : ℕ) × (i + 1 ≤ j) × (j < i + 1 + k) × P j e)) (λ e. (j : ℕ) × (i ≤ j) × (j < i + suc k) × P j e)
      (λ e h. elim h [ inl p ↦ (i, omega arith, omega arith, p) | inr q ↦ (q.0, omega (arith, q.1), omega (arith, q.2), q.3) ])
      (λ e h. elim (cases_eq h.0 i) [
        | inl s ↦ inl (subst (λ j. P j e) s h.3)
        | inr s ↦ inr (h.0, ne_above h.0 i h.1 s, omega (arith, h.2), h.3)
      ])
      (option_or (f i) (first_told f (i + 1) k))
      (lowest_or (P i) (λ e. (j : ℕ) × (i + 1 ≤ j) × (j < i + 1 + k) × P j e) (λ e d p q. before i q.0 e d (omega (arith, q.1)) p q.3) (f i) (first_told f (i + 1) k) (each i)
      (lowest_of P f each before k (i + 1)))
    where
      ne_above : (j i : ℕ) → i ≤ j → (j ≡ i → ⊥) → i + 1 ≤ j
      ne_above j i l s = elim (cases_lt i j) [ inl h ↦ omega arith | inr h ↦ absurd (s (omega arith)) ]

  -- a test that fails
  pub lowest_unless : (b : Bool) (x : E) → order x x → Lowest (λ e. (e ≡ x) × (b ≡ false)) (unless b x)
  lowest_unless true x r = λ e h. both_ways true h.1 refl
  lowest_unless false x r = ((refl, refl), λ d h. subst (order x) (sym h.0) r)

-- a search whose answer is option_map
pub lowest_mapped : {X E : Type 0} (order : E → E → Type 0) (g : X → E) (P : X → Type 0) (o : Option X)
    → Lowest (λ x y. order (g x) (g y)) P o → Lowest order (λ e. (x : X) × (e ≡ g x) × P x) (option_map g o)
lowest_mapped order g P None h = λ e w. h w.0 w.2
lowest_mapped order g P (Some x) h = ((x, refl, h.0), λ d w. subst (order (g x)) (sym w.1) (h.1 w.0 w.2))
