-- Steps of a search for the first answer. Assumes nothing.
use Rattle.std.specs.Option.{option_or, option_map}
use Rattle.std.proofs.Common.{◌≡◌, ℕ, zero, suc, ◌+◌, ◌-◌, ◌<◌, ◌≤◌, Bool, true, false, Some, None, Option, sym, refl, ap, ◌∙◌, inl, inr, arith}
use Rattle.std.proofs.lemmas.Bool.{cases_eq}
use Rattle.refusals.specs.Searching.{first_told, unless}

module _ {X : Type 0} (f : ℕ → Option X) (i n : ℕ) {o : Option X} (inv : first_told f i (n - i) ≡ o) where
  more : i < n → option_or (f i) (first_told f (i + 1) (n - (i + 1))) ≡ o
  more h = let e : n - i ≡ suc (n - (i + 1)) = omega arith in sym (ap (first_told f i) e) ∙ inv

  -- an answer at i is the answer
  pub found : (x : X) → i < n → f i ≡ Some x → Some x ≡ o
  found x h e = sym (ap (λ o. option_or o (first_told f (i + 1) (n - (i + 1)))) e) ∙ more h

  -- none at i: it goes on
  pub passed : i < n → f i ≡ None → first_told f (i + 1) (n - (i + 1)) ≡ o
  passed h e = sym (ap (λ o. option_or o (first_told f (i + 1) (n - (i + 1)))) e) ∙ more h

  -- nothing is left
  pub ended : n ≤ i → None ≡ o
  ended h = let e : n - i ≡ 0 = omega arith in sym (ap (first_told f i) e) ∙ inv

pub option_or_none : {X : Type 0} (a b : Option X) → option_or a b ≡ None → (a ≡ None) × (b ≡ None)
option_or_none None b e = (refl, e)
option_or_none (Some x) b e = let z : ◌≡◌ {A = ℕ} 0 1 = cc in absurd (omega arith)

-- no answer at all: none anywhere
pub nowhere : {X : Type 0} (f : ℕ → Option X) (k i : ℕ) → first_told f i k ≡ None → (j : ℕ) → i ≤ j → j < i + k → f j ≡ None
nowhere f zero i e j l h = absurd (omega arith)
nowhere f (suc k) i e j l h = elim (cases_eq j i) [
  | inl s ↦ rw s (option_or_none (f i) (first_told f (i + 1) k) e).0
  | inr s ↦ nowhere f k (i + 1) (option_or_none (f i) (first_told f (i + 1) k) e).1 j (omega arith) (omega arith)
]

pub unless_none : {X : Type 0} (b : Bool) (x : X) → unless b x ≡ None → b ≡ true
unless_none true x e = refl
unless_none false x e = let z : ◌≡◌ {A = ℕ} 0 1 = cc in absurd (omega arith)

-- a test that is told nowhere holds everywhere
pub holds : {X : Type 0} (test : ℕ → Bool) (say : ℕ → X) (n j : ℕ) → first_told (λ i. unless (test i) (say i)) 0 n ≡ None → j < n → test j ≡ true
holds test say n j e h = unless_none (test j) (say j) (nowhere (λ i. unless (test i) (say i)) n 0 e j (omega arith) (omega arith))

pub option_map_none : {X Y : Type 0} (g : X → Y) (o : Option X) → option_map g o ≡ None → o ≡ None
option_map_none g None e = refl
option_map_none g (Some x) e = let z : ◌≡◌ {A = ℕ} 0 1 = cc in absurd (omega arith)

-- none anywhere: no answer at all
pub none_of : {X : Type 0} (f : ℕ → Option X) (k i : ℕ) → ((j : ℕ) → i ≤ j → j < i + k → f j ≡ None) → first_told f i k ≡ None
none_of f zero i h = refl
none_of f (suc k) i h = ap (λ o. option_or o (first_told f (i + 1) k)) (h i (omega arith) (omega arith)) ∙ none_of f k (i + 1) (λ j l m. h j (omega arith) (omega arith))
