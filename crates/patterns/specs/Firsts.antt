-- What the searches find, in words: the first place of which something holds.
use Rattle.std.specs.Prelude.{◌≡◌, ℕ, ◌<◌, Bool, true, List, Some, Option, MatchOption}
use Rattle.std.specs.List.{slice_get}

-- None says that C holds of no place, and Some i that it holds of i and of none before i
abbrev pub First : (ℕ → Type 0) → Option ℕ → Type 0
First C r = MatchOption r ((i : ℕ) → C i → ⊥) (λ i. C i × ((j : ℕ) → j < i → C j → ⊥))

module _ {R P : Type 0} (made : R → Option P) where
  -- there is a row at i, and it makes the pattern p
  abbrev pub Makes : List R → ℕ → P → Type 0
  Makes rows i p = (a : R) × (slice_get rows i ≡ Some a) × (made a ≡ Some p)

module _ {R P K : Type 0} (made : R → Option P) (fits : P → K → Bool) where
  -- the row at i makes a pattern that the key fits
  abbrev pub FitsAt : List R → K → ℕ → Type 0
  FitsAt rows key i = (p : P) × Makes made rows i p × (fits p key ≡ true)

module _ {R P K : Type 0} (keys : K → Type 0) (made : R → Option P) (fits : P → K → Bool) where
  -- the row at i makes a pattern, and a row before it makes one that every key fits that fits the one of i
  abbrev pub CoveredAt : List R → ℕ → Type 0
  CoveredAt rows i =
      (j : ℕ) × (j < i) × (p : P) × (q : P) × Makes made rows j p × Makes made rows i q
      × ((k : K) → keys k → fits q k ≡ true → fits p k ≡ true)
