-- What the searches find in a list of plain rows, at any sort of pattern. Rows that make no pattern are skipped.
use Rattle.std.specs.List.{list_any, position}
use Rattle.std.specs.Prelude.{ℕ, ◌+◌, Bool, false, cond, List, [], ◌∷◌, take, Some, None, Option}

-- the place of the first element that passes a test on place and element, where the list begins at place i
abbrev pub first_from : {X : Type 0} → (ℕ → X → Bool) → ℕ → List X → Option ℕ
first_from f i [] = None
first_from f i (x ∷ xs) = cond (f i x) (Some i) (first_from f (i + 1) xs)

-- a test on the pattern that a row makes: a row that makes none fails it
abbrev pub passes : {P : Type 0} → (P → Bool) → Option P → Bool
passes f None = false
passes f (Some p) = f p

module _ {R P K : Type 0} (made : R → Option P) (fits : P → K → Bool) where
  -- the row makes a pattern that the key fits
  abbrev pub row_fits : K → R → Bool
  row_fits key row = passes (λ p. fits p key) (made row)

  -- the place of the first row that the key fits
  abbrev pub first_fit : K → List R → Option ℕ
  first_fit key rows = position (row_fits key) rows

module _ {R P : Type 0} (made : R → Option P) (covers : P → P → Bool) where
  -- the row makes a pattern that covers q
  abbrev pub row_covers : P → R → Bool
  row_covers q row = passes (λ p. covers p q) (made row)

  -- one of the rows covers q
  abbrev pub any_covers : P → List R → Bool
  any_covers q rows = list_any (row_covers q) rows

  -- the row makes a pattern that one of the rows before it covers
  abbrev pub covered : List R → R → Bool
  covered before row = passes (λ q. any_covers q before) (made row)

  -- the place of the first row that a row before it covers
  abbrev pub first_covered : List R → Option ℕ
  first_covered rows = first_from (λ i row. covered (take i rows) row) 0 rows
