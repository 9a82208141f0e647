-- A list that is written from the front on.
use Rattle.std.specs.Prelude.{◌≡◌, ℕ, min, List, [], ◌∷◌, length}

-- a list with other items written over its front. An item that has no place is left out
abbrev pub over : {X : Type 0} → List X → List X → List X
over [] ys = ys
over (x ∷ xs) [] = []
over (x ∷ xs) (y ∷ ys) = x ∷ over xs ys

-- items are written over the front of a list, and the count says how many of them have a place
pub record Written {X : Type 0} (before now : List X) (count : ℕ) (items : List X) : Type 0 where
  pub stand : now ≡ over items before
  pub many : count ≡ min (length items) (length before)
