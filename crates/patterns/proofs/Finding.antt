-- What a search through a list finds. Assumes nothing.
use Rattle.std.proofs.Common.{◌≡◌, ℕ, ◌+◌, Bool, cond, List, [], ◌∷◌, Some, refl, ap, ◌∙◌}
use Rattle.std.specs.List.{position, position_from, enumerate_from}
use Rattle.std.proofs.lemmas.Iterator.Adapters.{position_from-zero}
use Rattle.patterns.specs.Finding.{first_from}

-- the place that `position` finds, which needs no place for its test
from_place : {X : Type 0} (f : X → Bool) (i : ℕ) (xs : List X) → position_from f i xs ≡ first_from (λ _ x. f x) i xs
from_place f i [] = refl
from_place f i (x ∷ xs) = ap (cond (f x) (Some i)) (from_place f (i + 1) xs)

pub position_first : {X : Type 0} (f : X → Bool) (xs : List X) → position f xs ≡ first_from (λ _ x. f x) 0 xs
position_first f xs = position_from-zero f xs ∙ from_place f 0 xs

-- and the place that it finds among numbered elements
from_numbered : {X : Type 0} (f : ℕ → X → Bool) (i : ℕ) (xs : List X) → position_from (λ p. f p.0 p.1) i (enumerate_from i xs) ≡ first_from f i xs
from_numbered f i [] = refl
from_numbered f i (x ∷ xs) = ap (cond (f i x) (Some i)) (from_numbered f (i + 1) xs)

pub position_numbered : {X : Type 0} (f : ℕ → X → Bool) (xs : List X) → position (λ p. f p.0 p.1) (enumerate_from 0 xs) ≡ first_from f 0 xs
position_numbered f xs = position_from-zero (λ p. f p.0 p.1) (enumerate_from 0 xs) ∙ from_numbered f 0 xs
