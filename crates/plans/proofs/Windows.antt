-- How far places reach.
use Rattle.std.proofs.Common.{◌≡◌, ℕ, suc, ◌+◌, max, List, [], ◌∷◌, ◌++◌, Some, None, Option, Bor, sym, refl, ◌∙◌, subst, arith}
use Rattle.std.specs.List.{fold, reduce}
use Rattle.std.specs.Option.{MatchOption, option_map}
use Rattle.walks.specs.Plans.{reach}

-- one more than the highest place
over_fold : (a : ℕ) (xs : List ℕ) → fold max a xs + 1 ≡ max (suc a) (reach xs)
over_fold a [] = omega arith
over_fold a (x ∷ xs) = omega (arith, over_fold (max a x) xs)

highest : (xs : List ℕ) → MatchOption (reduce max xs) (reach xs ≡ 0) (λ m. reach xs ≡ m + 1)
highest [] = refl
highest (x ∷ xs) = sym (over_fold x xs)

pub reach_is : (xs : List ℕ) (o : Option (Bor ℕ)) (r : ℕ) → option_map (λ x. x.now) o ≡ reduce max xs → MatchOption o (r ≡ 0) (λ x. r ≡ x.now + 1) → r ≡ reach xs
reach_is xs None r e h = h ∙ sym (subst (λ o. MatchOption o (reach xs ≡ 0) (λ m. reach xs ≡ m + 1)) (sym e) (highest xs))
reach_is xs (Some x) r e h = h ∙ sym (subst (λ o. MatchOption o (reach xs ≡ 0) (λ m. reach xs ≡ m + 1)) (sym e) (highest xs))

pub reach_append : (xs ys : List ℕ) → reach (xs ++ ys) ≡ max (reach xs) (reach ys)
reach_append [] ys = omega arith
reach_append (x ∷ xs) ys = omega (arith, reach_append xs ys)
