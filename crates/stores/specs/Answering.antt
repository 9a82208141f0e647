-- The first row that fits, in lists that are joined, cut or searched in order.
use Rattle.std.specs.Prelude.{◌≡◌, ℕ, zero, suc, ◌+◌, ◌<◌, Bool, true, false, cond, List, [], ◌∷◌, ◌++◌, map, length, take, Some, None, Option, position, refl}
use Rattle.std.specs.List.{position_from}
use Rattle.std.proofs.lemmas.Iterator.Adapters.{position_from-zero}
use Rattle.std.proofs.Common.{sym, ap, ◌∙◌, arith}
use Rattle.std.proofs.lemmas.Bool.{le-ltb, lt-ltb}
use Rattle.std.proofs.lemmas.Bool.Decides.{nat_tests}
use Rattle.stores.specs.declared.question.Question.{Question}
use Rattle.stores.specs.declared.question.Row.{Row}
use Rattle.stores.specs.Fits.{fits}
use Rattle.stores.specs.Meaning.{answer, later}
use Rattle.stores.specs.Paired.{behind, cut}

abbrev pub either : Option ℕ → Option ℕ → Option ℕ
either (Some i) o = Some i
either None o = o

behind_zero : (o : Option ℕ) → o ≡ behind 0 o
behind_zero (Some i) = ap Some (omega arith)
behind_zero None = refl

later_either : (o p : Option ℕ) (n : ℕ) → later (either o (behind n p)) ≡ either (later o) (behind (suc n) p)
later_either (Some i) p n = refl
later_either None (Some j) n = ap Some (omega arith)
later_either None None n = refl

cut_none : (o : Option ℕ) → None ≡ cut 0 o
cut_none (Some i) = rw (le-ltb i 0 (omega arith))
cut_none None = refl

later_cut : (n : ℕ) (o : Option ℕ) → later (cut n o) ≡ cut (suc n) (later o)
later_cut n (Some i) = grind (arith, nat_tests)
later_cut n None = refl

-- a place that is there lies within the list
below_later : (o : Option ℕ) (n : ℕ) → ((i : ℕ) → o ≡ Some i → i < n) → (i : ℕ) → later o ≡ Some i → i < suc n
below_later (Some j) n h i e = let k : j < n = h j refl in let e' : j + 1 ≡ i = cc in omega arith
below_later None n h i e = let z : ◌≡◌ {A = ℕ} 0 1 = cc in omega arith

module _ (q : Question) where
  pub answer_append : (xs ys : List (Question → Bool)) → answer (xs ++ ys) q ≡ either (answer xs q) (behind (length xs) (answer ys q))
  answer_append [] ys = behind_zero (answer ys q)
  answer_append (f ∷ xs) ys =
      elim (f q) as (λ b. cond b (Some 0) (later (answer (xs ++ ys) q)) ≡ either (cond b (Some 0) (later (answer xs q))) (behind (suc (length xs)) (answer ys q)))
      [ true ↦ refl | false ↦ ap later (answer_append xs ys) ∙ later_either (answer xs q) (answer ys q) (length xs) ]

  fits_later : (i : ℕ) (rows : List Row) → position_from (λ r. fits r q) (i + 1) rows ≡ later (position_from (λ r. fits r q) i rows)
  fits_later i [] = refl
  fits_later i (r ∷ rows) =
      elim (fits r q) as (λ b. cond b (Some (i + 1)) (position_from (λ r. fits r q) (i + 1 + 1) rows) ≡ later (cond b (Some i) (position_from (λ r. fits r q) (i + 1) rows)))
      [ true ↦ refl | false ↦ fits_later (i + 1) rows ]

  fits_from : (rows : List Row) → position_from (λ r. fits r q) 0 rows ≡ answer (map fits rows) q
  fits_from [] = refl
  fits_from (r ∷ rows) =
      elim (fits r q) as (λ b. cond b (Some 0) (position_from (λ r. fits r q) (0 + 1) rows) ≡ cond b (Some 0) (later (answer (map fits rows) q)))
      [ true ↦ refl | false ↦ fits_later 0 rows ∙ ap later (fits_from rows) ]

  -- of rows in order it is the first place at which one fits
  pub answer_position : (rows : List Row) → position (λ r. fits r q) rows ≡ answer (map fits rows) q
  answer_position rows = position_from-zero (λ r. fits r q) rows ∙ fits_from rows

  -- of the first n rows, the place that all have if it is below n
  pub answer_take : (n : ℕ) (fs : List (Question → Bool)) → answer (take n fs) q ≡ cut n (answer fs q)
  answer_take zero fs = cut_none (answer fs q)
  answer_take (suc n) [] = refl
  answer_take (suc n) (f ∷ fs) =
      elim (f q) as (λ b. cond b (Some 0) (later (answer (take n fs) q)) ≡ cut (suc n) (cond b (Some 0) (later (answer fs q))))
      [ true ↦ sym (rw (lt-ltb 0 (suc n) (omega arith))) | false ↦ ap later (answer_take n fs) ∙ later_cut n (answer fs q) ]

  pub answer_below : (fs : List (Question → Bool)) (i : ℕ) → answer fs q ≡ Some i → i < length fs
  answer_below [] i e = let z : ◌≡◌ {A = ℕ} 0 1 = cc in omega arith
  answer_below (f ∷ fs) i e =
      elim (f q) as (λ b. cond b (Some 0) (later (answer fs q)) ≡ Some i → i < suc (length fs))
      [ true ↦ λ e. let z : 0 ≡ i = cc in omega arith | false ↦ below_later (answer fs q) (length fs) (answer_below fs) i ] e
