-- The first that fits, in lists made of others, and as a store finds it.
use Rattle.std.specs.Option.{option_or, option_map}
use Rattle.std.proofs.Common.{◌≡◌, ℕ, ◌+◌, Bool, true, false, cond, ◌||◌, List, [], ◌∷◌, ◌++◌, map, get_or, Some, None, Option, refl, ap, ◌∙◌, add-one, arith}
use Rattle.std.specs.List.{AllByRecursion, position, list_any}
use Rattle.patterns.specs.Finding.{first_from}
use Rattle.patterns.proofs.Finding.{position_first}
use Rattle.stores.specs.declared.question.Question.{Question}
use Rattle.stores.specs.Fits.{fits}
use Rattle.stores.specs.Meaning.{later}
use Rattle.walks.specs.declared.action.Action.{Action}
use Rattle.walks.specs.Rows.{StoreRow, action_at, answer_by}

-- what the first item that fits gives
abbrev pub first_fit : {X Y : Type 0} → (X → Bool) → (X → Y) → List X → Option Y
first_fit fits give [] = None
first_fit fits give (x ∷ xs) = cond (fits x) (Some (give x)) (first_fit fits give xs)

cond_over : {Y : Type 0} (b : Bool) (y : Y) (o e : Option Y) → cond b (Some y) (option_or o e) ≡ option_or (cond b (Some y) o) e
cond_over true y o e = refl
cond_over false y o e = refl

pub or_none : {Y : Type 0} (o : Option Y) → option_or o None ≡ o
or_none None = refl
or_none (Some y) = refl

module _ {X Y : Type 0} (fits : X → Bool) (give : X → Y) where
  pub fit_append : (xs ys : List X) → first_fit fits give (xs ++ ys) ≡ option_or (first_fit fits give xs) (first_fit fits give ys)
  fit_append [] ys = refl
  fit_append (x ∷ xs) ys = ap (cond (fits x) (Some (give x))) (fit_append xs ys) ∙ cond_over (fits x) (give x) _ _

  pub fit_map : {Z : Type 0} (h : Z → X) (zs : List Z) → first_fit fits give (map h zs) ≡ first_fit (λ z. fits (h z)) (λ z. give (h z)) zs
  fit_map h [] = refl
  fit_map h (z ∷ zs) = ap (cond (fits (h z)) (Some (give (h z)))) (fit_map h zs)

  -- what holds of each item holds of the one that is given
  pub fit_all : (P : Y → Type 0) (xs : List X) → AllByRecursion (λ x. P (give x)) xs → (y : Y) → first_fit fits give xs ≡ Some y → P y
  fit_all P [] a y e = let z : ◌≡◌ {A = ℕ} 0 1 = cc in absurd (omega arith)
  fit_all P (x ∷ xs) a y e = go (fits x) e (fit_all P xs a.1 y)
    where
      go : (b : Bool) {o : Option Y} → cond b (Some (give x)) o ≡ Some y → (o ≡ Some y → P y) → P y
      go true f rest = let same : give x ≡ y = cc in rw same at a.0
      go false f rest = rest f

-- two tests that agree
pub fit_like : {X Y : Type 0} (f h : X → Bool) (give : X → Y) (xs : List X) → AllByRecursion (λ x. f x ≡ h x) xs → first_fit f give xs ≡ first_fit h give xs
fit_like f h give [] a = refl
fit_like f h give (x ∷ xs) a = rw a.0 (ap (cond (h x) (Some (give x))) (fit_like f h give xs a.1))

one_value : {Y : Type 0} (b c : Bool) (y : Y) → cond b (Some y) (cond c (Some y) None) ≡ cond (b || c) (Some y) None
one_value true c y = refl
one_value false c y = refl

-- where all give the same, it matters only whether one fits
pub fit_same : {X Y : Type 0} (fits : X → Bool) (y : Y) (xs : List X) → first_fit fits (λ x. y) xs ≡ cond (list_any fits xs) (Some y) None
fit_same fits y [] = refl
fit_same fits y (x ∷ xs) = ap (cond (fits x) (Some y)) (fit_same fits y xs) ∙ one_value (fits x) (list_any fits xs) y

-- the place of the first, and what stands there
module _ {X Y : Type 0} (fits : X → Bool) where
  shifted : (h : ℕ → Y) (xs : List X) (i : ℕ) → option_map h (first_from (λ _ x. fits x) (i + 1) xs) ≡ option_map (λ j. h (j + 1)) (first_from (λ _ x. fits x) i xs)
  shifted h [] i = refl
  shifted h (x ∷ xs) i = go (fits x) (shifted h xs (i + 1))
    where
      go : (b : Bool) → option_map h (first_from (λ _ x. fits x) (i + 1 + 1) xs) ≡ option_map (λ j. h (j + 1)) (first_from (λ _ x. fits x) (i + 1) xs)
          → option_map h (cond b (Some (i + 1)) (first_from (λ _ x. fits x) (i + 1 + 1) xs)) ≡ option_map (λ j. h (j + 1)) (cond b (Some i) (first_from (λ _ x. fits x) (i + 1) xs))
      go true e = refl
      go false e = e

  place_gives : (give : X → Y) (d : X) (xs : List X) → option_map (λ i. give (get_or xs i d)) (first_from (λ _ x. fits x) 0 xs) ≡ first_fit fits give xs
  place_gives give d [] = refl
  place_gives give d (x ∷ xs) = go (fits x) (shifted (λ i. give (get_or (x ∷ xs) i d)) xs 0 ∙ wrapped_like (first_from (λ _ x. fits x) 0 xs) ∙ place_gives give d xs)
    where
      wrapped_like : (o : Option ℕ) → option_map (λ j. give (get_or (x ∷ xs) (j + 1) d)) o ≡ option_map (λ j. give (get_or xs j d)) o
      wrapped_like None = refl
      wrapped_like (Some j) = ap (λ n. Some (give (get_or (x ∷ xs) n d))) (add-one j)

      go : (b : Bool) → option_map (λ i. give (get_or (x ∷ xs) i d)) (first_from (λ _ x. fits x) 1 xs) ≡ first_fit fits give xs
          → option_map (λ i. give (get_or (x ∷ xs) i d)) (cond b (Some 0) (first_from (λ _ x. fits x) 1 xs)) ≡ cond b (Some (give x)) (first_fit fits give xs)
      go true e = refl
      go false e = e

  pub position_gives : (give : X → Y) (d : X) (xs : List X) → option_map (λ i. give (get_or xs i d)) (position fits xs) ≡ first_fit fits give xs
  position_gives give d xs = ap (option_map (λ i. give (get_or xs i d))) (position_first fits xs) ∙ place_gives give d xs

-- what rows answer is the action of the first that fits
act_step : (a : Action) (acts : List Action) (b : Bool) (i : Option ℕ) (o : Option Action) → action_at acts i ≡ o
    → action_at (a ∷ acts) (cond b (Some 0) (later i)) ≡ cond b (Some a) o
act_step a acts true i o e = refl
act_step a acts false None o e = e
act_step a acts false (Some i) o e = ap (λ n. action_at (a ∷ acts) (Some n)) (add-one i) ∙ e

pub answer_fits : (q : Question) (rows : List StoreRow) → answer_by rows q ≡ first_fit (λ r. fits r.row q) (λ r. r.action) rows
answer_fits q [] = refl
answer_fits q (r ∷ rs) = act_step r.action _ (fits r.row q) _ _ (answer_fits q rs)
