-- What the rows of a node and its chain answer, byte by byte.
use Rattle.std.specs.Option.{option_or}
use Rattle.std.proofs.Common.{◌≡◌, ℕ, suc, Bool, true, false, cond, ◌&&◌, List, [], ◌∷◌, ◌++◌, map, length, Some, None, Option, refl, ap, ◌∙◌, arith}
use Rattle.std.specs.List.{flat_map, AllByRecursion}
use Rattle.patterns.specs.declared.row.Target.{Target}
use Rattle.walks.specs.declared.action.Action.{Action}
use Rattle.walks.specs.Rows.{action, Piece, Entry, alone, join, closing, leads_to, expand}
use Rattle.walks.specs.Turns.{settled}
use Rattle.walks.proofs.Spelling.{fits_cells, cells_append, cells_front}
use Rattle.walks.proofs.Fit.{first_fit, fit_append}

abbrev pub choose : List Piece → List ℕ → Option Target
choose rs k = first_fit (λ (r : Piece). fits_cells r.cells k) (λ (r : Piece). r.target) rs

abbrev pub answer_to : List Entry → List ℕ → Option Action
answer_to es k = first_fit (λ (e : Entry). fits_cells e.cells k) (λ (e : Entry). e.action) es

-- each pattern has w bytes
abbrev pub Even : ℕ → List Piece → Type 0
Even w rs = AllByRecursion (λ (r : Piece). length r.cells ≡ w) rs

-- one header more
abbrev pub bump : Action → Action
bump a = action (suc a.beyond) a.target

abbrev pub bumped : Option Action → Option Action
bumped None = None
bumped (Some a) = Some (bump a)

-- where the deciding row of the node leads to, if the chain goes on to c and its rest answers `rest`
abbrev pub led : ℕ → Action → Target → Action
led c rest t = cond (leads_to c t) (bump rest) (action 0 (Some t))

abbrev pub after : ℕ → Action → Option Target → Option Action
after c rest None = None
after c rest (Some t) = Some (led c rest t)

settled_cond : (b : Bool) (t : Target) (o : Option Action) (q : Option Target) → settled o ≡ action 0 q → settled (cond b (Some (action 0 (Some t))) o) ≡ action 0 (cond b (Some t) q)
settled_cond true t o q e = refl
settled_cond false t o q e = e

pub alone_answer : (rs : List Piece) (k : List ℕ) → settled (answer_to (map alone rs) k) ≡ action 0 (choose rs k)
alone_answer [] k = refl
alone_answer (r ∷ rs) k = settled_cond (fits_cells r.cells k) r.target _ _ (alone_answer rs k)

join_cond : (b c d : Bool) (a : Action) (o q : Option Action) → d ≡ (b && c) → o ≡ cond b (bumped q) None → cond d (Some (bump a)) o ≡ cond b (bumped (cond c (Some a) q)) None
join_cond true true d a o q e f = ap (λ x. cond x (Some (bump a)) o) e
join_cond true false d a o q e f = ap (λ x. cond x (Some (bump a)) o) e ∙ f
join_cond false c d a o q e f = ap (λ x. cond x (Some (bump a)) o) e ∙ f

closing_cond : (b d : Bool) (q : Option Action) → d ≡ b → option_or (cond b (bumped q) None) (cond d (Some (action 1 None)) None) ≡ cond b (Some (bump (settled q))) None
closing_cond true d None e = ap (λ x. cond x (Some (action 1 None)) None) e
closing_cond true d (Some a) e = refl
closing_cond false d q e = ap (λ x. cond x (Some (action 1 None)) None) e

module _ (r : Piece) (k l : List ℕ) (even : length r.cells ≡ length k) where
  front : fits_cells r.cells (k ++ l) ≡ fits_cells r.cells k
  front = cells_front r.cells k l (omega arith)

  join_answer : (es : List Entry) → answer_to (map (join r) es) (k ++ l) ≡ cond (fits_cells r.cells k) (bumped (answer_to es l)) None
  join_answer [] = go (fits_cells r.cells k)
    where
      go : (b : Bool) → ◌≡◌ {A = Option Action} None (cond b None None)
      go true = refl
      go false = refl
  join_answer (e ∷ es) = join_cond (fits_cells r.cells k) (fits_cells e.cells l) _ e.action _ _ (cells_append r.cells e.cells k l even) (join_answer es)

  expand_answer : (c : ℕ) (es : List Entry) → answer_to (expand c es r) (k ++ l) ≡ cond (fits_cells r.cells k) (Some (led c (settled (answer_to es l)) r.target)) None
  expand_answer c es = go (leads_to c r.target)
    where
      go : (b : Bool) → answer_to (cond b (map (join r) es ++ (closing r ∷ [])) (alone r ∷ [])) (k ++ l)
          ≡ cond (fits_cells r.cells k) (Some (cond b (bump (settled (answer_to es l))) (action 0 (Some r.target)))) None
      go true = fit_append _ _ (map (join r) es) (closing r ∷ []) ∙ ap (λ o. option_or o (answer_to (closing r ∷ []) (k ++ l))) (join_answer es) ∙ closing_cond _ _ (answer_to es l) front
      go false = ap (λ b. cond b (Some (alone r).action) None) front

after_cond : (c : ℕ) (rest : Action) (b : Bool) (t : Target) (o : Option Action) (q : Option Target) → o ≡ after c rest q
    → option_or (cond b (Some (led c rest t)) None) o ≡ after c rest (cond b (Some t) q)
after_cond c rest true t o q e = refl
after_cond c rest false t o q e = e

-- the rows of a node and its chain say what the node's deciding row says, and go on with what the rest of the chain says
pub chain_answer : (c : ℕ) (es : List Entry) (k l : List ℕ) (rs : List Piece) → Even (length k) rs
    → answer_to (flat_map (expand c es) rs) (k ++ l) ≡ after c (settled (answer_to es l)) (choose rs k)
chain_answer c es k l [] even = refl
chain_answer c es k l (r ∷ rs) even =
    fit_append _ _ (expand c es r) (flat_map (expand c es) rs)
    ∙ ap (λ o. option_or o (answer_to (flat_map (expand c es) rs) (k ++ l))) (expand_answer r k l even.0 c es)
    ∙ after_cond c (settled (answer_to es l)) (fits_cells r.cells k) r.target _ _ (chain_answer c es k l rs even.1)
