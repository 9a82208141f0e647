-- A packet has one walk at most, and one reading by turns: each is what a function says that is given turns enough.
use Rattle.std.proofs.Common.{◌≡◌, ℕ, zero, suc, ◌+◌, ◌≤◌, Bool, true, false, ltb, List, [], ◌∷◌, ◌++◌, length, Some, None, Option, sym, refl, ap, ◌∙◌, append-nil, arith}
use Rattle.std.proofs.lemmas.Bool.{lt-ltb, le-ltb, le-leb, lt-leb}
use Rattle.headers.specs.declared.kinds.Kind.{Kind}
use Rattle.headers.specs.declared.mark.Mark.{Mark}
use Rattle.patterns.specs.declared.row.Target.{Target}
use Rattle.patterns.specs.declared.row.Target.TheVariants as to
use Rattle.graphs.specs.View.{NodeView, node_at}
use Rattle.stores.specs.declared.question.Question.{Question}
use Rattle.walks.specs.declared.action.Action.{Action}
use Rattle.walks.specs.declared.outcome.Ending.{Ending}
use Rattle.walks.specs.declared.outcome.Ending.TheVariants as ending
use Rattle.walks.specs.declared.outcome.Outcome.{Outcome}
use Rattle.walks.specs.Outcomes.{outcome}
use Rattle.walks.specs.Walk as walk
use Rattle.walks.specs.Walk.{Held, reads, size_at, past, mark_at, decide_at, Refused, outside, under, overrun, Header, Walk}
use Rattle.walks.specs.Rows.{Plan, action}
use Rattle.walks.specs.Turns as by
use Rattle.walks.specs.Turns.{settled, passed, last_at, last_node, Singly, Asks, chained, singly, Turns}
use Rattle.walks.specs.Turning.{Trace, trace, ahead, held, checked, refusal, follow, answered, asking, single, turn_by, turn, turns}
use Rattle.walks.proofs.Steps.{decides_held}

-- what holds of every number from 1 on
from_one : (R : ℕ → Type 0) → ((f : ℕ) → R (suc f)) → (f : ℕ) → 1 ≤ f → R f
from_one R h zero l = absurd (omega arith)
from_one R h (suc f) l = h f

module _ (minimum : Kind → ℕ) (put : Question → Option Action) (g : List NodeView) (p : List ℕ) where
  abbrev refuse : ℕ → ℕ → Option Ending
  refuse n at = refusal minimum put g p n at

  -- the checks, as the function has them
  pub refused_is : {n : ℕ} {at : ℕ} {e : Ending} → Refused minimum g p n at e → refuse n at ≡ Some e
  refused_is {n} {at} (outside h) = go _ refl
    where
      go : (b : Bool) → held p at (reads (node_at g n)) ≡ b → checked b (ltb (size_at g p n at) (minimum (node_at g n).kind)) (ltb (length p) (past g p n at)) ≡ Some ending.Cut
      go true e = absurd (h ((decides_held p at (reads (node_at g n))).0 e))
      go false e = refl
  refused_is {n} {at} (under h s) = rw ((decides_held p at (reads (node_at g n))).1 h, lt-ltb _ _ s)
  refused_is {n} {at} (overrun h s o) = rw ((decides_held p at (reads (node_at g n))).1 h, le-ltb _ _ s, lt-ltb _ _ o)

  pub header_is : {n : ℕ} {at : ℕ} → Header minimum g p n at → refuse n at ≡ None
  header_is {n} {at} h = rw ((decides_held p at (reads (node_at g n))).1 h.held, le-ltb _ _ h.long, le-ltb _ _ h.within)

  -- the walk as a function
  abbrev step_by : (ℕ → ℕ → Trace) → ℕ → ℕ → Option Ending → Option Target → Trace
  step_by next n at (Some e) t = trace [] (outcome e n at) []
  step_by next n at None t = ahead (mark_at g p n at ∷ []) [] (follow minimum put g p next n at t)

  abbrev walked : ℕ → ℕ → ℕ → Trace
  walked zero n at = trace [] (outcome ending.Done n at) []
  walked (suc f) n at = step_by (walked f) n at (refuse n at) (decide_at g p n at)

  abbrev WalkIs : ℕ → ℕ → List Mark → Outcome → Type 0
  WalkIs n at ms o = (d : ℕ) × ((f : ℕ) → d ≤ f → walked f n at ≡ trace ms o [])

  header_step : (n : ℕ) (at : ℕ) (f : ℕ) (t : Option Target) → Header minimum g p n at → decide_at g p n at ≡ t → walked (suc f) n at ≡ ahead (mark_at g p n at ∷ []) [] (follow minimum put g p (walked f) n at t)
  header_step n at f t h e = ap (λ r. step_by (walked f) n at r (decide_at g p n at)) (header_is h) ∙ ap (step_by (walked f) n at None) e

  walk_is : {n : ℕ} {at : ℕ} {ms : List Mark} {o : Outcome} → Walk minimum g p n at ms o → WalkIs n at ms o
  walk_is {n} {at} (walk.refused r) = (1, from_one _ (λ f. ap (λ x. step_by (walked f) n at x (decide_at g p n at)) (refused_is r)))
  walk_is {n} {at} (walk.unfit h e) = (1, from_one _ (λ f. header_step n at f None h e))
  walk_is {n} {at} (walk.drops h e) = (1, from_one _ (λ f. header_step n at f (Some to.Dropped) h e))
  walk_is {n} {at} (walk.ends h e) = (1, from_one _ (λ f. header_step n at f (Some to.Done) h e))
  walk_is (walk.on {n} {m} {at} {ms} {o} h e w) = more (walk_is w)
    where
      more : WalkIs m (past g p n at) ms o → WalkIs n at (mark_at g p n at ∷ ms) o
      more (d, is) = (suc d, after)
        where
          after : (f : ℕ) → suc d ≤ f → walked f n at ≡ trace (mark_at g p n at ∷ ms) o []
          after zero l = absurd (omega arith)
          after (suc f) l = header_step n at f (Some (to.Node m)) h e ∙ ap (ahead (mark_at g p n at ∷ []) []) (is f (omega arith))

  -- there is no other walk, on any graph
  pub one_walk : {n : ℕ} {at : ℕ} {ms ns : List Mark} {o q : Outcome} → Walk minimum g p n at ms o → Walk minimum g p n at ns q → (ms ≡ ns) × (o ≡ q)
  one_walk {n} {at} {ms} {ns} {o} {q} v w =
      let (d, a) = walk_is v in
      let (e, b) = walk_is w in
      let same : trace ms o [] ≡ trace ns q [] = sym (a (d + e) (omega arith)) ∙ b (d + e) (omega arith) in
      (ap (λ t. t.marks) same, ap (λ t. t.outcome) same)

  module _ (chain : Plan) where
    abbrev run : ℕ → ℕ → ℕ → Trace
    run f n at = turns minimum put g p chain f n at

    -- a turn without the window is a turn at the node alone
    single_turn : (next : ℕ → ℕ → Trace) (n : ℕ) (at : ℕ) → Singly g chain p n at → turn minimum put g p next n (chain n) at ≡ single minimum put g p next n at (refuse n at)
    single_turn next n at s = go (chain n) refl
      where
        go : (cs : List ℕ) → chain n ≡ cs → turn minimum put g p next n cs at ≡ single minimum put g p next n at (refuse n at)
        go [] e = refl
        go (c ∷ cs) e = ap (λ b. turn_by minimum put g p next n (c ∷ cs) at b) (lt-leb _ _ (s c cs e))

    asking_turn : (next : ℕ → ℕ → Trace) {n : ℕ} {at : ℕ} {cs : List ℕ} {q : Question} → Asks minimum g chain p n at cs q → turn minimum put g p next n (chain n) at ≡ asking minimum put g p next n cs at q
    asking_turn next {n} {at} (chained {c} {cs} e w) = ap (λ x. turn minimum put g p next n x at) e ∙ ap (λ b. turn_by minimum put g p next n (c ∷ cs) at b) (le-leb _ _ w)
    asking_turn next {n} {at} (singly s h) = single_turn next n at s ∙ ap (single minimum put g p next n at) (header_is h)

    abbrev TurnsAre : ℕ → ℕ → List Mark → Outcome → List Question → Type 0
    TurnsAre n at ms o qs = (d : ℕ) × ((f : ℕ) → d ≤ f → run f n at ≡ trace ms o qs)

    -- one turn with a question
    asked_turn : (f n : ℕ) (at : ℕ) (cs : List ℕ) (q : Question) (k : ℕ) (t : Option Target) → Asks minimum g chain p n at cs q → settled (put q) ≡ action k t
        → run (suc f) n at ≡ ahead (passed g p k n cs at) (q ∷ []) (follow minimum put g p (run f) (last_node k n cs) (last_at g p k n cs at) t)
    asked_turn f n at cs q k t a e = asking_turn (run f) a ∙ ap (answered minimum put g p (run f) n cs at q) e

    -- which ends the reading
    last_turn : (f n : ℕ) (at : ℕ) (cs : List ℕ) (q : Question) (k : ℕ) (t : Option Target) (o : Outcome) → Asks minimum g chain p n at cs q → settled (put q) ≡ action k t
        → follow minimum put g p (run f) (last_node k n cs) (last_at g p k n cs at) t ≡ trace [] o [] → run (suc f) n at ≡ trace (passed g p k n cs at) o (q ∷ [])
    last_turn f n at cs q k t o a e h = asked_turn f n at cs q k t a e ∙ ap (ahead (passed g p k n cs at) (q ∷ [])) h ∙ ap (λ ms. trace ms o (q ∷ [])) (append-nil (passed g p k n cs at))

    turns_are : {n : ℕ} {at : ℕ} {ms : List Mark} {o : Outcome} {qs : List Question} → Turns minimum put g chain p n at ms o qs → TurnsAre n at ms o qs
    turns_are {n} {at} (by.refused s r) = (1, from_one _ (λ f. single_turn (run f) n at s ∙ ap (single minimum put g p (run f) n at) (refused_is r)))
    turns_are (by.unfit {n} {at} {cs} {q} {k} a e) = (1, from_one _ (λ f. last_turn f n at cs q k None _ a e refl))
    turns_are (by.drops {n} {at} {cs} {q} {k} a e) = (1, from_one _ (λ f. last_turn f n at cs q k (Some to.Dropped) _ a e refl))
    turns_are (by.ends {n} {at} {cs} {q} {k} a e) = (1, from_one _ (λ f. last_turn f n at cs q k (Some to.Done) _ a e refl))
    turns_are (by.on {n} {m} {at} {cs} {q} {k} {ms} {o} {qs} a e w) = more (turns_are w)
      where
        more : TurnsAre m (past g p (last_node k n cs) (last_at g p k n cs at)) ms o qs → TurnsAre n at (passed g p k n cs at ++ ms) o (q ∷ qs)
        more (d, is) = (suc d, after)
          where
            after : (f : ℕ) → suc d ≤ f → run f n at ≡ trace (passed g p k n cs at ++ ms) o (q ∷ qs)
            after zero l = absurd (omega arith)
            after (suc f) l = asked_turn f n at cs q k (Some (to.Node m)) a e ∙ ap (ahead (passed g p k n cs at) (q ∷ [])) (is f (omega arith))

    -- there is no other reading
    pub one_reading : {n : ℕ} {at : ℕ} {ms ns : List Mark} {o u : Outcome} {qs rs : List Question} → Turns minimum put g chain p n at ms o qs → Turns minimum put g chain p n at ns u rs
        → (ms ≡ ns) × (o ≡ u) × (qs ≡ rs)
    one_reading {n} {at} {ms} {ns} {o} {u} {qs} {rs} v w =
        let (d, a) = turns_are v in
        let (e, b) = turns_are w in
        let same : trace ms o qs ≡ trace ns u rs = sym (a (d + e) (omega arith)) ∙ b (d + e) (omega arith) in
        (ap (λ t. t.marks) same, ap (λ t. t.outcome) same, ap (λ t. t.questions) same)
