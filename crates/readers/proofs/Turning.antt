-- What a turn's question and its answer say of the turns of a packet.
use Rattle.std.proofs.Common.{◌≡◌, ℕ, List, [], ◌∷◌, Some, None, Option, sym, refl, ap, ◌∙◌}
use Rattle.std.proofs.lemmas.Bool.{le-leb, lt-leb}
use Rattle.headers.specs.declared.kinds.Kind.{Kind}
use Rattle.patterns.specs.declared.row.Target.{Target}
use Rattle.patterns.specs.declared.row.Target.TheVariants as to
use Rattle.graphs.specs.View.{NodeView}
use Rattle.stores.specs.declared.question.Question.{Question}
use Rattle.walks.specs.declared.action.Action.{Action}
use Rattle.walks.specs.declared.outcome.Outcome.{Outcome}
use Rattle.walks.specs.Walk.{mark_at}
use Rattle.walks.specs.Rows.{Plan}
use Rattle.walks.specs.Turns.{settled, passed, last_at, last_node, Singly, Asks, chained, singly}
use Rattle.walks.specs.Turning.{Trace, trace, ahead, refusal, follow, answered, asking, single, turn_by, turn}
use Rattle.walks.proofs.Once.{refused_is, header_is}
use Rattle.walker.specs.Steps.{step_to}
use Rattle.readers.specs.Tracing.{trace_after}
use Rattle.readers.proofs.Asking.{EndsAs}

module _ (minimum : Kind → ℕ) (put : Question → Option Action) (g : List NodeView) (chain : Plan) (p : List ℕ) (next : ℕ → ℕ → Trace) where
  -- a target leads as the step behind the last header passed
  follow_led : (n at : ℕ) (t : Option Target) → follow minimum put g p next n at t ≡ trace_after next (step_to (mark_at g p n at) t)
  follow_led n at None = refl
  follow_led n at (Some to.Dropped) = refl
  follow_led n at (Some to.Done) = refl
  follow_led n at (Some (to.Node m)) = refl

  module _ (n at : ℕ) where
    -- a turn without the window is a turn at the node alone
    turn_alone : Singly g chain p n at → turn minimum put g p next n (chain n) at ≡ single minimum put g p next n at (refusal minimum put g p n at)
    turn_alone s = go (chain n) refl
      where
        go : (cs : List ℕ) → chain n ≡ cs → turn minimum put g p next n cs at ≡ single minimum put g p next n at (refusal minimum put g p n at)
        go [] e = refl
        go (c ∷ cs) e = ap (λ b. turn_by minimum put g p next n (c ∷ cs) at b) (lt-leb _ _ (s c cs e))

    -- one that asks
    turn_asks : {cs : List ℕ} {q : Question} → Asks minimum g chain p n at cs q → turn minimum put g p next n (chain n) at ≡ asking minimum put g p next n cs at q
    turn_asks (chained {c} {cs} e w) = ap (λ x. turn minimum put g p next n x at) e ∙ ap (λ b. turn_by minimum put g p next n (c ∷ cs) at b) (le-leb _ _ w)
    turn_asks (singly s h) = turn_alone s ∙ ap (single minimum put g p next n at) (header_is minimum put g p h)

    -- and one that asks none
    pub turn_ends : (o : Outcome) → EndsAs minimum g chain p n at o → turn minimum put g p next n (chain n) at ≡ trace [] o []
    turn_ends o e = turn_alone e.alone ∙ ap (single minimum put g p next n at) (refused_is minimum put g p e.refused) ∙ ap (λ x. trace [] x []) (sym e.is)

    -- the answer passes headers, and leads on behind the last
    pub turn_led : (cs : List ℕ) (q : Question) → Asks minimum g chain p n at cs q → (a : Action) → a ≡ settled (put q)
        → turn minimum put g p next n (chain n) at
        ≡ ahead (passed g p a.beyond n cs at) (q ∷ []) (trace_after next (step_to (mark_at g p (last_node a.beyond n cs) (last_at g p a.beyond n cs at)) a.target))
    turn_led cs q asks a is =
        turn_asks asks ∙ ap (answered minimum put g p next n cs at q) (sym is)
        ∙ ap (ahead (passed g p a.beyond n cs at) (q ∷ [])) (follow_led (last_node a.beyond n cs) (last_at g p a.beyond n cs at) a.target)
