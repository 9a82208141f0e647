-- One step of a walk, and what it says of the walk from its node and offset on.
use Rattle.std.specs.Prelude.{◌≡◌, ℕ, ◌+◌, ◌≤◌, min, List, [], ◌∷◌, length, Some, None, Option}
use Rattle.headers.specs.declared.kinds.Kind.{Kind}
use Rattle.headers.specs.declared.mark.Mark.{Mark}
use Rattle.headers.specs.Kinds.{kind_number}
use Rattle.patterns.specs.declared.row.Target.{Target}
use Rattle.patterns.specs.declared.row.Target.TheVariants as to
use Rattle.graphs.specs.View.{NodeView}
use Rattle.walks.specs.declared.outcome.Ending.TheVariants.{Done, Unfit, Dropped}
use Rattle.walks.specs.declared.outcome.Outcome.{Outcome}
use Rattle.walks.specs.Outcomes.{outcome}
use Rattle.walks.specs.Walk.{decide_at, Walk}
use Rattle.walker.specs.declared.step.Step.{Step}
use Rattle.walker.specs.declared.step.Step.TheVariants.{Stop, Last, On}

-- the mark of a header at an offset. Offset and length are told in 16 bits: 65,535 stands for each that is above
abbrev pub marked : ℕ → Kind → (at size : ℕ) → Mark
marked n kind at size = record { node = n; kind = kind_number kind; offset = min at 65535; length = min size 65535 }

-- where the target of the deciding row leads behind a marked header, if that is at an offset
abbrev pub step_at : Mark → Option Target → ℕ → Step
step_at m None past = Last m (outcome Unfit m.node m.offset)
step_at m (Some to.Dropped) past = Last m (outcome Dropped m.node m.offset)
step_at m (Some to.Done) past = Last m (outcome Done m.node past)
step_at m (Some (to.Node next)) past = On m next past

-- and it is where the header ends
abbrev pub step_to : Mark → Option Target → Step
step_to m target = step_at m target (m.offset + m.length)

module _ (minimum : Kind → ℕ) (g : List NodeView) (p : List ℕ) (n at : ℕ) where
  -- a walk goes on from here at another node and offset, behind this header's mark
  pub record GoesOn (m : Mark) (next past : ℕ) : Type 0 where
    pub decides : decide_at g p n at ≡ Some (to.Node next)
    pub within : past ≤ length p
    pub walks : (ms : List Mark) (o : Outcome) → Walk minimum g p next past ms o → Walk minimum g p n at (m ∷ ms) o

  -- the walk from node n at an offset: no mark, one mark, or one mark more than the walk that follows
  abbrev pub Stepped : Step → Type 0
  Stepped (Stop o) = Walk minimum g p n at [] o
  Stepped (Last m o) = Walk minimum g p n at (m ∷ []) o
  Stepped (On m next past) = GoesOn m next past
