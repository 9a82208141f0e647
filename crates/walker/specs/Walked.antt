-- What a finished walk has done.
use Rattle.std.specs.Prelude.{◌≡◌, ℕ, List, ◌++◌, length, take, drop}
use Rattle.std.specs.List.{AllByRecursion}
use Rattle.headers.specs.declared.kinds.Kind.{Kind}
use Rattle.headers.specs.declared.mark.Mark.{Mark}
use Rattle.headers.specs.declared.table.KindTable.{KindTable}
use Rattle.headers.specs.Part.{HasItsFields}
use Rattle.graphs.specs.View.{NodeView}
use Rattle.walks.specs.declared.outcome.Outcome.{Outcome}
use Rattle.walks.specs.Walk.{PlainWalk}
use Rattle.walker.specs.declared.walk.Walked.{Walked}

-- it answers the outcome of the plain walk and how many marks that has, which stand at the front; the marks behind them are as before
pub record WalkedAs (minimum : Kind → ℕ) (g : List NodeView) (p : List ℕ) (before after : List Mark) (w : Walked) : Type 0 where
  pub marked : List Mark
  pub walks : PlainWalk minimum g p marked w.outcome
  -- there is no other walk of the packet
  pub only : (ms : List Mark) (o : Outcome) → PlainWalk minimum g p ms o → (ms ≡ marked) × (o ≡ w.outcome)
  pub count : w.marks ≡ length marked
  pub written : after ≡ marked ++ drop (length marked) before

-- each mark that it wrote has its fields: none is refused
abbrev pub MarkedWithFields : KindTable → List ℕ → List Mark → Walked → Type 0
MarkedWithFields t p after w = AllByRecursion (HasItsFields t (length p)) (take w.marks after)
