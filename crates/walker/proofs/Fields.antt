-- The marks that a walk wrote have their fields.
use Rattle.std.proofs.Common.{◌≡◌, ℕ, List, Ok, Err, Result, length, take, drop, sym, ap, ◌∙◌, subst}
use Rattle.std.specs.List.{AllByRecursion}
use Rattle.std.specs.Prelude.{IfOk}
use Rattle.std.proofs.Math.Seq.{take-append_seam}
use Rattle.refusals.specs.Least.{Answers}
use Rattle.headers.specs.declared.mark.Mark.{Mark}
use Rattle.headers.specs.declared.table.KindTable.{KindTable}
use Rattle.headers.specs.Part.{HasItsFields}
use Rattle.headers.specs.Table.{minimum_in, FieldsLieInside}
use Rattle.graphs.specs.View.{NodeView}
use Rattle.walks.proofs.Fields.{marks_have}
use Rattle.walker.specs.declared.fault.WalkFault.{WalkFault}
use Rattle.walker.specs.declared.walk.Walked.{Walked}
use Rattle.walker.specs.Faults.{of_walk}
use Rattle.walker.specs.Walked.{WalkedAs, MarkedWithFields}

module _ (t : KindTable) (law : FieldsLieInside t) (g : List NodeView) (p : List ℕ) (before after : List Mark) where
  -- those of a finished walk
  pub marked_with : (w : Walked) → WalkedAs (minimum_in t) g p before after w → MarkedWithFields t p after w
  marked_with w s =
      let front : take w.marks after ≡ s.marked =
      ap (λ k. take k after) s.count ∙ ap (take (length s.marked)) s.written ∙ take-append_seam s.marked (drop (length s.marked) before) in
      subst (AllByRecursion (HasItsFields t (length p))) (sym front) (marks_have t law g p s.walks)

  -- and of a call that may be refused
  pub answered_with : (Applies : WalkFault → Type 0) (r : Result Walked WalkFault) → Answers of_walk Applies (WalkedAs (minimum_in t) g p before after) r
      → IfOk r (MarkedWithFields t p after)
  answered_with Applies (Ok w) a = marked_with w a.1
  answered_with Applies (Err e) a = tt
