use Rattle.std.proofs.Common.{take, sym, subst}
use Rattle.taps.specs.Plain.{fresh}
use Rattle.runs.specs.Successions.{world, Succession}
use Rattle.runs.specs.Promises.{LoadsRight}
use Rattle.runs.proofs.Promising.{promised}
use Rattle.runs.proofs.Agreeing.{both_fresh, runs_agree}
use Rattle.runs.proofs.side.side_by_side.Goals as goal

pub returns-clause-left : goal.returns-clause-left
returns-clause-left g c =
    let new = c.new-left.ensures in
    promised g.S.Store.meaning c.args.left c.new-left.result c.run-left_made.new.tap _ _ _ (g.met.S.Store.bounded c.args.left).questions_fit new.store (c.run-left_made.ensures.run fresh new.follows)

pub returns-clause-right : goal.returns-clause-right
returns-clause-right g c =
    let new = c.new-right.ensures in
    promised g.R.Store.meaning c.args.right c.new-right.result c.run-right_made.new.tap _ _ _ (g.met.R.Store.bounded c.args.right).questions_fit new.store (c.run-right_made.ensures.run fresh new.follows)

pub returns-clause-agree : goal.returns-clause-agree
returns-clause-agree g c =
    let left = c.run-left_made.ensures.run fresh c.new-left.ensures.follows in
    let right = c.run-right_made.ensures.run fresh c.new-right.ensures.follows in
    λ alike same. runs_agree left.size right.size both_fresh alike left.answered right.answered same

pub returns-clause-left_loads : goal.returns-clause-left_loads
returns-clause-left_loads g c =
    let new = c.new-left.ensures in
    let run = c.run-left_made.ensures.run fresh new.follows in
    subst (λ s. LoadsRight (g.S.Store.meaning s).capacity (take c.run-left_made.result c.args.left_calls.now) (take c.run-left_made.result c.run-left_made.new.replies)) new.store run.loads

pub returns-clause-left_follows : goal.returns-clause-left_follows
returns-clause-left_follows g c = λ end x.
    let meaning = g.S.Store.meaning in
    let new = c.new-left.ensures in
    let run = c.run-left_made.ensures.run fresh new.follows in
    let places = take c.run-left_made.result c.args.left_replies.now in
    let replies = take c.run-left_made.result c.run-left_made.new.replies in
    (c.run-left_made.ensures.only fresh new.follows replies end
    (subst (λ s. Succession (world fresh (meaning s)) (take c.run-left_made.result c.args.left_calls.now) places replies end) (sym new.store) x) run.loads).1

pub returns-clause-right_loads : goal.returns-clause-right_loads
returns-clause-right_loads g c =
    let new = c.new-right.ensures in
    let run = c.run-right_made.ensures.run fresh new.follows in
    subst (λ s. LoadsRight (g.R.Store.meaning s).capacity (take c.run-right_made.result c.args.right_calls.now) (take c.run-right_made.result c.run-right_made.new.replies)) new.store run.loads

pub returns-clause-right_follows : goal.returns-clause-right_follows
returns-clause-right_follows g c = λ end x.
    let meaning = g.R.Store.meaning in
    let new = c.new-right.ensures in
    let run = c.run-right_made.ensures.run fresh new.follows in
    let places = take c.run-right_made.result c.args.right_replies.now in
    let replies = take c.run-right_made.result c.run-right_made.new.replies in
    (c.run-right_made.ensures.only fresh new.follows replies end
    (subst (λ s. Succession (world fresh (meaning s)) (take c.run-right_made.result c.args.right_calls.now) places replies end) (sym new.store) x) run.loads).1
