use Rattle.std.proofs.Common.{◌∷◌, take, refl}
use Rattle.readers.specs.Headers.{marks_by, marks_left}
use Rattle.readers.proofs.Passing.{passing_more, passing_done}
use Rattle.readers.proofs.turn.Turn.pass.Goals as goal

pub loop-mark-preserved : goal.loop-mark-preserved
loop-mark-preserved c =
    passing_more c.args.marks.now c.args.count c.loop-mark.marks c.loop-mark.count c.loop-mark.last (marks_left c.loop-mark.mark-iterator)
    (marks_by c.args.self.now.program.now c.args.self.now.packet.now (c.args.self.now.node ∷ take c.args.action.beyond c.args.behind.now) c.args.self.now.at) c.loop-mark.invariant
    c.in-Some.mark (marks_left c.next.new.self) c.in-Some.ensures.steps c.put-count-in-loop-mark.new.items c.put-count-in-loop-mark.result c.put-count-in-loop-mark.ensures

pub returns : goal.returns
returns c =
    passing_done c.args.marks.now c.args.count c.loop-mark.marks c.loop-mark.count c.loop-mark.last (marks_left c.loop-mark.mark-iterator) _ c.loop-mark.invariant
    c.in-None.ensures.steps.0 c.args.self.now (take c.args.action.beyond c.args.behind.now) refl
    c.args.action.target c.follow.result c.follow.ensures
