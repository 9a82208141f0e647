use Rattle.std.proofs.Common.{arith}
use Rattle.slices.proofs.PutLaws.{put_none, put_all}
use Rattle.slices.proofs.sliced.WordsTable64.put.Goals as goal

pub loop-i-init : goal.loop-i-init
loop-i-init c = put_none c.args.self.now.words c.args.self.now.words c.args.held c.args.row

pub returns-clause-put : goal.returns-clause-put
returns-clause-put c =
    let whole = c.args.self.now.whole in
    let long = c.loop-i.invariant.long in
    λ _. put_all c.args.self.now.words c.loop-i.word-items c.args.held c.args.row c.loop-i.i c.loop-i.invariant (omega arith) (omega arith) (omega arith) (omega arith)
