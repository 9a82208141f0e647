use Rattle.std.proofs.Common.{◌+◌, ◌%◌, Err, sym, ap, ◌∙◌}
use Rattle.walks.specs.Rows.{question}
use Rattle.readers.specs.Asking.{asked_by}
use Rattle.readers.specs.Headers.{bytes_at}
use Rattle.readers.proofs.Asking.{looked_ahead, looked_alone, stopped_alone}
use Rattle.readers.proofs.turn.Turn.question.Goals as goal

pub returns-then-in_one_look : goal.returns-then-in_one_look
returns-then-in_one_look c =
    let self = c.args.self.now in
    let p = self.packet.now in
    let here = c.head_of-head.result.now in
    looked_ahead p self.node self.at here c.asked.result.question c.asked.result.behind.now (sym c.in_one_look.ensures ∙ c.if-in_one_look.true)
    (c.asked.ensures.question ∙ ap (λ xs. question ((32 + self.node) % 256) (bytes_at p self.at xs)) c.as_slice-all.ensures.is)
    (c.asked.ensures.behind ∙ c.named_nodes.ensures.is) ∙ ap (asked_by p self.node self.at) c.head_of-head.ensures

pub returns-in-Err : goal.returns-in-Err
returns-in-Err c =
    let self = c.args.self.now in
    let p = self.packet.now in
    let here = c.head_of-head.result.now in
    ap Err c.stopped.ensures ∙ stopped_alone p self.node self.at here c.in-Err.ending (sym c.in_one_look.ensures ∙ c.if-in_one_look.false) c.in-Err.ensures
    ∙ ap (asked_by p self.node self.at) c.head_of-head.ensures

pub returns-in-Ok : goal.returns-in-Ok
returns-in-Ok c =
    let self = c.args.self.now in
    let p = self.packet.now in
    let here = c.head_of-head.result.now in
    looked_alone p self.node self.at here c.asked-in-Ok.result.question c.asked-in-Ok.result.behind.now (sym c.in_one_look.ensures ∙ c.if-in_one_look.false) c.in-Ok.ensures
    (c.asked-in-Ok.ensures.question ∙ ap (λ xs. question self.node (bytes_at p self.at xs)) c.own_lookups.ensures) c.asked-in-Ok.ensures.behind
    ∙ ap (asked_by p self.node self.at) c.head_of-head.ensures
