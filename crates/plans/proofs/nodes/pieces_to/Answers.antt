use Rattle.std.proofs.Common.{sym, ap, ◌∙◌}
use Rattle.graphs.specs.View.{rows_view}
use Rattle.walks.specs.Plans.{pieces_to, ternaries_to, blocks_to}
use Rattle.plans.proofs.Rowing.{sum_ternaries_to, sum_blocks_to}
use Rattle.plans.proofs.nodes.pieces_to.Goals as goal

pub returns-in-Ternary : goal.returns-in-Ternary
returns-in-Ternary c =
    let to = c.args.to in
    c.pieces_in_to.ensures ∙ sum_ternaries_to to c.named.result.now ∙ ap (ternaries_to to) c.named.ensures.is
    ∙ sym (ap (λ rs. pieces_to to (rows_view c.args.node.now.row_count rs)) c.in-Ternary.is)

pub returns-in-Range : goal.returns-in-Range
returns-in-Range c =
    let to = c.args.to in
    c.pieces_in_to-in-Range.ensures ∙ sum_blocks_to to c.named-in-Range.result.now ∙ ap (blocks_to to) c.named-in-Range.ensures.is
    ∙ sym (ap (λ rs. pieces_to to (rows_view c.args.node.now.row_count rs)) c.in-Range.is)
