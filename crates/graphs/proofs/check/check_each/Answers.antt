use Rattle.std.proofs.Common.{map, Err, sym, ap, ◌∙◌}
use Rattle.std.proofs.lemmas.Result.{err_from_is_err_and}
use Rattle.refusals.specs.Searching.{fault_of}
use Rattle.graphs.specs.View.{node_view}
use Rattle.graphs.proofs.Noding.{node_found, node_passed, node_ended}
use Rattle.graphs.proofs.check.check_each.Goals as goal

pub returns-in_err-check : goal.returns-in_err-check
returns-in_err-check g c =
    let p = err_from_is_err_and c.from_residual.result c.from_residual.ensures.1 in
    ap fault_of (p.1 ∙ ap Err p.2)
    ∙ node_found (g.C.NodeCheck.told c.args.check.now) c.named_nodes-node-items.result.now c.loop-n.n (ap (map node_view) c.named_nodes-node-items.ensures.is) c.loop-n.invariant _ _ c.loop-n-test.true (sym c.in_err-check.ensures)

pub loop-n-preserved : goal.loop-n-preserved
loop-n-preserved g c =
    node_passed (g.C.NodeCheck.told c.args.check.now) c.named_nodes-node-items.result.now c.loop-n.n (ap (map node_view) c.named_nodes-node-items.ensures.is) c.loop-n.invariant _ c.loop-n-test.true (sym c.in_ok-check.ensures)

pub returns : goal.returns
returns g c =
    node_ended (g.C.NodeCheck.told c.args.check.now) c.named_nodes-node-items.result.now c.loop-n.n (ap (map node_view) c.named_nodes-node-items.ensures.is) c.loop-n.invariant c.loop-n-test.false
