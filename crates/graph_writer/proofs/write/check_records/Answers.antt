use Rattle.std.proofs.Common.{length, Err, sym, ap, ◌∙◌, arith, below_more}
use Rattle.std.proofs.lemmas.Result.{err_from_is_err_and}
use Rattle.refusals.specs.Searching.{fault_of}
use Rattle.graph_writer.specs.Writing.{record_fault_at}
use Rattle.refusals.proofs.Searching.{found, passed, ended}
use Rattle.graph_writer.proofs.write.check_records.Goals as goal

pub returns-in_err-check_node : goal.returns-in_err-check_node
returns-in_err-check_node c =
    let p = err_from_is_err_and c.from_residual.result c.from_residual.ensures.1 in
    record {
      is =
          ap fault_of (p.1 ∙ ap Err p.2)
          ∙ found (record_fault_at c.args.nodes.now) c.loop-n.n (length c.args.nodes.now) c.loop-n.invariant.0 _ c.loop-n-test.true (sym c.in_err-check_node.ensures.is);
      stand = rw p.1 tt;
    }

pub loop-n-preserved : goal.loop-n-preserved
loop-n-preserved c = (
  passed (record_fault_at c.args.nodes.now) c.loop-n.n (length c.args.nodes.now) c.loop-n.invariant.0 c.loop-n-test.true (sym c.in_ok-check_node.ensures.is),
  below_more _ _ c.loop-n.invariant.1 c.in_ok-check_node.ensures.stands,
)

pub returns : goal.returns
returns c =
    record {
      is = ended (record_fault_at c.args.nodes.now) c.loop-n.n (length c.args.nodes.now) c.loop-n.invariant.0 c.loop-n-test.false;
      stand = λ k h. c.loop-n.invariant.1 k (omega arith);
    }
