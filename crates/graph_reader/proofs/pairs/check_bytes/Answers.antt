use Rattle.std.specs.Option.{option_map}
use Rattle.std.proofs.Common.{Err, sym, ap, ap₂, ◌∙◌, arith}
use Rattle.std.proofs.lemmas.Result.{err_from_is_err_and}
use Rattle.refusals.specs.Searching.{fault_of}
use Rattle.graph_reader.specs.declared.fault.FileFault.TheVariants.{Pair, Byte}
use Rattle.graph_reader.specs.Records.{at}
use Rattle.graph_reader.specs.Files.{pair_right, record_at, first_wrong, record_fault}
use Rattle.refusals.proofs.Searching.{holds, found, passed}
use Rattle.graph_reader.proofs.pairs.check_bytes.Goals as goal

pub record-requires : goal.record-requires
record-requires c = ap₂ pair_right c.of.ensures.file c.of.ensures.node ∙ holds (pair_right c.args.file.now) Pair _ _ c.requires (omega arith)

pub returns-in_err-check_record : goal.returns-in_err-check_record
returns-in_err-check_record c =
    let p = err_from_is_err_and c.from_residual.result c.from_residual.ensures.1 in
    ap fault_of (p.1 ∙ ap Err p.2) ∙ found (record_fault c.args.file.now) _ (at c.args.file.now 0) c.loop-node.invariant _ (omega arith) (sym (c.in_err-check_record.ensures.brief c.record.ensures.brief ∙ ap (λ r. option_map (Byte c.loop-node.node) (first_wrong r)) (c.record.ensures.is ∙ ap₂ record_at c.of.ensures.file c.of.ensures.node)))

pub loop-node-preserved : goal.loop-node-preserved
loop-node-preserved c = passed (record_fault c.args.file.now) _ (at c.args.file.now 0) c.loop-node.invariant (omega arith) (sym (c.in_ok-check_record.ensures.brief c.record.ensures.brief ∙ ap (λ r. option_map (Byte c.loop-node.node) (first_wrong r)) (c.record.ensures.is ∙ ap₂ record_at c.of.ensures.file c.of.ensures.node)))
