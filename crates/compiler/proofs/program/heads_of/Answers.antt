use Rattle.std.proofs.Common.{◌+◌, length, ap, ◌∙◌, subst, sym, arith}
use Rattle.std.proofs.lemmas.List.{length_push}
use Rattle.headers.specs.Table.{minimum_in}
use Rattle.graphs.specs.View.{graph_view}
use Rattle.plans.specs.Chains.{chain_of}
use Rattle.compiler.specs.Held.{held}
use Rattle.compiler.specs.Programs.{HeadOf}
use Rattle.compiler.proofs.Heading.{heads_more}
use Rattle.compiler.proofs.program.heads_of.Goals as goal

pub loop-n-preserved : goal.loop-n-preserved
loop-n-preserved c =
    let P = HeadOf (minimum_in c.args.table.now) (graph_view c.args.checked.now.graph) (chain_of c.args.checked.now.chains) in
    let hs = held c.loop-n.heads in
    let w = c.loop-n.invariant in
    record {
      count = ap length c.push.ensures ∙ length_push hs c.of.result ∙ ap (λ n. n + 1) w.count;
      each = λ k l. heads_more P hs (held c.push.new.self) c.args.blank c.of.result c.push.ensures (λ i b. w.each i (omega (arith, b, w.count)))
          (subst (λ i. P i c.of.result) (sym w.count) c.of.ensures) k (omega (arith, l, w.count));
    }
