use Rattle.std.proofs.Common.{◌≡◌, ℕ, ◌<◌, length, get_or}
use Rattle.headers.specs.Table.{minimum_in}
use Rattle.graphs.specs.View.{graph_view}
use Rattle.plans.specs.Chains.{chain_of}
use Rattle.compiler.specs.Held.{held}
use Rattle.compiler.specs.Programs.{HeadOf}
use Rattle.compiler.proofs.program.heads_of.Given as goal

abbrev pub invariant-loop-n : goal.invariant-loop-n
invariant-loop-n l = record {
  count : length (held l.heads) ≡ l.n;
  each : (k : ℕ) → k < l.n → HeadOf (minimum_in l.table) (graph_view l.checked.graph) (chain_of l.checked.chains) k (get_or (held l.heads) k l.fn.blank);
}
