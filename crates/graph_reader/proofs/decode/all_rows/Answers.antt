use Rattle.std.proofs.Common.{◌+◌, ◌*◌, rules}
use Rattle.graph_reader.proofs.Filling.{filled_by}
use Rattle.graph_reader.proofs.decode.all_rows.Goals as goal

pub returns : goal.returns
returns g c = filled_by (λ k. g.R.RowIn.said c.args.bytes.now (16 + 10 * k)) 16 c.from_fn.ensures.items (λ i y q k. search rules)
