use Rattle.std.proofs.Common.{sym, ap, ◌∙◌}
use Rattle.std.proofs.lemmas.List.{length-take-le}
use Rattle.graphs.specs.View.{row_count}
use Rattle.graph_reader.specs.Decoding.{node_in}
use Rattle.graph_reader.proofs.Filed.{row_count_lem}
use Rattle.graph_reader.proofs.decode.node_in.Goals as goal

pub returns : goal.returns
unfolding node_in
returns c = record { is = cc; counts = (sym (length-take-le _ _ c.requires.places), sym (ap row_count c.rows_in.ensures ∙ row_count_lem c.args.bytes.now)) }
