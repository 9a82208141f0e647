use Rattle.std.proofs.Common.{arith}
use Rattle.graph_reader.proofs.Pairing.{right_says}
use Rattle.graph_reader.proofs.pairs.Pair.record.Goals as goal

pub slice_bounds-result-end : goal.slice_bounds-result-end
slice_bounds-result-end c = let p = right_says _ _ c.requires in omega arith
