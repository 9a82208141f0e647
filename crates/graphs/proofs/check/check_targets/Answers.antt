use Rattle.std.proofs.Common.{rules}
use Rattle.std.proofs.lemmas.List.{length-map}
use Rattle.graphs.proofs.check.check_targets.Goals as goal

pub returns : goal.returns
returns c = search (rules, length-map)
