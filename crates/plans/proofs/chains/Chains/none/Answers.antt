use Rattle.std.proofs.Common.{replicate, get_or, ap, ◌∙◌}
use Rattle.plans.specs.declared.chains.Chain.{Chain}
use Rattle.plans.specs.Chains.{no_chain}
use Rattle.plans.proofs.Chaining.{none_anywhere}
use Rattle.plans.proofs.chains.Chains.none.Goals as goal

pub returns-clause-says : goal.returns-clause-says
returns-clause-says c = λ n. ap (λ (x : Chain). get_or (replicate 32 x) n no_chain) c.none.ensures ∙ none_anywhere 32 n
