use Rattle.std.proofs.Common.{Ok, rules}
use Rattle.graphs.specs.View.{graph_view}
use Rattle.plans.proofs.Refused.{answered}
use Rattle.plans.proofs.read.read_plan.Goals as goal

pub returns-in_err-chains-clause-answers : goal.returns-in_err-chains-clause-answers
returns-in_err-chains-clause-answers c = answered (graph_view c.args.graph.now) c.args.bytes.now c.from_residual-in_err-chains.result (search rules) (λ n. search rules) (search rules)

pub returns-in_err-check_rules-clause-answers : goal.returns-in_err-check_rules-clause-answers
returns-in_err-check_rules-clause-answers c = answered (graph_view c.args.graph.now) c.args.bytes.now c.from_residual-in_err-check_rules.result (search rules) (λ n. search rules) (search rules)

pub returns-clause-answers : goal.returns-clause-answers
returns-clause-answers c = answered (graph_view c.args.graph.now) c.args.bytes.now (Ok c.in_ok-chains.chains) (search rules) c.in_ok-chains.ensures.whole c.in_ok-chains.ensures.says

pub returns-in_err-check_size-clause-answers : goal.returns-in_err-check_size-clause-answers
returns-in_err-check_size-clause-answers c = answered (graph_view c.args.graph.now) c.args.bytes.now c.from_residual.result (search rules) (λ n. search rules) (search rules)
