use Rattle.std.proofs.Common.{◌≡◌, ℕ, ◌+◌, ◌^◌, min, [], rules, ap, ◌∙◌, arith}
use borrow.Author.Tests.{tests}
use Rattle.std.specs.List.{range_with_len, sum_by}
use Rattle.std.proofs.lemmas.List.FromFn.{length-range_with_len}
use Rattle.std.proofs.lemmas.Iterator.{YieldsList-from_range, YieldsList-from_map}
use Rattle.std.proofs.lemmas.Iterator.Adapters.{fits_from_length, at_most_from_yields_List}
use Rattle.std.proofs.lemmas.Iterator.Consumers.{sum_by_from_yields_List}
use Rattle.graphs.specs.View.{graph_view}
use Rattle.walks.specs.Plans.{entry_count, chain_count, sum_from}
use Rattle.plans.specs.Chains.{chain_of}
use Rattle.plans.proofs.Summing.{cut_sum}
use Rattle.plans.proofs.count.row_count.Goals as goal

pub sum-rows-requires-clause-fits : goal.sum-rows-requires-clause-fits
sum-rows-requires-clause-fits c =
    fits_from_length _ _ 32 (2 ^ 32) (at_most_from_yields_List (YieldsList-from_range 0 c.size.result c.size.result c.map.ensures.source (omega arith)) (omega (arith, length-range_with_len 0 c.size.result)))
    c.map.ensures.closure (omega arith) (λ x r q k. search (rules, tests))

pub returns : goal.returns
returns c =
    let g = graph_view c.args.graph.now in
    let chain = chain_of c.args.chains.now in
    let a : ℕ → ℕ = λ n. entry_count g n [] in
    let b : ℕ → ℕ = λ n. chain_count g n (chain n) in
    let total : c.sum-rows.result ≡ sum_by (λ n. min (a n) 65535 + min (b n) 65535) (range_with_len 0 c.size.result) =
    sum_by_from_yields_List _ _ c.map.result c.sum-rows.result c.sum-rows.ensures.ran
    (YieldsList-from_map _ (λ n. min (a n) 65535 + min (b n) 65535) (YieldsList-from_range 0 c.size.result c.size.result c.map.ensures.source (omega arith)) c.map.ensures.closure (λ x r q k. search rules)) in
    c.min.ensures ∙ ap (λ t. min t 65535) total ∙ cut_sum a b 0 c.size.result ∙ ap (λ n. min (sum_from a 0 n + sum_from b 0 n) 65535) c.size.ensures.is
