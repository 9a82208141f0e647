use Rattle.std.proofs.Common.{◌≡◌, ◌+◌, [], ◌++◌, map, length, take, ap, ap₂, ◌∙◌}
use Rattle.headers.specs.Table.{minimum_in}
use Rattle.graphs.specs.View.{NodeView, ternary_rows, graph_view, node_view, node_at}
use Rattle.walks.specs.Walk.{reads}
use Rattle.walks.specs.Plans.{reach, window}
use Rattle.plans.specs.Chains.{chain_of}
use Rattle.compiler.specs.Held.{held}
use Rattle.compiler.specs.Programs.{looked_up}
use Rattle.compiler.proofs.Looking.{from_none, own_first}
use Rattle.compiler.proofs.program.Head.of.Goals as goal

pub returns : goal.returns
returns c =
    let g = graph_view c.args.checked.now.graph in
    let n = c.args.node in
    let here : node_view c.node-here.result ≡ node_at g n = c.node-here.ensures.is in
    let chain = c.chain-chain.ensures.says in
    let behind = c.new-path.ensures.behind ∙ c.named_nodes.ensures.is ∙ chain in
    let all : held c.put_lookups.new.lookups ≡ looked_up g n (chain_of c.args.checked.now.chains n) =
    c.put_lookups.ensures ∙ ap (λ xs. xs ++ map (λ i. 0 + i) (looked_up (graph_view c.new-path.result.graph.now) c.new-path.result.node c.new-path.result.behind.now)) c.new-lookups.ensures
    ∙ from_none (looked_up (graph_view c.new-path.result.graph.now) c.new-path.result.node c.new-path.result.behind.now)
    ∙ ap (λ gr. looked_up (graph_view gr) c.new-path.result.node c.new-path.result.behind.now) c.new-path.ensures.graph
    ∙ ap₂ (looked_up g) c.new-path.ensures.node behind in
    let count : length c.lookup.result.now ≡ length (node_at g n).places = ap length (c.lookup.ensures.is ∙ ap (λ (v : NodeView). v.places) here) in
    let places : take (length c.lookup.result.now) (held c.put_lookups.new.lookups) ≡ (node_at g n).places = ap₂ take count all ∙ own_first g n (chain_of c.args.checked.now.chains n) in
    record {
      node = ap (λ ps. record { kind = c.node-here.result.kind; len = c.node-here.result.length; places = ps; rows = ternary_rows [] }) places ∙ ap (λ (v : NodeView). record { kind = v.kind; len = v.len; places = (node_at g n).places; rows = ternary_rows [] }) here;
      behind = chain;
      window = c.window.ensures ∙ ap (window g n) chain;
      lookups = all;
      needs = c.needs.ensures ∙ ap (λ v. reach (reads v)) here;
      least = c.minimum.ensures ∙ ap (λ (v : NodeView). minimum_in c.args.table.now v.kind) here;
    }
