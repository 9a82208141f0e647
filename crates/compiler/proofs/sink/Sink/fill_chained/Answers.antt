use Rattle.std.proofs.Common.{◌+◌, sym, refl, ◌∙◌}
use Rattle.std.proofs.lemmas.Bool.{eqb-true, eqb-false}
use Rattle.graphs.specs.View.{graph_view}
use Rattle.plans.specs.Chains.{chain_of}
use Rattle.walks.specs.Rows.{chain_base, chain_rows}
use Rattle.compiler.specs.Sinks.{sink_of, line_of}
use Rattle.compiler.proofs.Sinking.{going_same, going_on, going_rooms}
use Rattle.compiler.proofs.Filling.{rows_more, path_rows, chain_none, chain_some}
use Rattle.compiler.proofs.sink.Sink.fill_chained.Goals as goal

pub loop-node-preserved-then-is_empty : goal.loop-node-preserved-then-is_empty
loop-node-preserved-then-is_empty g c =
    let gr = graph_view c.args.checked.now.graph in
    let chain = chain_of c.args.checked.now.chains in
    let n = c.loop-node.node in
    let s = sink_of g.S.Store.meaning c.loop-node.self in
    let i = c.loop-node.invariant in
    let same = c.new-path.ensures.behind ∙ c.named_nodes.ensures.is ∙ c.chain-chain.ensures.says in
    let none = chain_none gr chain n c.new-path.result.behind.now same (eqb-true _ 0 (sym c.is_empty.ensures ∙ c.if-is_empty.true)) in
    record {
      store = i.store;
      actions = i.actions;
      going = going_same s _ _ _ (rows_more (chain_rows gr chain) n c.size-node-end.result none c.loop-node-test.true) i.going;
    }

pub fill_state-requires-clause-room : goal.fill_state-requires-clause-room
fill_state-requires-clause-room g c =
    let gr = graph_view c.args.checked.now.graph in
    let chain = chain_of c.args.checked.now.chains in
    let n = c.loop-node.node in
    let path = c.new-path.ensures in
    let s = sink_of g.S.Store.meaning c.loop-node.self in
    let same = path.behind ∙ c.named_nodes.ensures.is ∙ c.chain-chain.ensures.says in
    let some =
    chain_some gr chain n c.new-path.result.behind.now same (eqb-false _ 0 (sym c.is_empty.ensures ∙ c.if-is_empty.false))
    ∙ path_rows (chain_base + n) c.new-path.result c.args.checked.now.graph path.graph path.node refl in
    going_rooms s line_of _ _ _ (going_same s _ _ _ (rows_more (chain_rows gr chain) n c.size-node-end.result some c.loop-node-test.true) c.loop-node.invariant.going)

pub loop-node-preserved : goal.loop-node-preserved
loop-node-preserved g c =
    let gr = graph_view c.args.checked.now.graph in
    let chain = chain_of c.args.checked.now.chains in
    let n = c.loop-node.node in
    let path = c.new-path.ensures in
    let s = sink_of g.S.Store.meaning c.loop-node.self in
    let i = c.loop-node.invariant in
    let e = c.fill_state.ensures.filled in
    let same = path.behind ∙ c.named_nodes.ensures.is ∙ c.chain-chain.ensures.says in
    let some =
    chain_some gr chain n c.new-path.result.behind.now same (eqb-false _ 0 (sym c.is_empty.ensures ∙ c.if-is_empty.false))
    ∙ path_rows (chain_base + n) c.new-path.result c.args.checked.now.graph path.graph path.node refl in
    record {
      store = e.store ∙ i.store;
      actions = e.actions ∙ i.actions;
      going = going_on s _ _ _ _ e.after (going_same s _ _ _ (rows_more (chain_rows gr chain) n c.size-node-end.result some c.loop-node-test.true) i.going);
    }
