use Rattle.std.proofs.Common.{map, length, sym, ap, ◌∙◌, arith}
use Rattle.headers.specs.Table.{minimum_in}
use Rattle.graphs.specs.View.{graph_view}
use Rattle.plans.specs.Chains.{chain_of}
use Rattle.walks.proofs.Count.{rows_counted}
use Rattle.compiler.specs.Held.{held}
use Rattle.compiler.specs.Filled.{all_rows}
use Rattle.compiler.specs.Sinks.{Sink, sunk, line_of}
use Rattle.compiler.proofs.Heading.{all_heads}
use Rattle.compiler.proofs.Stored.{rows_stored, rows_held, actions_stored}
use Rattle.compiler.proofs.compile.load.Goals as goal

pub fill-requires : goal.fill-requires
fill-requires g c =
    let n = rows_counted (graph_view c.args.checked.now.graph) (chain_of c.args.checked.now.chains) in
    let e = c.empty.ensures.after in
    record {
      taken = omega (arith, n, ap (λ (s : Sink). s.meaning.takes) e, c.requires.room);
      beside = omega (arith, n, ap (λ (s : Sink). length s.actions) e, c.requires.few);
    }

pub returns-clause-rows : goal.returns-clause-rows
returns-clause-rows g c =
    let rs = all_rows c.args.checked.now in
    let sink = c.fill.new.self in
    let after = c.fill.ensures.filled.after ∙ ap (λ s. sunk s (map line_of rs)) c.empty.ensures.after in
    let n = rows_counted (graph_view c.args.checked.now.graph) (chain_of c.args.checked.now.chains) in
    let e = rows_stored (g.S.Store.meaning c.args.store.now) (g.S.Store.meaning sink.store.now) (held sink.actions.now) rs after (omega (arith, n, c.requires.room)) in
    let same = sym c.fill.ensures.filled.store in
    let first = sym c.empty.ensures.store in
    grind (arith, e, same, first)

pub returns-clause-holds : goal.returns-clause-holds
returns-clause-holds g c =
    let rs = all_rows c.args.checked.now in
    let sink = c.fill.new.self in
    let after = c.fill.ensures.filled.after ∙ ap (λ s. sunk s (map line_of rs)) c.empty.ensures.after in
    let e = rows_held (g.S.Store.meaning c.args.store.now) (g.S.Store.meaning sink.store.now) (held sink.actions.now) rs after in
    let same = sym c.fill.ensures.filled.store in
    let first = sym c.empty.ensures.store in
    grind (arith, e, same, first)

pub returns-clause-stands : goal.returns-clause-stands
returns-clause-stands g c =
    let gr = graph_view c.args.checked.now.graph in
    let chain = chain_of c.args.checked.now.chains in
    let minimum = minimum_in c.args.table.now in
    let h = c.heads_of-program.ensures in
    let blank = c.blank-program.result in
    let rs = all_rows c.args.checked.now in
    let sink = c.fill.new.self in
    let after = c.fill.ensures.filled.after ∙ ap (λ s. sunk s (map line_of rs)) c.empty.ensures.after in
    record {
      count = h.count;
      heads = all_heads minimum gr chain (held c.heads_of-program.result) blank h.count c.requires.past c.blank-program.ensures h.each;
      blank = c.blank-program.ensures;
      actions = actions_stored (g.S.Store.meaning c.args.store.now) (g.S.Store.meaning sink.store.now) (held sink.actions.now) rs after;
    }
