use Rattle.std.proofs.Common.{◌≡◌, ℕ, ◌≤◌, Some, Option, MatchOption, map, ap, ◌∙◌, length, arith}
use Rattle.std.proofs.lemmas.List.{length-map}
use Rattle.stores.specs.declared.state.State.{State}
use Rattle.graphs.specs.View.{graph_view}
use Rattle.walks.specs.Rows.{entries, store_row}
use Rattle.compiler.specs.Sinks.{sink_of, sunk}
use Rattle.compiler.proofs.Sinking.{room_like}
use Rattle.compiler.proofs.Filling.{lines_stored}
use Rattle.compiler.proofs.sink.Sink.fill_state.Goals as goal

-- the state that a number makes
some_state : (n : ℕ) (o : Option State) (state : State) → o ≡ Some state → MatchOption o (64 ≤ n) (λ s. s.number ≡ n) → state.number ≡ n
some_state n o state e h = rw e at h

pub emit-requires : goal.emit-requires
emit-requires g c =
    let es = entries (graph_view c.args.path.now.graph.now) c.args.path.now.node c.args.path.now.behind.now in
    let p = c.new-2.ensures in
    record {
      ready = record { bytes = omega (arith, ap length p.bytes, c.requires.short); beyond = omega (arith, p.beyond, c.requires.short) };
      room = room_like _ (map (store_row c.args.number) es) es (length-map es (store_row c.args.number)) c.requires.room;
    }

pub returns-clause-filled : goal.returns-clause-filled
returns-clause-filled g c =
    let s = sink_of g.S.Store.meaning c.args.self.now in
    let p = c.new-2.ensures in
    let e = c.emit.ensures.filled in
    let state : c.unwrap-state.result.number ≡ c.args.number = some_state c.args.number c.new.result c.unwrap-state.result c.unwrap-state.ensures c.new.ensures in
    record {
      store = e.store;
      actions = e.actions;
      after =
          e.after
          ∙ ap (sunk s) (lines_stored c.new-2.result c.args.number c.requires.number (ap (λ x. x.number) p.state ∙ state) p.bytes p.beyond
          (entries (graph_view c.args.path.now.graph.now) c.args.path.now.node c.args.path.now.behind.now));
    }
