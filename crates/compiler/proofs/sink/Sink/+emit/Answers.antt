use Rattle.std.proofs.Common.{[], ◌∷◌, map, length, Some, None, sym, refl, ap, ◌∙◌, arith}
use Rattle.graphs.specs.View.{node_view, graph_view}
use Rattle.walks.specs.Rows.{entries}
use Rattle.compiler.specs.Pieces.{left_in}
use Rattle.compiler.specs.Sinks.{sink_of, line_as, line_with}
use Rattle.compiler.proofs.Sinking.{going_begin, going_same, going_on, going_rooms}
use Rattle.compiler.proofs.Joining.{rows_from, rows_begin, longer_passed, ready_on, turn_alone, turn_joined, turn_done}
use Rattle.compiler.proofs.sink.Sink.+emit.Goals as goal

pub loop-piece-init : goal.loop-piece-init
loop-piece-init g t c =
    let gr = graph_view c.args.path.now.graph.now in
    let n = c.args.path.now.node in
    let cs = c.args.path.now.behind.now in
    let p = c.args.start.now in
    let w = length c.lookup-width.result.now in
    let s = sink_of g.S.Store.meaning c.args.self.now in
    let k = c.new-piece-items.ensures in
    let e = rows_begin gr n cs p w c.new-piece-items.result (ap node_view k.node ∙ c.here-here.ensures.is) (ap length c.lookup-width.ensures.is ∙ ap (λ v. length (node_view v).places) (sym k.node)) k.row k.blocks in
    record {
      store = refl;
      actions = refl;
      going = going_same s _ _ _ (sym (ap (λ k. rows_from gr cs p w (left_in k)) c.into_iter-piece-iterator.ensures.into_iter_gives ∙ e)) (going_begin s (line_as p) (entries gr n cs) c.requires.room);
    }

pub emit-requires : goal.emit-requires
emit-requires g t c κs within =
    let rest = c.in-Some-rest_to.rest in
    let on = c.in-Some-rest_to.ensures in
    let l = longer_passed c.longer-longer.ensures c.passed-passed.ensures in
    let going = turn_joined c.args.path.now c.loop-piece.invariant.going c.in-Some.ensures.steps rest l on in (
      omega (arith, c.decreases, ap length on.1.0),
      (within, (ready_on on.1.0 c.requires.ready c.lookup-width.ensures.few l, going_rooms _ (line_as c.passed-passed.result) (entries (graph_view rest.graph.now) rest.node rest.behind.now) _ _ going)),
    )

pub put-requires : goal.put-requires
put-requires g t c =
    let rest = c.in-Some-rest_to.rest in
    let r = c.passed-passed.result in
    let l = longer_passed c.longer-longer.ensures c.passed-passed.ensures in
    let going = turn_joined c.args.path.now c.loop-piece.invariant.going c.in-Some.ensures.steps rest l c.in-Some-rest_to.ensures in
    let u = sink_of g.S.Store.meaning c.emit.new.self in
    going_rooms u (line_with r) (None ∷ []) _ _ (going_on _ u (map (line_as r) (entries (graph_view rest.graph.now) rest.node rest.behind.now)) _ _ c.emit.ensures.filled.after going)

pub loop-piece-preserved-in-Continue-branch-2 : goal.loop-piece-preserved-in-Continue-branch-2
loop-piece-preserved-in-Continue-branch-2 g t c =
    let rest = c.in-Some-rest_to.rest in
    let r = c.passed-passed.result in
    let l = longer_passed c.longer-longer.ensures c.passed-passed.ensures in
    let i = c.loop-piece.invariant in
    let going = turn_joined c.args.path.now i.going c.in-Some.ensures.steps rest l c.in-Some-rest_to.ensures in
    let u = sink_of g.S.Store.meaning c.emit.new.self in
    let emitted = c.emit.ensures.filled in
    let closed = c.put.ensures.filled in
    record {
      store = closed.store ∙ emitted.store ∙ i.store;
      actions = closed.actions ∙ emitted.actions ∙ i.actions;
      going =
          going_on u _ (line_with r None ∷ []) _ _ closed.after
          (going_on _ u (map (line_as r) (entries (graph_view rest.graph.now) rest.node rest.behind.now)) _ _ emitted.after going);
    }

pub put-requires-in_default : goal.put-requires-in_default
put-requires-in_default g t c =
    let going = turn_alone c.args.path.now c.loop-piece.invariant.going c.in-Some.ensures.steps c.longer-longer.ensures c.in_default.ensures in
    going_rooms _ (line_with c.longer-longer.result) (Some c.in-Some.piece.target ∷ []) _ _ going

pub loop-piece-preserved : goal.loop-piece-preserved
loop-piece-preserved g t c =
    let i = c.loop-piece.invariant in
    let going = turn_alone c.args.path.now i.going c.in-Some.ensures.steps c.longer-longer.ensures c.in_default.ensures in
    let e = c.put-in_default.ensures.filled in
    record {
      store = e.store ∙ i.store;
      actions = e.actions ∙ i.actions;
      going = going_on _ _ (line_with c.longer-longer.result (Some c.in-Some.piece.target) ∷ []) _ _ e.after going;
    }

pub returns-clause-filled : goal.returns-clause-filled
returns-clause-filled g t c =
    let i = c.loop-piece.invariant in
    let path = c.args.path.now in
    let e = turn_done _ _ (graph_view path.graph.now) path.behind.now c.args.start.now (length c.lookup-width.result.now) (left_in c.loop-piece.piece-iterator) i.going c.in-None.ensures.steps.0 in
    record { store = i.store; actions = i.actions; after = e }
