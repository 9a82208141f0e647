use Rattle.std.proofs.Common.{length, sym, ap, arith}
use Rattle.std.proofs.lemmas.Bool.{lt-leb}
use Rattle.graphs.specs.View.{node_view, graph_view}
use Rattle.plans.proofs.Ruling.{ruled_counted, ruled_wide}
use Rattle.plans.proofs.path.Path.+ruled.Goals as goal
use Rattle.plans.proofs.path.Path.+ruled.Goals.{then-not-is_fixed-via-then-not-is_fixed, then-not-is_fixed-via-else-not-is_fixed+then-width-room}

pub returns-then-not-is_fixed : goal.returns-then-not-is_fixed
returns-then-not-is_fixed t c =
    let g = graph_view c.args.self.now.graph.now in
    let n = c.args.self.now.node in
    let v = node_view c.here-here.result in
    let cs = c.args.self.now.behind.now in
    elim c.then-not-is_fixed.branch [
      | then-not-is_fixed-via-then-not-is_fixed w ↦ sym (ruled_counted g c.args.room n v c.here-here.ensures.is cs (sym w.if-not-is_fixed.ensures))
      | then-not-is_fixed-via-else-not-is_fixed+then-width-room w ↦
          sym (ruled_wide g c.args.room n v c.here-here.ensures.is cs (sym w.if-not-is_fixed.ensures)
          (lt-leb _ _ (omega (arith, ap length c.lookup-width.ensures.is, w.if-width-room.true))))
    ]
