use Rattle.std.proofs.Common.{Some, length, refl, ap, ◌∙◌}
use Rattle.std.proofs.lemmas.Result.{err_from_is_err_and}
use Rattle.refusals.specs.Searching.{fault_of}
use Rattle.headers.specs.Table.{minimum_in}
use Rattle.graphs.specs.View.{graph_view}
use Rattle.walker.proofs.Refused.{told_least, none_applies, graph_sound, packet_fits, marks_suffice}
use Rattle.walker.proofs.Fields.{marked_with}
use Rattle.walker.proofs.walk.walk_by.Goals as goal

pub returns-in_err-first_fault : goal.returns-in_err-first_fault
returns-in_err-first_fault c =
    let p = err_from_is_err_and c.from_residual.result c.from_residual.ensures.1 in
    record {
      is = ap fault_of p.1 ∙ ap Some p.2 ∙ c.in_err-first_fault.ensures;
      answers =
          rw p.1
          (told_least (minimum_in c.args.table.now) (graph_view c.args.graph.now) (length c.args.packet.now) (length c.args.marks.now) p.0
          _ p.2 c.in_err-first_fault.ensures);
      fields = rw p.1 (λ _. tt);
      kept = rw p.1 refl;
    }

pub walk-requires : goal.walk-requires
walk-requires c =
    let clear = c.in_ok-first_fault.ensures in
    let minimum = minimum_in c.args.table.now in
    let g = graph_view c.args.graph.now in
    let size = length c.args.packet.now in
    let room = length c.args.marks.now in
    record { sound = graph_sound minimum g size room clear; fits = packet_fits minimum g size room clear; room = marks_suffice minimum g size room clear }

pub returns : goal.returns
returns c =
    let table = c.args.table.now in
    let g = graph_view c.args.graph.now in
    let p = c.args.packet.now in
    let before = c.args.marks.now in
    record {
      is = c.in_ok-first_fault.ensures;
      answers = (none_applies (minimum_in table) g (length p) (length before) c.in_ok-first_fault.ensures, c.walk.ensures);
      fields = λ law. marked_with table law g p before c.walk.new.marks c.walk.result c.walk.ensures;
      kept = tt;
    }
