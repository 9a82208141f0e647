use Rattle.std.proofs.Common.{◌++◌, map, ◌∙◌}
use Rattle.std.proofs.lemmas.List.{map-append}
use Rattle.compiler.specs.Filled.{rows_alone, rows_chained}
use Rattle.compiler.specs.Sinks.{sink_of, line_of}
use Rattle.compiler.proofs.Sinking.{going_begin, going_same, going_on, going_rooms, going_last}
use Rattle.compiler.proofs.sink.Sink.fill.Goals as goal

pub fill_alone-requires : goal.fill_alone-requires
fill_alone-requires g c =
    let a = rows_alone c.args.checked.now in
    let b = rows_chained c.args.checked.now in
    let s = sink_of g.S.Store.meaning c.args.self.now in
    going_rooms s line_of a (map line_of b) _ (going_same s _ _ _ (map-append line_of a b) (going_begin s line_of (a ++ b) c.requires))

pub fill_chained-requires : goal.fill_chained-requires
fill_chained-requires g c =
    let a = rows_alone c.args.checked.now in
    let b = rows_chained c.args.checked.now in
    let s = sink_of g.S.Store.meaning c.args.self.now in
    let u = sink_of g.S.Store.meaning c.fill_alone.new.self in
    going_last u line_of b _ (going_on s u (map line_of a) (map line_of b) _ c.fill_alone.ensures.filled.after (going_same s _ _ _ (map-append line_of a b) (going_begin s line_of (a ++ b) c.requires)))

pub returns-clause-filled : goal.returns-clause-filled
returns-clause-filled g c =
    let a = rows_alone c.args.checked.now in
    let b = rows_chained c.args.checked.now in
    let s = sink_of g.S.Store.meaning c.args.self.now in
    let u = sink_of g.S.Store.meaning c.fill_alone.new.self in
    let h = going_on s u (map line_of a) (map line_of b) _ c.fill_alone.ensures.filled.after (going_same s _ _ _ (map-append line_of a b) (going_begin s line_of (a ++ b) c.requires)) in
    let x = c.fill_alone.ensures.filled in
    let y = c.fill_chained.ensures.filled in
    record { store = y.store ∙ x.store; actions = y.actions ∙ x.actions; after = y.after ∙ h.gives }
