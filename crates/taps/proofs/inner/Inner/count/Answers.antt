use Rattle.std.proofs.Common.{take, get_or, arith, sym, refl, ap, ◌∙◌, subst}
use Rattle.std.proofs.lemmas.List.{take_more, take_all}
use Rattle.headers.specs.declared.mark.Mark.{Mark}
use Rattle.taps.specs.Counts.{report_of, with_marks}
use Rattle.taps.specs.Held.{SameButCounts, report_in}
use Rattle.taps.proofs.Counting.{none_marked, mark_counted, rest_same, read_counted}
use Rattle.taps.proofs.inner.Inner.count.Goals as goal

pub loop-mark-init : goal.loop-mark-init
loop-mark-init g c = record { counts = λ d e. e ∙ sym (none_marked d); rest = record { store = refl; program = refl } }

pub loop-mark-preserved : goal.loop-mark-preserved
loop-mark-preserved g c =
    let l = c.loop-mark in
    let none : Mark = record { node = 0; kind = 0; offset = 0; length = 0 } in
    let m = get_or c.args.marks.now l.mark-index none in
    let ms = take l.mark-index c.args.marks.now in
    record {
      counts = λ d e.
          ap report_in c.raise.ensures ∙ mark_counted l.self ms m d (l.invariant.counts d e)
          ∙ ap (λ xs. report_of (with_marks xs d)) (sym (take_more c.args.marks.now l.mark-index none c.loop-mark-test.true));
      rest = subst (SameButCounts c.args.self.now) (sym c.raise.ensures) (rest_same c.args.self.now l.self m l.invariant.rest);
    }

pub returns : goal.returns
returns g c =
    let l = c.loop-mark in
    let all = take_all l.mark-index c.args.marks.now (omega (arith, c.loop-mark-test.false)) in
    record {
      counts = λ d e.
          ap (λ es. report_in (record l.self { endings = es })) c.raise-2.ensures
          ∙ read_counted l.self c.args.marks.now c.args.ending d (l.invariant.counts d e ∙ ap (λ xs. report_of (with_marks xs d)) all);
      rest = record { store = l.invariant.rest.store; program = l.invariant.rest.program };
    }
