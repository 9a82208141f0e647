use Rattle.std.proofs.Common.{◌++◌, drop, sym, subst}
use Rattle.runs.specs.declared.calls.Call.{Call}
use Rattle.runs.specs.declared.calls.Call.TheVariants.{Report}
use Rattle.runs.specs.declared.calls.Answer.TheVariants as answer
use Rattle.runs.specs.Following.{AnsweredAs}
use Rattle.runs.proofs.Calling.{load_answered, read_answered, report_answered, answered_only}
use Rattle.runs.proofs.make.make_call.Goals as goal

pub returns-in-Load-clause-answered : goal.returns-in-Load-clause-answered
returns-in-Load-clause-answered g c = λ p f.
    let meaning = g.S.Store.meaning in
    let h = c.load.ensures in
    let ms = c.args.marks.now in
    subst (λ (call : Call). AnsweredAs meaning p c.args.tap.now c.load.new.self call ms (answer.Load c.load.result) ms) (sym c.in-Load.is)
    (load_answered meaning p c.args.tap.now c.load.new.self c.in-Load.file c.in-Load.plan ms c.load.result (h.follows p f) h.store)

pub returns-in-Load-clause-only : goal.returns-in-Load-clause-only
returns-in-Load-clause-only g c = λ p f. answered_only g.S.Store.meaning p _ _ _ _ _ _ (returns-in-Load-clause-answered g c p f)

pub returns-in-Read-clause-answered : goal.returns-in-Read-clause-answered
returns-in-Read-clause-answered g c = λ p f.
    let meaning = g.S.Store.meaning in
    let h = c.read.ensures in
    let after = c.read.new.marks ++ drop c.min-lent.result c.args.marks.now in
    subst (λ (call : Call). AnsweredAs meaning p c.args.tap.now c.read.new.self call c.args.marks.now (answer.Read c.read.result) after) (sym c.in-Read.is)
    (read_answered meaning p c.args.tap.now c.read.new.self c.in-Read.packet c.in-Read.room c.min-lent.result c.read.result c.args.marks.now c.read.new.marks c.min-lent.ensures (h.follows p f))

pub returns-in-Read-clause-only : goal.returns-in-Read-clause-only
returns-in-Read-clause-only g c = λ p f. answered_only g.S.Store.meaning p _ _ _ _ _ _ (returns-in-Read-clause-answered g c p f)

pub returns-in-Report-clause-answered : goal.returns-in-Report-clause-answered
returns-in-Report-clause-answered g c = λ p f.
    let meaning = g.S.Store.meaning in
    let t = c.args.tap.now in
    let ms = c.args.marks.now in
    subst (λ (call : Call). AnsweredAs meaning p t t call ms (answer.Report c.report.result) ms) (sym c.in-Report.is)
    (subst (λ r. AnsweredAs meaning p t t Report ms (answer.Report r) ms) (sym (c.report.ensures.follows p f)) (report_answered meaning p t ms f))

pub returns-in-Report-clause-only : goal.returns-in-Report-clause-only
returns-in-Report-clause-only g c = λ p f. answered_only g.S.Store.meaning p _ _ _ _ _ _ (returns-in-Report-clause-answered g c p f)
