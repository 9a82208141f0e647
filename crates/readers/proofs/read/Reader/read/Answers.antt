use Rattle.std.proofs.Common.{◌≡◌, ◌+◌, ◌<◌, length, take, ap, ◌∙◌, subst, arith}
use Rattle.compiler.specs.Held.{held}
use Rattle.readers.specs.declared.turn.Turn.{Turn}
use Rattle.readers.specs.Asking.{stopped_at, turn_asks, Passes}
use Rattle.walks.specs.declared.outcome.Ending.TheVariants.{Done}
use Rattle.readers.proofs.Going.{going_first, going_out, going_ends, going_led, going_on, answered_before, ended_told}
use Rattle.readers.proofs.read.Reader.read.Goals as goal

pub loop-questions-init : goal.loop-questions-init
loop-questions-init g c = going_first c.args.self.now.program.now (g.S.Store.meaning c.args.store.now) c.args.self.now.packet.now c.args.marks.now

pub returns-in-Err : goal.returns-in-Err
returns-in-Err g c =
    let self = c.args.self.now in
    let p = self.packet.now in
    let program = self.program.now in
    let m = g.S.Store.meaning c.args.store.now in
    let l = c.loop-questions in
    let k = l.questions in
    let more : k < length (held program.heads) = omega (arith, c.loop-questions-test.true, ap length c.as_slice.ensures.is) in
    let asks = c.in-Err.ensures ∙ ap (λ (t : Turn). turn_asks t.program.now t.packet.now t.node t.at) c.turn-turn.ensures in
    let ended = going_ends program m p c.args.marks.now l.marks (g.S.Store.meaning l.store) l.count k l.node l.at l.invariant more c.in-Err.outcome asks in
    let told = ended_told program m p c.args.marks.now l.marks (g.S.Store.meaning l.store) c.in-Err.outcome l.count k ended c.new.result c.new.ensures in
    record { is = told.is; marks = told.marks; asked = told.asked; turns = omega (arith, more, ap (λ r. r.questions) c.new.ensures) }

pub returns-in-Stop : goal.returns-in-Stop
returns-in-Stop g c =
    let self = c.args.self.now in
    let p = self.packet.now in
    let program = self.program.now in
    let meaning = g.S.Store.meaning in
    let m = meaning c.args.store.now in
    let l = c.loop-questions in
    let k = l.questions in
    let q = c.in-Ok.asked.question in
    let cs = c.in-Ok.asked.behind.now in
    let a = c.ask-action.result in
    let r = c.pass-passed.result in
    let more : k < length (held program.heads) = omega (arith, c.loop-questions-test.true, ap length c.as_slice.ensures.is) in
    let asks = c.in-Ok.ensures ∙ ap (λ (t : Turn). turn_asks t.program.now t.packet.now t.node t.at) c.turn-turn.ensures in
    let answers = c.ask-action.ensures.answered ∙ answered_before program m p (meaning l.store) l.invariant.qs q l.invariant.asked in
    let passes = subst (λ t. Passes t (take a.beyond cs) a.target l.marks l.count c.pass-passed.new.marks r) c.turn-turn.ensures c.pass-passed.ensures in
    let ended =
    going_led program m p c.args.marks.now l.marks (meaning l.store) l.count k l.node l.at l.invariant more q cs asks a answers (meaning c.ask-action.new.store) c.ask-action.ensures.after
    c.pass-passed.new.marks r passes.marks passes.leads c.in-Stop.outcome c.in-Stop.is in
    let told = ended_told program m p c.args.marks.now c.pass-passed.new.marks (meaning c.ask-action.new.store) c.in-Stop.outcome r.marks (k + 1) ended c.new-in-Stop.result c.new-in-Stop.ensures in
    record { is = told.is; marks = told.marks; asked = told.asked; turns = omega (arith, more, ap (λ r. r.questions) c.new-in-Stop.ensures) }

pub loop-questions-preserved : goal.loop-questions-preserved
loop-questions-preserved g c =
    let self = c.args.self.now in
    let p = self.packet.now in
    let program = self.program.now in
    let meaning = g.S.Store.meaning in
    let m = meaning c.args.store.now in
    let l = c.loop-questions in
    let k = l.questions in
    let q = c.in-Ok.asked.question in
    let cs = c.in-Ok.asked.behind.now in
    let a = c.ask-action.result in
    let r = c.pass-passed.result in
    let more : k < length (held program.heads) = omega (arith, c.loop-questions-test.true, ap length c.as_slice.ensures.is) in
    let asks = c.in-Ok.ensures ∙ ap (λ (t : Turn). turn_asks t.program.now t.packet.now t.node t.at) c.turn-turn.ensures in
    let answers = c.ask-action.ensures.answered ∙ answered_before program m p (meaning l.store) l.invariant.qs q l.invariant.asked in
    let passes = subst (λ t. Passes t (take a.beyond cs) a.target l.marks l.count c.pass-passed.new.marks r) c.turn-turn.ensures c.pass-passed.ensures in
    going_on program m p c.args.marks.now l.marks (meaning l.store) l.count k l.node l.at l.invariant more q cs asks a answers (meaning c.ask-action.new.store) c.ask-action.ensures.after
    c.pass-passed.new.marks r passes.marks passes.leads c.in-On.mark c.in-On.next c.in-On.past c.in-On.is

pub returns : goal.returns
returns g c =
    let self = c.args.self.now in
    let p = self.packet.now in
    let program = self.program.now in
    let m = g.S.Store.meaning c.args.store.now in
    let l = c.loop-questions in
    let n = length c.as_slice.result.now in
    let size : n ≡ length (held program.heads) = ap length c.as_slice.ensures.is in
    let stops = c.stopped.ensures ∙ ap (λ (t : Turn). stopped_at t.packet.now t.node t.at Done) c.turn.ensures in
    let ended =
    going_out program m p c.args.marks.now l.marks (g.S.Store.meaning l.store) l.count l.questions l.node l.at l.invariant c.stopped.result n stops
    (omega (arith, c.loop-questions-test.false, l.auto.questions-end)) (omega (arith, c.loop-questions-test.false, size)) in
    let told = ended_told program m p c.args.marks.now l.marks (g.S.Store.meaning l.store) c.stopped.result l.count n ended c.new-2.result c.new-2.ensures in
    record { is = told.is; marks = told.marks; asked = told.asked; turns = omega (arith, size, ap (λ r. r.questions) c.new-2.ensures) }
