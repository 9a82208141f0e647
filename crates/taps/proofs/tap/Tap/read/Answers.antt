use Rattle.std.proofs.Common.{length, sym, ap, ◌∙◌}
use Rattle.stores.specs.Meaning.{Meaning}
use Rattle.stores.proofs.Asked.{asked_capacity}
use Rattle.readers.specs.declared.read.Reading.{Reading}
use Rattle.readers.specs.Tracing.{trace_by}
use Rattle.taps.proofs.Refused.{long_packet, few_marks, nothing_loaded}
use Rattle.taps.proofs.Reading.{none_loaded, read_refused, read_walked, marks_have_fields}
use Rattle.taps.proofs.tap.Tap.read.Goals as goal

pub returns-then-packet-gt-MOST_PACKET-clause-follows : goal.returns-then-packet-gt-MOST_PACKET-clause-follows
returns-then-packet-gt-MOST_PACKET-clause-follows g c = λ p f.
    read_refused g.S.Store.meaning c.args.self.now c.args.packet.now c.args.marks.now p f _
    (long_packet (length c.args.packet.now) (length c.args.marks.now) p.loaded c.if-packet-gt-MOST_PACKET.true)

pub returns-then-marks-lt-MOST_MARKS-clause-follows : goal.returns-then-marks-lt-MOST_MARKS-clause-follows
returns-then-marks-lt-MOST_MARKS-clause-follows g c = λ p f.
    read_refused g.S.Store.meaning c.args.self.now c.args.packet.now c.args.marks.now p f _
    (few_marks (length c.args.packet.now) (length c.args.marks.now) p.loaded c.if-packet-gt-MOST_PACKET.false c.if-marks-lt-MOST_MARKS.true)

pub returns-in_default-clause-follows : goal.returns-in_default-clause-follows
returns-in_default-clause-follows g c = λ p f.
    read_refused g.S.Store.meaning c.args.self.now c.args.packet.now c.args.marks.now p f _
    (nothing_loaded (length c.args.packet.now) (length c.args.marks.now) p.loaded c.if-packet-gt-MOST_PACKET.false c.if-marks-lt-MOST_MARKS.false
    (none_loaded p.loaded c.args.self.now.inner.program _ f.loaded c.in_default.is))

pub returns-clause-follows : goal.returns-clause-follows
returns-clause-follows g c = λ p f.
    let h = c.read-reading.ensures in
    let qs = (trace_by c.in-Some.program (g.S.Store.meaning c.args.self.now.inner.store).rows c.args.packet.now).questions in
    read_walked g.S.Store.meaning c.args.self.now c.args.packet.now c.args.marks.now p f c.in-Some.program c.in-Some.is c.read-reading.new.store c.count.new.self
    c.read-reading.new.marks qs c.read-reading.result h.asked h.read c.count.ensures.counts c.count.ensures.rest c.if-packet-gt-MOST_PACKET.false c.if-marks-lt-MOST_MARKS.false

pub returns-clause-store : goal.returns-clause-store
returns-clause-store g c =
    let h = c.read-reading.ensures in
    record {
      questions = (trace_by c.in-Some.program (g.S.Store.meaning c.args.self.now.inner.store).rows c.args.packet.now).questions;
      many = sym (ap (λ (r : Reading). r.questions) h.is);
      after = ap g.S.Store.meaning c.count.ensures.rest.store ∙ h.asked;
    }

pub returns-clause-capacity : goal.returns-clause-capacity
returns-clause-capacity g c =
    let meaning = g.S.Store.meaning in
    let m = meaning c.args.self.now.inner.store in
    let h = c.read-reading.ensures in
    ap (λ (x : Meaning). x.capacity) (ap meaning c.count.ensures.rest.store ∙ h.asked)
    ∙ asked_capacity m (trace_by c.in-Some.program m.rows c.args.packet.now).questions

pub returns-clause-fields : goal.returns-clause-fields
returns-clause-fields g c = λ p f.
    let h = c.read-reading.ensures in
    let qs = (trace_by c.in-Some.program (g.S.Store.meaning c.args.self.now.inner.store).rows c.args.packet.now).questions in
    marks_have_fields g.S.Store.meaning c.args.self.now c.args.packet.now c.args.marks.now p f c.in-Some.program c.in-Some.is c.read-reading.new.store c.count.new.self
    c.read-reading.new.marks qs c.read-reading.result h.asked h.read c.count.ensures.counts c.count.ensures.rest c.if-packet-gt-MOST_PACKET.false c.if-marks-lt-MOST_MARKS.false
