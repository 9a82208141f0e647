use Rattle.std.proofs.Common.{◌≡◌, ◌++◌, length, take, drop, replicate, refl, ap, ◌∙◌, arith, rules}
use Rattle.std.proofs.lemmas.List.{length-take-le}
use Rattle.headers.specs.declared.mark.Mark.{Mark}
use Rattle.chost.specs.Called.{answer_of, area_after}
use Rattle.chost.specs.Once.{refused_by, reading_of}
use Rattle.chost.proofs.Reading.{fault_is}
use Rattle.chost.proofs.Alike.{behind, front_laid, called_alike}
use Rattle.chost.proofs.tap_read.Goals as goal

abbrev blank : Mark
blank = record { node = 0; kind = 0; offset = 0; length = 0 }

pub returns-clause-refused : goal.returns-clause-refused
returns-clause-refused c = λ e h.
    let none = replicate 32 blank in
    let size : length (take c.room.result none) ≡ c.room.result = length-take-le c.room.result none (omega (arith, c.room.ensures)) in
    let read = c.read_once-answer in
    let is = read.ensures.is ∙ ap (refused_by c.args.graph.now c.args.plan.now (length c.args.packet.now)) (size ∙ c.room.ensures) in
    let answer = fault_is read.result e (is ∙ h) in
    (c.tell.ensures.answer ∙ ap answer_of answer, c.tell.ensures.area ∙ ap (λ r. area_after r (read.new.marks ++ drop c.room.result none) c.args.area.now) answer)

pub returns-clause-read : goal.returns-clause-read
returns-clause-read c = λ clear ms o qs by.
    let none = replicate 32 blank in
    let size : length (take c.room.result none) ≡ c.room.result = length-take-le c.room.result none (omega (arith, c.room.ensures)) in
    let read = c.read_once-answer in
    let same = ap (refused_by c.args.graph.now c.args.plan.now (length c.args.packet.now)) (size ∙ c.room.ensures) in
    let all = read.new.marks ++ drop c.room.result none in
    let answer = read.ensures.read (same ∙ clear) ms o qs by in (
      c.tell.ensures.answer ∙ ap answer_of answer.is,
      c.tell.ensures.area ∙ ap (λ r. area_after r all c.args.area.now) answer.is
          ∙ front_laid (reading_of ms o qs) ms read.new.marks (drop c.room.result none) c.args.area.now refl answer.front,
    )

pub returns-clause-called : goal.returns-clause-called
returns-clause-called c =
    let none = replicate 32 blank in
    let lent = take c.room.result none in
    let read = c.read_once-answer in
    let size : length lent ≡ c.room.result = length-take-le c.room.result none (omega (arith, c.room.ensures)) in
    let same : length read.new.marks ≡ length lent = search rules in
    record {
      lent = lent;
      marks = read.new.marks;
      result = read.result;
      room_lent = size ∙ c.room.ensures;
      once = read.ensures.once;
      answered = c.tell.ensures.answer;
      left = c.tell.ensures.area ∙ behind read.result (length lent) read.new.marks (drop c.room.result none) c.args.area.now read.ensures.lent same;
    }

pub returns-clause-only : goal.returns-clause-only
returns-clause-only c = λ other after called.
    called_alike c.args.graph.now c.args.plan.now c.args.packet.now c.args.area.now (returns-clause-called c) called
