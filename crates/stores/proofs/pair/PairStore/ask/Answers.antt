use Rattle.std.proofs.Common.{◌≡◌, ◌+◌, ◌%◌, length, sym, ap, ◌∙◌}
use Rattle.stores.specs.Paired.{paired, cut, behind}
use Rattle.stores.specs.Pairs.{answer_first, answer_second}
use Rattle.stores.proofs.pair.PairStore.ask.Goals as goal

pub returns-in-Some : goal.returns-in-Some
returns-in-Some g c =
    let s = c.args.self.now in
    let a = g.A.Store.meaning s.first in
    let b = g.B.Store.meaning s.second in
    record {
      answered = answer_first a b c.args.question.now c.in-Some.place (g.met.A.Store.bounded s.first).rows_fit (sym c.in-Some.ensures.answered);
      after = ap (λ m. paired m b ((s.questions + 1) % 18446744073709551616)) c.ask.ensures.after;
    }

pub returns-in-None : goal.returns-in-None
returns-in-None g c =
    let s = c.args.self.now in
    let a = g.A.Store.meaning s.first in
    let b = g.B.Store.meaning s.second in
    let held : c.held.result ≡ length a.rows = c.held.ensures ∙ ap (λ m. length m.rows) c.ask.ensures.after in
    record {
      answered = c.moved.ensures ∙ ap (λ n. cut 65535 (behind n c.ask-in-None.result)) held ∙ ap (λ o. cut 65535 (behind (length a.rows) o)) c.ask-in-None.ensures.answered ∙ answer_second a b c.args.question.now (sym c.in-None.ensures.answered);
      after = ap (λ m. paired m (g.B.Store.meaning c.ask-in-None.new.self) ((s.questions + 1) % 18446744073709551616)) c.ask.ensures.after ∙ ap (λ m. paired a m ((s.questions + 1) % 18446744073709551616)) c.ask-in-None.ensures.after;
    }
