use Rattle.std.proofs.Common.{ap₂}
use Rattle.stores.specs.declared.state.State.{State}
use Rattle.stores.specs.declared.question.Question.{Question}
use Rattle.readers.proofs.Stating.{made_state}
use Rattle.readers.proofs.turn.Turn.asked.Goals as goal

pub returns-clause-question : goal.returns-clause-question
returns-clause-question c =
    ap₂ (λ (s : State) k. let q : Question = record { state = s; key = k } in q)
    (made_state c.args.state c.new.result c.unwrap-state.result c.unwrap-state.ensures c.new.ensures)
    c.key-key.ensures
