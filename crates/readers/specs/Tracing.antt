-- What a packet is read as by any program and any rows, also where they stand for no graph and no plan. The steps are the program's
-- own: what they mean is said by `ReadAs` in `Reading`, which is the one to be believed
use Rattle.std.specs.Prelude.{ℕ, zero, suc, min, Bool, List, [], ◌∷◌, length, take, Ok, Err, Result}
use Rattle.headers.specs.declared.mark.Mark.{Mark}
use Rattle.stores.specs.declared.question.Question.{Question}
use Rattle.stores.specs.Meaning.{answer}
use Rattle.walks.specs.declared.action.Action.{Action}
use Rattle.walks.specs.declared.outcome.Ending.TheVariants.{Done}
use Rattle.walks.specs.declared.outcome.Outcome.{Outcome}
use Rattle.walks.specs.Rows.{action_at}
use Rattle.walks.specs.Turns.{settled}
use Rattle.walks.specs.Turning.{Trace, trace, ahead}
use Rattle.walker.specs.declared.step.Step.{Step}
use Rattle.walker.specs.declared.step.Step.TheVariants.{Stop, Last, On}
use Rattle.compiler.specs.declared.program.Program.{Program}
use Rattle.compiler.specs.Held.{held}
use Rattle.readers.specs.declared.read.Reading.{Reading}
use Rattle.readers.specs.Headers.{marks_by}
use Rattle.readers.specs.Asking.{Look, stopped_at, turn_asks, step_behind}

-- where a step leads, `next` being the turns from a node and an offset on
abbrev pub trace_after : (ℕ → ℕ → Trace) → Step → Trace
trace_after next (Stop o) = trace [] o []
trace_after next (Last m o) = trace [] o []
trace_after next (On m n at) = next n at

module _ (program : Program) (rows : List (Question → Bool)) (p : List ℕ) where
  -- what a question is answered: the action beside the first row that fits; that of no fitting row passes no header beyond the
  -- first and leads nowhere
  abbrev pub action_by : Question → Action
  action_by q = settled (action_at (held program.actions) (answer rows q))

  -- the headers that an action passes, marked: that of the turn's node, and as many of those behind it
  abbrev pub passed_by : (n at : ℕ) → Look → Action → List Mark
  passed_by n at l a = marks_by program p (n ∷ take a.beyond l.behind) at

  -- a turn that asks, from its answer on
  abbrev pub answered_by : (ℕ → ℕ → Trace) → (n at : ℕ) → Look → Action → Trace
  answered_by next n at l a = ahead (passed_by n at l a) (l.question ∷ []) (trace_after next (step_behind (passed_by n at l a) a.target))

  -- a turn, from what it asks on; one that asks none ends the reading
  abbrev pub turn_trace : (ℕ → ℕ → Trace) → (n at : ℕ) → Result Look Outcome → Trace
  turn_trace next n at (Err o) = trace [] o []
  turn_trace next n at (Ok l) = answered_by next n at l (action_by l.question)

  -- so many turns at most, from node n at an offset on. Each target of a graph is a later node, so only a made-up program runs out
  -- of turns: then it is done where it stands
  abbrev pub turns_by : (turns n at : ℕ) → Trace
  turns_by zero n at = trace [] (stopped_at p n at Done) []
  turns_by (suc f) n at = turn_trace (turns_by f) n at (turn_asks program p n at)

  -- from node 0 at offset 0 on, in at most as many turns as the program has nodes
  unfoldable pub trace_by : Trace
  trace_by = turns_by (length (held program.heads)) 0 0

-- what is answered of a trace where so many marks are lent: a mark that has no place is left out, and not counted
abbrev pub reading_of : Trace → ℕ → Reading
reading_of t lent = record { outcome = t.outcome; marks = min (length t.marks) lent; questions = length t.questions }
