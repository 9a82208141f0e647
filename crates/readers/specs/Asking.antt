-- What a turn asks by what a program says of its node, and what its answer comes to. The steps are the program's own, as in `Tracing`:
-- what they mean is said by `ReadAs` in `Reading`, which is the one to be believed
use Rattle.std.specs.Prelude.{◌≡◌, ℕ, ◌+◌, min, Bool, false, if◌then◌else◌, List, [], ◌∷◌, ◌++◌, length, Some, None, Ok, Err, Option, Result, nat_le}
use Rattle.headers.specs.declared.mark.Mark.{Mark}
use Rattle.patterns.specs.declared.row.Target.{Target}
use Rattle.stores.specs.declared.question.Question.{Question}
use Rattle.plans.specs.Chains.{nodes_of}
use Rattle.walks.specs.declared.outcome.Ending.{Ending}
use Rattle.walks.specs.declared.outcome.Outcome.{Outcome}
use Rattle.walks.specs.Outcomes.{outcome}
use Rattle.walks.specs.Rows.{chain_base, question}
use Rattle.walks.specs.Turning.{refusal_where}
use Rattle.walker.specs.Steps.{step_at}
use Rattle.walker.specs.declared.step.Step.{Step}
use Rattle.compiler.specs.declared.program.Head.{Head}
use Rattle.compiler.specs.declared.program.Program.{Program}
use Rattle.compiler.specs.Held.{held}
use Rattle.compiler.specs.Programs.{head_at, head_view}
use Rattle.readers.specs.declared.turn.Asked.{Asked}
use Rattle.readers.specs.declared.turn.Turn.{Turn}
use Rattle.readers.specs.declared.turn.Passed.{Passed}
use Rattle.readers.specs.Fronts.{Written}
use Rattle.readers.specs.Headers.{bytes_at, end_of, marks_by}

-- a question of a turn, and the nodes behind the turn's own that it is over
pub record Look : Type 0 where
  pub question : Question
  pub behind : List ℕ

-- such a look
abbrev pub look : Question → List ℕ → Look
look q ns = record { question = q; behind = ns }

-- what a turn answers, its slice as a list
abbrev pub look_of : Result Asked Outcome → Result Look Outcome
look_of (Ok a) = Ok (look a.question a.behind.now)
look_of (Err o) = Err o

-- there is a chain, and a packet of so many bytes has the window's bytes left
abbrev pub wide : List ℕ → (at window size : ℕ) → Bool
wide [] at window size = false
wide (c ∷ cs) at window size = nat_le (at + window) size

module _ (p : List ℕ) (n at : ℕ) where
  -- the outcome of a reading that stops at the header of node n: an offset above 65,535 is told as that
  abbrev pub stopped_at : Ending → Outcome
  stopped_at e = outcome e n (min at 65535)

  -- one look at the node and its chain
  abbrev pub look_ahead : Head → Look
  look_ahead h = look (question (chain_base + n) (bytes_at p at (held h.lookups))) (nodes_of h.chain)

  -- one at the node alone, where none of the three checks refuses its header
  abbrev pub look_alone : Head → Option Ending → Result Look Outcome
  look_alone h (Some e) = Err (stopped_at e)
  look_alone h None = Ok (look (question n (bytes_at p at (head_view h).places)) [])

  -- the question of node n's turn at an offset, or the outcome of a turn that asks none, by what a head says of the node: where it
  -- has a chain and the packet the window's bytes left, the question is over both
  abbrev pub asked_by : Head → Result Look Outcome
  asked_by h =
      if wide (nodes_of h.chain) at h.window (length p) then Ok (look_ahead h)
      else look_alone h (refusal_where (nat_le (at + h.needs) (length p)) p at h.minimum h.length)

-- by what a program says of it
abbrev pub turn_asks : Program → (p : List ℕ) (n at : ℕ) → Result Look Outcome
turn_asks program p n at = asked_by p n at (head_at program n)

-- the last of marks
abbrev pub last_of : List Mark → Mark
last_of [] = record { node = 0; kind = 0; offset = 0; length = 0 }
last_of (m ∷ []) = m
last_of (m ∷ n ∷ ms) = last_of (n ∷ ms)

-- where a target leads behind the last of marks: on at 65,535 if that is further
abbrev pub step_behind : List Mark → Option Target → Step
step_behind ms t = step_at (last_of ms) t (min (end_of (last_of ms)) 65535)

-- the headers of a turn's node and of these nodes behind it, marked
abbrev pub marks_of : Turn → List ℕ → List Mark
marks_of t behind = marks_by t.program.now t.packet.now (t.node ∷ behind) t.at

-- those marks stand behind the ones that stood at the front, and the target leads on behind the last of them
pub record Passes (t : Turn) (behind : List ℕ) (target : Option Target) (old : List Mark) (from : ℕ) (new : List Mark) (r : Passed) : Type 0 where
  pub marks : (before ws : List Mark) → Written before old from ws → Written before new r.marks (ws ++ marks_of t behind)
  pub leads : r.step ≡ step_behind (marks_of t behind) target
