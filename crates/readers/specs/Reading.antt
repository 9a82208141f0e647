-- What a read promises.
use Rattle.std.specs.Prelude.{◌≡◌, ℕ, ◌≤◌, Bool, List, [], ◌++◌, map, length, drop}
use Rattle.headers.specs.declared.kinds.Kind.{Kind}
use Rattle.headers.specs.declared.mark.Mark.{Mark}
use Rattle.graphs.specs.View.{NodeView}
use Rattle.stores.specs.declared.question.Question.{Question}
use Rattle.stores.specs.Fits.{fits}
use Rattle.walks.specs.declared.outcome.Outcome.{Outcome}
use Rattle.walks.specs.Walk.{PlainWalk}
use Rattle.walks.specs.Rows.{Plan, StoreRow, store_rows}
use Rattle.walks.specs.Plans.{Lawful}
use Rattle.walks.specs.Turns.{Reads}
use Rattle.walks.specs.Theorems.{Accepted}
use Rattle.compiler.specs.declared.program.Program.{Program}
use Rattle.compiler.specs.Programs.{Stands}
use Rattle.readers.specs.declared.read.Reading.{Reading}

-- the graph is one that reading accepts, the plan keeps its rules, the program stands for both, and the store holds their rows
pub record Programmed (minimum : Kind → ℕ) (g : List NodeView) (chain : Plan) (program : Program) (rows : List (Question → Bool)) : Type 0 where
  pub accepted : Accepted minimum g
  pub lawful : Lawful g chain
  pub stands : Stands minimum program g chain
  pub holds : rows ≡ map (λ (r : StoreRow). fits r.row) (store_rows g chain)

-- the packet is read as the turns over the rows of graph and plan read it, with these questions, and so as the plain walk walks it
pub record ReadAs (minimum : Kind → ℕ) (g : List NodeView) (chain : Plan) (p : List ℕ) (before after : List Mark) (qs : List Question) (r : Reading) : Type 0 where
  -- the turns' marks stand at the front, and the marks behind them are as before; outcome and numbers are the turns' too
  pub ms : List Mark
  pub turns : Reads minimum g chain p ms r.outcome qs
  pub marks : r.marks ≡ length ms
  pub questions : r.questions ≡ length qs
  pub written : after ≡ ms ++ drop (length ms) before
  -- the plain walk has the same marks and the same outcome, and there is no other walk of the packet
  pub walks : PlainWalk minimum g p ms r.outcome
  pub only : (ns : List Mark) (o : Outcome) → PlainWalk minimum g p ns o → (ns ≡ ms) × (o ≡ r.outcome)
  -- questions are at most the marks, which are at most 32, and as many where the plan has no chains
  pub few : (r.questions ≤ r.marks) × (r.marks ≤ 32)
  pub plainly : ((n : ℕ) → chain n ≡ []) → r.questions ≡ r.marks
