-- The turns: a packet read by questions. `put` says what a question is answered: the action beside the first row that fits, or none.
use Rattle.std.specs.Prelude.{◌≡◌, ℕ, zero, suc, ◌+◌, ◌<◌, ◌≤◌, List, [], ◌∷◌, ◌++◌, length, Some, None, Option}
use Rattle.headers.specs.declared.kinds.Kind.{Kind}
use Rattle.headers.specs.declared.mark.Mark.{Mark}
use Rattle.patterns.specs.declared.row.Target.TheVariants as to
use Rattle.graphs.specs.View.{NodeView}
use Rattle.stores.specs.declared.question.Question.{Question}
use Rattle.walks.specs.declared.action.Action.{Action}
use Rattle.walks.specs.declared.outcome.Ending.{Ending}
use Rattle.walks.specs.declared.outcome.Ending.TheVariants.{Unfit, Dropped}
use Rattle.walks.specs.declared.outcome.Outcome.{Outcome}
use Rattle.walks.specs.Outcomes.{outcome}
use Rattle.walks.specs.Walk.{past, mark_at, key_at, finished, Refused, Header}
use Rattle.walks.specs.Rows.{Plan, chain_base, action, question, store_rows, answer_by}
use Rattle.walks.specs.Plans.{window}

-- no fitting row is as an action that passes no header beyond the first and leads nowhere
abbrev pub settled : Option Action → Action
settled None = action 0 None
settled (Some a) = a

module _ (g : List NodeView) (p : List ℕ) where
  -- the lookup bytes of node n and of the nodes behind it, each header right behind the one before
  abbrev pub keys_at : ℕ → List ℕ → ℕ → List ℕ
  keys_at n [] at = key_at g p n at
  keys_at n (c ∷ cs) at = key_at g p n at ++ keys_at c cs (past g p n at)

  -- the headers passed, marked: that of node n, and of k nodes behind it
  abbrev pub passed : ℕ → ℕ → List ℕ → ℕ → List Mark
  passed zero n cs at = mark_at g p n at ∷ []
  passed (suc k) n [] at = mark_at g p n at ∷ []
  passed (suc k) n (c ∷ cs) at = mark_at g p n at ∷ passed k c cs (past g p n at)

  -- where the last of them begins
  abbrev pub last_at : ℕ → ℕ → List ℕ → ℕ → ℕ
  last_at zero n cs at = at
  last_at (suc k) n [] at = at
  last_at (suc k) n (c ∷ cs) at = last_at k c cs (past g p n at)

-- and its node
abbrev pub last_node : ℕ → ℕ → List ℕ → ℕ
last_node zero n cs = n
last_node (suc k) n [] = n
last_node (suc k) n (c ∷ cs) = last_node k c cs

-- node n has no chain, or the packet has not the window's bytes left
abbrev pub Singly : List NodeView → Plan → List ℕ → ℕ → ℕ → Type 0
Singly g chain p n at = (c : ℕ) (cs : List ℕ) → chain n ≡ c ∷ cs → length p < at + window g n (c ∷ cs)

-- The question of a turn at node n, over the nodes cs behind it: with a chain and the window's bytes left, one for the state
-- chain_base + n; otherwise, after the three checks, one for the state n
pub data Asks (minimum : Kind → ℕ) (g : List NodeView) (chain : Plan) (p : List ℕ) (n : ℕ) (at : ℕ) : List ℕ → Question → Type 0 where
  chained : {c : ℕ} {cs : List ℕ} → chain n ≡ c ∷ cs → at + window g n (c ∷ cs) ≤ length p
      → Asks minimum g chain p n at (c ∷ cs) (question (chain_base + n) (keys_at g p n (c ∷ cs) at))
  singly : Singly g chain p n at → Header minimum g p n at → Asks minimum g chain p n at [] (question n (key_at g p n at))

-- The turns from node n at an offset on: marks, outcome, and the questions put, in order. The answer says how many headers are
-- passed, and these are marked; what it says next holds of the last of them
pub data Turns (minimum : Kind → ℕ) (put : Question → Option Action) (g : List NodeView) (chain : Plan) (p : List ℕ)
    : ℕ → ℕ → List Mark → Outcome → List Question → Type 0 where
  refused : {n : ℕ} {at : ℕ} {e : Ending} → Singly g chain p n at → Refused minimum g p n at e
      → Turns minimum put g chain p n at [] (outcome e n at) []
  unfit : {n : ℕ} {at : ℕ} {cs : List ℕ} {q : Question} {k : ℕ} → Asks minimum g chain p n at cs q → settled (put q) ≡ action k None
      → Turns minimum put g chain p n at (passed g p k n cs at) (outcome Unfit (last_node k n cs) (last_at g p k n cs at)) (q ∷ [])
  drops : {n : ℕ} {at : ℕ} {cs : List ℕ} {q : Question} {k : ℕ} → Asks minimum g chain p n at cs q → settled (put q) ≡ action k (Some to.Dropped)
      → Turns minimum put g chain p n at (passed g p k n cs at) (outcome Dropped (last_node k n cs) (last_at g p k n cs at)) (q ∷ [])
  ends : {n : ℕ} {at : ℕ} {cs : List ℕ} {q : Question} {k : ℕ} → Asks minimum g chain p n at cs q → settled (put q) ≡ action k (Some to.Done)
      → Turns minimum put g chain p n at (passed g p k n cs at) (finished g p (last_node k n cs) (last_at g p k n cs at)) (q ∷ [])
  on : {n m : ℕ} {at : ℕ} {cs : List ℕ} {q : Question} {k : ℕ} {ms : List Mark} {o : Outcome} {qs : List Question}
      → Asks minimum g chain p n at cs q → settled (put q) ≡ action k (Some (to.Node m))
      → Turns minimum put g chain p m (past g p (last_node k n cs) (last_at g p k n cs at)) ms o qs
      → Turns minimum put g chain p n at (passed g p k n cs at ++ ms) o (q ∷ qs)

-- a packet read by the rows of graph and plan: node 0 at offset 0 has the first turn
abbrev pub Reads : (Kind → ℕ) → List NodeView → Plan → List ℕ → List Mark → Outcome → List Question → Type 0
Reads minimum g chain p ms o qs = Turns minimum (answer_by (store_rows g chain)) g chain p 0 0 ms o qs
