-- The turns as a function, turn by turn. `Turns` says the same as a relation.
use Rattle.std.specs.Prelude.{ℕ, zero, suc, ◌+◌, Bool, true, false, ◌&&◌, List, [], ◌∷◌, ◌++◌, length, Some, None, Option, nat_le, nat_lt}
use Rattle.headers.specs.declared.kinds.Kind.{Kind}
use Rattle.headers.specs.declared.mark.Mark.{Mark}
use Rattle.patterns.specs.declared.row.Target.{Target}
use Rattle.patterns.specs.declared.row.Target.TheVariants as to
use Rattle.graphs.specs.declared.graph.Length.{Length}
use Rattle.graphs.specs.View.{NodeView, node_at}
use Rattle.stores.specs.declared.question.Question.{Question}
use Rattle.walks.specs.declared.action.Action.{Action}
use Rattle.walks.specs.declared.outcome.Ending.{Ending}
use Rattle.walks.specs.declared.outcome.Ending.TheVariants.{Done, Cut, Short, Unfit, Dropped}
use Rattle.walks.specs.declared.outcome.Outcome.{Outcome}
use Rattle.walks.specs.Outcomes.{outcome}
use Rattle.walks.specs.Walk.{length_places, measured, past, key_at, finished}
use Rattle.walks.specs.Rows.{Plan, chain_base, question, store_rows, answer_by}
use Rattle.walks.specs.Plans.{window}
use Rattle.walks.specs.Turns.{settled, keys_at, passed, last_at, last_node}

-- what a packet is read as: marks, outcome, and the questions put
pub record Trace : Type 0 where
  pub marks : List Mark
  pub outcome : Outcome
  pub questions : List Question

abbrev pub trace : List Mark → Outcome → List Question → Trace
trace ms o qs = record { marks = ms; outcome = o; questions = qs }

-- more marks and questions before those of a trace
abbrev pub ahead : List Mark → List Question → Trace → Trace
ahead ms qs t = trace (ms ++ t.marks) t.outcome (qs ++ t.questions)

-- The three checks of a header as tests. `Refused` in `Walk` says them in words and is the one to be believed: that these find the
-- same is proved

-- each of the places, counted from an offset on, lies in the packet
abbrev pub held : List ℕ → ℕ → List ℕ → Bool
held p at [] = true
held p at (i ∷ is) = nat_lt (at + i) (length p) && held p at is

-- the three checks, in their order, from what each of them found
abbrev pub checked : (held_all short over : Bool) → Option Ending
checked false short over = Some Cut
checked true true over = Some Short
checked true false true = Some Cut
checked true false false = None

-- how the header at an offset is refused, if it is, where all or not all of the bytes that it is read by lie in the packet
abbrev pub refusal_where : Bool → (p : List ℕ) (at minimum : ℕ) → Length → Option Ending
refusal_where held_all p at minimum len = checked held_all (nat_lt (measured len p at) minimum) (nat_lt (length p) (at + measured len p at))

-- by its kind's minimum, its length rule and its lookup places
abbrev pub header_refusal : (p : List ℕ) (at minimum : ℕ) → Length → List ℕ → Option Ending
header_refusal p at minimum len places = refusal_where (held p at (places ++ length_places len)) p at minimum len

module _ (minimum : Kind → ℕ) (put : Question → Option Action) (g : List NodeView) (p : List ℕ) where
  -- how the header of node n is refused, if it is
  abbrev pub refusal : ℕ → ℕ → Option Ending
  refusal n at = header_refusal p at (minimum (node_at g n).kind) (node_at g n).len (node_at g n).places

  -- what follows the last header passed; `next` is the turns from a node on
  abbrev pub follow : (ℕ → ℕ → Trace) → ℕ → ℕ → Option Target → Trace
  follow next n at None = trace [] (outcome Unfit n at) []
  follow next n at (Some to.Dropped) = trace [] (outcome Dropped n at) []
  follow next n at (Some to.Done) = trace [] (finished g p n at) []
  follow next n at (Some (to.Node m)) = next m (past g p n at)

  -- one question at node n, over the nodes cs behind it, that was answered by an action
  abbrev pub answered : (ℕ → ℕ → Trace) → ℕ → List ℕ → ℕ → Question → Action → Trace
  answered next n cs at q a = ahead (passed g p a.beyond n cs at) (q ∷ []) (follow next (last_node a.beyond n cs) (last_at g p a.beyond n cs at) a.target)

  abbrev pub asking : (ℕ → ℕ → Trace) → ℕ → List ℕ → ℕ → Question → Trace
  asking next n cs at q = answered next n cs at q (settled (put q))

  -- a turn at a node without a chain or without the window's bytes: after the checks, one question for the state n
  abbrev pub single : (ℕ → ℕ → Trace) → ℕ → ℕ → Option Ending → Trace
  single next n at (Some e) = trace [] (outcome e n at) []
  single next n at None = asking next n [] at (question n (key_at g p n at))

  -- a turn, where the window's bytes are left or not
  abbrev pub turn_by : (ℕ → ℕ → Trace) → ℕ → List ℕ → ℕ → Bool → Trace
  turn_by next n cs at true = asking next n cs at (question (chain_base + n) (keys_at g p n cs at))
  turn_by next n cs at false = single next n at (refusal n at)

  abbrev pub turn : (ℕ → ℕ → Trace) → ℕ → List ℕ → ℕ → Trace
  turn next n [] at = turn_by next n [] at false
  turn next n (c ∷ cs) at = turn_by next n (c ∷ cs) at (nat_le (at + window g n (c ∷ cs)) (length p))

  -- the first number bounds the turns: targets are later nodes, so as many as there are nodes are enough
  abbrev pub turns : Plan → ℕ → ℕ → ℕ → Trace
  turns chain zero n at = trace [] (outcome Done n at) []
  turns chain (suc f) n at = turn (turns chain f) n (chain n) at

-- a packet read by the rows of graph and plan
unfoldable pub read_by : (Kind → ℕ) → List NodeView → Plan → List ℕ → Trace
read_by minimum g chain p = turns minimum (answer_by (store_rows g chain)) g p chain (length g) 0 0
