-- The plain tap, and how each of its calls is answered.
use Rattle.std.specs.Prelude.{◌≡◌, ℕ, ◌≤◌, List, [], ◌++◌, length, drop, Some, None, Ok, Err, Option, Result}
use Rattle.refusals.specs.Least.{Least, Answers}
use Rattle.headers.specs.declared.mark.Mark.{Mark}
use Rattle.headers.specs.Table.{minimum}
use Rattle.graphs.specs.View.{NodeView}
use Rattle.graph_reader.specs.Decoding.{nodes_in}
use Rattle.stores.specs.declared.question.Question.{Question}
use Rattle.walks.specs.declared.outcome.Outcome.{Outcome}
use Rattle.walks.specs.Walk.{PlainWalk}
use Rattle.walks.specs.Rows.{Plan}
use Rattle.walks.specs.Turns.{Reads}
use Rattle.plans.specs.Chains.{chain_in}
use Rattle.compiler.specs.declared.fault.LoadFault.{LoadFault}
use Rattle.compiler.specs.Faults.{of_load}
use Rattle.compiler.specs.Loading.{LoadApplies}
use Rattle.readers.specs.declared.read.Reading.{Reading}
use Rattle.taps.specs.declared.fault.PacketFault.{PacketFault}
use Rattle.taps.specs.Faults.{of_packet, PacketApplies}
use Rattle.taps.specs.Counts.{Counts, no_counts, counted}

-- a graph, and a plan for it
pub record GraphAndPlan : Type 0 where
  pub graph : List NodeView
  pub chain : Plan

-- the graph and plan last accepted, and all that was ever counted
pub record PlainTap : Type 0 where
  pub loaded : Option GraphAndPlan
  pub counts : Counts

-- nothing loaded, nothing counted
abbrev pub fresh : PlainTap
fresh = record { loaded = None; counts = no_counts }

abbrev pub loading : GraphAndPlan → PlainTap → PlainTap
loading l p = record { loaded = Some l; counts = p.counts }

abbrev pub counting : Counts → PlainTap → PlainTap
counting c p = record { loaded = p.loaded; counts = c }

-- the graph that a file says, and the plan that bytes say
abbrev pub said_by : (file plan : List ℕ) → GraphAndPlan
said_by file plan = record { graph = nodes_in file; chain = chain_in plan }

-- What a load is refused for, where the store has some capacity: the least of 1 to 9 that applies. It is accepted exactly where none does
abbrev pub LoadAnswers : (file plan : List ℕ) (capacity : ℕ) → Result (Unit {0}) LoadFault → Type 0
LoadAnswers file plan capacity r = Answers of_load (LoadApplies minimum file plan capacity) (λ u. Unit {0}) r

-- What a load leaves: nothing changes where it is refused; where it is accepted, the file's graph and the plan are what is loaded
pub data LoadLeaves (p : PlainTap) (file plan : List ℕ) : Result (Unit {0}) LoadFault → PlainTap → Type 0 where
  refused : {e : LoadFault} → LoadLeaves p file plan (Err e) p
  accepted : LoadLeaves p file plan (Ok tt) (loading (said_by file plan) p)

-- A load: what is answered, and the plain tap after it
pub record PlainLoad (p : PlainTap) (file plan : List ℕ) (capacity : ℕ) (r : Result (Unit {0}) LoadFault) (next : PlainTap) : Type 0 where
  pub answers : LoadAnswers file plan capacity r
  pub leaves : LoadLeaves p file plan r next

-- a packet is told as the plain walk through the graph walks it, and there is no other walk of it
pub record Tells (l : GraphAndPlan) (packet : List ℕ) (ms : List Mark) (qs : List Question) (r : Reading) : Type 0 where
  pub walks : PlainWalk minimum l.graph packet ms r.outcome
  pub only : (ns : List Mark) (o : Outcome) → PlainWalk minimum l.graph packet ns o → (ns ≡ ms) × (o ≡ r.outcome)
  pub marks : r.marks ≡ length ms
  -- the turns over the rows of graph and plan put these questions, and as many are told: at most as many as the marks, which are at
  -- most 32, and as many where the plan has no chains
  pub turns : Reads minimum l.graph l.chain packet ms r.outcome qs
  pub questions : r.questions ≡ length qs
  pub few : (r.questions ≤ r.marks) × (r.marks ≤ 32)
  pub plainly : ((n : ℕ) → l.chain n ≡ []) → r.questions ≡ r.marks

-- A read of a packet, where some marks are lent: what is answered, the marks after it, the questions that are put, and the plain tap
-- after it. Refused by the least of 10 to 12 that applies, and then nothing changes and nothing is asked; where none applies, the
-- walk's marks stand in order at the front, those behind are as before, and the read is counted
pub data PlainRead (p : PlainTap) (packet : List ℕ) (before : List Mark) : Result Reading PacketFault → List Mark → List Question → PlainTap → Type 0 where
  refused : {e : PacketFault} → Least of_packet (PacketApplies (length packet) (length before) p.loaded) e → PlainRead p packet before (Err e) before [] p
  walked : {l : GraphAndPlan} {ms : List Mark} {qs : List Question} {r : Reading} → ((e : PacketFault) → PacketApplies (length packet) (length before) p.loaded e → ⊥)
      → p.loaded ≡ Some l → Tells l packet ms qs r → PlainRead p packet before (Ok r) (ms ++ drop (length ms) before) qs (counting (counted ms r.outcome.ending p.counts) p)
