-- What an accepted load leaves is sound.
use Rattle.std.proofs.Common.{◌≡◌, ℕ, ◌<◌, List, Some, None, Ok, Option, sym, refl, subst, slice_index}
use Rattle.refusals.specs.Searching.{unless_fault}
use Rattle.refusals.specs.Least.{NotAfter, Answers}
use Rattle.refusals.proofs.Lowest.{Lowest}
use Rattle.headers.specs.Table.{minimum}
use Rattle.graph_reader.specs.declared.fault.ReadFault.{ReadFault}
use Rattle.graph_reader.specs.declared.fault.ReadFault.TheVariants as read
use Rattle.graph_reader.specs.Encoding.{encode}
use Rattle.graph_reader.specs.Faults.{of_read}
use Rattle.graph_reader.specs.Refusals.{Applies}
use Rattle.graph_reader.specs.Decoding.{nodes_in}
use Rattle.graph_reader.specs.Reading.{read_fault, reading}
use Rattle.graph_reader.proofs.Refused.{answered}
use Rattle.walks.specs.Plans.{Lawful}
use Rattle.walks.specs.Theorems.{Accepted}
use Rattle.plans.specs.declared.fault.PlanFault.{PlanFault}
use Rattle.plans.specs.Chains.{chain_in}
use Rattle.plans.specs.Faults.{of_plan}
use Rattle.plans.specs.Refusals.{PlanApplies}
use Rattle.plans.specs.Checking.{plan_fault}
use Rattle.plans.proofs.Refused.{plan_lowest, lawful}
use Rattle.compiler.specs.declared.fault.LoadFault.{LoadFault}
use Rattle.compiler.specs.declared.fault.LoadFault.TheVariants.{File, Graph, Plan}
use Rattle.compiler.specs.Loading.{LoadApplies}
use Rattle.taps.specs.Plain.{GraphAndPlan, PlainTap, said_by, LoadAnswers, LoadLeaves}
use Rattle.taps.specs.Plain.LoadLeaves.{accepted}
use Rattle.taps.specs.Laws.{LoadsAreSound}

module _ (file plan : List ℕ) (capacity : ℕ) (none : (e : LoadFault) → LoadApplies minimum file plan capacity e → ⊥) where
  -- the file is read as the graph that it says
  is_read : ((i : ℕ) → slice_index file i < 256) → reading minimum file ≡ Ok (nodes_in file)
  is_read bytes = go (read_fault minimum file) (answered minimum file bytes (reading minimum file) refl)
    where
      go : (o : Option ReadFault) → Answers of_read (Applies minimum file) (λ nodes. encode nodes ≡ file) (unless_fault o (nodes_in file))
          → unless_fault o (nodes_in file) ≡ Ok (nodes_in file)
      go None h = refl
      go (Some (read.File e)) h = absurd (none (File e) h.applies)
      go (Some (read.Graph e)) h = absurd (none (Graph e) h.applies)

  -- and the plan keeps its rules
  rules_kept : Lawful (nodes_in file) (chain_in plan)
  rules_kept = lawful (nodes_in file) plan (go (plan_fault (nodes_in file) plan) (plan_lowest (nodes_in file) plan))
    where
      go : (o : Option PlanFault) → Lowest (λ e d. NotAfter (of_plan e) (of_plan d)) (PlanApplies (nodes_in file) plan) o → o ≡ None
      go None h = refl
      go (Some e) h = absurd (none (Plan e) h.0)

sound_after : (p : PlainTap) {q : PlainTap} {file plan : List ℕ} (capacity : ℕ) → ((i : ℕ) → slice_index file i < 256) → LoadAnswers file plan capacity (Ok tt)
    → LoadLeaves p file plan (Ok tt) q → (k : GraphAndPlan) → q.loaded ≡ Some k → Accepted minimum k.graph × Lawful k.graph k.chain
sound_after p {file = file} {plan} capacity bytes answers accepted k there =
    let read : Accepted minimum (nodes_in file) = record { file = file; bytes = bytes; read = is_read file plan capacity answers.0 bytes } in
    let one : said_by file plan ≡ k = cc in
    subst (λ (z : GraphAndPlan). Accepted minimum z.graph × Lawful z.graph z.chain) one (read, rules_kept file plan capacity answers.0)

pub loads_sound : LoadsAreSound
loads_sound p q file plan capacity bytes load k there = sound_after p capacity bytes load.answers load.leaves k there
