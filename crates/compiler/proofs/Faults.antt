-- A fault of a load is known by what it tells.
use Rattle.std.proofs.Common.{◌≡◌, ℕ, cond, eqb, List, sym, refl, ap, ◌∙◌, ap₂}
use Rattle.refusals.specs.Least.{Least}
use Rattle.refusals.proofs.Ranking.{SamePlace, least_same}
use Rattle.headers.specs.declared.kinds.Kind.{Kind}
use Rattle.graphs.specs.declared.fault.GraphFault.TheVariants.{Target, Covered, Short}
use Rattle.graph_reader.specs.declared.fault.FileFault.TheVariants as file
use Rattle.plans.specs.declared.fault.PlanFault.TheVariants as plan
use Rattle.compiler.specs.declared.fault.LoadFault.{LoadFault}
use Rattle.compiler.specs.declared.fault.LoadFault.TheVariants.{File, Graph, Plan, TooMany, Store}
use Rattle.compiler.specs.Faults.{of_load}
use Rattle.compiler.specs.Loading.{LoadApplies}

-- the fault of a number and a place
abbrev fault_at : ℕ → ℕ → ℕ → LoadFault
fault_at n i k =
    cond (eqb n 1) (File file.Shape)
    (cond (eqb n 2) (File (file.Pair i))
    (cond (eqb n 3) (File (file.Byte i k))
    (cond (eqb n 4) (Graph (Target i k))
    (cond (eqb n 5) (Graph (Covered i k))
    (cond (eqb n 6) (Graph (Short i)) (cond (eqb n 7) (Plan (plan.Shape i)) (cond (eqb n 8) (Plan (plan.Rule i)) (TooMany i))))))))

module _ (minimum : Kind → ℕ) (f p : List ℕ) (capacity : ℕ) where
  -- the store's own fault never applies
  fault_back : (e : LoadFault) → LoadApplies minimum f p capacity e → fault_at (of_load e).number (of_load e).first (of_load e).second ≡ e
  fault_back (File file.Shape) h = refl
  fault_back (File (file.Pair i)) h = refl
  fault_back (File (file.Byte n b)) h = refl
  fault_back (Graph (Target n k)) h = refl
  fault_back (Graph (Covered n k)) h = refl
  fault_back (Graph (Short n)) h = refl
  fault_back (Plan (plan.Shape n)) h = refl
  fault_back (Plan (plan.Rule n)) h = refl
  fault_back (TooMany rows) h = refl
  fault_back (Store e) h = absurd h

  pub same_fault : (e d : LoadFault) → LoadApplies minimum f p capacity e → LoadApplies minimum f p capacity d → SamePlace (of_load e) (of_load d) → e ≡ d
  same_fault e d h k s =
      sym (fault_back e h) ∙ ap (λ n. fault_at n (of_load e).first (of_load e).second) s.number ∙ ap₂ (fault_at (of_load d).number) s.first s.second ∙ fault_back d k

  -- so a load has one least fault
  pub least_load_same : (e d : LoadFault) → Least of_load (LoadApplies minimum f p capacity) e → Least of_load (LoadApplies minimum f p capacity) d → e ≡ d
  least_load_same e d x y =
      same_fault e d x.applies y.applies (least_same of_load (LoadApplies minimum f p capacity) (LoadApplies minimum f p capacity) e d (λ z h. h) (λ z h. h) x y)
