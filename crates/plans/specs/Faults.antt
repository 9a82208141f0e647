-- The number, layer and place of each fault of a plan.
use Rattle.refusals.specs.declared.refusal.Refusal.{Refusal}
use Rattle.refusals.specs.declared.refusal.Layer.TheVariants as layer
use Rattle.plans.specs.declared.fault.PlanFault.{PlanFault}
use Rattle.plans.specs.declared.fault.PlanFault.TheVariants.{Shape, Rule}

-- 7 and 8, at a node
abbrev pub of_plan : PlanFault → Refusal
of_plan (Shape n) = record { number = 7; layer = layer.Plan; first = n; second = 0 }
of_plan (Rule n) = record { number = 8; layer = layer.Plan; first = n; second = 0 }
