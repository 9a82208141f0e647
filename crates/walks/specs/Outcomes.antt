-- How a walk ends, and the refusal that an ending is.
use Rattle.std.specs.Prelude.{ℕ, Some, None, Option}
use Rattle.refusals.specs.declared.refusal.Refusal.{Refusal}
use Rattle.refusals.specs.declared.refusal.Layer.TheVariants as layer
use Rattle.walks.specs.declared.outcome.Ending.{Ending}
use Rattle.walks.specs.declared.outcome.Ending.TheVariants.{Done, Cut, Short, Unfit, Dropped}
use Rattle.walks.specs.declared.outcome.Outcome.{Outcome}

-- the number of an ending: 0 for done
abbrev pub ending_number : Ending → ℕ
ending_number Done = 0
ending_number Cut = 13
ending_number Short = 14
ending_number Unfit = 15
ending_number Dropped = 16

-- a walk that ended so, at a node and an offset
abbrev pub outcome : Ending → ℕ → ℕ → Outcome
outcome e n at = record { ending = e; node = n; offset = at }

-- the refusal of the layer 'walk', at node and offset
abbrev pub stopped_by : ℕ → Outcome → Option Refusal
stopped_by number o = Some (record { number = number; layer = layer.Walk; first = o.node; second = o.offset })

-- each ending but done is a refusal
abbrev pub refused_by : Ending → Outcome → Option Refusal
refused_by Done o = None
refused_by Cut o = stopped_by (ending_number Cut) o
refused_by Short o = stopped_by (ending_number Short) o
refused_by Unfit o = stopped_by (ending_number Unfit) o
refused_by Dropped o = stopped_by (ending_number Dropped) o

abbrev pub of_outcome : Outcome → Option Refusal
of_outcome o = refused_by o.ending o
