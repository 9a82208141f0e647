-- What a store's fault tells.
use Rattle.refusals.specs.declared.refusal.Layer.TheVariants.{Store}
use Rattle.refusals.specs.declared.refusal.Refusal.{Refusal}
use Rattle.stores.specs.declared.fault.StoreFault.{StoreFault}
use Rattle.stores.specs.declared.fault.StoreFault.TheVariants.{Full}

-- number, layer and place: a full store refuses by 9, at place 0
abbrev pub of_store : StoreFault → Refusal
of_store Full = record { number = 9; layer = Store; first = 0; second = 0 }
