-- The first that is found.
use Rattle.std.specs.Option.{option_or}
use Rattle.std.specs.Prelude.{ℕ, zero, suc, ◌+◌, Bool, cond, Some, None, Ok, Err, Option, Result}

-- the first answer of f among k places from i on
abbrev pub first_told : {X : Type 0} → (ℕ → Option X) → ℕ → ℕ → Option X
first_told f i zero = None
first_told f i (suc k) = option_or (f i) (first_told f (i + 1) k)

-- what is said where a test fails
abbrev pub unless : {X : Type 0} → Bool → X → Option X
unless b x = cond b None (Some x)

-- the fault that an answer holds
abbrev pub fault_of : {X E : Type 0} → Result X E → Option E
fault_of (Ok x) = None
fault_of (Err e) = Some e

-- the fault, or else the value
abbrev pub unless_fault : {X E : Type 0} → Option E → X → Result X E
unless_fault None x = Ok x
unless_fault (Some e) x = Err e
