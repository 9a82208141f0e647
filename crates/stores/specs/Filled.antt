-- What filling answers, and what it leaves.
use Rattle.std.specs.Prelude.{◌-◌, cond, List, ◌++◌, map, length, take, Ok, Err, Result, nat_le}
use Rattle.stores.specs.declared.question.Row.{Row}
use Rattle.stores.specs.declared.fault.StoreFault.{StoreFault}
use Rattle.stores.specs.declared.fault.StoreFault.TheVariants.{Full}
use Rattle.stores.specs.Fits.{fits}
use Rattle.stores.specs.Meaning.{Meaning, holding}

-- refused exactly if the rows are more than are taken
abbrev pub all_taken : Meaning → List Row → Result (Unit {0}) StoreFault
all_taken m rows = cond (nat_le (length rows) m.takes) (Ok tt) (Err Full)

-- as many of the rows as are taken stand behind those that were there. The rows appended one after the other come to the same (`filled_each` in proofs/Fills)
abbrev pub filled : Meaning → List Row → Meaning
filled m rows = holding m (m.rows ++ map fits (take m.takes rows)) (m.takes - length rows)
