-- What a list in fixed memory holds.
use Rattle.std.specs.Prelude.{ℕ, List, take}
use Rattle.compiler.specs.declared.few.Few.{Few}

-- the items that the count names, in order
abbrev pub held : {T : Type 0} → {N : ℕ} → Few T N → List T
held f = take f.count f.items
