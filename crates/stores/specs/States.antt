-- What is said of a number that is no state's.
use Rattle.std.specs.Prelude.{ℕ, List, ◌++◌, codes, decimal}
use Rattle.stores.specs.declared.state.NoState.{NoState}

-- the refused number, as text
abbrev pub no_state_text : NoState → List ℕ
no_state_text refused = decimal refused.number ++ codes " is no state: a state is below 64"
