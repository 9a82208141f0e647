-- What a listing's calls make of its meaning.
use Rattle.std.specs.Prelude.{◌≡◌, ℕ, ◌≤◌, List, map, length, take}
use Rattle.std.proofs.Common.{◌∙◌}
use Rattle.std.proofs.lemmas.List.{length-map, length-take-le}
use Rattle.stores.specs.declared.question.Row.{Row}
use Rattle.stores.specs.Fits.{fits}

pub length_listed : (rows : List Row) (held : ℕ) → held ≤ length rows → length (map fits (take held rows)) ≡ held
length_listed rows held h = length-map (take held rows) fits ∙ length-take-le held rows h
