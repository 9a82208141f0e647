-- A wiped store after all rows.
use Rattle.std.proofs.Common.{◌≡◌, ◌-◌, ◌≤◌, List, [], ◌∷◌, map, length, refl, sym, ap, ◌∙◌, ap₂, arith}
use Rattle.std.proofs.lemmas.List.{length-map}
use Rattle.stores.specs.Fits.{fits}
use Rattle.stores.specs.Meaning.{Meaning, holding, wiped, appended_each}
use Rattle.stores.proofs.Fills.{all_appended}
use Rattle.walks.specs.declared.action.Action.{Action}
use Rattle.walks.specs.Rows.{StoreRow}
use Rattle.compiler.specs.Sinks.{Line, line_of, Sink, sink, sunk}
use Rattle.compiler.specs.Loading.{storing}

fits_lines : (rs : List StoreRow) → map (λ (r : Line). r.fits) (map line_of rs) ≡ map (λ (r : StoreRow). fits r.row) rs
fits_lines [] = refl
fits_lines (r ∷ rs) = ap (λ xs. fits r.row ∷ xs) (fits_lines rs)

fits_rows : (rs : List StoreRow) → map fits (map (λ (r : StoreRow). r.row) rs) ≡ map (λ (r : StoreRow). fits r.row) rs
fits_rows [] = refl
fits_rows (r ∷ rs) = ap (λ xs. fits r.row ∷ xs) (fits_rows rs)

action_lines : (rs : List StoreRow) → map (λ (r : Line). r.action) (map line_of rs) ≡ map (λ (r : StoreRow). r.action) rs
action_lines [] = refl
action_lines (r ∷ rs) = ap (λ xs. r.action ∷ xs) (action_lines rs)

module _ (m after : Meaning) (b : List Action) (rs : List StoreRow) (e : sink after b ≡ sunk (sink (wiped m) []) (map line_of rs)) where
  -- those of a store that has room for them
  pub rows_stored : length rs ≤ m.capacity → after ≡ storing m rs
  rows_stored room =
      let many : length (map (λ (r : StoreRow). r.row) rs) ≡ length rs = length-map rs (λ (r : StoreRow). r.row) in
      let all : storing m rs ≡ holding m (map fits (map (λ (r : StoreRow). r.row) rs)) (m.capacity - length (map (λ (r : StoreRow). r.row) rs)) =
      all_appended (wiped m) (map (λ (r : StoreRow). r.row) rs) (omega (arith, many)) in
      ap (λ (s : Sink). s.meaning) e ∙ ap₂ (λ rows n. holding m rows (m.capacity - n)) (fits_lines rs ∙ sym (fits_rows rs)) (length-map rs line_of ∙ sym many) ∙ sym all

  pub rows_held : after.rows ≡ map (λ (r : StoreRow). fits r.row) rs
  rows_held = ap (λ (s : Sink). s.meaning.rows) e ∙ fits_lines rs

  pub actions_stored : b ≡ map (λ (r : StoreRow). r.action) rs
  actions_stored = ap (λ (s : Sink). s.actions) e ∙ action_lines rs
