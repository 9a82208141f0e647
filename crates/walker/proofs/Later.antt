-- In a sound graph a row leads to a later node of the graph.
use Rattle.std.specs.Option.{option_map}
use Rattle.std.proofs.Common.{◌≡◌, ℕ, ◌/◌, ◌^◌, ◌<◌, List, length, Some, None, Option, ap, inl, inr, arith}
use Rattle.std.proofs.lemmas.List.{get_or_past}
use Rattle.std.proofs.lemmas.Bool.{cases_lt}
use Rattle.std.proofs.lemmas.List.Quantifiers.{position-Some}
use Rattle.headers.specs.declared.kinds.Kind.{Kind}
use Rattle.patterns.specs.declared.row.Target.{Target}
use Rattle.patterns.specs.declared.row.Target.TheVariants as to
use Rattle.patterns.specs.Sorts.{ternary_of, ternary_fits, span_of, span_fits}
use Rattle.patterns.specs.Finding.{row_fits}
use Rattle.graphs.specs.declared.fault.GraphFault.TheVariants.{Target as AtTarget}
use Rattle.graphs.specs.View.{RowsView, ternary_rows, range_rows, NodeView, node_at, row_count, target_of}
use Rattle.graphs.specs.Deciding.{fitting, decide}
use Rattle.walker.specs.Refusals.{NoFault}

-- a deciding row is a row of the list
fitting_below : (rows : RowsView) (key k : ℕ) → fitting rows key ≡ Some k → k < row_count rows
fitting_below (ternary_rows rs) key k e =
    (position-Some (row_fits ternary_of ternary_fits key) rs k (record { value = 0; mask = 0; target = to.Done }) e).0
fitting_below (range_rows rs) key k e =
    (position-Some (row_fits span_of span_fits (key / 2 ^ 16)) rs k (record { low = 0; high = 0; target = to.Done }) e).0

-- the target of a deciding row is the target of a row
decided : (rows : RowsView) (key : ℕ) (t : Target) → decide rows key ≡ Some t → (k : ℕ) × (k < row_count rows) × (target_of rows k ≡ t)
decided rows key t e = from (fitting rows key) (fitting_below rows key) e
  where
    from : (o : Option ℕ) → ((k : ℕ) → o ≡ Some k → k < row_count rows) → option_map (target_of rows) o ≡ Some t → (k : ℕ) × (k < row_count rows) × (target_of rows k ≡ t)
    from None below s = let z : ◌≡◌ {A = ℕ} 0 1 = cc in absurd (omega arith)
    from (Some k) below s = (k, below k (cc), cc)

-- a node that the row of another leads to
pub leads_later : (minimum : Kind → ℕ) (g : List NodeView) → NoFault minimum g
    → (n key t : ℕ) → decide (node_at g n).rows key ≡ Some (to.Node t) → (n < t) × (t < length g)
leads_later minimum g sound n key t e =
    let (k, l, s) = decided (node_at g n).rows key (to.Node t) e in
    elim (cases_lt n (length g)) [
      | inl h ↦ (
        elim (cases_lt n t) [ inl m ↦ m | inr m ↦ absurd (sound (AtTarget n k) (h, l, (t, s, inl m))) ],
        elim (cases_lt t (length g)) [ inl m ↦ m | inr m ↦ absurd (sound (AtTarget n k) (h, l, (t, s, inr m))) ],
      )
      | inr h ↦ absurd (let none : row_count (node_at g n).rows ≡ 0 = ap (λ v. row_count v.rows) (get_or_past g n _ h) in omega arith)
    ]
