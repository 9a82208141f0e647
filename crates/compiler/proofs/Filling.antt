-- All rows, state by state.
use Rattle.std.proofs.Common.{◌≡◌, ℕ, suc, ◌+◌, ◌-◌, ◌<◌, List, [], ◌∷◌, ◌++◌, map, length, sym, refl, ap, ◌∙◌, ap₂, mod-eq_of_lt, zero-add, arith}
use Rattle.std.specs.List.{range_with_len, flat_map}
use Rattle.std.proofs.lemmas.List.{map-append}
use Rattle.graphs.specs.declared.graph.Graph.{Graph}
use Rattle.graphs.specs.View.{NodeView, graph_view}
use Rattle.walks.specs.Rows.{chain_base, Cell, Entry, Plan, StoreRow, store_row, action, entries, chain_entries, chain_rows}
use Rattle.plans.specs.declared.path.Path.{Path}
use Rattle.compiler.specs.declared.start.Start.{Start}
use Rattle.compiler.specs.Held.{held}
use Rattle.compiler.specs.Sinks.{Line, line_of, cell_of, fits_by, line_as}

-- a row that nothing begins but its state
module _ (p : Start) (s : ℕ) (small : s < 64) (es : p.state.number ≡ s) (none : held p.bytes ≡ []) (eb : p.beyond ≡ 0) where
  abbrev made : ℕ → List Cell → ℕ → Entry → Line
  made n cs b e = record { fits = fits_by n cs; action = action b e.action.target }

  line_stored : (e : Entry) → line_as p e ≡ line_of (store_row s e)
  line_stored e =
      ap₂ (λ bs b. made p.state.number (map cell_of bs ++ e.cells) b e) none (ap (λ b. b + e.action.beyond) eb ∙ zero-add e.action.beyond)
      ∙ ap (λ n. made n e.cells e.action.beyond e) (es ∙ sym (mod-eq_of_lt small))

  pub lines_stored : (xs : List Entry) → map (line_as p) xs ≡ map line_of (map (store_row s) xs)
  lines_stored [] = refl
  lines_stored (x ∷ xs) = ap₂ (λ y ys. y ∷ ys) (line_stored x) (lines_stored xs)

-- the rows of the nodes from n on, where those of n are rs
pub rows_more : (f : ℕ → List StoreRow) (n c : ℕ) {rs : List StoreRow} → f n ≡ rs → n < c
    → map line_of (flat_map f (range_with_len n (c - n))) ≡ map line_of rs ++ map line_of (flat_map f (range_with_len (n + 1) (c - (n + 1))))
rows_more f n c here h =
    let e : c - n ≡ suc (c - (n + 1)) = omega arith in
    let later = flat_map f (range_with_len (n + 1) (c - (n + 1))) in
    ap (λ k. map line_of (flat_map f (range_with_len n k))) e ∙ map-append line_of (f n) later ∙ ap (λ rs. map line_of rs ++ map line_of later) here

-- the rows of a path, by its parts
pub path_rows : (s : ℕ) (path : Path) (g : Graph) {n : ℕ} {cs : List ℕ} → path.graph.now ≡ g → path.node ≡ n → path.behind.now ≡ cs
    → map (store_row s) (entries (graph_view g) n cs) ≡ map (store_row s) (entries (graph_view path.graph.now) path.node path.behind.now)
path_rows s path g eg en ec =
    sym (ap (λ g. map (store_row s) (entries (graph_view g) path.node path.behind.now)) eg ∙ ap₂ (λ n cs. map (store_row s) (entries (graph_view g) n cs)) en ec)

-- the rows of a node with its chain: none where there is no chain
module _ (g : List NodeView) (chain : Plan) (n : ℕ) (cs : List ℕ) (same : cs ≡ chain n) where
  pub chain_none : length cs ≡ 0 → chain_rows g chain n ≡ []
  chain_none h = ap (λ xs. map (store_row (chain_base + n)) (chain_entries g n xs)) (sym same) ∙ ap (map (store_row (chain_base + n))) (go cs h)
    where
      go : (cs : List ℕ) → length cs ≡ 0 → chain_entries g n cs ≡ []
      go [] e = refl
      go (c ∷ cs) e = absurd (omega arith)

  pub chain_some : (length cs ≡ 0 → ⊥) → chain_rows g chain n ≡ map (store_row (chain_base + n)) (entries g n cs)
  chain_some h = ap (λ xs. map (store_row (chain_base + n)) (chain_entries g n xs)) (sym same) ∙ ap (map (store_row (chain_base + n))) (go cs h)
    where
      go : (cs : List ℕ) → (length cs ≡ 0 → ⊥) → chain_entries g n cs ≡ entries g n cs
      go [] h = absurd (h refl)
      go (c ∷ cs) h = refl
