-- The rows of a node and a chain, each begun by the first part of a row.
use Rattle.std.proofs.Common.{◌≡◌, ℕ, suc, ◌+◌, ◌≤◌, true, false, cond, List, [], ◌∷◌, ◌++◌, map, length, Some, None, Option, sym, refl, ap, ◌∙◌, subst, ap₂, arith}
use Rattle.std.specs.List.{flat_map}
use Rattle.std.proofs.lemmas.List.{append_assoc, map-append, length-append, length-map}
use Rattle.patterns.specs.declared.row.Target.{Target}
use Rattle.patterns.specs.declared.row.TernaryRow.{TernaryRow}
use Rattle.graphs.specs.View.{NodeView, node_view, node_at, graph_view}
use Rattle.walks.specs.Rows as rows
use Rattle.walks.specs.Rows.{Cell, free, cells_of, ternary_piece, Entry, action, alone, join, closing, leads_to, expand, entries, pieces, pieces_at}
use Rattle.walks.proofs.Spelling.{length_filled}
use Rattle.plans.specs.declared.path.Path.{Path}
use Rattle.plans.specs.Chains.{leads_on}
use Rattle.compiler.specs.declared.cursor.Cursor.{Cursor}
use Rattle.compiler.specs.declared.start.Start.{Start}
use Rattle.compiler.specs.Pieces.{left_in}
use Rattle.compiler.specs.Held.{held}
use Rattle.compiler.specs.Sinks.{Line, Sink, fits_by, cell_of, cells_in, line_as, line_with, Ready, Longer}
use Rattle.compiler.proofs.Cells.{pieces_left}
use Rattle.compiler.proofs.Sinking.{Going, going_done}

-- what one ternary row becomes before a chain
abbrev pub stands : List NodeView → List ℕ → rows.Piece → List Entry
stands g [] r = alone r ∷ []
stands g (c ∷ cs) r = expand c (entries g c cs) r

singles : (ps : List rows.Piece) → map alone ps ≡ flat_map (λ r. alone r ∷ []) ps
singles [] = refl
singles (p ∷ ps) = ap (λ es. alone p ∷ es) (singles ps)

pub entries_stand : (g : List NodeView) (n : ℕ) (cs : List ℕ) → entries g n cs ≡ flat_map (stands g cs) (pieces_at g n)
entries_stand g n [] = singles (pieces_at g n)
entries_stand g n (c ∷ cs) = refl

-- the rows of a node and a chain, from the node's pieces
pub rows_from : List NodeView → List ℕ → Start → ℕ → List TernaryRow → List Line
rows_from g cs p w ps = map (line_as p) (flat_map (stands g cs) (map (ternary_piece w) ps))

pub rows_begin : (g : List NodeView) (n : ℕ) (cs : List ℕ) (p : Start) (w : ℕ) (k : Cursor) → node_view k.node.now ≡ node_at g n → w ≡ length (node_view k.node.now).places → k.row ≡ 0 → held k.blocks ≡ []
    → rows_from g cs p w (left_in k) ≡ map (line_as p) (entries g n cs)
unfolding rows_from
rows_begin g n cs p w k at ew er ec =
    let v = node_view k.node.now in
    sym (ap (map (line_as p)) (entries_stand g n cs
    ∙ ap (λ x. flat_map (stands g cs) (pieces (length x.places) x.rows)) (sym at)
    ∙ ap (λ m. flat_map (stands g cs) (pieces m v.rows)) (sym ew)
    ∙ ap (flat_map (stands g cs)) (pieces_left w v.rows k er ec)))

-- one header more is passed
pub longer_passed : {p l r : Start} {w : ℕ} {q : TernaryRow} → Longer p l w q 0 → r ≡ record l { beyond = l.beyond + 1 } → Longer p r w q 1
longer_passed {p} {l} {r} {w} {q} h e = subst (λ r. Longer p r w q 1) (sym e) (record { cells = h.cells; state = h.state; beyond = omega (arith, h.beyond) })

-- the rest of the chain fits behind it
pub ready_on : {cs rest : List ℕ} {p r : Start} {w : ℕ} {q : TernaryRow} {next : ℕ} → cs ≡ next ∷ rest → Ready cs p → w ≤ 4 → Longer p r w q 1 → Ready rest r
ready_on {cs} {rest} {p} {r} {w} {q} e h narrow l =
    let cells : length (held r.bytes) ≡ length (held p.bytes) + w =
    omega (arith, ap length l.cells, length-map (held r.bytes) cell_of, length-map (held p.bytes) cell_of, length-append (cells_in p) (ternary_piece w q).cells, length_filled free w (cells_of 4 q.value q.mask)) in
    let shorter = ap length e in
    record { bytes = omega (arith, h.bytes); beyond = omega (arith, h.beyond, l.beyond) }

module _ (g : List NodeView) (p r : Start) (w : ℕ) (q : TernaryRow) where
  abbrev made : ℕ → List Cell → ℕ → Option Target → Line
  made s cs b t = record { fits = fits_by s cs; action = action b t }

  -- a piece that is the whole of a row
  whole : (k : ℕ) (t : Option Target) → Longer p r w q k → made p.state.number (cells_in p ++ (ternary_piece w q).cells) (p.beyond + k) t ≡ line_with r t
  whole k t h = ap₂ (λ cs b. made p.state.number cs b t) (sym h.cells) (sym h.beyond) ∙ ap (λ s. made s.number (cells_in r) r.beyond t) (sym h.state)

  first : (cs : List ℕ) (qs : List TernaryRow) → rows_from g cs p w (q ∷ qs) ≡ map (line_as p) (stands g cs (ternary_piece w q)) ++ rows_from g cs p w qs
  unfolding rows_from
  first cs qs = map-append (line_as p) (stands g cs (ternary_piece w q)) _

  -- a piece that stands alone
  module _ (h : Longer p r w q 0) where
    alone_is : (cs : List ℕ) → leads_on cs q.target ≡ false → map (line_as p) (stands g cs (ternary_piece w q)) ≡ line_with r (Some q.target) ∷ []
    alone_is [] e = ap (λ x. x ∷ []) (whole 0 (Some q.target) h)
    alone_is (c ∷ cs) e =
        ap (λ b. map (line_as p) (cond b (map (join (ternary_piece w q)) (entries g c cs) ++ (closing (ternary_piece w q) ∷ [])) (alone (ternary_piece w q) ∷ []))) e
        ∙ ap (λ x. x ∷ []) (whole 0 (Some q.target) h)

    pub piece_alone : (cs : List ℕ) (qs : List TernaryRow) → leads_on cs q.target ≡ false → rows_from g cs p w (q ∷ qs) ≡ (line_with r (Some q.target) ∷ []) ++ rows_from g cs p w qs
    piece_alone cs qs e = first cs qs ∙ ap (λ xs. xs ++ rows_from g cs p w qs) (alone_is cs e)

  -- a piece that leads to the chain's next node
  module _ (h : Longer p r w q 1) where
    joined_line : (e : Entry) → line_as p (join (ternary_piece w q) e) ≡ line_as r e
    joined_line e =
        let n : p.beyond + suc e.action.beyond ≡ r.beyond + e.action.beyond = omega (arith, h.beyond) in
        let cells = sym (append_assoc (cells_in p) (ternary_piece w q).cells e.cells) ∙ ap (λ cs. cs ++ e.cells) (sym h.cells) in
        ap₂ (λ cs b. made p.state.number cs b e.action.target) cells n ∙ ap (λ s. made s.number (cells_in r ++ e.cells) (r.beyond + e.action.beyond) e.action.target) (sym h.state)

    joined_lines : (es : List Entry) → map (line_as p) (map (join (ternary_piece w q)) es) ≡ map (line_as r) es
    joined_lines [] = refl
    joined_lines (e ∷ es) = ap₂ (λ x xs. x ∷ xs) (joined_line e) (joined_lines es)

    joined_is : (c : ℕ) (cs : List ℕ) → leads_to c q.target ≡ true
        → map (line_as p) (stands g (c ∷ cs) (ternary_piece w q)) ≡ map (line_as r) (entries g c cs) ++ (line_with r None ∷ [])
    joined_is c cs e =
        ap (λ b. map (line_as p) (cond b (map (join (ternary_piece w q)) (entries g c cs) ++ (closing (ternary_piece w q) ∷ [])) (alone (ternary_piece w q) ∷ []))) e
        ∙ map-append (line_as p) (map (join (ternary_piece w q)) (entries g c cs)) (closing (ternary_piece w q) ∷ [])
        ∙ ap₂ (λ xs x. xs ++ (x ∷ [])) (joined_lines (entries g c cs)) (whole 1 None h)

    pub piece_joined : (c : ℕ) (cs : List ℕ) (qs : List TernaryRow) → leads_to c q.target ≡ true
        → rows_from g (c ∷ cs) p w (q ∷ qs) ≡ map (line_as r) (entries g c cs) ++ (line_with r None ∷ rows_from g (c ∷ cs) p w qs)
    piece_joined c cs qs e =
        first (c ∷ cs) qs ∙ ap (λ xs. xs ++ rows_from g (c ∷ cs) p w qs) (joined_is c cs e)
        ∙ append_assoc (map (line_as r) (entries g c cs)) (line_with r None ∷ []) (rows_from g (c ∷ cs) p w qs)

-- a turn at a piece that stands alone, and at one that leads to the chain's next node
module _ (path : Path) {s whole : Sink} {p r : Start} {w : ℕ} {ps qs : List TernaryRow} {q : TernaryRow} (h : Going s (rows_from (graph_view path.graph.now) path.behind.now p w ps) whole) (here : ps ≡ q ∷ qs) where
  pub turn_alone : Longer p r w q 0 → leads_on path.behind.now q.target ≡ false → Going s (line_with r (Some q.target) ∷ rows_from (graph_view path.graph.now) path.behind.now p w qs) whole
  turn_alone l e =
      let g = graph_view path.graph.now in
      let cs = path.behind.now in
      subst (λ xs. Going s xs whole) (ap (rows_from g cs p w) here ∙ piece_alone g p r w q l cs qs e) h

  pub turn_joined : (rest : Path) → Longer p r w q 1 → (rest.graph.now ≡ path.graph.now) × ((path.behind.now ≡ rest.node ∷ rest.behind.now) × (leads_to rest.node q.target ≡ true))
      → Going s (map (line_as r) (entries (graph_view rest.graph.now) rest.node rest.behind.now) ++ (line_with r None ∷ rows_from (graph_view path.graph.now) path.behind.now p w qs)) whole
  turn_joined rest l (same, (on, leads)) =
      let g = graph_view path.graph.now in
      subst (λ xs. Going s xs whole) (ap₂ (λ cs ps. rows_from g cs p w ps) on here ∙ piece_joined g p r w q l rest.node rest.behind.now qs leads
      ∙ ap₂ (λ x cs. map (line_as r) (entries (graph_view x) rest.node rest.behind.now) ++ (line_with r None ∷ rows_from g cs p w qs)) (sym same) (sym on)) h

pub turn_done : (s whole : Sink) (g : List NodeView) (cs : List ℕ) (p : Start) (w : ℕ) (ps : List TernaryRow) → Going s (rows_from g cs p w ps) whole → ps ≡ [] → s ≡ whole
unfolding rows_from
turn_done s whole g cs p w ps h e = going_done s whole (subst (λ xs. Going s (rows_from g cs p w xs) whole) e h)
