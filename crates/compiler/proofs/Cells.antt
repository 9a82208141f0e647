-- The cells of a piece, and the bytes that stand for them.
use Rattle.std.proofs.Common.{length, ◌≡◌, ℕ, zero, suc, ◌*◌, ◌/◌, ◌%◌, ◌^◌, ◌<◌, ◌≤◌, List, [], ◌∷◌, ◌++◌, map, get_or, take, drop, sym, refl, ap, ◌∙◌, ap₂, arith}
use Rattle.std.specs.Int.{w32, to_be_bytes}
use Rattle.std.specs.List.{range_with_len, flat_map}
use Rattle.std.proofs.lemmas.List.{drop_all, map-append}
use Rattle.patterns.specs.declared.block.Block.{Block}
use Rattle.patterns.specs.declared.row.Target.{Target}
use Rattle.patterns.specs.declared.row.TernaryRow.{TernaryRow}
use Rattle.patterns.specs.declared.row.RangeRow.{RangeRow}
use Rattle.patterns.specs.Splitting.{split_of}
use Rattle.graphs.specs.View.{RowsView, ternary_rows, range_rows}
use Rattle.walks.specs.Bytes.{filled}
use Rattle.walks.specs.Rows as rows
use Rattle.walks.specs.Rows.{Cell, free, cells_of, ternary_piece, block_piece, range_pieces, pieces}
use Rattle.compiler.specs.declared.cursor.Cursor.{Cursor}
use Rattle.compiler.specs.Held.{held}
use Rattle.compiler.specs.Pieces.{block_as, range_as, left}

-- the bytes of value and mask, the topmost first
abbrev cell : ℕ → ℕ → Cell
cell v m = record { value = v; mask = m }

pub bytes_cells : (v m : ℕ) → v < 2 ^ 32 → m < 2 ^ 32 → map (λ i. cell (get_or (to_be_bytes w32 v) i 0) (get_or (to_be_bytes w32 m) i 0)) (range_with_len 0 4) ≡ cells_of 4 v m
unfolding cells_of
bytes_cells v m lv lm =
    let a : (x : ℕ) → x < 2 ^ 32 → x / 16777216 % 256 ≡ x / 16777216 = λ x h. omega arith in
    let b : (x : ℕ) → x / 65536 % 256 ≡ x % 16777216 / 65536 = λ x. omega arith in
    let d : (x : ℕ) → x / 256 % 256 ≡ x % 16777216 % 65536 / 256 = λ x. omega arith in
    let e : (x : ℕ) → x % 256 ≡ x % 16777216 % 65536 % 256 / 1 = λ x. omega arith in
    ap₂ (λ x y. x ∷ y) (ap₂ cell (a v lv) (a m lm))
    (ap₂ (λ x y. x ∷ y) (ap₂ cell (b v) (b m)) (ap₂ (λ x y. x ∷ y ∷ []) (ap₂ cell (d v) (d m)) (ap₂ cell (e v) (e m))))

-- a block stands in the first two bytes, and the others are free
cells_block : (v m : ℕ) → cells_of 4 (v * 65536) (m * 65536) ≡ cells_of 2 v m ++ (free ∷ free ∷ [])
unfolding cells_of
cells_block v m =
    let a : (x : ℕ) → x * 65536 / 16777216 ≡ x / 256 = λ x. omega arith in
    let b : (x : ℕ) → x * 65536 % 16777216 / 65536 ≡ x % 256 / 1 = λ x. omega arith in
    let d : (x : ℕ) → x * 65536 % 16777216 % 65536 / 256 ≡ 0 = λ x. omega arith in
    let e : (x : ℕ) → x * 65536 % 16777216 % 65536 % 256 / 1 ≡ 0 = λ x. omega arith in
    ap₂ (λ x y. x ∷ y) (ap₂ cell (a v) (a m))
    (ap₂ (λ x y. x ∷ y) (ap₂ cell (b v) (b m)) (ap₂ (λ x y. x ∷ y ∷ []) (ap₂ cell (d v) (d m)) (ap₂ cell (e v) (e m))))

-- free cells that are put behind are those that are filled in
filled_free : (w : ℕ) (xs : List Cell) → filled free w (xs ++ (free ∷ free ∷ [])) ≡ filled free w xs
filled_free zero xs = refl
filled_free (suc zero) [] = refl
filled_free (suc (suc w)) [] = refl
filled_free (suc w) (x ∷ xs) = ap (λ ys. x ∷ ys) (filled_free w xs)

pub block_piece_lem : (w : ℕ) (t : Target) (b : Block) → block_piece w t b ≡ ternary_piece w (block_as t b)
block_piece_lem w t b =
    ap (λ cs. rows.piece cs t) (sym (ap (filled free w) (cells_block b.value b.mask) ∙ filled_free w (cells_of 2 b.value b.mask)))

-- where there are so many cells, none is filled in
filled_front : (w : ℕ) (xs : List Cell) → w ≤ length xs → take w xs ≡ filled free w xs
filled_front zero xs h = refl
filled_front (suc w) [] h = absurd (omega arith)
filled_front (suc w) (x ∷ xs) h = ap (λ ys. x ∷ ys) (filled_front w xs (omega arith))

pub piece_front : (w : ℕ) (q : TernaryRow) → w ≤ 4 → take w (cells_of 4 q.value q.mask) ≡ (ternary_piece w q).cells
unfolding cells_of
piece_front w q h = filled_front w (cells_of 4 q.value q.mask) h

-- the pieces of a node are what a new cursor leaves of its rows
block_pieces : (w : ℕ) (t : Target) (bs : List Block) → map (block_piece w t) bs ≡ map (ternary_piece w) (map (block_as t) bs)
block_pieces w t [] = refl
block_pieces w t (b ∷ bs) = ap₂ (λ p ps. p ∷ ps) (block_piece_lem w t b) (block_pieces w t bs)

range_pieces_lem : (w : ℕ) (rs : List RangeRow) → flat_map (range_pieces w) rs ≡ map (ternary_piece w) (flat_map range_as rs)
range_pieces_lem w [] = refl
range_pieces_lem w (r ∷ rs) =
    ap₂ (λ xs ys. xs ++ ys) (block_pieces w r.target (split_of r.low r.high)) (range_pieces_lem w rs)
    ∙ sym (map-append (ternary_piece w) (range_as r) (flat_map range_as rs))

pub pieces_left : (w : ℕ) (rows : RowsView) (k : Cursor) → k.row ≡ 0 → held k.blocks ≡ [] → pieces w rows ≡ map (ternary_piece w) (left rows k)
pieces_left w (ternary_rows rs) k r n = ap (λ i. map (ternary_piece w) (drop i rs)) (sym r)
pieces_left w (range_rows rs) k r n =
    range_pieces_lem w rs ∙ ap (λ i. map (ternary_piece w) (flat_map range_as (drop i rs))) (sym r)
    ∙ ap (λ bs. map (ternary_piece w) (map (block_as k.target) bs ++ flat_map range_as (drop k.row rs))) (sym (drop_all k.next (held k.blocks) (omega (arith, ap length n))))
