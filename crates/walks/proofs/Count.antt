-- The count of rows is the length of their list.
use Rattle.std.proofs.Common.{◌≡◌, ℕ, zero, suc, ◌+◌, ◌*◌, Bool, true, false, cond, List, [], ◌∷◌, ◌++◌, map, length, refl, ap, ◌∙◌, arith, length-append}
use Rattle.std.specs.List.{range_with_len, flat_map}
use Rattle.std.proofs.lemmas.List.{length-map}
use Rattle.patterns.specs.declared.block.Block.{Block}
use Rattle.patterns.specs.declared.row.Target.{Target}
use Rattle.patterns.specs.declared.row.TernaryRow.{TernaryRow}
use Rattle.patterns.specs.declared.row.RangeRow.{RangeRow}
use Rattle.patterns.specs.Splitting.{split_of}
use Rattle.graphs.specs.View.{RowsView, ternary_rows, range_rows, NodeView, node_at}
use Rattle.walks.specs.Rows.{Plan, chain_base, Piece, ternary_piece, block_piece, range_pieces, pieces, tried, pieces_at, Entry, alone, join, closing, leads_to, expand, entries, chain_entries, StoreRow, store_row, node_rows, chain_rows, store_rows}
use Rattle.walks.specs.Plans.{block_count, piece_count, ternaries_to, blocks_to, pieces_to, sum_from, entry_count, chain_count, store_count}

hits : ℕ → List Piece → ℕ
hits c [] = 0
hits c (r ∷ rs) = cond (leads_to c r.target) 1 0 + hits c rs

length_expand : (c : ℕ) (es : List Entry) (r : Piece) → length (expand c es r) ≡ 1 + cond (leads_to c r.target) 1 0 * length es
length_expand c es r = go (leads_to c r.target)
  where
    go : (b : Bool) → length (cond b (map (join r) es ++ (closing r ∷ [])) (alone r ∷ [])) ≡ 1 + cond b 1 0 * length es
    go true = rw (length-append, length-map) (omega arith)
    go false = omega arith

length_chain : (c : ℕ) (es : List Entry) (rs : List Piece) → length (flat_map (expand c es) rs) ≡ length rs + hits c rs * length es
unfolding hits
length_chain c es [] = omega arith
length_chain c es (r ∷ rs) = rw (length-append, length_expand c es r, length_chain c es rs) (omega arith)

length_ranges : (w : ℕ) (rs : List RangeRow) → length (flat_map (range_pieces w) rs) ≡ block_count rs
length_ranges w [] = refl
length_ranges w (r ∷ rs) = rw (length-append, length-map, length_ranges w rs)

length_pieces : (w : ℕ) (rows : RowsView) → length (pieces w rows) ≡ piece_count rows
length_pieces w (ternary_rows rs) = length-map rs (ternary_piece w)
length_pieces w (range_rows rs) = length_ranges w rs

hits_append : (c : ℕ) (xs ys : List Piece) → hits c (xs ++ ys) ≡ hits c xs + hits c ys
unfolding hits
hits_append c [] ys = omega arith
hits_append c (x ∷ xs) ys = rw (hits_append c xs ys) (omega arith)

hits_ternaries : (c w : ℕ) (rs : List TernaryRow) → hits c (map (ternary_piece w) rs) ≡ ternaries_to c rs
unfolding hits
hits_ternaries c w [] = refl
hits_ternaries c w (r ∷ rs) = ap (λ n. cond (leads_to c r.target) 1 0 + n) (hits_ternaries c w rs)

hits_blocks : (c w : ℕ) (t : Target) (bs : List Block) → hits c (map (block_piece w t) bs) ≡ cond (leads_to c t) (length bs) 0
unfolding hits
hits_blocks c w t [] = go (leads_to c t)
  where
    go : (b : Bool) → ◌≡◌ {A = ℕ} 0 (cond b 0 0)
    go true = refl
    go false = refl
hits_blocks c w t (x ∷ bs) = rw (hits_blocks c w t bs) (go (leads_to c t))
  where
    go : (b : Bool) → cond b 1 0 + cond b (length bs) 0 ≡ cond b (suc (length bs)) 0
    go true = omega arith
    go false = omega arith

hits_ranges : (c w : ℕ) (rs : List RangeRow) → hits c (flat_map (range_pieces w) rs) ≡ blocks_to c rs
unfolding hits
hits_ranges c w [] = refl
hits_ranges c w (r ∷ rs) = rw (hits_append, hits_blocks c w r.target (split_of r.low r.high), hits_ranges c w rs)

hits_pieces : (c w : ℕ) (rows : RowsView) → hits c (pieces w rows) ≡ pieces_to c rows
hits_pieces c w (ternary_rows rs) = hits_ternaries c w rs
hits_pieces c w (range_rows rs) = hits_ranges c w rs

module _ (g : List NodeView) where
  abbrev width : ℕ → ℕ
  width n = length (node_at g n).places

  length_entries : (cs : List ℕ) (n : ℕ) → length (entries g n cs) ≡ entry_count g n cs
  length_entries [] n = length-map (pieces_at g n) alone ∙ length_pieces (width n) (tried (node_at g n).rows)
  length_entries (c ∷ cs) n =
      length_chain c (entries g c cs) (pieces_at g n)
      ∙ rw (length_pieces (width n) (tried (node_at g n).rows), hits_pieces c (width n) (tried (node_at g n).rows), length_entries cs c)

  length_chains : (n : ℕ) (cs : List ℕ) → length (chain_entries g n cs) ≡ chain_count g n cs
  length_chains n [] = refl
  length_chains n (c ∷ cs) = length_entries (c ∷ cs) n

length_joined : (f : ℕ → List StoreRow) (q : ℕ → ℕ) → ((n : ℕ) → length (f n) ≡ q n) → (c a : ℕ) → length (flat_map f (range_with_len a c)) ≡ sum_from q a c
length_joined f q e zero a = refl
length_joined f q e (suc c) a = rw (length-append, e a, length_joined f q e c (a + 1))

pub rows_counted : (g : List NodeView) (chain : Plan) → length (store_rows g chain) ≡ store_count g chain
rows_counted g chain =
    length-append (flat_map (node_rows g) (range_with_len 0 (length g))) (flat_map (chain_rows g chain) (range_with_len 0 (length g)))
    ∙ rw (
      length_joined (node_rows g) (λ n. entry_count g n []) (λ n. length-map (entries g n []) (store_row n) ∙ length_entries g [] n) (length g) 0,
      length_joined (chain_rows g chain) (λ n. chain_count g n (chain n)) (λ n. length-map (chain_entries g n (chain n)) (store_row (chain_base + n)) ∙ length_chains g n (chain n)) (length g) 0,
    )
