-- The blocks written one by one into a list. Assumes nothing.
use Rattle.std.proofs.Common.{◌≡◌, ℕ, ◌+◌, ◌^◌, ◌<◌, ◌≤◌, List, [], ◌∷◌, ◌++◌, length, take, drop, set, sym, ap, ◌∙◌, ap₂, arith}
use Rattle.std.proofs.lemmas.List.{length-append, length-take-le, take_more_set, drop-set-lt, drop-drop, append_assoc, append-nil}
use Rattle.patterns.specs.declared.block.Block.{Block}
use Rattle.patterns.specs.Splitting.{top_block, block_at, block_of, split_of}
use Rattle.patterns.proofs.Few.{few}
use Rattle.patterns.proofs.Steps.{split_none, split_more}

-- n blocks stand in out, and those from low on are still to come
module _ (out : List Block) (n low high from : ℕ) (e : take n out ++ split_of low high ≡ split_of from high) where
  pub room : n ≤ length out → high < 2 ^ 16 → low ≤ high → n < 30
  room here wide l =
      let b = block_of low (top_block low high) in
      let rest = split_of (low + 2 ^ top_block low high) high in
      let a : length (take n out ++ (b ∷ rest)) ≡ length (take n out) + length (b ∷ rest) = length-append (take n out) (b ∷ rest) in
      let s : length (take n out ++ (b ∷ rest)) ≡ length (split_of from high) = ap (λ bs. length (take n out ++ bs)) (sym (split_more low high l)) ∙ ap length e in
      let t : length (take n out) ≡ n = length-take-le n out here in
      omega (arith, few from high wide)

  -- the next block b, of so many numbers, goes behind them
  pub write : (count : ℕ) (b : Block) → count ≡ 2 ^ top_block low high → b ≡ block_at low count → low ≤ high → n < length out
      → take (n + 1) (set out n b) ++ split_of (low + count) high ≡ split_of from high
  write count b ec eb l i =
      let top = block_of low (top_block low high) in
      let same : b ≡ top = eb ∙ ap (block_at low) ec in
      let rest = split_of (low + count) high in
      let rest_is : rest ≡ split_of (low + 2 ^ top_block low high) high = ap (λ x. split_of (low + x) high) ec in
      ap (λ bs. bs ++ rest) (take_more_set out n b i) ∙ append_assoc (take n out) (b ∷ []) rest
      ∙ ap (λ bs. take n out ++ bs) (ap₂ ◌∷◌ same rest_is ∙ sym (split_more low high l)) ∙ e

  pub done : high < low → take n out ≡ split_of from high
  done l = sym (append-nil (take n out)) ∙ ap (λ bs. take n out ++ bs) (sym (split_none low high l)) ∙ e

pub drop_next : (out old : List Block) (n : ℕ) (b : Block) → drop n out ≡ drop n old → drop (n + 1) (set out n b) ≡ drop (n + 1) old
drop_next out old n b e =
    drop-set-lt (n + 1) out n b (omega arith) ∙ sym (drop-drop 1 n out) ∙ ap (drop 1) e ∙ drop-drop 1 n old
