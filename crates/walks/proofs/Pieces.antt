-- The pieces of a node's rows decide as the rows do.
use Rattle.std.specs.Option.{option_or}
use Rattle.std.proofs.Common.{◌≡◌, ℕ, zero, suc, ◌+◌, ◌-◌, ◌*◌, ◌/◌, ◌^◌, ◌<◌, ◌≤◌, Bool, true, false, cond, ◌&&◌, ◌||◌, T, eqb, leb, List, [], ◌∷◌, map, length, get_or, Some, None, Option, sym, refl, ap, ◌∙◌, arith, pow_pos}
use lib.Bits.{bit_and, and_le_r}
use Rattle.std.specs.List.{flat_map, AllByRecursion, list_any}
use Rattle.std.proofs.ByRecursion.{All-append}
use Rattle.std.proofs.lemmas.Bool.{and_parts, eqb-true, ltb-true, leb-true, cond_both, both_ways}
use Rattle.patterns.specs.declared.block.Block.{Block}
use Rattle.patterns.specs.declared.row.Target.{Target}
use Rattle.patterns.specs.declared.row.Target.TheVariants as to
use Rattle.patterns.specs.declared.row.TernaryRow.{TernaryRow}
use Rattle.patterns.specs.declared.row.RangeRow.{RangeRow}
use Rattle.patterns.specs.Sound.{ternary_ok, span_ok, kept}
use Rattle.patterns.specs.Sorts.{ternary_of, ternary_fits, span_of, span_fits}
use Rattle.patterns.specs.Finding.{passes, row_fits}
use Rattle.patterns.specs.Splitting.{top_block, block_of, block_fits, split_by, split_of}
use Rattle.patterns.proofs.Blocks.{split_fits}
use Rattle.graphs.specs.View.{RowsView, ternary_rows, range_rows, row_count, target_of}
use Rattle.graphs.specs.Deciding.{decide}
use Rattle.walks.specs.Bytes.{filled, spelled, spelled_in}
use Rattle.walks.specs.Rows.{free, cells_of, Piece, ternary_piece, block_piece, range_pieces, pieces, tried}
use Rattle.walks.proofs.Spelling.{Bytes, Small, fits_cells, spelled_lt, length_cells, cells_small, cells_fit, length_filled, filled_whole, bytes_filled, small_filled, filled_fits, cells_front}
use Rattle.walks.proofs.Fit.{first_fit, fit_append, fit_map, fit_like, fit_same, position_gives}
use Rattle.walks.proofs.Join.{choose, Even}
use Rattle.walks.proofs.Sound.{SoundTernary, SoundRange, SoundRows}

-- a test on a pattern that is made
passes_kept : {P : Type 0} (f : P → Bool) (b : Bool) (mk : T b → P) (x : Bool) → ((t : T b) → f (mk t) ≡ x) → b ≡ true → passes f (kept b mk) ≡ x
passes_kept f true mk x h e = h tt
passes_kept f false mk x h e = absurd (both_ways false refl e)

some_like : {X : Type 0} (f h : X → Bool) (xs : List X) → AllByRecursion (λ x. f x ≡ h x) xs → list_any f xs ≡ list_any h xs
some_like f h [] a = refl
some_like f h (x ∷ xs) a = rw a.0 (ap (λ b. h x || b) (some_like f h xs a.1))

-- Ternary rows

module _ (w : ℕ) (r : TernaryRow) (sound : SoundTernary w r) where
  mask_lt : r.mask < 2 ^ 32
  mask_lt = ltb-true _ _ (and_parts _ _ sound.ok).1

  value_lt : r.value < 2 ^ 32
  value_lt =
      let e : bit_and r.value r.mask ≡ r.value = eqb-true _ _ (and_parts _ _ sound.ok).0 in
      omega (arith, mask_lt, and_le_r r.value r.mask, e)

  ternary_small : Small (ternary_piece w r).cells
  ternary_small = small_filled w (cells_of 4 r.value r.mask) (cells_small 4 r.value r.mask value_lt mask_lt)

  ternary_fits_lem : (k : List ℕ) → length k ≡ w → w ≤ 4 → Bytes k → fits_cells (ternary_piece w r).cells k ≡ row_fits ternary_of ternary_fits (spelled_in 4 k) r
  ternary_fits_lem k e l b =
      let cs = cells_of 4 r.value r.mask in
      sym (passes_kept (λ p. ternary_fits p (spelled_in 4 k)) (ternary_ok r.value r.mask) (λ t. record { value = r.value; mask = r.mask; inside = t })
      (eqb (bit_and (spelled_in 4 k) r.mask) r.value) (λ t. refl) sound.ok
      ∙ cells_fit 4 r.value r.mask (filled 0 4 k) value_lt mask_lt (length_filled 0 4 k) (bytes_filled 4 k b)
      ∙ ap (λ x. fits_cells x (filled 0 4 k)) sound.behind
      ∙ filled_fits 4 (filled free w cs) k (omega (arith, length_filled free w cs)) (omega arith))

ternaries_fit : (w : ℕ) (rs : List TernaryRow) → AllByRecursion (SoundTernary w) rs → (k : List ℕ) → length k ≡ w → w ≤ 4 → Bytes k
    → AllByRecursion (λ r. fits_cells (ternary_piece w r).cells k ≡ row_fits ternary_of ternary_fits (spelled_in 4 k) r) rs
ternaries_fit w [] a k e l b = tt
ternaries_fit w (r ∷ rs) a k e l b = (ternary_fits_lem w r a.0 k e l b, ternaries_fit w rs a.1 k e l b)

-- Ranges

-- the blocks of a range are numbers of 16 bits
abbrev SmallBlock : Block → Type 0
SmallBlock b = (b.value < 2 ^ 16) × (b.mask < 2 ^ 16)

blocks_small : (steps low high : ℕ) → high < 2 ^ 16 → AllByRecursion SmallBlock (split_by steps low high)
blocks_small zero low high h = tt
blocks_small (suc steps) low high h =
    cond_both (leb low high) (block_of low (top_block low high) ∷ split_by steps (low + 2 ^ top_block low high) high) [] (λ bs. AllByRecursion SmallBlock bs)
    (λ t.
    let l : low ≤ high = leb-true low high t in
    let p : 0 < 2 ^ top_block low high = pow_pos (top_block low high) in
    ((omega arith, omega arith), blocks_small steps (low + 2 ^ top_block low high) high h))
    (λ t. tt)

-- the first two of the lookup bytes, as one number
first_two : (a b : ℕ) (ks : List ℕ) → Bytes ks → spelled_in 4 (a ∷ b ∷ ks) / 2 ^ 16 ≡ a * 256 + b
first_two a b ks h =
    let e : length (filled 0 2 ks) ≡ 2 = length_filled 0 2 ks in
    let s : spelled (filled 0 2 ks) < 2 ^ 16 = rw e at (spelled_lt (filled 0 2 ks) (bytes_filled 2 ks h)) in
    ap (λ n. (a * 2 ^ (8 * suc n) + (b * 2 ^ (8 * n) + spelled (filled 0 2 ks))) / 2 ^ 16) e ∙ omega arith

module _ (w a b : ℕ) (ks : List ℕ) (e : length (a ∷ b ∷ ks) ≡ w) (bytes : Bytes (a ∷ b ∷ ks)) where
  block_fits_lem : (t : Target) (x : Block) → SmallBlock x → fits_cells (block_piece w t x).cells (a ∷ b ∷ ks) ≡ block_fits x (a * 256 + b)
  block_fits_lem t x s =
      let cs = cells_of 2 x.value x.mask in
      let two : length cs ≡ 2 = length_cells 2 x.value x.mask in
      let n : a * 2 ^ 8 + (b * 2 ^ 0 + 0) ≡ a * 256 + b = omega arith in
      ap (fits_cells (filled free w cs)) (sym (filled_whole 0 w (a ∷ b ∷ ks) e))
      ∙ filled_fits w cs (a ∷ b ∷ ks) (omega arith) (omega arith)
      ∙ cells_front cs (a ∷ b ∷ []) ks (omega arith)
      ∙ sym (cells_fit 2 x.value x.mask (a ∷ b ∷ []) s.0 s.1 refl (bytes.0, (bytes.1.0, tt)))
      ∙ ap (λ y. eqb (bit_and y x.mask) x.value) n

  blocks_fit : (t : Target) (xs : List Block) → AllByRecursion SmallBlock xs → AllByRecursion (λ x. fits_cells (block_piece w t x).cells (a ∷ b ∷ ks) ≡ block_fits x (a * 256 + b)) xs
  blocks_fit t [] s = tt
  blocks_fit t (x ∷ xs) s = (block_fits_lem t x s.0, blocks_fit t xs s.1)

  range_fits : (r : RangeRow) → SoundRange r
      → list_any (λ x. fits_cells (block_piece w r.target x).cells (a ∷ b ∷ ks)) (split_of r.low r.high) ≡ row_fits span_of span_fits (spelled_in 4 (a ∷ b ∷ ks) / 2 ^ 16) r
  range_fits r ok =
      let high : r.high < 2 ^ 16 = ltb-true r.high (2 ^ 16) (and_parts (leb r.low r.high) _ ok).1 in
      let y = a * 256 + b in
      let small : y < 2 ^ 16 = omega (arith, bytes.0, bytes.1.0) in
      some_like _ _ (split_of r.low r.high) (blocks_fit r.target (split_of r.low r.high) (blocks_small (r.high + 1 - r.low) r.low r.high high))
      ∙ split_fits (r.high + 1 - r.low) r.low r.high y (omega arith) high small
      ∙ sym (passes_kept (λ p. span_fits p y) (span_ok r.low r.high) (λ t. record { low = r.low; high = r.high; ordered = t })
      (leb r.low y && leb y r.high) (λ t. refl) ok)
      ∙ ap (λ x. row_fits span_of span_fits x r) (sym (first_two a b ks bytes.1.1))

first_part : {Y : Type 0} (b c : Bool) (y : Y) (o q : Option Y) → b ≡ c → o ≡ q → option_or (cond b (Some y) None) o ≡ cond c (Some y) q
first_part true c y o q e f = ap (λ x. cond x (Some y) q) e
first_part false c y o q e f = f ∙ ap (λ x. cond x (Some y) q) e

ranges_choose : (w : ℕ) (k : List ℕ) → length k ≡ w → 2 ≤ w → Bytes k → (rs : List RangeRow) → AllByRecursion SoundRange rs
    → choose (flat_map (range_pieces w) rs) k ≡ first_fit (λ r. row_fits span_of span_fits (spelled_in 4 k / 2 ^ 16) r) (λ r. r.target) rs
ranges_choose w k e two b [] a = refl
ranges_choose w [] e two b (r ∷ rs) a = absurd (omega arith)
ranges_choose w (x ∷ []) e two b (r ∷ rs) a = absurd (omega arith)
ranges_choose w (x ∷ y ∷ ks) e two b (r ∷ rs) a =
    fit_append _ _ (range_pieces w r) (flat_map (range_pieces w) rs)
    ∙ ap (λ o. option_or o (choose (flat_map (range_pieces w) rs) (x ∷ y ∷ ks)))
    (fit_map _ _ (block_piece w r.target) (split_of r.low r.high) ∙ fit_same (λ z. fits_cells (block_piece w r.target z).cells (x ∷ y ∷ ks)) r.target (split_of r.low r.high))
    ∙ first_part _ _ _ _ _ (range_fits w x y ks e b r a.0) (ranges_choose w (x ∷ y ∷ ks) e two b rs a.1)

-- a node's rows

-- the two facts about the rule by which rows decide: tried in order, the first fit is the row that decides, and those tried are sound
pub tried_decides : (rows : RowsView) (k : ℕ) → decide (tried rows) k ≡ decide rows k
tried_decides rows k = refl

pub tried_sound : (w : ℕ) (rows : RowsView) → SoundRows w rows → SoundRows w (tried rows)
tried_sound w rows a = a

pub tried_targets : (P : Target → Type 0) (rows : RowsView) → ((k : ℕ) → k < row_count rows → P (target_of rows k)) → (k : ℕ) → k < row_count (tried rows) → P (target_of (tried rows) k)
tried_targets P rows a = a

abbrev no_ternary : TernaryRow
no_ternary = record { value = 0; mask = 0; target = to.Node 0 }

abbrev no_range : RangeRow
no_range = record { low = 0; high = 0; target = to.Node 0 }

pub pieces_decide : (w : ℕ) (rows : RowsView) → SoundRows w rows → w ≤ 4 → (k : List ℕ) → length k ≡ w → Bytes k → choose (pieces w rows) k ≡ decide rows (spelled_in 4 k)
pieces_decide w (ternary_rows rs) a l k e b =
    fit_map _ _ (ternary_piece w) rs ∙ fit_like _ _ _ rs (ternaries_fit w rs a k e l b)
    ∙ sym (position_gives (λ r. row_fits ternary_of ternary_fits (spelled_in 4 k) r) (λ r. r.target) no_ternary rs)
pieces_decide w (range_rows rs) a l k e b =
    ranges_choose w k e a.0 b rs a.1
    ∙ sym (position_gives (λ r. row_fits span_of span_fits (spelled_in 4 k / 2 ^ 16) r) (λ r. r.target) no_range rs)

-- each piece has as many bytes as the node looks up
ternaries_even : (w : ℕ) (rs : List TernaryRow) → Even w (map (ternary_piece w) rs)
ternaries_even w [] = tt
ternaries_even w (r ∷ rs) = (length_filled free w _, ternaries_even w rs)

blocks_even : (w : ℕ) (t : Target) (bs : List Block) → Even w (map (block_piece w t) bs)
blocks_even w t [] = tt
blocks_even w t (b ∷ bs) = (length_filled free w _, blocks_even w t bs)

ranges_even : (w : ℕ) (rs : List RangeRow) → Even w (flat_map (range_pieces w) rs)
ranges_even w [] = tt
ranges_even w (r ∷ rs) = All-append _ (range_pieces w r) (flat_map (range_pieces w) rs) (blocks_even w r.target (split_of r.low r.high)) (ranges_even w rs)

pub pieces_even : (w : ℕ) (rows : RowsView) → Even w (pieces w rows)
pieces_even w (ternary_rows rs) = ternaries_even w rs
pieces_even w (range_rows rs) = ranges_even w rs

-- and is made of bytes
abbrev pub SmallPiece : Piece → Type 0
SmallPiece r = Small r.cells

ternaries_small : (w : ℕ) (rs : List TernaryRow) → AllByRecursion (SoundTernary w) rs → AllByRecursion SmallPiece (map (ternary_piece w) rs)
ternaries_small w [] a = tt
ternaries_small w (r ∷ rs) a = (ternary_small w r a.0, ternaries_small w rs a.1)

block_pieces_small : (w : ℕ) (t : Target) (bs : List Block) → AllByRecursion SmallBlock bs → AllByRecursion SmallPiece (map (block_piece w t) bs)
block_pieces_small w t [] a = tt
block_pieces_small w t (b ∷ bs) a = (small_filled w (cells_of 2 b.value b.mask) (cells_small 2 b.value b.mask a.0.0 a.0.1), block_pieces_small w t bs a.1)

ranges_small : (w : ℕ) (rs : List RangeRow) → AllByRecursion SoundRange rs → AllByRecursion SmallPiece (flat_map (range_pieces w) rs)
ranges_small w [] a = tt
ranges_small w (r ∷ rs) a =
    All-append _ (range_pieces w r) (flat_map (range_pieces w) rs)
    (block_pieces_small w r.target (split_of r.low r.high) (blocks_small (r.high + 1 - r.low) r.low r.high (ltb-true _ _ (and_parts _ _ a.0).1)))
    (ranges_small w rs a.1)

pub pieces_small : (w : ℕ) (rows : RowsView) → SoundRows w rows → AllByRecursion SmallPiece (pieces w rows)
pieces_small w (ternary_rows rs) a = ternaries_small w rs a
pieces_small w (range_rows rs) a = ranges_small w rs a.1

-- what holds of each row's target holds of each piece's
module _ (P : Target → Type 0) (w : ℕ) where
  abbrev Leads : Piece → Type 0
  Leads r = P r.target

  ternaries_lead : (rs : List TernaryRow) → ((k : ℕ) → k < length rs → P (get_or rs k no_ternary).target) → AllByRecursion Leads (map (ternary_piece w) rs)
  ternaries_lead [] a = tt
  ternaries_lead (r ∷ rs) a = (a 0 (omega arith), ternaries_lead rs (λ k h. a (suc k) (omega arith)))

  blocks_lead : (t : Target) → P t → (bs : List Block) → AllByRecursion Leads (map (block_piece w t) bs)
  blocks_lead t h [] = tt
  blocks_lead t h (b ∷ bs) = (h, blocks_lead t h bs)

  ranges_lead : (rs : List RangeRow) → ((k : ℕ) → k < length rs → P (get_or rs k no_range).target) → AllByRecursion Leads (flat_map (range_pieces w) rs)
  ranges_lead [] a = tt
  ranges_lead (r ∷ rs) a = All-append _ (range_pieces w r) (flat_map (range_pieces w) rs) (blocks_lead r.target (a 0 (omega arith)) (split_of r.low r.high)) (ranges_lead rs (λ k h. a (suc k) (omega arith)))

  pub pieces_lead : (rows : RowsView) → ((k : ℕ) → k < row_count rows → P (target_of rows k)) → AllByRecursion Leads (pieces w rows)
  pieces_lead (ternary_rows rs) a = ternaries_lead rs a
  pieces_lead (range_rows rs) a = ranges_lead rs a
