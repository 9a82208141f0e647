-- A graph that reading accepts is sound: each fact is what some test of the file's bytes or of the graph says.
use Rattle.std.specs.Option.{option_or, option_map}
use Rattle.std.proofs.Common.{◌≡◌, ℕ, zero, suc, ◌+◌, ◌*◌, ◌^◌, ◌<◌, ◌≤◌, Bool, true, false, cond, eqb, ltb, leb, List, [], ◌∷◌, map, length, Some, None, Ok, Option, sym, refl, ap, ◌∙◌, subst, ap₂, arith}
use lib.Bits.{bit_and, and_zero_l}
use Rattle.std.specs.List.{range_with_len, AllByRecursion}
use Rattle.std.proofs.lemmas.List.FromFn.{length-map-range_with_len, get_or-map-range_with_len}
use Rattle.std.proofs.lemmas.List.{length-take-le}
use Rattle.std.proofs.lemmas.Bool.{and_parts, and_from, leb-true, ltb-true, lt-ltb, le-ltb, eqb-true, eq-eqb, cond-true, cond-false, cond_both}
use Rattle.std.proofs.lemmas.Bool.Decides.{nat_tests}
use Rattle.refusals.specs.Searching.{unless_fault}
use Rattle.refusals.proofs.Searching.{option_or_none, option_map_none, unless_none, nowhere, holds}
use Rattle.headers.specs.declared.kinds.Kind.{Kind}
use Rattle.patterns.specs.declared.row.Target.{Target}
use Rattle.patterns.specs.declared.row.Target.TheVariants as to
use Rattle.graphs.specs.declared.fault.GraphFault.{GraphFault}
use Rattle.graphs.specs.declared.fault.GraphFault.TheVariants.{Target as AtTarget, Short}
use Rattle.graphs.specs.declared.graph.Length.TheVariants.{Fixed}
use Rattle.graphs.specs.View.{NodeView, row_count, node_at, target_of}
use Rattle.graphs.specs.Checking.{target_sound, length_sound, target_fault, covered_fault, short_fault, node_fault, first_node, graph_fault}
use Rattle.graph_reader.specs.declared.fault.FileFault.TheVariants.{Shape}
use Rattle.graph_reader.specs.declared.fault.ReadFault.{ReadFault}
use Rattle.graph_reader.specs.declared.fault.ReadFault.TheVariants.{File, Graph}
use Rattle.graph_reader.specs.Records.{at, at2, at4, right, row_right, ternary_right}
use Rattle.graph_reader.specs.Files.{shape_right, shape_fault, record_at, pair_fault, byte_fault, file_fault}
use Rattle.graph_reader.specs.Decoding.{ternary_in, range_in, rows_in, places_in, node_in, nodes_in}
use Rattle.graph_reader.specs.Reading.{read_fault}
use Rattle.graph_reader.proofs.Pairing.{Shaped, shape_says}
use Rattle.graph_reader.proofs.Recorded.{Whole, record_whole, row_bytes_right}
use Rattle.graph_reader.proofs.Filed.{record_byte}
use Rattle.graph_reader.proofs.Refused.{clear}
use Rattle.walks.specs.Bytes.{filled, spelled}
use Rattle.walks.specs.Rows.{Cell, free, cells_of}
use Rattle.walks.specs.Theorems.{Accepted}
use Rattle.walks.proofs.Spelling.{Small, values, masks, fits_spelled, cells_back}
use Rattle.walks.proofs.Sound.{SoundTernary, SoundRange, SoundRows, Onward, Sound}

all_counting : {X : Type 0} (P : X → Type 0) (f : ℕ → X) (n a : ℕ) → ((k : ℕ) → a ≤ k → k < a + n → P (f k)) → AllByRecursion P (map f (range_with_len a n))
all_counting P f zero a h = tt
all_counting P f (suc n) a h = (h a (omega arith) (omega arith), all_counting P f n (a + 1) (λ k l u. h k (omega arith) (omega arith)))

-- Ternary rows

-- a byte that is right has no value bit outside its mask, and is zero where nothing is looked up
value_inside : (w j v m : ℕ) → cond (ltb j w) (eqb (bit_and v m) v) (eqb v 0) ≡ true → eqb (bit_and v m) v ≡ true
value_inside w j v m =
    cond_both (ltb j w) (eqb (bit_and v m) v) (eqb v 0) (λ b. b ≡ true → eqb (bit_and v m) v ≡ true)
    (λ _ e. e)
    (λ _ e. let z : v ≡ 0 = eqb-true v 0 e in eq-eqb _ _ (ap (λ x. bit_and x m) z ∙ and_zero_l m ∙ sym z))

zero_behind : (w j v : ℕ) (b : Bool) → cond (ltb j w) b (eqb v 0) ≡ true → w ≤ j → v ≡ 0
zero_behind w j v b e l = eqb-true v 0 (sym (cond-false (ltb j w) b (eqb v 0) (le-ltb j w l)) ∙ e)

-- cells that are free behind the first w
free_behind : (w : ℕ) (a b c d : Cell) → w ≤ 4 → (w ≤ 0 → a ≡ free) → (w ≤ 1 → b ≡ free) → (w ≤ 2 → c ≡ free) → (w ≤ 3 → d ≡ free)
    → a ∷ b ∷ c ∷ d ∷ [] ≡ filled free 4 (filled free w (a ∷ b ∷ c ∷ d ∷ []))
free_behind zero a b c d l fa fb fc fd =
    let ea = fa (omega arith) in let eb = fb (omega arith) in let ec = fc (omega arith) in let ed = fd (omega arith) in cc
free_behind (suc zero) a b c d l fa fb fc fd = let eb = fb (omega arith) in let ec = fc (omega arith) in let ed = fd (omega arith) in cc
free_behind (suc (suc zero)) a b c d l fa fb fc fd = let ec = fc (omega arith) in let ed = fd (omega arith) in cc
free_behind (suc (suc (suc zero))) a b c d l fa fb fc fd = let ed = fd (omega arith) in cc
free_behind (suc (suc (suc (suc zero)))) a b c d l fa fb fc fd = refl
free_behind (suc (suc (suc (suc (suc w))))) a b c d l fa fb fc fd = absurd (omega arith)

abbrev cell : ℕ → ℕ → Cell
cell v m = record { value = v; mask = m }

free_cell : (v m : ℕ) → v ≡ 0 → m ≡ 0 → cell v m ≡ free
free_cell v m p q = ap₂ cell p q

module _ (r : List ℕ) (byte : (i : ℕ) → at r i < 256) (whole : Whole r) where
  module _ (o : ℕ) (row : (j : ℕ) → j < 10 → row_right r o j ≡ true) where
    module _ (sort : eqb (at r 13) 0 ≡ true) where
      -- the tests of value and mask
      value_right : (j : ℕ) → j < 4 → ternary_right r o j ≡ true
      value_right j h = sym (cond-true (ltb j 8) _ _ (lt-ltb j 8 (omega arith)) ∙ cond-true (eqb (at r 13) 0) _ _ sort) ∙ row j (omega arith)

      mask_right : (j : ℕ) → j < 4 → ternary_right r o (j + 4) ≡ true
      mask_right j h = sym (cond-true (ltb (j + 4) 8) _ _ (lt-ltb (j + 4) 8 (omega arith)) ∙ cond-true (eqb (at r 13) 0) _ _ sort) ∙ row (j + 4) (omega arith)

      abbrev v : ℕ → ℕ
      v j = at r (o + j)

      abbrev m : ℕ → ℕ
      m j = at r (o + (j + 4))

      abbrev cells : List Cell
      cells = cell (v 0) (m 0) ∷ cell (v 1) (m 1) ∷ cell (v 2) (m 2) ∷ cell (v 3) (m 3) ∷ []

      small : Small cells
      small = record { value = (byte _, (byte _, (byte _, (byte _, tt)))); mask = (byte _, (byte _, (byte _, (byte _, tt)))) }

      value_is : spelled (values cells) ≡ at4 r o
      value_is = let e : at r (o + 0) ≡ at r o = ap (at r) (omega arith) in omega arith

      mask_is : spelled (masks cells) ≡ at4 r (o + 4)
      mask_is =
          let a : at r (o + (0 + 4)) ≡ at r (o + 4) = ap (at r) (omega arith) in
          let b : at r (o + (1 + 4)) ≡ at r (o + 4 + 1) = ap (at r) (omega arith) in
          let c : at r (o + (2 + 4)) ≡ at r (o + 4 + 2) = ap (at r) (omega arith) in
          let d : at r (o + (3 + 4)) ≡ at r (o + 4 + 3) = ap (at r) (omega arith) in
          omega arith

      inside : eqb (bit_and (at4 r o) (at4 r (o + 4))) (at4 r o) ≡ true
      inside =
          sym (ap₂ (λ x y. eqb (bit_and x y) x) value_is mask_is)
          ∙ fits_spelled cells (values cells) refl small.value small
          ∙ and_from _ _ (value_inside (at r 8) 0 (v 0) (m 0) (value_right 0 (omega arith)))
          (and_from _ _ (value_inside (at r 8) 1 (v 1) (m 1) (value_right 1 (omega arith)))
          (and_from _ _ (value_inside (at r 8) 2 (v 2) (m 2) (value_right 2 (omega arith)))
          (and_from _ _ (value_inside (at r 8) 3 (v 3) (m 3) (value_right 3 (omega arith))) refl)))

      ternary_sound : SoundTernary (at r 8) (ternary_in r o)
      ternary_sound = record {
        ok = and_from _ _ inside (lt-ltb (at4 r (o + 4)) (2 ^ 32) (omega (arith, byte (o + 4), byte (o + 4 + 1), byte (o + 4 + 2), byte (o + 4 + 3))));
        behind =
            let back : cells_of 4 (at4 r o) (at4 r (o + 4)) ≡ cells = sym (ap₂ (cells_of 4) value_is mask_is) ∙ cells_back cells small in
            let same = free_behind (at r 8) (cell (v 0) (m 0)) (cell (v 1) (m 1)) (cell (v 2) (m 2)) (cell (v 3) (m 3)) whole.places
            (λ l. free_cell (v 0) (m 0) (zero_behind (at r 8) 0 (v 0) _ (value_right 0 (omega arith)) l) (zero_behind (at r 8) 0 (m 0) _ (mask_right 0 (omega arith)) l))
            (λ l. free_cell (v 1) (m 1) (zero_behind (at r 8) 1 (v 1) _ (value_right 1 (omega arith)) l) (zero_behind (at r 8) 1 (m 1) _ (mask_right 1 (omega arith)) l))
            (λ l. free_cell (v 2) (m 2) (zero_behind (at r 8) 2 (v 2) _ (value_right 2 (omega arith)) l) (zero_behind (at r 8) 2 (m 2) _ (mask_right 2 (omega arith)) l))
            (λ l. free_cell (v 3) (m 3) (zero_behind (at r 8) 3 (v 3) _ (value_right 3 (omega arith)) l) (zero_behind (at r 8) 3 (m 3) _ (mask_right 3 (omega arith)) l)) in
            back ∙ same ∙ sym (ap (λ cs. filled free 4 (filled free (at r 8) cs)) back);
      }

    range_sound : eqb (at r 13) 0 ≡ false → SoundRange (range_in r o)
    range_sound sort =
        and_from _ _ (sym (cond-false (eqb (at r 13) 0) _ _ sort) ∙ row 0 (omega arith)) (lt-ltb (at2 r (o + 2)) (2 ^ 16) (omega (arith, byte (o + 2), byte (o + 2 + 1))))

  -- ranges have two lookup places at least
  two_places : eqb (at r 13) 0 ≡ false → 2 ≤ at r 8
  unfolding right
  two_places sort = go (at r 8) (at r 13) (whole.each 13 (omega (arith, whole.counted))) sort
    where
      go : (n s : ℕ) → cond (ltb n 2) (eqb s 0) (leb s 1) ≡ true → eqb s 0 ≡ false → 2 ≤ n
      go n s h e = grind (arith, nat_tests)

  -- the record's node
  places_long : length (places_in r) ≡ at r 8
  places_long = length-take-le (at r 8) _ (omega (arith, whole.places))

  rows_sound : SoundRows (length (places_in r)) (rows_in r)
  rows_sound =
      rw places_long (cond_both (eqb (at r 13) 0) _ _ (SoundRows (at r 8))
      (λ s. all_counting _ (λ k. ternary_in r (16 + 10 * k)) (at r 14) 0 (λ k l u. ternary_sound (16 + 10 * k) (row_bytes_right r whole k (omega arith)) s))
      (λ s. (two_places s, all_counting _ (λ k. range_in r (16 + 10 * k)) (at r 14) 0 (λ k l u. range_sound (16 + 10 * k) (row_bytes_right r whole k (omega arith)) s))))

-- Targets and lengths

onward_from : (count n : ℕ) (t : Target) → target_sound count n t ≡ true → Onward count n t
onward_from count n (to.Node m) e = let p = and_parts _ _ e in (ltb-true _ _ p.0, ltb-true _ _ p.1)
onward_from count n to.Done e = tt
onward_from count n to.Dropped e = tt

module _ (minimum : Kind → ℕ) (vs : List NodeView) (clean : graph_fault minimum vs ≡ None) where
  nodes_clear : (f : ℕ → NodeView → Option GraphFault) → first_node f vs ≡ None → (n : ℕ) → n < length vs → f n (node_at vs n) ≡ None
  nodes_clear f e n h = nowhere (node_fault f vs) (length vs) 0 e n (omega arith) (omega arith)

  no_target : first_node (target_fault (length vs)) vs ≡ None
  no_target = (option_or_none (first_node (target_fault (length vs)) vs) (option_or (first_node covered_fault vs) (first_node (short_fault minimum) vs)) clean).0

  no_short : first_node (short_fault minimum) vs ≡ None
  no_short =
      (option_or_none (first_node covered_fault vs) (first_node (short_fault minimum) vs)
      (option_or_none (first_node (target_fault (length vs)) vs) (option_or (first_node covered_fault vs) (first_node (short_fault minimum) vs)) clean).1).1

  pub targets_onward : (n : ℕ) → n < length vs → (k : ℕ) → k < row_count (node_at vs n).rows → Onward (length vs) n (target_of (node_at vs n).rows k)
  targets_onward n h k l =
      onward_from (length vs) n (target_of (node_at vs n).rows k)
      (holds (λ k. target_sound (length vs) n (target_of (node_at vs n).rows k)) (AtTarget n) (row_count (node_at vs n).rows) k (nodes_clear (target_fault (length vs)) no_target n h) l)

  pub lengths_enough : (n : ℕ) → n < length vs → (l : ℕ) → (node_at vs n).len ≡ Fixed l → minimum (node_at vs n).kind ≤ l
  lengths_enough n h l e =
      let s = unless_none (length_sound minimum (node_at vs n).kind (node_at vs n).len) (Short n) (nodes_clear (short_fault minimum) no_short n h) in
      leb-true _ _ (sym (ap (length_sound minimum (node_at vs n).kind) e) ∙ s)

-- The file

module _ (minimum : Kind → ℕ) (f : List ℕ) (byte : (i : ℕ) → at f i < 256) (clean : read_fault minimum f ≡ None) where
  parts : (shape_fault f ≡ None) × (pair_fault f ≡ None) × (byte_fault f ≡ None)
  parts = clear minimum f clean

  shaped : Shaped f
  shaped = shape_says f (unless_none (shape_right f) Shape parts.0)

  graph_clear : graph_fault minimum (nodes_in f) ≡ None
  graph_clear = option_map_none Graph (graph_fault minimum (nodes_in f)) (option_or_none (option_map File (file_fault f)) (option_map Graph (graph_fault minimum (nodes_in f))) clean).1

  count_is : length (nodes_in f) ≡ at f 0
  count_is = length-map-range_with_len (λ i. node_in (record_at f i)) 0 (at f 0)

  node_is : (n : ℕ) → n < length (nodes_in f) → node_at (nodes_in f) n ≡ node_in (record_at f n)
  node_is n h = get_or-map-range_with_len (λ i. node_in (record_at f i)) 0 (at f 0) n n _ (omega (arith, count_is)) (omega arith)

  whole_at : (n : ℕ) → n < length (nodes_in f) → Whole (record_at f n)
  whole_at n h = record_whole f n parts.1 parts.2 (omega (arith, count_is))

  narrow_at : (n : ℕ) → n < length (nodes_in f) → length (node_in (record_at f n)).places ≤ 4
  unfolding node_in
  narrow_at n h = omega (arith, places_long (record_at f n) (record_byte f byte parts.1 parts.2 n) (whole_at n h), (whole_at n h).places)

  rows_at : (n : ℕ) → n < length (nodes_in f) → SoundRows (length (node_in (record_at f n)).places) (node_in (record_at f n)).rows
  unfolding node_in
  rows_at n h = rows_sound (record_at f n) (record_byte f byte parts.1 parts.2 n) (whole_at n h)

  file_sound : Sound minimum (nodes_in f)
  file_sound = record {
    some = omega (arith, count_is, shaped.some);
    few = omega (arith, count_is, shaped.few);
    narrow = λ n h. subst (λ v. length v.places ≤ 4) (sym (node_is n h)) (narrow_at n h);
    rows = λ n h. subst (λ v. SoundRows (length v.places) v.rows) (sym (node_is n h)) (rows_at n h);
    onward = targets_onward minimum (nodes_in f) graph_clear;
    enough = lengths_enough minimum (nodes_in f) graph_clear;
  }

read_clear : (o : Option ReadFault) (vs g : List NodeView) → unless_fault o vs ≡ Ok g → (o ≡ None) × (vs ≡ g)
read_clear None vs g e = (refl, cc)
read_clear (Some x) vs g e = let z : ◌≡◌ {A = ℕ} 0 1 = cc in absurd (omega arith)

-- the bridge: what reading promises is all that the theorem asks
pub accepted_sound : (minimum : Kind → ℕ) (g : List NodeView) → Accepted minimum g → Sound minimum g
accepted_sound minimum g a =
    let (clean, same) = read_clear (read_fault minimum a.file) (nodes_in a.file) g a.read in
    subst (Sound minimum) same (file_sound minimum a.file a.bytes clean)
