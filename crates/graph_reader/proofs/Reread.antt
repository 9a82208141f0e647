-- The encoding of a sound graph is read as the same graph.
use Rattle.std.specs.Option.{option_or, option_map}
use Rattle.std.proofs.Common.{◌≡◌, ℕ, zero, suc, ◌+◌, ◌-◌, ◌*◌, ◌/◌, ◌%◌, ◌<◌, ◌≤◌, true, cond, ◌||◌, eqb, ltb, List, [], ◌∷◌, ◌++◌, map, length, get_or, take, drop, None, Ok, Option, sym, refl, ap, ◌∙◌, subst, ap₂, inl, inr, add-zero, arith}
use Rattle.std.specs.List.{flat_map}
use Rattle.std.proofs.lemmas.Bool.{and_from, and_parts, le-leb, leb-true, eq-eqb, ne_eqb, lt-ltb, or_left, or_right, cond-false, cases_lt}
use Rattle.std.proofs.lemmas.List.{get_or-append_right, get_or-take, get_or-drop, take-take, take_at, take_all, map-id}
use Rattle.std.proofs.lemmas.List.FromFn.{fill_by_all}
use Rattle.refusals.specs.Searching.{first_told, unless}
use Rattle.refusals.proofs.Searching.{none_of, holds}
use Rattle.headers.specs.declared.kinds.Kind.{Kind}
use Rattle.headers.specs.declared.kinds.Kind.TheVariants.{Ethernet}
use Rattle.headers.specs.Kinds.{kind_number, kind_at}
use Rattle.headers.proofs.KindLaws.{kind_back}
use Rattle.patterns.specs.declared.row.Target.{Target}
use Rattle.patterns.specs.declared.row.Target.TheVariants.{Node, Done, Dropped}
use Rattle.patterns.specs.declared.row.TernaryRow.{TernaryRow}
use Rattle.patterns.specs.declared.row.RangeRow.{RangeRow}
use Rattle.graphs.specs.declared.graph.Length.{Length}
use Rattle.graphs.specs.declared.graph.Length.TheVariants.{Fixed, Counted}
use Rattle.graphs.specs.View.{RowsView, ternary_rows, range_rows, NodeView, row_count, node_at}
use Rattle.graphs.specs.Checking.{graph_fault}
use Rattle.graph_reader.specs.declared.fault.FileFault.TheVariants.{Shape, Pair, Byte}
use Rattle.graph_reader.specs.Records.{at, at2, at4, right}
use Rattle.graph_reader.specs.Encoding.{length_bytes, place_bytes, target_bytes, ternary_bytes, range_bytes, sort_byte, row_bytes, record_with, record_of, record_length, encode}
use Rattle.graph_reader.specs.Files.{offset, size, begins, pair_right, record_at, first_wrong, shape_fault, pair_fault, record_fault, byte_fault}
use Rattle.graph_reader.specs.Decoding.{target_in, ternary_in, range_in, each_row, node_in, nodes_in}
use Rattle.graph_reader.specs.Reading.{reading}
use Rattle.graph_reader.proofs.Refused.{reading_graph}
use Rattle.graph_reader.proofs.Places.{ternary_length, range_length, row_at, head, record_parts, places_length, head_length, record_long, sizes, sizes_next, sizes_within, file_with, many, start, file_long, shown_at, offset_is, size_is, record_is, two_back}

four_back : (n : ℕ) → n / 16777216 * 16777216 + n / 65536 % 256 * 65536 + n / 256 % 256 * 256 + n % 256 ≡ n
four_back n = omega arith

-- the node that `node_at` answers past the end
abbrev blank : NodeView
blank = record { kind = Ethernet; len = Fixed 0; places = []; rows = ternary_rows [] }

abbrev ternary : ℕ → ℕ → Target → TernaryRow
ternary v m t = record { value = v; mask = m; target = t }

abbrev range : ℕ → ℕ → Target → RangeRow
range l h t = record { low = l; high = h; target = t }

-- what is read from o on, where the bytes of a row stand
module _ (r : List ℕ) (o : ℕ) where
  target_back : (t : Target) → at r (o + 8) ≡ at (target_bytes t) 0 → at r (o + 9) ≡ at (target_bytes t) 1 → target_in r o ≡ t
  target_back (Node n) a b = ap₂ (λ x y. cond (eqb x 0) (Node y) (cond (eqb x 1) Done Dropped)) a b
  target_back Done a b = ap (λ x. cond (eqb x 0) (Node (at r (o + 9))) (cond (eqb x 1) Done Dropped)) a
  target_back Dropped a b = ap (λ x. cond (eqb x 0) (Node (at r (o + 9))) (cond (eqb x 1) Done Dropped)) a

  module _ (bytes : List ℕ) (each : (j : ℕ) → j < 10 → at r (o + j) ≡ at bytes j) where
    byte : (j k : ℕ) → j < 10 → k ≡ o + j → at r k ≡ at bytes j
    byte j k l e = ap (at r) e ∙ each j l

    at4_is : (p k : ℕ) → p ≡ o + k → k + 3 < 10 → at4 r p ≡ at4 bytes k
    at4_is p k e l =
        ap₂ (λ x y. x + y)
        (ap₂ (λ x y. x + y)
        (ap₂ (λ x y. x * 16777216 + y * 65536) (byte k p (omega arith) e) (byte (k + 1) (p + 1) (omega arith) (omega arith)))
        (ap (λ x. x * 256) (byte (k + 2) (p + 2) (omega arith) (omega arith))))
        (byte (k + 3) (p + 3) l (omega arith))

    at2_is : (p k : ℕ) → p ≡ o + k → k + 1 < 10 → at2 r p ≡ at2 bytes k
    at2_is p k e l = ap₂ (λ x y. x * 256 + y) (byte k p (omega arith) e) (byte (k + 1) (p + 1) l (omega arith))

  ternary_back : (row : TernaryRow) → ((j : ℕ) → j < 10 → at r (o + j) ≡ at (ternary_bytes row) j) → ternary_in r o ≡ row
  ternary_back row each =
      let v : at4 r o ≡ row.value = at4_is (ternary_bytes row) each o 0 (sym (add-zero o)) (omega arith) ∙ four_back row.value in
      let m : at4 r (o + 4) ≡ row.mask = at4_is (ternary_bytes row) each (o + 4) 4 refl (omega arith) ∙ four_back row.mask in
      let t : target_in r o ≡ row.target = target_back row.target (each 8 (omega arith)) (each 9 (omega arith)) in
      ap₂ (λ x y. ternary x y (target_in r o)) v m ∙ ap (ternary row.value row.mask) t

  range_back : (row : RangeRow) → ((j : ℕ) → j < 10 → at r (o + j) ≡ at (range_bytes row) j) → range_in r o ≡ row
  range_back row each =
      let l : at2 r o ≡ row.low = at2_is (range_bytes row) each o 0 (sym (add-zero o)) (omega arith) ∙ two_back row.low in
      let h : at2 r (o + 2) ≡ row.high = at2_is (range_bytes row) each (o + 2) 2 refl (omega arith) ∙ two_back row.high in
      let t : target_in r o ≡ row.target = target_back row.target (each 8 (omega arith)) (each 9 (omega arith)) in
      ap₂ (λ x y. range x y (target_in r o)) l h ∙ ap (range row.low row.high) t

-- the rows behind 16 bytes
module _ {X : Type 0} (bytes : X → List ℕ) (ten : (x : X) → length (bytes x) ≡ 10) (read : List ℕ → ℕ → X)
    (back : (r : List ℕ) (o : ℕ) (x : X) → ((j : ℕ) → j < 10 → at r (o + j) ≡ at (bytes x) j) → read r o ≡ x) where
  rows_back : (front : List ℕ) → length front ≡ 16 → (xs : List X) (d : X) → each_row (read (front ++ flat_map bytes xs)) (length xs) ≡ xs
  rows_back front e xs d =
      let r = front ++ flat_map bytes xs in
      sym (fill_by_all (λ k. read r (16 + 10 * k)) xs (length xs) d refl
      (λ k h. sym (back r (16 + 10 * k) (get_or xs k d)
      (λ j l. get_or-append_right front (flat_map bytes xs) 16 (16 + 10 * k + j) 0 e (omega arith) ∙ ap (at (flat_map bytes xs)) (omega arith) ∙ row_at bytes ten xs k j d h l))))

four_list : (xs : List ℕ) → length xs ≡ 4 → xs ≡ at xs 0 ∷ at xs 1 ∷ at xs 2 ∷ at xs 3 ∷ []
four_list [] e = absurd (omega arith)
four_list (a ∷ []) e = absurd (omega arith)
four_list (a ∷ b ∷ []) e = absurd (omega arith)
four_list (a ∷ b ∷ c ∷ []) e = absurd (omega arith)
four_list (a ∷ b ∷ c ∷ d ∷ []) e = refl
four_list (a ∷ b ∷ c ∷ d ∷ x ∷ xs) e = absurd (omega arith)

places_back : (ps : List ℕ) → length ps ≤ 4 → take (length ps) (place_bytes ps) ≡ ps
places_back ps h = take-take (length ps) 4 (ps ++ 0 ∷ 0 ∷ 0 ∷ 0 ∷ []) h ∙ take_at ps (0 ∷ 0 ∷ 0 ∷ 0 ∷ []) (length ps) refl

-- the bytes of a record, one by one
abbrev spelt : Kind → Length → ℕ → ℕ → ℕ → ℕ → ℕ → ℕ → ℕ → List ℕ → List ℕ
spelt k l c p q s t sort n tail = kind_number k ∷ (length_bytes l ++ (c ∷ p ∷ q ∷ s ∷ t ∷ sort ∷ n ∷ 0 ∷ tail))

abbrev node : Kind → Length → List ℕ → RowsView → NodeView
node k l ps rows = record { kind = k; len = l; places = ps; rows = rows }

node_read : (k : Kind) (l : Length) (c p q s t sort n : ℕ) (tail : List ℕ)
    → node_in (spelt k l c p q s t sort n tail) ≡ node (kind_at (kind_number k)) l (take c (p ∷ q ∷ s ∷ t ∷ []))
    (cond (eqb sort 0) (ternary_rows (each_row (ternary_in (spelt k l c p q s t sort n tail)) n)) (range_rows (each_row (range_in (spelt k l c p q s t sort n tail)) n)))
unfolding node_in
node_read k (Fixed x) c p q s t sort n tail = refl
node_read k (Counted place mask shift unit base) c p q s t sort n tail = refl

count_at : (k : Kind) (l : Length) (c p q s t sort n : ℕ) (tail : List ℕ) → at (spelt k l c p q s t sort n tail) 8 ≡ c
count_at k (Fixed x) c p q s t sort n tail = refl
count_at k (Counted place mask shift unit base) c p q s t sort n tail = refl

rows_at : (k : Kind) (l : Length) (c p q s t sort n : ℕ) (tail : List ℕ) → at (spelt k l c p q s t sort n tail) 14 ≡ n
rows_at k (Fixed x) c p q s t sort n tail = refl
rows_at k (Counted place mask shift unit base) c p q s t sort n tail = refl

rows_read : (front : List ℕ) → length front ≡ 16 → (rows : RowsView) (r : List ℕ) → r ≡ front ++ row_bytes rows
    → cond (eqb (sort_byte rows) 0) (ternary_rows (each_row (ternary_in r) (row_count rows))) (range_rows (each_row (range_in r) (row_count rows))) ≡ rows
rows_read front e (ternary_rows rs) r s =
    ap ternary_rows (ap (λ r. each_row (ternary_in r) (length rs)) s ∙ rows_back ternary_bytes ternary_length ternary_in ternary_back front e rs (ternary 0 0 Done))
rows_read front e (range_rows rs) r s =
    ap range_rows (ap (λ r. each_row (range_in r) (length rs)) s ∙ rows_back range_bytes range_length range_in range_back front e rs (range 0 0 Done))

-- a record under the counts that are given
module _ (places rows : ℕ) (v : NodeView) where
  abbrev place : ℕ → ℕ
  place j = at (place_bytes v.places) j

  abbrev written_out : List ℕ
  written_out = spelt v.kind v.len places (place 0) (place 1) (place 2) (place 3) (sort_byte v.rows) rows (row_bytes v.rows)

  record_spelt : record_with places rows v ≡ written_out
  record_spelt =
      ap (λ ps. kind_number v.kind ∷ (length_bytes v.len ++ (places ∷ (ps ++ (sort_byte v.rows ∷ rows ∷ 0 ∷ row_bytes v.rows)))))
      (four_list (place_bytes v.places) (places_length v.places))

  pub place_count : at (record_with places rows v) 8 ≡ places
  place_count = ap (λ r. at r 8) record_spelt ∙ count_at v.kind v.len _ _ _ _ _ _ _ _

  pub row_count_lem : at (record_with places rows v) 14 ≡ rows
  row_count_lem = ap (λ r. at r 14) record_spelt ∙ rows_at v.kind v.len _ _ _ _ _ _ _ _

  module _ (w : first_wrong (record_with places rows v) ≡ None) where
    each : (j : ℕ) → j < 16 → right (record_with places rows v) j ≡ true
    each j h = holds (right (record_with places rows v)) (λ b. b) (length (record_with places rows v)) j w (omega (arith, record_long places rows v))

    pub few_places : places ≤ 4
    unfolding right
    few_places = subst (λ b. b ≤ 4) place_count (leb-true _ _ (each 8 (omega arith)))

    pub few_rows : rows ≤ 16
    unfolding right
    few_rows = subst (λ b. b ≤ 16) row_count_lem (leb-true _ _ (and_parts _ _ (each 14 (omega arith))).1)

-- a record is read as the node that it encodes
node_back : (v : NodeView) → length v.places ≤ 4 → node_in (record_of v) ≡ v
node_back v h =
    let p = length v.places in
    let n = row_count v.rows in
    let r = written_out p n v in
    let rows = cond (eqb (sort_byte v.rows) 0) (ternary_rows (each_row (ternary_in r) n)) (range_rows (each_row (range_in r) n)) in
    ap node_in (record_spelt p n v) ∙ node_read v.kind v.len _ _ _ _ _ _ _ _
    ∙ ap₂ (λ k ps. node k v.len ps rows) (kind_back v.kind) (ap (take p) (sym (four_list (place_bytes v.places) (places_length v.places))) ∙ places_back v.places h)
    ∙ ap (node v.kind v.len v.places) (rows_read (head p n v) (head_length p n v) v.rows r (sym (record_spelt p n v) ∙ record_parts p n v))

sizes_small : (vs : List NodeView) → ((i : ℕ) → i < length vs → row_count (node_at vs i).rows ≤ 16) → sizes vs ≤ 176 * length vs
sizes_small [] h = omega arith
sizes_small (v ∷ vs) h = omega (arith, h 0 (omega arith), sizes_small vs (λ i l. h (suc i) (omega arith)))

-- searches that tell the same at each place
told_same : {X : Type 0} (f g : ℕ → Option X) (k i : ℕ) → ((j : ℕ) → i ≤ j → j < i + k → f j ≡ g j) → first_told f i k ≡ first_told g i k
told_same f g zero i h = refl
told_same f g (suc k) i h = ap₂ option_or (h i (omega arith) (omega arith)) (told_same f g k (i + 1) (λ j l m. h j (omega arith) (omega arith)))

-- A file of 1 to 32 records, each with its own row count, which is at most 16: its shape and its pairs are right
module _ {X : Type 0} (view : X → NodeView) (bytes : X → List ℕ) (long : (x : X) → length (bytes x) ≡ record_length (view x))
    (xs : List X) (d : X) {vs : List NodeView} (shown : map view xs ≡ vs) (some : 1 ≤ length vs) (few : length vs ≤ 32)
    (rows : (i : ℕ) → i < length xs → (row_count (view (get_or xs i d)).rows ≤ 16) × (at (bytes (get_or xs i d)) 14 ≡ row_count (view (get_or xs i d)).rows)) where
  abbrev file : List ℕ
  file = file_with view bytes long xs shown

  within : (i : ℕ) → i < length vs → i < length xs
  within i h = omega (arith, many view bytes long xs shown)

  small : sizes vs ≤ 176 * length vs
  small = sizes_small vs (λ i h. subst (λ v. row_count v.rows ≤ 16) (sym (shown_at view bytes long xs shown i h d blank)) (rows i (within i h)).0)

  pub shape_clear : shape_fault file ≡ None
  shape_clear =
      ap (λ t. unless t Shape)
      (and_from _ _ (le-leb 2 (length file) (omega (arith, file_long view bytes long xs shown)))
      (and_from _ _ (le-leb (length file) 5762 (omega (arith, file_long view bytes long xs shown, small)))
      (and_from _ _ (le-leb 1 (length vs) some) (and_from _ _ (le-leb (length vs) 32 few) refl))))

  abbrev begin : ℕ → ℕ
  begin i = start view bytes long xs shown i

  module _ (i : ℕ) (h : i < length vs) where
    abbrev here : X
    here = get_or xs i d

    size_lem : size file i ≡ record_length (view here)
    size_lem = size_is view bytes long xs shown i h d

    pub ends : offset file i + size file i ≡ begin (suc i)
    ends =
        let e = shown_at view bytes long xs shown i h d blank in
        omega (arith, offset_is view bytes long xs shown i h d, size_lem, sizes_next vs i blank h, ap record_length e)

    inside : offset file i + size file i ≤ length file
    inside = omega (arith, ends, file_long view bytes long xs shown, sizes_within vs (suc i))

    counted : size file i ≡ 16 + 10 * at file (offset file i + 14)
    counted =
        let l : 14 < size file i = omega (arith, size_lem) in
        let read : at file (offset file i + 14) ≡ row_count (view here).rows =
        sym (get_or-drop (offset file i) file 14 0) ∙ sym (get_or-take (size file i) (drop (offset file i) file) 14 0 l)
        ∙ ap (λ r. at r 14) (record_is view bytes long xs shown i h d) ∙ (rows i (within i h)).1 in
        omega (arith, size_lem, read)

    last : (ltb (i + 1) (at file 0) || eqb (offset file i + size file i) (length file)) ≡ true
    last = elim (cases_lt (i + 1) (length vs)) [
      | inl l ↦ or_left _ _ (lt-ltb (i + 1) (length vs) l)
      | inr l ↦
          let all : sizes (take (suc i) vs) ≡ sizes vs = ap sizes (take_all (suc i) vs (omega arith)) in
          let done : offset file i + size file i ≡ length file = omega (arith, ends, file_long view bytes long xs shown, all) in
          or_right (ltb (i + 1) (length vs)) _ (eq-eqb _ _ done)
    ]

  begun : (i : ℕ) → i < length vs → offset file i ≡ begins file i
  begun zero h = offset_is view bytes long xs shown 0 h d ∙ add-zero (2 + 4 * length vs)
  begun (suc k) h =
      let back : k ≡ suc k - 1 = omega arith in
      offset_is view bytes long xs shown (suc k) h d ∙ sym (ends k (omega arith))
      ∙ ap (λ j. offset file j + size file j) back ∙ sym (cond-false (eqb (suc k) 0) _ _ (ne_eqb (suc k) 0 (λ z. omega arith)))

  pair_right_lem : (i : ℕ) → i < length vs → pair_right file i ≡ true
  unfolding pair_right
  pair_right_lem i h =
      and_from _ _ (le-leb (6 + 4 * i) (length file) (omega (arith, file_long view bytes long xs shown)))
      (and_from _ _ (eq-eqb _ _ (begun i h))
      (and_from _ _ (le-leb _ _ (inside i h)) (and_from _ _ (eq-eqb _ _ (counted i h)) (last i h))))

  pub pairs_clear : pair_fault file ≡ None
  pairs_clear = none_of (λ i. unless (pair_right file i) (Pair i)) (length vs) 0 (λ i l m. ap (λ t. unless t (Pair i)) (pair_right_lem i (omega arith)))

  -- what is told of its bytes is told of the records themselves
  pub bytes_told : byte_fault file ≡ first_told (λ i. option_map (Byte i) (first_wrong (bytes (get_or xs i d)))) 0 (length xs)
  bytes_told =
      ap (first_told (record_fault file) 0) (many view bytes long xs shown)
      ∙ told_same (record_fault file) _ (length xs) 0
      (λ i l m. ap (λ r. option_map (Byte i) (first_wrong r)) (record_is view bytes long xs shown i (omega (arith, many view bytes long xs shown)) d))

module _ (vs : List NodeView) (some : 1 ≤ length vs) (few : length vs ≤ 32) (sound : (i : ℕ) → i < length vs → first_wrong (record_of (node_at vs i)) ≡ None) where
  long : (v : NodeView) → length (record_of v) ≡ record_length v
  long v = record_long (length v.places) (row_count v.rows) v

  same : map (λ v. v) vs ≡ vs
  same = map-id vs

  rows : (i : ℕ) → i < length vs → (row_count (node_at vs i).rows ≤ 16) × (at (record_of (node_at vs i)) 14 ≡ row_count (node_at vs i).rows)
  rows i h = let v = node_at vs i in (few_rows (length v.places) (row_count v.rows) v (sound i h), row_count_lem (length v.places) (row_count v.rows) v)

  bytes_clear : byte_fault (encode vs) ≡ None
  bytes_clear =
      bytes_told (λ v. v) record_of long vs blank same some few rows
      ∙ none_of (λ i. option_map (Byte i) (first_wrong (record_of (get_or vs i blank)))) (length vs) 0 (λ i l m. ap (option_map (Byte i)) (sound i (omega arith)))

  pub nodes_back : nodes_in (encode vs) ≡ vs
  nodes_back =
      sym (fill_by_all (λ i. node_in (record_at (encode vs) i)) vs (length vs) blank refl
      (λ i h.
      let v = node_at vs i in
      sym (ap node_in (record_is (λ v. v) record_of long vs same i h blank) ∙ node_back v (few_places (length v.places) (row_count v.rows) v (sound i h)))))

  pub reads_back : (minimum : Kind → ℕ) → graph_fault minimum vs ≡ None → reading minimum (encode vs) ≡ Ok vs
  reads_back minimum g =
      sym (reading_graph minimum (encode vs) (sym (shape_clear (λ v. v) record_of long vs blank same some few rows)) (sym (pairs_clear (λ v. v) record_of long vs blank same some few rows))
      (sym bytes_clear) vs (sym nodes_back) None (sym g))
