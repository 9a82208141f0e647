-- Where the parts of an encoding lie.
use Rattle.std.proofs.Common.{◌≡◌, ℕ, zero, suc, ◌+◌, ◌*◌, ◌/◌, ◌%◌, ◌<◌, ◌≤◌, List, [], ◌∷◌, ◌++◌, map, length, get_or, take, drop, sym, refl, ap, ◌∙◌, ap₂, add-zero, arith}
use Rattle.std.specs.List.{flat_map}
use Rattle.std.proofs.lemmas.List.{length-append, length-map, get_or-map, length-take-le, append_assoc, get_or_append_left, get_or-append_right, get_or-append-add, take_at, drop_at, drop-drop}
use Rattle.patterns.specs.declared.row.Target.{Target}
use Rattle.patterns.specs.declared.row.Target.TheVariants.{Node, Done, Dropped}
use Rattle.patterns.specs.declared.row.TernaryRow.{TernaryRow}
use Rattle.patterns.specs.declared.row.RangeRow.{RangeRow}
use Rattle.headers.specs.Kinds.{kind_number}
use Rattle.graphs.specs.declared.graph.Length.{Length}
use Rattle.graphs.specs.declared.graph.Length.TheVariants.{Fixed, Counted}
use Rattle.graphs.specs.View.{RowsView, ternary_rows, range_rows, NodeView, row_count}
use Rattle.graph_reader.specs.Records.{at}
use Rattle.graph_reader.specs.Encoding.{two, length_bytes, place_bytes, target_bytes, ternary_bytes, range_bytes, sort_byte, row_bytes, record_with, record_length, pairs_from}
use Rattle.graph_reader.specs.Files.{offset, size, record_at}

target_length : (t : Target) → length (target_bytes t) ≡ 2
target_length (Node n) = refl
target_length Done = refl
target_length Dropped = refl

pub ternary_length : (r : TernaryRow) → length (ternary_bytes r) ≡ 10
ternary_length r = ap (λ n. suc (suc (suc (suc (suc (suc (suc (suc n)))))))) (target_length r.target)

pub range_length : (r : RangeRow) → length (range_bytes r) ≡ 10
range_length r = ap (λ n. suc (suc (suc (suc (suc (suc (suc (suc n)))))))) (target_length r.target)

pub joined_length : {X : Type 0} (f : X → List ℕ) → ((x : X) → length (f x) ≡ 10) → (xs : List X) → length (flat_map f xs) ≡ 10 * length xs
joined_length f e [] = refl
joined_length f e (x ∷ xs) = omega (arith, length-append (f x) (flat_map f xs), e x, joined_length f e xs)

-- byte j of row k
pub row_at : {X : Type 0} (f : X → List ℕ) → ((x : X) → length (f x) ≡ 10) → (xs : List X) (k j : ℕ) (d : X) → k < length xs → j < 10
    → at (flat_map f xs) (10 * k + j) ≡ at (f (get_or xs k d)) j
row_at f e [] k j d h l = absurd (omega arith)
row_at f e (x ∷ xs) zero j d h l = ap (at (f x ++ flat_map f xs)) (omega arith) ∙ get_or_append_left (f x) (flat_map f xs) 0 j (omega (arith, e x))
row_at f e (x ∷ xs) (suc k) j d h l =
    get_or-append_right (f x) (flat_map f xs) 10 (10 * suc k + j) 0 (e x) (omega arith)
    ∙ ap (at (flat_map f xs)) (omega arith) ∙ row_at f e xs k j d (omega arith) l

-- the 16 bytes before the rows, under the counts that are given
abbrev pub head : ℕ → ℕ → NodeView → List ℕ
head places rows v = kind_number v.kind ∷ (length_bytes v.len ++ (places ∷ (place_bytes v.places ++ (sort_byte v.rows ∷ rows ∷ 0 ∷ []))))

pub record_parts : (places rows : ℕ) (v : NodeView) → record_with places rows v ≡ head places rows v ++ row_bytes v.rows
record_parts places rows v = simp append_assoc

pub places_length : (ps : List ℕ) → length (place_bytes ps) ≡ 4
places_length ps = length-take-le 4 (ps ++ 0 ∷ 0 ∷ 0 ∷ 0 ∷ []) (omega (arith, length-append ps (0 ∷ 0 ∷ 0 ∷ 0 ∷ [])))

pub length_of : (l : Length) (xs : List ℕ) → length (length_bytes l ++ xs) ≡ 7 + length xs
length_of (Fixed n) xs = omega arith
length_of (Counted place mask shift unit base) xs = omega arith

pub head_length : (places rows : ℕ) (v : NodeView) → length (head places rows v) ≡ 16
head_length places rows v =
    let rest = sort_byte v.rows ∷ rows ∷ 0 ∷ [] in
    omega (arith, length_of v.len (places ∷ (place_bytes v.places ++ rest)), length-append (place_bytes v.places) rest, places_length v.places)

pub rows_length : (v : RowsView) → length (row_bytes v) ≡ 10 * row_count v
rows_length (ternary_rows rs) = joined_length ternary_bytes ternary_length rs
rows_length (range_rows rs) = joined_length range_bytes range_length rs

pub record_long : (places rows : ℕ) (v : NodeView) → length (record_with places rows v) ≡ record_length v
record_long places rows v =
    ap length (record_parts places rows v) ∙ length-append (head places rows v) (row_bytes v.rows) ∙ ap₂ (λ a b. a + b) (head_length places rows v) (rows_length v.rows)

-- the bytes of some records together
abbrev pub sizes : List NodeView → ℕ
sizes [] = 0
sizes (v ∷ vs) = record_length v + sizes vs

pub pairs_length : (from : ℕ) (vs : List NodeView) → length (pairs_from from vs) ≡ 4 * length vs
pairs_length from [] = refl
pairs_length from (v ∷ vs) = omega (arith, pairs_length (from + record_length v) vs)

-- one record more
pub sizes_next : (vs : List NodeView) (i : ℕ) (d : NodeView) → i < length vs → sizes (take (suc i) vs) ≡ sizes (take i vs) + record_length (get_or vs i d)
sizes_next [] i d h = absurd (omega arith)
sizes_next (v ∷ vs) zero d h = omega arith
sizes_next (v ∷ vs) (suc i) d h = omega (arith, sizes_next vs i d (omega arith))

pub sizes_within : (vs : List NodeView) (i : ℕ) → sizes (take i vs) ≤ sizes vs
sizes_within [] zero = omega arith
sizes_within [] (suc i) = omega arith
sizes_within (v ∷ vs) zero = omega arith
sizes_within (v ∷ vs) (suc i) = omega (arith, sizes_within vs i)

-- byte j of pair i
pair_at : (from : ℕ) (vs : List NodeView) (i j : ℕ) (d : NodeView) → i < length vs → j < 4
    → at (pairs_from from vs) (4 * i + j) ≡ at (two (from + sizes (take i vs)) ++ two (record_length (get_or vs i d))) j
pair_at from [] i j d h l = absurd (omega arith)
pair_at from (v ∷ vs) zero j d h l =
    let e : 4 * 0 + j ≡ j = omega arith in
    ap (at (pairs_from from (v ∷ vs))) e
    ∙ get_or_append_left (two from ++ two (record_length v)) (pairs_from (from + record_length v) vs) 0 j (omega arith)
    ∙ ap (λ x. at (two x ++ two (record_length v)) j) (sym (add-zero from))
pair_at from (v ∷ vs) (suc i) j d h l =
    get_or-append_right (two from ++ two (record_length v)) (pairs_from (from + record_length v) vs) 4 (4 * suc i + j) 0 refl (omega arith)
    ∙ ap (at (pairs_from (from + record_length v) vs)) (omega arith) ∙ pair_at (from + record_length v) vs i j d (omega arith) l
    ∙ ap (λ x. at (two x ++ two (record_length (get_or vs i d))) j) (omega arith)

pub two_back : (n : ℕ) → n / 256 * 256 + n % 256 ≡ n
two_back n = omega arith

-- records, each as long as the pair of its node says
module _ {X : Type 0} (view : X → NodeView) (bytes : X → List ℕ) (long : (x : X) → length (bytes x) ≡ record_length (view x)) where
  records_length : (xs : List X) → length (flat_map bytes xs) ≡ sizes (map view xs)
  records_length [] = refl
  records_length (x ∷ xs) = length-append (bytes x) (flat_map bytes xs) ∙ ap₂ (λ a b. a + b) (long x) (records_length xs)

  -- record i
  record_in : (xs : List X) (i : ℕ) (d : X) → i < length xs
      → take (record_length (view (get_or xs i d))) (drop (sizes (take i (map view xs))) (flat_map bytes xs)) ≡ bytes (get_or xs i d)
  record_in [] i d h = absurd (omega arith)
  record_in (x ∷ xs) zero d h = take_at (bytes x) (flat_map bytes xs) (record_length (view x)) (long x)
  record_in (x ∷ xs) (suc i) d h =
      ap (take (record_length (view (get_or xs i d))))
      (sym (drop-drop (sizes (take i (map view xs))) (record_length (view x)) (bytes x ++ flat_map bytes xs)) ∙ ap (drop (sizes (take i (map view xs)))) (drop_at (bytes x) (flat_map bytes xs) (record_length (view x)) (long x)))
      ∙ record_in xs i d (omega arith)

  -- their file, by the nodes that they show
  module _ (xs : List X) {vs : List NodeView} (shown : map view xs ≡ vs) where
    abbrev pub file_with : List ℕ
    file_with = length vs ∷ 0 ∷ (pairs_from (2 + 4 * length vs) vs ++ flat_map bytes xs)

    abbrev pairs : List ℕ
    pairs = pairs_from (2 + 4 * length vs) vs

    pub many : length vs ≡ length xs
    many = ap length (sym shown) ∙ length-map xs view

    -- where record i begins
    abbrev pub start : ℕ → ℕ
    start i = 2 + 4 * length vs + sizes (take i vs)

    pub file_long : length file_with ≡ 2 + 4 * length vs + sizes vs
    file_long = omega (arith, length-append pairs (flat_map bytes xs), pairs_length (2 + 4 * length vs) vs, records_length xs, ap sizes shown)

    module _ (i : ℕ) (h : i < length vs) (d : X) where
      abbrev size_of : ℕ
      size_of = record_length (view (get_or xs i d))

      pub shown_at : (e : NodeView) → get_or vs i e ≡ view (get_or xs i d)
      shown_at e = ap (λ vs. get_or vs i e) (sym shown) ∙ get_or-map view xs i d e (omega (arith, many))

      pair_byte : (j k : ℕ) → j < 4 → k ≡ 2 + (4 * i + j) → at file_with k ≡ at (two (start i) ++ two size_of) j
      pair_byte j k l e =
          ap (at file_with) e
          ∙ get_or-append-add (length vs ∷ 0 ∷ []) (pairs ++ flat_map bytes xs) (4 * i + j) 0
          ∙ get_or_append_left pairs (flat_map bytes xs) 0 (4 * i + j) (omega (arith, pairs_length (2 + 4 * length vs) vs))
          ∙ pair_at (2 + 4 * length vs) vs i j (view d) h l ∙ ap (λ v. at (two (start i) ++ two (record_length v)) j) (shown_at (view d))

      pub offset_is : offset file_with i ≡ start i
      offset_is = ap₂ (λ a b. a * 256 + b) (pair_byte 0 (2 + 4 * i) (omega arith) (omega arith)) (pair_byte 1 (2 + 4 * i + 1) (omega arith) (omega arith)) ∙ two_back (start i)

      pub size_is : size file_with i ≡ size_of
      size_is = ap₂ (λ a b. a * 256 + b) (pair_byte 2 (4 + 4 * i) (omega arith) (omega arith)) (pair_byte 3 (4 + 4 * i + 1) (omega arith) (omega arith)) ∙ two_back size_of

      pub record_is : record_at file_with i ≡ bytes (get_or xs i d)
      record_is =
          ap₂ (λ n m. take n (drop m file_with)) size_is offset_is
          ∙ ap (take size_of)
          (sym (drop-drop (sizes (take i vs)) (2 + 4 * length vs) file_with)
          ∙ ap (drop (sizes (take i vs))) (drop_at (length vs ∷ 0 ∷ pairs) (flat_map bytes xs) (2 + 4 * length vs) (omega (arith, pairs_length (2 + 4 * length vs) vs)))
          ∙ ap (λ vs. drop (sizes (take i vs)) (flat_map bytes xs)) (sym shown))
          ∙ record_in xs i d (omega (arith, many))
