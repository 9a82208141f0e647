-- What reading tells of a file is its least fault.
use Rattle.std.specs.Option.{option_or, option_map}
use Rattle.std.proofs.Common.{◌≡◌, ℕ, ◌+◌, ◌<◌, ◌≤◌, false, eqb, ltb, ◌⊎◌, List, length, Some, None, Option, Result, sym, refl, ap, ◌∙◌, subst, ap₂, inl, inr, arith}
use Rattle.std.proofs.lemmas.Bool.{and_cases, or_cases, or_parts, cases_Bool, leb-false, ltb-true, ltb-false, eqb-true, eqb-false}
use Rattle.refusals.specs.Searching.{first_told, unless, unless_fault}
use Rattle.refusals.specs.Least.{NotAfter, Answers}
use Rattle.refusals.proofs.Searching.{option_or_none, option_map_none}
use Rattle.refusals.proofs.Lowest.{Lowest, lowest_like, lowest_or, lowest_of, lowest_unless, lowest_mapped}
use Rattle.refusals.proofs.Ranking.{lower}
use Rattle.headers.specs.declared.kinds.Kind.{Kind}
use Rattle.graphs.specs.declared.fault.GraphFault.{GraphFault}
use Rattle.graphs.specs.declared.fault.GraphFault.TheVariants.{Target, Covered, Short}
use Rattle.graphs.specs.View.{NodeView}
use Rattle.graphs.specs.Faults.{of_graph}
use Rattle.graphs.specs.Refusals.{GraphApplies}
use Rattle.graphs.specs.Checking.{graph_fault}
use Rattle.graphs.proofs.Refused.{graph_lowest}
use Rattle.graph_reader.specs.declared.fault.FileFault.{FileFault}
use Rattle.graph_reader.specs.declared.fault.FileFault.TheVariants.{Shape, Pair, Byte}
use Rattle.graph_reader.specs.declared.fault.ReadFault.{ReadFault}
use Rattle.graph_reader.specs.declared.fault.ReadFault.TheVariants.{File, Graph}
use Rattle.graph_reader.specs.Encoding.{encode}
use Rattle.graph_reader.specs.Records.{at, right}
use Rattle.graph_reader.specs.Files.{offset, size, shape_right, pair_right, record_at, first_wrong, shape_fault, pair_fault, byte_fault, file_fault}
use Rattle.graph_reader.specs.Faults.{of_file, of_read}
use Rattle.graph_reader.specs.Refusals.{WrongShape, short, long, no_node, many_nodes, byte_one, WrongPair, missing, apart, past_end, odd_size, not_last, OutOfRange, FileApplies, Applies}
use Rattle.graph_reader.specs.Decoding.{nodes_in}
use Rattle.graph_reader.specs.Reading.{read_fault, reading}
use Rattle.graph_reader.proofs.Pairing.{Shaped, shape_says, Right, right_says}
use Rattle.graph_reader.proofs.Ranges.{wrong_byte, not_byte}
use Rattle.graph_reader.proofs.Filed.{file_encoded}

-- the test of a file's shape, in words
wrong_shape : (f : List ℕ) → shape_right f ≡ false → WrongShape f
wrong_shape f e = elim (and_cases _ _ e) [
  | inl a ↦ short (leb-false _ _ a)
  | inr b ↦ elim (and_cases _ _ b) [
    | inl a ↦ long (leb-false _ _ a)
    | inr b ↦ elim (and_cases _ _ b) [
      | inl a ↦ no_node (let l = leb-false 1 (at f 0) a in omega arith)
      | inr b ↦ elim (and_cases _ _ b) [ inl a ↦ many_nodes (leb-false _ _ a) | inr a ↦ byte_one (eqb-false _ _ a) ]
    ]
  ]
]

not_shape : (f : List ℕ) → WrongShape f → shape_right f ≡ false
not_shape f w = elim (cases_Bool (shape_right f)) [ inl t ↦ absurd (clash w (shape_says f t)) | inr e ↦ e ]
  where
    clash : WrongShape f → Shaped f → ⊥
    clash (short h) s = omega (arith, s.begun)
    clash (long h) s = omega (arith, s.brief)
    clash (no_node h) s = omega (arith, s.some)
    clash (many_nodes h) s = omega (arith, s.few)
    clash (byte_one h) s = h s.zero

-- the test of a pair, in words
wrong_pair : (f : List ℕ) (i : ℕ) → pair_right f i ≡ false → WrongPair f i
unfolding pair_right
wrong_pair f i e = elim (and_cases _ _ e) [
  | inl a ↦ missing (leb-false _ _ a)
  | inr b ↦ elim (and_cases _ _ b) [
    | inl a ↦ apart (eqb-false _ _ a)
    | inr b ↦ elim (and_cases _ _ b) [
      | inl a ↦ past_end (leb-false _ _ a)
      | inr b ↦ elim (and_cases _ _ b) [
        | inl a ↦ odd_size (eqb-false _ _ a)
        | inr a ↦ let o = or_parts (ltb (i + 1) (at f 0)) (eqb (offset f i + size f i) (length f)) a in not_last (let l = ltb-false (i + 1) (at f 0) o.0 in omega arith) (eqb-false _ _ o.1)
      ]
    ]
  ]
]

not_pair : (f : List ℕ) (i : ℕ) → WrongPair f i → pair_right f i ≡ false
not_pair f i w = elim (cases_Bool (pair_right f i)) [ inl t ↦ absurd (clash w (right_says f i t)) | inr e ↦ e ]
  where
    clash : WrongPair f i → Right f i → ⊥
    clash (missing h) r = omega (arith, r.inside)
    clash (apart h) r = h r.touches
    clash (past_end h) r = omega (arith, r.within)
    clash (odd_size h) r = h r.counts
    clash (not_last l h) r = elim (or_cases (ltb (i + 1) (at f 0)) (eqb (offset f i + size f i) (length f)) r.ends) [
      | inl t ↦ omega (arith, ltb-true (i + 1) (at f 0) t)
      | inr t ↦ h (eqb-true _ _ t)
    ]

-- faults of a file in their order
abbrev pub before : FileFault → FileFault → Type 0
before e d = NotAfter (of_file e) (of_file d)

-- the first wrong byte of some records, by node and byte
module _ (r : ℕ → List ℕ) where
  abbrev pub RecordTold : ℕ → FileFault → Type 0
  RecordTold n e = (x : ℕ) × (e ≡ Byte n x) × ((b : ℕ) × (0 ≤ b) × (b < 0 + length (r n)) × ((x ≡ b) × (right (r n) b ≡ false)))

  abbrev pub ByteTold : ℕ → FileFault → Type 0
  ByteTold k e = (n : ℕ) × (0 ≤ n) × (n < 0 + k) × RecordTold n e

  record_lowest : (n : ℕ) → Lowest before (RecordTold n) (option_map (Byte n) (first_wrong (r n)))
  record_lowest n =
      lowest_mapped before (Byte n) (λ x. (b : ℕ) × (0 ≤ b) × (b < 0 + length (r n)) × ((x ≡ b) × (right (r n) b ≡ false))) (first_wrong (r n))
      (lowest_of (λ x y. before (Byte n x) (Byte n y)) (λ b x. (x ≡ b) × (right (r n) b ≡ false)) (λ b. unless (right (r n) b) b)
      (λ b. lowest_unless (λ x y. before (Byte n x) (Byte n y)) (right (r n) b) b (inr (refl, inr (refl, omega arith))))
      (λ i j x y l p q. inr (refl, inr (refl, omega (arith, p.0, q.0))))
      (length (r n)) 0)

  pub bytes_lowest : (k : ℕ) → Lowest before (ByteTold k) (first_told (λ n. option_map (Byte n) (first_wrong (r n))) 0 k)
  bytes_lowest k =
      lowest_of before RecordTold (λ n. option_map (Byte n) (first_wrong (r n))) record_lowest
      (λ i j e d l p q. subst (λ e. NotAfter (of_file e) (of_file d)) (sym p.1) (subst (λ d. NotAfter (of_file (Byte i p.0)) (of_file d)) (sym q.1) (inr (refl, inl l))))
      k 0

module _ (f : List ℕ) where
  abbrev ShapeTold : FileFault → Type 0
  ShapeTold e = (e ≡ Shape) × (shape_right f ≡ false)

  abbrev PairTold : FileFault → Type 0
  PairTold e = (i : ℕ) × (0 ≤ i) × (i < 0 + at f 0) × ((e ≡ Pair i) × (pair_right f i ≡ false))

  abbrev FileBytes : FileFault → Type 0
  FileBytes = ByteTold (record_at f) (at f 0)

  pair_lowest : Lowest before PairTold (pair_fault f)
  pair_lowest =
      lowest_of before (λ i e. (e ≡ Pair i) × (pair_right f i ≡ false)) (λ i. unless (pair_right f i) (Pair i))
      (λ i. lowest_unless before (pair_right f i) (Pair i) (inr (refl, inr (refl, omega arith))))
      (λ i j e d l p q. subst (λ e. NotAfter (of_file e) (of_file d)) (sym p.0) (subst (λ d. NotAfter (of_file (Pair i)) (of_file d)) (sym q.0) (inr (refl, inl l))))
      (at f 0) 0

  abbrev Told : FileFault → Type 0
  Told e = ShapeTold e ⊎ (PairTold e ⊎ FileBytes e)

  told : (e : FileFault) → Told e → FileApplies f e
  told e (inl (s, h)) = subst (FileApplies f) (sym s) (wrong_shape f h)
  told e (inr (inl (i, z, l, (s, h)))) = subst (FileApplies f) (sym s) (omega arith, wrong_pair f i h)
  told e (inr (inr (n, z, l, (x, s, (b, y, m, (t, h)))))) =
      subst (FileApplies f) (sym s) (omega arith, (omega arith, subst (OutOfRange (record_at f n)) (sym t) (wrong_byte (record_at f n) b h)))

  apply : (e : FileFault) → FileApplies f e → Told e
  apply Shape h = inl (refl, not_shape f h)
  apply (Pair i) h = inr (inl (i, omega arith, omega (arith, h.0), (refl, not_pair f i h.1)))
  apply (Byte n b) h = inr (inr (n, omega arith, omega (arith, h.0), (b, refl, (b, omega arith, omega (arith, h.1.0), (refl, not_byte (record_at f n) b h.1.1)))))

  pub file_lowest : Lowest before (FileApplies f) (file_fault f)
  file_lowest =
      lowest_like before Told (FileApplies f) told apply (file_fault f)
      (lowest_or before ShapeTold (λ e. PairTold e ⊎ FileBytes e)
      (λ e d p q. elim q [
        | inl w ↦ lower (of_file e) (of_file d) (omega (arith, ap (λ x. (of_file x).number) p.0, ap (λ x. (of_file x).number) w.3.0)) (omega (arith, ap (λ x. (of_file x).number) w.3.0))
        | inr w ↦ lower (of_file e) (of_file d) (omega (arith, ap (λ x. (of_file x).number) p.0, ap (λ x. (of_file x).number) w.3.1)) (omega (arith, ap (λ x. (of_file x).number) w.3.1))
      ])
      (shape_fault f) (option_or (pair_fault f) (byte_fault f))
      (lowest_unless before (shape_right f) Shape (inr (refl, inr (refl, omega arith))))
      (lowest_or before PairTold FileBytes
      (λ e d p q. lower (of_file e) (of_file d) (omega (arith, ap (λ x. (of_file x).number) p.3.0, ap (λ x. (of_file x).number) q.3.1)) (omega (arith, ap (λ x. (of_file x).number) q.3.1)))
      (pair_fault f) (byte_fault f) pair_lowest (bytes_lowest (record_at f) (at f 0))))

-- a file's fault goes before a graph's
pub file_number : (e : FileFault) → (of_file e).number ≤ 3
file_number Shape = omega arith
file_number (Pair i) = omega arith
file_number (Byte n b) = omega arith

pub graph_number : (e : GraphFault) → 4 ≤ (of_graph e).number
graph_number (Target n k) = omega arith
graph_number (Covered n k) = omega arith
graph_number (Short n) = omega arith

pub graph_numbers : (e : GraphFault) → (of_graph e).number ≤ 6
graph_numbers (Target n k) = omega arith
graph_numbers (Covered n k) = omega arith
graph_numbers (Short n) = omega arith

pub file_below : (e : FileFault) (d : GraphFault) → NotAfter (of_file e) (of_graph d)
file_below e d = lower (of_file e) (of_graph d) (omega (arith, file_number e, graph_number d)) (omega (arith, graph_numbers d))

module _ (minimum : Kind → ℕ) (f : List ℕ) where
  abbrev order : ReadFault → ReadFault → Type 0
  order e d = NotAfter (of_read e) (of_read d)

  abbrev InFile : ReadFault → Type 0
  InFile e = (x : FileFault) × (e ≡ File x) × FileApplies f x

  abbrev InGraph : ReadFault → Type 0
  InGraph e = (x : GraphFault) × (e ≡ Graph x) × GraphApplies minimum (nodes_in f) x

  into : (e : ReadFault) → InFile e ⊎ InGraph e → Applies minimum f e
  into e (inl (x, s, h)) = subst (Applies minimum f) (sym s) h
  into e (inr (x, s, h)) = subst (Applies minimum f) (sym s) h

  out : (e : ReadFault) → Applies minimum f e → InFile e ⊎ InGraph e
  out (File x) h = inl (x, refl, h)
  out (Graph x) h = inr (x, refl, h)

  read_lowest : Lowest order (Applies minimum f) (read_fault minimum f)
  read_lowest =
      lowest_like order (λ e. InFile e ⊎ InGraph e) (Applies minimum f) into out (read_fault minimum f)
      (lowest_or order InFile InGraph
      (λ e d p q. subst (λ e. order e d) (sym p.1) (subst (order (File p.0)) (sym q.1) (file_below p.0 q.0)))
      (option_map File (file_fault f)) (option_map Graph (graph_fault minimum (nodes_in f)))
      (lowest_mapped order File (FileApplies f) (file_fault f) (file_lowest f))
      (lowest_mapped order Graph (GraphApplies minimum (nodes_in f)) (graph_fault minimum (nodes_in f)) (graph_lowest minimum (nodes_in f))))

  -- no fault: none of its parts
  pub clear : read_fault minimum f ≡ None → (shape_fault f ≡ None) × (pair_fault f ≡ None) × (byte_fault f ≡ None)
  clear e =
      let a = option_map_none File (file_fault f) (option_or_none (option_map File (file_fault f)) (option_map Graph (graph_fault minimum (nodes_in f))) e).0 in
      let b = option_or_none (shape_fault f) (option_or (pair_fault f) (byte_fault f)) a in
      let c = option_or_none (pair_fault f) (byte_fault f) b.1 in
      (b.0, c.0, c.1)

  abbrev ToldOf : Result (List NodeView) ReadFault → Type 0
  ToldOf r = Answers of_read (Applies minimum f) (λ nodes. encode nodes ≡ f) r

  answered_at : ((i : ℕ) → at f i < 256) → (o : Option ReadFault) → read_fault minimum f ≡ o → Lowest order (Applies minimum f) o → ToldOf (unless_fault o (nodes_in f))
  answered_at byte None e h = let c = clear e in (h, file_encoded f byte c.1 c.2 c.0)
  answered_at byte (Some d) e h = record { applies = h.0; first = h.1 }

  pub answered : ((i : ℕ) → at f i < 256) → (r : Result (List NodeView) ReadFault) → r ≡ reading minimum f → ToldOf r
  answered byte r is = subst ToldOf (sym is) (answered_at byte (read_fault minimum f) refl read_lowest)

-- a file that numbers 1 to 3 do not refuse is answered by what is told of its graph
pub reading_graph : (minimum : Kind → ℕ) (f : List ℕ) → None ≡ shape_fault f → None ≡ pair_fault f → None ≡ byte_fault f
    → (vs : List NodeView) → vs ≡ nodes_in f → (o : Option GraphFault) → o ≡ graph_fault minimum vs → unless_fault (option_map Graph o) vs ≡ reading minimum f
reading_graph minimum f a b c vs v o e =
    ap₂ (λ x y. unless_fault (option_map Graph x) y) (e ∙ ap (graph_fault minimum) v) v
    ∙ ap (λ x. unless_fault (option_or (option_map File x) (option_map Graph (graph_fault minimum (nodes_in f)))) (nodes_in f)) (c ∙ ap (λ x. option_or x (byte_fault f)) b ∙ ap (λ x. option_or x (option_or (pair_fault f) (byte_fault f))) a)
