-- What a check of a graph tells is its least fault.
use Rattle.std.specs.Option.{option_or}
use Rattle.std.proofs.Common.{◌≡◌, ℕ, ◌+◌, ◌^◌, ◌<◌, ◌≤◌, true, false, ◌&&◌, ltb, ◌⊎◌, List, length, Some, None, Ok, Err, Option, Result, sym, refl, ap, ◌∙◌, subst, inl, inr, arith}
use Rattle.std.proofs.lemmas.Bool.{cases_lt, both_ways, lt-ltb, le-ltb, leb-false, lt-leb, and_from, and_left, and_right}
use Rattle.refusals.specs.Searching.{fault_of}
use Rattle.refusals.specs.Least.{NotAfter, Answers}
use Rattle.refusals.proofs.Lowest.{Lowest, lowest_like, lowest_or, lowest_of, lowest_unless, lowest_mapped}
use Rattle.refusals.proofs.Ranking.{lower}
use Rattle.headers.specs.declared.kinds.Kind.{Kind}
use Rattle.patterns.specs.declared.row.Target.{Target as To}
use Rattle.patterns.specs.declared.row.Target.TheVariants as to
use Rattle.patterns.specs.Sorts.{ternary_of, ternary_fits, ternary_covers, span_of, span_fits, span_covers}
use Rattle.patterns.specs.Firsts.{First}
use Rattle.patterns.specs.Covering.{ternary_covering, span_covering}
use Rattle.patterns.proofs.Firsts.{covered_first}
use Rattle.graphs.specs.declared.graph.Length.{Length}
use Rattle.graphs.specs.declared.graph.Length.TheVariants.{Fixed, Counted}
use Rattle.graphs.specs.declared.fault.GraphFault.{GraphFault}
use Rattle.graphs.specs.declared.fault.GraphFault.TheVariants.{Target, Covered, Short}
use Rattle.graphs.specs.View.{RowsView, ternary_rows, range_rows, NodeView, row_count, node_at, target_of}
use Rattle.graphs.specs.Faults.{of_graph}
use Rattle.graphs.specs.Refusals.{WrongTarget, CoveredRow, TooShort, GraphApplies}
use Rattle.graphs.specs.Checking.{target_sound, length_sound, covered_in, row_fault, target_fault, covered_fault, short_fault, node_fault, first_node, graph_fault}

-- the first place of which something holds is the lowest
lowest_first : (order : ℕ → ℕ → Type 0) (C : ℕ → Type 0) → ((i j : ℕ) → i ≤ j → order i j) → (r : Option ℕ) → First C r → Lowest order C r
lowest_first order C up None h = h
lowest_first order C up (Some i) h = (h.0, λ j c. elim (cases_lt j i) [ inl l ↦ absurd (h.1 j l c) | inr l ↦ up i j l ])

covered_lowest : (rows : RowsView) → First (CoveredRow rows) (covered_in rows)
covered_lowest (ternary_rows rs) = covered_first (λ key. key < 2 ^ 32) ternary_of ternary_fits ternary_covers ternary_covering rs (covered_in (ternary_rows rs)) refl
covered_lowest (range_rows rs) = covered_first (λ key. key < 2 ^ 16) span_of span_fits span_covers span_covering rs (covered_in (range_rows rs)) refl

-- the test of a target, in words
wrong_target : (count n : ℕ) (target : To) → target_sound count n target ≡ false → WrongTarget count n target
wrong_target count n (to.Node t) e = (
  t,
  refl,
  elim (cases_lt n t) [
    | inl l ↦ elim (cases_lt t count) [ inl m ↦ absurd (both_ways (ltb n t && ltb t count) e (and_from _ _ (lt-ltb n t l) (lt-ltb t count m))) | inr m ↦ inr m ]
    | inr l ↦ inl l
  ],
)
wrong_target count n to.Done e = absurd (both_ways true e refl)
wrong_target count n to.Dropped e = absurd (both_ways true e refl)

not_target : (count n : ℕ) (target : To) → WrongTarget count n target → target_sound count n target ≡ false
not_target count n target (t, s, inl l) = ap (target_sound count n) s ∙ and_left (ltb n t) (ltb t count) (le-ltb n t l)
not_target count n target (t, s, inr l) = ap (target_sound count n) s ∙ and_right (ltb n t) (ltb t count) (le-ltb t count l)

module _ (minimum : Kind → ℕ) where
  -- the test of a length, in words
  too_short : (kind : Kind) (long : Length) → length_sound minimum kind long ≡ false → TooShort minimum kind long
  too_short kind (Fixed n) e = (n, refl, omega (arith, leb-false _ _ e))
  too_short kind (Counted place mask shift unit base) e = absurd (both_ways true e refl)

  not_short : (kind : Kind) (long : Length) → TooShort minimum kind long → length_sound minimum kind long ≡ false
  not_short kind long (n, s, l) = ap (length_sound minimum kind) s ∙ lt-leb _ _ l

module _ (minimum : Kind → ℕ) (vs : List NodeView) where
  abbrev ahead : GraphFault → GraphFault → Type 0
  ahead e d = NotAfter (of_graph e) (of_graph d)

  abbrev TargetTold : ℕ → GraphFault → Type 0
  TargetTold n e =
      (k : ℕ) × (0 ≤ k) × (k < 0 + row_count (node_at vs n).rows) × ((e ≡ Target n k) × (target_sound (length vs) n (target_of (node_at vs n).rows k) ≡ false))

  abbrev CoveredTold : ℕ → GraphFault → Type 0
  CoveredTold n e = (k : ℕ) × (e ≡ Covered n k) × CoveredRow (node_at vs n).rows k

  abbrev ShortTold : ℕ → GraphFault → Type 0
  ShortTold n e = (e ≡ Short n) × (length_sound minimum (node_at vs n).kind (node_at vs n).len ≡ false)

  abbrev Among : (ℕ → GraphFault → Type 0) → GraphFault → Type 0
  Among P e = (n : ℕ) × (0 ≤ n) × (n < 0 + length vs) × P n e

  -- two faults of one number at nodes one after the other
  later : (g : ℕ → ℕ → GraphFault) (i j x y : ℕ) (e d : GraphFault) → e ≡ g i x → d ≡ g j y → NotAfter (of_graph (g i x)) (of_graph (g j y)) → ahead e d
  later g i j x y e d p q h = subst (λ e. ahead e d) (sym p) (subst (ahead (g i x)) (sym q) h)

  target_lowest : Lowest ahead (Among TargetTold) (first_node (target_fault (length vs)) vs)
  target_lowest =
      lowest_of ahead TargetTold (node_fault (target_fault (length vs)) vs)
      (λ n. lowest_of ahead (λ k e. (e ≡ Target n k) × (target_sound (length vs) n (target_of (node_at vs n).rows k) ≡ false)) (row_fault (length vs) n (node_at vs n).rows)
      (λ k. lowest_unless ahead (target_sound (length vs) n (target_of (node_at vs n).rows k)) (Target n k) (inr (refl, inr (refl, omega arith))))
      (λ i j e d l p q. later Target n n i j e d p.0 q.0 (inr (refl, inr (refl, omega arith))))
      (row_count (node_at vs n).rows) 0)
      (λ i j e d l p q. later Target i j p.0 q.0 e d p.3.0 q.3.0 (inr (refl, inl l)))
      (length vs) 0

  cover_lowest : Lowest ahead (Among CoveredTold) (first_node covered_fault vs)
  cover_lowest =
      lowest_of ahead CoveredTold (node_fault covered_fault vs)
      (λ n. lowest_mapped ahead (Covered n) (CoveredRow (node_at vs n).rows) (covered_in (node_at vs n).rows)
      (lowest_first (λ x y. ahead (Covered n x) (Covered n y)) (CoveredRow (node_at vs n).rows) (λ i j l. inr (refl, inr (refl, l))) (covered_in (node_at vs n).rows) (covered_lowest (node_at vs n).rows)))
      (λ i j e d l p q. later Covered i j p.0 q.0 e d p.1 q.1 (inr (refl, inl l)))
      (length vs) 0

  short_lowest : Lowest ahead (Among ShortTold) (first_node (short_fault minimum) vs)
  short_lowest =
      lowest_of ahead ShortTold (node_fault (short_fault minimum) vs)
      (λ n. lowest_unless ahead (length_sound minimum (node_at vs n).kind (node_at vs n).len) (Short n) (inr (refl, inr (refl, omega arith))))
      (λ i j e d l p q. later (λ n _. Short n) i j 0 0 e d p.0 q.0 (inr (refl, inl l)))
      (length vs) 0

  abbrev Told : GraphFault → Type 0
  Told e = Among TargetTold e ⊎ (Among CoveredTold e ⊎ Among ShortTold e)

  spoken : (e : GraphFault) → Told e → GraphApplies minimum vs e
  spoken e (inl (n, z, l, (k, y, m, (s, h)))) = subst (GraphApplies minimum vs) (sym s) (omega arith, omega arith, wrong_target (length vs) n _ h)
  spoken e (inr (inl (n, z, l, (k, s, h)))) = subst (GraphApplies minimum vs) (sym s) (omega arith, h)
  spoken e (inr (inr (n, z, l, (s, h)))) = subst (GraphApplies minimum vs) (sym s) (omega arith, too_short minimum _ _ h)

  applied : (e : GraphFault) → GraphApplies minimum vs e → Told e
  applied (Target n k) h = inl (n, omega arith, omega (arith, h.0), (k, omega arith, omega (arith, h.1), (refl, not_target (length vs) n _ h.2)))
  applied (Covered n k) h = inr (inl (n, omega arith, omega (arith, h.0), (k, refl, h.1)))
  applied (Short n) h = inr (inr (n, omega arith, omega (arith, h.0), (refl, not_short minimum _ _ h.1)))

  target_is : (e : GraphFault) → Among TargetTold e → (of_graph e).number ≡ 4
  target_is e w = ap (λ x. (of_graph x).number) w.3.3.0

  covered_is : (e : GraphFault) → Among CoveredTold e → (of_graph e).number ≡ 5
  covered_is e w = ap (λ x. (of_graph x).number) w.3.1

  short_is : (e : GraphFault) → Among ShortTold e → (of_graph e).number ≡ 6
  short_is e w = ap (λ x. (of_graph x).number) w.3.0

  pub graph_lowest : Lowest ahead (GraphApplies minimum vs) (graph_fault minimum vs)
  graph_lowest =
      lowest_like ahead Told (GraphApplies minimum vs) spoken applied (graph_fault minimum vs)
      (lowest_or ahead (Among TargetTold) (λ e. Among CoveredTold e ⊎ Among ShortTold e)
      (λ e d p q. elim q [
        | inl w ↦ lower (of_graph e) (of_graph d) (omega (arith, target_is e p, covered_is d w)) (omega (arith, covered_is d w))
        | inr w ↦ lower (of_graph e) (of_graph d) (omega (arith, target_is e p, short_is d w)) (omega (arith, short_is d w))
      ])
      (first_node (target_fault (length vs)) vs) (option_or (first_node covered_fault vs) (first_node (short_fault minimum) vs)) target_lowest
      (lowest_or ahead (Among CoveredTold) (Among ShortTold)
      (λ e d p q. lower (of_graph e) (of_graph d) (omega (arith, covered_is e p, short_is d q)) (omega (arith, short_is d q)))
      (first_node covered_fault vs) (first_node (short_fault minimum) vs) cover_lowest short_lowest))

  -- the answer of a check that tells the first fault
  pub answered : (r : Result Unit GraphFault) → fault_of r ≡ graph_fault minimum vs → Answers of_graph (GraphApplies minimum vs) (λ _. Unit {0}) r
  answered (Ok x) e = (subst (Lowest ahead (GraphApplies minimum vs)) (sym e) graph_lowest, tt)
  answered (Err d) e = let h = subst (Lowest ahead (GraphApplies minimum vs)) (sym e) graph_lowest in record { applies = h.0; first = h.1 }
