-- What a walk tells is the least fault that applies.
use Rattle.std.specs.Option.{option_or, option_map}
use Rattle.std.proofs.Common.{◌≡◌, ℕ, ◌≤◌, false, leb, ◌⊎◌, List, Some, None, sym, refl, ap, ◌∙◌, subst, inl, inr, arith}
use Rattle.std.proofs.lemmas.Bool.{cases_lt, leb-false, lt-leb}
use Rattle.refusals.specs.Searching.{unless}
use Rattle.refusals.specs.Least.{NotAfter, Least}
use Rattle.refusals.proofs.Lowest.{Lowest, lowest_like, lowest_or, lowest_unless, lowest_mapped}
use Rattle.refusals.proofs.Ranking.{lower}
use Rattle.headers.specs.declared.kinds.Kind.{Kind}
use Rattle.graphs.specs.declared.fault.GraphFault.{GraphFault}
use Rattle.graphs.specs.View.{NodeView}
use Rattle.graphs.specs.Refusals.{GraphApplies}
use Rattle.graphs.specs.Checking.{graph_fault}
use Rattle.graphs.proofs.Refused.{graph_lowest}
use Rattle.graph_reader.proofs.Refused.{graph_numbers}
use Rattle.walker.specs.declared.fault.WalkFault.{WalkFault}
use Rattle.walker.specs.declared.fault.WalkFault.TheVariants.{Graph, LongPacket, FewMarks}
use Rattle.walker.specs.Faults.{of_walk}
use Rattle.walker.specs.Refusals.{most_bytes, most_marks, WalkApplies, walk_fault, NoFault}

module _ (minimum : Kind → ℕ) (g : List NodeView) (size room : ℕ) where
  abbrev order : WalkFault → WalkFault → Type 0
  order e d = NotAfter (of_walk e) (of_walk d)

  abbrev OfGraph : WalkFault → Type 0
  OfGraph e = (x : GraphFault) × (e ≡ Graph x) × GraphApplies minimum g x

  abbrev OfPacket : WalkFault → Type 0
  OfPacket e = (e ≡ LongPacket) × (leb size most_bytes ≡ false)

  abbrev OfMarks : WalkFault → Type 0
  OfMarks e = (e ≡ FewMarks) × (leb most_marks room ≡ false)

  abbrev Told : WalkFault → Type 0
  Told e = OfGraph e ⊎ (OfPacket e ⊎ OfMarks e)

  spoken : (e : WalkFault) → Told e → WalkApplies minimum g size room e
  spoken e (inl (x, s, h)) = subst (WalkApplies minimum g size room) (sym s) h
  spoken e (inr (inl (s, h))) = subst (WalkApplies minimum g size room) (sym s) (leb-false size most_bytes h)
  spoken e (inr (inr (s, h))) = subst (WalkApplies minimum g size room) (sym s) (leb-false most_marks room h)

  applied : (e : WalkFault) → WalkApplies minimum g size room e → Told e
  applied (Graph x) h = inl (x, refl, h)
  applied LongPacket h = inr (inl (refl, lt-leb size most_bytes h))
  applied FewMarks h = inr (inr (refl, lt-leb most_marks room h))

  walk_lowest : Lowest order (WalkApplies minimum g size room) (walk_fault minimum g size room)
  walk_lowest =
      lowest_like order Told (WalkApplies minimum g size room) spoken applied (walk_fault minimum g size room)
      (lowest_or order OfGraph (λ e. OfPacket e ⊎ OfMarks e)
      (λ e d p q. elim q [
        | inl w ↦ lower (of_walk e) (of_walk d) (omega (arith, ap (λ x. (of_walk x).number) p.1, graph_numbers p.0, ap (λ x. (of_walk x).number) w.0)) (omega (arith, ap (λ x. (of_walk x).number) w.0))
        | inr w ↦ lower (of_walk e) (of_walk d) (omega (arith, ap (λ x. (of_walk x).number) p.1, graph_numbers p.0, ap (λ x. (of_walk x).number) w.0)) (omega (arith, ap (λ x. (of_walk x).number) w.0))
      ])
      (option_map Graph (graph_fault minimum g)) (option_or (unless (leb size most_bytes) LongPacket) (unless (leb most_marks room) FewMarks))
      (lowest_mapped order Graph (GraphApplies minimum g) (graph_fault minimum g) (graph_lowest minimum g))
      (lowest_or order OfPacket OfMarks
      (λ e d p q. lower (of_walk e) (of_walk d) (omega (arith, ap (λ x. (of_walk x).number) p.0, ap (λ x. (of_walk x).number) q.0)) (omega (arith, ap (λ x. (of_walk x).number) q.0)))
      (unless (leb size most_bytes) LongPacket) (unless (leb most_marks room) FewMarks)
      (lowest_unless order (leb size most_bytes) LongPacket (inr (refl, inr (refl, omega arith))))
      (lowest_unless order (leb most_marks room) FewMarks (inr (refl, inr (refl, omega arith))))))

  -- a fault that is told is the least
  pub told_least : (e d : WalkFault) → e ≡ d → Some d ≡ walk_fault minimum g size room → Least of_walk (WalkApplies minimum g size room) e
  told_least e d is s =
      let h = subst (Lowest order (WalkApplies minimum g size room)) (sym (ap Some is ∙ s)) walk_lowest in
      record { applies = h.0; first = h.1 }

  module _ (clear : None ≡ walk_fault minimum g size room) where
    -- where none is told, none applies
    pub none_applies : (e : WalkFault) → WalkApplies minimum g size room e → ⊥
    none_applies = subst (Lowest order (WalkApplies minimum g size room)) (sym clear) walk_lowest

    pub graph_sound : NoFault minimum g
    graph_sound e h = none_applies (Graph e) h

    pub packet_fits : size ≤ most_bytes
    packet_fits = elim (cases_lt most_bytes size) [ inl h ↦ absurd (none_applies LongPacket h) | inr h ↦ h ]

    pub marks_suffice : most_marks ≤ room
    marks_suffice = elim (cases_lt room most_marks) [ inl h ↦ absurd (none_applies FewMarks h) | inr h ↦ h ]
