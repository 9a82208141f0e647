-- What writing tells of a graph is its least fault.
use Rattle.std.specs.Option.{option_or, option_map}
use Rattle.std.proofs.Common.{◌≡◌, ℕ, false, ◌&&◌, leb, ◌⊎◌, List, length, take, Some, None, Option, Result, sym, refl, ap, subst, inl, inr, arith}
use Rattle.std.proofs.lemmas.Bool.{and_cases, and_left, and_right, leb-false, lt-leb}
use Rattle.refusals.specs.Searching.{unless, unless_fault}
use Rattle.refusals.specs.Least.{NotAfter, Answers}
use Rattle.refusals.proofs.Lowest.{Lowest, lowest_like, lowest_or, lowest_unless, lowest_mapped}
use Rattle.refusals.proofs.Ranking.{lower}
use Rattle.headers.specs.declared.kinds.Kind.{Kind}
use Rattle.graphs.specs.declared.graph.Graph.{Graph}
use Rattle.graphs.specs.declared.graph.Node.{Node}
use Rattle.graphs.specs.declared.fault.GraphFault.{GraphFault}
use Rattle.graphs.specs.View.{graph_view}
use Rattle.graphs.specs.Refusals.{GraphApplies}
use Rattle.graphs.specs.Checking.{graph_fault}
use Rattle.graphs.proofs.Refused.{graph_lowest}
use Rattle.graph_reader.specs.declared.fault.FileFault.{FileFault}
use Rattle.graph_reader.specs.declared.fault.FileFault.TheVariants.{Shape, Pair, Byte}
use Rattle.graph_reader.specs.Refusals.{OutOfRange}
use Rattle.graph_reader.specs.Faults.{of_file}
use Rattle.graph_reader.proofs.Ranges.{wrong_byte, not_byte}
use Rattle.graph_reader.proofs.Refused.{before, file_below, file_number, graph_numbers, ByteTold, bytes_lowest}
use Rattle.graph_writer.specs.declared.fault.WriteFault.{WriteFault}
use Rattle.graph_writer.specs.declared.fault.WriteFault.TheVariants.{File, Graph as InGraph, Area}
use Rattle.graph_writer.specs.Faults.{of_write}
use Rattle.graph_writer.specs.Writing.{record_for, node_of, count_fault, records_fault, write_fault}
use Rattle.graph_writer.specs.Refusals.{RecordApplies, WriteApplies}

module _ (g : Graph) where
  abbrev nodes : List Node
  nodes = take g.count g.nodes

  abbrev CountTold : FileFault → Type 0
  CountTold e = (e ≡ Shape) × ((leb 1 g.count && leb g.count 32) ≡ false)

  abbrev RecordsTold : FileFault → Type 0
  RecordsTold = ByteTold (λ n. record_for (node_of nodes n)) (length nodes)

  into_record : (e : FileFault) → CountTold e ⊎ RecordsTold e → RecordApplies g e
  into_record e (inl (s, h)) = subst (RecordApplies g) (sym s) (elim (and_cases (leb 1 g.count) (leb g.count 32) h) [
    | inl a ↦ inl (let l = leb-false 1 g.count a in omega arith)
    | inr a ↦ inr (leb-false g.count 32 a)
  ])
  into_record e (inr (n, z, l, (x, s, (b, y, m, (t, h))))) =
      let r = record_for (node_of nodes n) in
      subst (RecordApplies g) (sym s) (omega arith, omega arith, subst (OutOfRange r) (sym t) (wrong_byte r b h))

  from_record : (e : FileFault) → RecordApplies g e → CountTold e ⊎ RecordsTold e
  from_record Shape (inl h) = inl (refl, and_left _ (leb g.count 32) (lt-leb 1 g.count (omega arith)))
  from_record Shape (inr h) = inl (refl, and_right (leb 1 g.count) _ (lt-leb g.count 32 h))
  from_record (Pair i) h = absurd h
  from_record (Byte n b) h = inr (n, omega arith, omega (arith, h.0), (b, refl, (b, omega arith, omega (arith, h.1), (refl, not_byte (record_for (node_of nodes n)) b h.2))))

  record_lowest : Lowest before (RecordApplies g) (option_or (count_fault g) (records_fault nodes))
  record_lowest =
      lowest_like before (λ e. CountTold e ⊎ RecordsTold e) (RecordApplies g) into_record from_record (option_or (count_fault g) (records_fault nodes))
      (lowest_or before CountTold RecordsTold
      (λ e d p q. lower (of_file e) (of_file d) (omega (arith, ap (λ x. (of_file x).number) p.0, ap (λ x. (of_file x).number) q.3.1)) (omega (arith, ap (λ x. (of_file x).number) q.3.1)))
      (count_fault g) (records_fault nodes)
      (lowest_unless before (leb 1 g.count && leb g.count 32) Shape (inr (refl, inr (refl, omega arith))))
      (bytes_lowest (λ n. record_for (node_of nodes n)) (length nodes)))

module _ (minimum : Kind → ℕ) (g : Graph) (room : ℕ) where
  abbrev order : WriteFault → WriteFault → Type 0
  order e d = NotAfter (of_write e) (of_write d)

  abbrev InRecords : WriteFault → Type 0
  InRecords e = (x : FileFault) × (e ≡ File x) × RecordApplies g x

  abbrev OfGraph : WriteFault → Type 0
  OfGraph e = (x : GraphFault) × (e ≡ InGraph x) × GraphApplies minimum (graph_view g) x

  abbrev OfArea : WriteFault → Type 0
  OfArea e = (e ≡ Area) × (leb 5762 room ≡ false)

  into : (e : WriteFault) → InRecords e ⊎ (OfGraph e ⊎ OfArea e) → WriteApplies minimum g room e
  into e (inl (x, s, h)) = subst (WriteApplies minimum g room) (sym s) h
  into e (inr (inl (x, s, h))) = subst (WriteApplies minimum g room) (sym s) h
  into e (inr (inr (s, h))) = subst (WriteApplies minimum g room) (sym s) (leb-false 5762 room h)

  out : (e : WriteFault) → WriteApplies minimum g room e → InRecords e ⊎ (OfGraph e ⊎ OfArea e)
  out (File x) h = inl (x, refl, h)
  out (InGraph x) h = inr (inl (x, refl, h))
  out Area h = inr (inr (refl, lt-leb 5762 room h))

  -- the fault with the file's part taken together
  regrouped : write_fault minimum g room ≡ option_or (option_map File (option_or (count_fault g) (records_fault (nodes g)))) (option_or (option_map InGraph (graph_fault minimum (graph_view g))) (unless (leb 5762 room) Area))
  regrouped = together (count_fault g) (records_fault (nodes g)) _
    where
      together : (a b : Option FileFault) (c : Option WriteFault) → option_or (option_map File a) (option_or (option_map File b) c) ≡ option_or (option_map File (option_or a b)) c
      together (Some x) b c = refl
      together None b c = refl

  write_lowest : Lowest order (WriteApplies minimum g room) (write_fault minimum g room)
  write_lowest =
      subst (Lowest order (WriteApplies minimum g room)) (sym regrouped)
      (lowest_like order (λ e. InRecords e ⊎ (OfGraph e ⊎ OfArea e)) (WriteApplies minimum g room) into out _
      (lowest_or order InRecords (λ e. OfGraph e ⊎ OfArea e)
      (λ e d p q. elim q [
        | inl w ↦ subst (λ e. order e d) (sym p.1) (subst (order (File p.0)) (sym w.1) (file_below p.0 w.0))
        | inr w ↦ lower (of_write e) (of_write d) (omega (arith, ap (λ x. (of_write x).number) p.1, file_number p.0, ap (λ x. (of_write x).number) w.0)) (omega (arith, ap (λ x. (of_write x).number) w.0))
      ])
      (option_map File (option_or (count_fault g) (records_fault (nodes g)))) (option_or (option_map InGraph (graph_fault minimum (graph_view g))) (unless (leb 5762 room) Area))
      (lowest_mapped order File (RecordApplies g) (option_or (count_fault g) (records_fault (nodes g))) (record_lowest g))
      (lowest_or order OfGraph OfArea
      (λ e d p q. lower (of_write e) (of_write d) (omega (arith, ap (λ x. (of_write x).number) p.1, graph_numbers p.0, ap (λ x. (of_write x).number) q.0)) (omega (arith, ap (λ x. (of_write x).number) q.0)))
      (option_map InGraph (graph_fault minimum (graph_view g))) (unless (leb 5762 room) Area)
      (lowest_mapped order InGraph (GraphApplies minimum (graph_view g)) (graph_fault minimum (graph_view g)) (graph_lowest minimum (graph_view g)))
      (lowest_unless order (leb 5762 room) Area (inr (refl, inr (refl, omega arith)))))))

  module _ {X : Type 0} (Says : X → Type 0) (x : X) (says : write_fault minimum g room ≡ None → Says x) where
    answered_at : (o : Option WriteFault) → write_fault minimum g room ≡ o → Lowest order (WriteApplies minimum g room) o → Answers of_write (WriteApplies minimum g room) Says (unless_fault o x)
    answered_at None e h = (h, says e)
    answered_at (Some d) e h = record { applies = h.0; first = h.1 }

    pub answered : (r : Result X WriteFault) → r ≡ unless_fault (write_fault minimum g room) x → Answers of_write (WriteApplies minimum g room) Says r
    answered r is = subst (Answers of_write (WriteApplies minimum g room) Says) (sym is) (answered_at (write_fault minimum g room) refl write_lowest)
