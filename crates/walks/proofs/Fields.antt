-- Each header that a walk marks is whole, so its mark has its fields.
use Rattle.std.proofs.Common.{ℕ, ◌≤◌, List, length, sym, subst, rules}
use Rattle.std.specs.List.{AllByRecursion}
use Rattle.headers.specs.declared.kinds.Kind.{Kind}
use Rattle.headers.specs.declared.mark.Mark.{Mark}
use Rattle.headers.specs.declared.table.KindTable.{KindTable}
use Rattle.headers.specs.Kinds.{kind_number}
use Rattle.headers.specs.Part.{HasItsFields}
use Rattle.headers.specs.Table.{minimum_in, FieldsLieInside}
use Rattle.headers.proofs.FieldPlaces.{has_its_fields}
use Rattle.headers.proofs.KindLaws.{kind_back}
use Rattle.graphs.specs.View.{NodeView, node_at}
use Rattle.walks.specs.declared.outcome.Outcome.{Outcome}
use Rattle.walks.specs.Walk.{size_at, mark_at, Header, refused, unfit, drops, ends, on, Walk}

-- the number of a kind is at most 10
pub number_small : (k : Kind) → kind_number k ≤ 10
number_small k = search rules

module _ (t : KindTable) (law : FieldsLieInside t) (g : List NodeView) (p : List ℕ) where
  mark_has : (n at : ℕ) → Header (minimum_in t) g p n at → HasItsFields t (length p) (mark_at g p n at)
  mark_has n at h =
      let k = (node_at g n).kind in
      has_its_fields t law (length p) (mark_at g p n at) (number_small k) (subst (λ j. minimum_in t j ≤ size_at g p n at) (sym (kind_back k)) h.long) h.within

  pub marks_have : {n : ℕ} {at : ℕ} {ms : List Mark} {o : Outcome} → Walk (minimum_in t) g p n at ms o → AllByRecursion (HasItsFields t (length p)) ms
  marks_have (refused r) = tt
  marks_have (unfit {n} {at} h e) = (mark_has n at h, tt)
  marks_have (drops {n} {at} h e) = (mark_has n at h, tt)
  marks_have (ends {n} {at} h e) = (mark_has n at h, tt)
  marks_have (on {n} {m} {at} h e w) = (mark_has n at h, marks_have w)
