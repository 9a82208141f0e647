-- Every field lies inside the shortest header of its kind, so a mark whose header is whole has its fields.
use Rattle.std.proofs.Common.{◌≡◌, ℕ, ◌+◌, ◌≤◌, Some, None, Option, refl, sym, ◌∙◌, rules, arith}
use Rattle.std.proofs.lemmas.Bool.{le-leb}
use Rattle.headers.specs.declared.mark.Mark.{Mark}
use Rattle.headers.specs.declared.table.FieldPlace.{FieldPlace}
use Rattle.headers.specs.declared.table.KindTable.{KindTable}
use Rattle.headers.specs.Kinds.{kind_at}
use Rattle.headers.specs.Part.{HasItsFields, field_within, refused, part}
use Rattle.headers.specs.Table.{minimum_in, field_in, standard_table, FieldsLieInside}

-- the built-in table keeps its law
pub fields_lie_inside : FieldsLieInside standard_table
fields_lie_inside = search rules

-- a mark whose header has the fewest bytes of its kind, and lies in the packet, has its fields
pub has_its_fields : (t : KindTable) → FieldsLieInside t → (size : ℕ) (m : Mark) → m.kind ≤ 10 → minimum_in t (kind_at m.kind) ≤ m.length
    → m.offset + m.length ≤ size → HasItsFields t size m
has_its_fields t law size m known long within n e is = none_refused (field_in t (kind_at m.kind) n) refl (rw (le-leb _ _ known) at is)
  where
    none_refused : (place : Option FieldPlace) → field_in t (kind_at m.kind) n ≡ place → field_within size m.offset place ≡ refused e → ⊥
    none_refused None at is = cc
    none_refused (Some p) at is =
        let ends : m.offset + p.offset + p.length ≤ size = omega (arith, law (kind_at m.kind) n p at) in
        let given : field_within size m.offset (Some p) ≡ part (m.offset + p.offset) p.length = rw (le-leb _ _ ends) in
        let clash : part (m.offset + p.offset) p.length ≡ refused e = sym given ∙ is in cc
