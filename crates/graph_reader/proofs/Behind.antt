-- A row behind a record's last byte: what bytes of zero say.
use Rattle.std.proofs.Common.{◌≡◌, ℕ, ◌+◌, ◌≤◌, true, nat_le, List, length, slice_index, arith}
use Rattle.std.proofs.lemmas.List.{get_or_past}
use Rattle.std.proofs.lemmas.Bool.{leb-true}
use Rattle.patterns.specs.declared.row.Target.TheVariants.{Node}
use Rattle.graph_reader.specs.Decoding.{ternary_in, range_in}

module _ (bs : List ℕ) (o : ℕ) (behind : nat_le (length bs) o ≡ true) where
  zero_at : (i : ℕ) → o ≤ i → slice_index bs i ≡ 0
  zero_at i h = get_or_past bs i 0 (omega (arith, leb-true _ _ behind, h))

  pub ternary_behind : record { value = 0; mask = 0; target = Node 0 } ≡ ternary_in bs o
  ternary_behind = rw (
    zero_at o (omega arith),
    zero_at (o + 1) (omega arith),
    zero_at (o + 2) (omega arith),
    zero_at (o + 3) (omega arith),
    zero_at (o + 4) (omega arith),
    zero_at (o + 4 + 1) (omega arith),
    zero_at (o + 4 + 2) (omega arith),
    zero_at (o + 4 + 3) (omega arith),
    zero_at (o + 8) (omega arith),
    zero_at (o + 9) (omega arith),
  )

  pub range_behind : record { low = 0; high = 0; target = Node 0 } ≡ range_in bs o
  range_behind = rw (
    zero_at o (omega arith),
    zero_at (o + 1) (omega arith),
    zero_at (o + 2) (omega arith),
    zero_at (o + 2 + 1) (omega arith),
    zero_at (o + 8) (omega arith),
    zero_at (o + 9) (omega arith),
  )
