-- The two sorts of pattern: what a plain row makes, which keys fit, and when one pattern covers another.
use Rattle.std.specs.Prelude.{ℕ, Bool, ◌&&◌, Option, ◌==◌, bit_and, nat_le}
use Rattle.patterns.specs.Sound.{ternary_ok, span_ok, kept}
use Rattle.patterns.specs.declared.row.TernaryRow.{TernaryRow}
use Rattle.patterns.specs.declared.row.RangeRow.{RangeRow}
use Rattle.patterns.specs.declared.ternary.Ternary.{Ternary}
use Rattle.patterns.specs.declared.span.Span.{Span}

-- the pattern of a ternary row, and none where a value bit lies outside the mask
abbrev pub ternary_of : TernaryRow → Option Ternary
ternary_of r = kept (ternary_ok r.value r.mask) (λ t. record { value = r.value; mask = r.mask; inside = t })

-- the key's bits under the mask are the value
abbrev pub ternary_fits : Ternary → ℕ → Bool
ternary_fits p k = bit_and k p.mask == p.value

-- p looks at no bit that q does not look at, and wants of each what q wants
abbrev pub ternary_covers : Ternary → Ternary → Bool
ternary_covers p q = bit_and p.mask q.mask == p.mask && bit_and q.value p.mask == p.value

-- the pattern of a range row, and none where low is above high
abbrev pub span_of : RangeRow → Option Span
span_of r = kept (span_ok r.low r.high) (λ t. record { low = r.low; high = r.high; ordered = t })

-- the key lies from low to high
abbrev pub span_fits : Span → ℕ → Bool
span_fits p k = nat_le p.low k && nat_le k p.high

-- q lies within p
abbrev pub span_covers : Span → Span → Bool
span_covers p q = nat_le p.low q.low && nat_le q.high p.high
