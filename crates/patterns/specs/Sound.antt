-- When two numbers make a pattern. In a definition a number has no width of its own, so the widths of the fields are part of the tests.
use Rattle.std.specs.Prelude.{ℕ, ◌^◌, Bool, true, false, ◌&&◌, T, Some, None, Option, ◌==◌, bit_and, nat_le, nat_lt}

-- no value bit lies outside the mask, which has 32 bits
abbrev pub ternary_ok : ℕ → ℕ → Bool
ternary_ok value mask = bit_and value mask == value && nat_lt mask (2 ^ 32)

-- low is not above high, which has 16 bits
abbrev pub span_ok : ℕ → ℕ → Bool
span_ok low high = nat_le low high && nat_lt high (2 ^ 16)

-- what a test that passed makes, and nothing where it failed
abbrev pub kept : {X : Type 0} (b : Bool) → (T b → X) → Option X
kept true f = Some (f tt)
kept false f = None
