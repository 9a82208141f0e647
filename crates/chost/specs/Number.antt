-- A refusal as one number.
use Rattle.std.specs.Prelude.{ℕ, ◌+◌, ◌*◌}
use Rattle.refusals.specs.declared.refusal.Refusal.{Refusal}

-- its number in the lowest 8 bits, its first place in the 16 above them, its second place in the 16 above these: 16,777,216 is 2 ^ 24
abbrev pub number_of : Refusal → ℕ
number_of r = r.number + 256 * r.first + 16777216 * r.second
