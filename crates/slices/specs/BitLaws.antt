-- Laws of `bit`, and of the lowest bit that is set.
use Rattle.std.specs.Prelude.{◌≡◌, ℕ, zero, suc, ◌-◌, ◌/◌, ◌%◌, ◌^◌, ◌<◌, min, max, true, false, not, ◌&&◌, ◌||◌, ◌==◌, nat_eq, refl}
use Rattle.std.proofs.Common.{sym, ap, ap₂, ◌∙◌, pow-suc, div-one, le_of_suc-le-suc, mod-lt, zero-lt-suc, one-add, arith, shr-shr, pow_pos, eq-eqb, ne_eqb}
use Rattle.std.proofs.Math.Dec.{eqb-suc-suc, eqb-zero-suc, eqb-suc-zero}
use Rattle.std.specs.Int.Bits.{bit_and, bit_or, and_step, or_step}
use Rattle.std.specs.Int.Count.{count_trailing_zeros, under}
use Rattle.slices.specs.Bit.{bit}

pub bit_low : (w : ℕ) → bit 0 w ≡ (w % 2 == 1)
unfolding bit
bit_low w = ap (λ (x : ℕ). nat_eq (x % 2) 1) (div-one w)

pub bit_suc : (r w : ℕ) → bit (suc r) w ≡ bit r (w / 2)
unfolding bit
bit_suc r w = ap (λ (x : ℕ). nat_eq (x % 2) 1) (ap (λ (k : ℕ). w / 2 ^ k) (sym (one-add r)) ∙ sym (shr-shr w 1 r))

digit_and : (x y : ℕ) → x < 2 → y < 2 → (min x y == 1) ≡ (x == 1 && y == 1)
digit_and zero zero hx hy = refl
digit_and zero (suc zero) hx hy = refl
digit_and (suc zero) zero hx hy = refl
digit_and (suc zero) (suc zero) hx hy = refl
digit_and (suc (suc x)) y hx hy = absurd (omega arith)
digit_and zero (suc (suc y)) hx hy = absurd (omega arith)
digit_and (suc zero) (suc (suc y)) hx hy = absurd (omega arith)

digit_or : (x y : ℕ) → x < 2 → y < 2 → (max x y == 1) ≡ (x == 1 || y == 1)
digit_or zero zero hx hy = refl
digit_or zero (suc zero) hx hy = refl
digit_or (suc zero) zero hx hy = refl
digit_or (suc zero) (suc zero) hx hy = refl
digit_or (suc (suc x)) y hx hy = absurd (omega arith)
digit_or zero (suc (suc y)) hx hy = absurd (omega arith)
digit_or (suc zero) (suc (suc y)) hx hy = absurd (omega arith)

digit_not : (x y : ℕ) → x < 2 → y ≡ 1 - x → (y == 1) ≡ not (x == 1)
digit_not zero y hx e = eq-eqb y 1 e
digit_not (suc zero) y hx e = ne_eqb y 1 (λ q. omega arith)
digit_not (suc (suc x)) y hx e = absurd (omega arith)

and_half : (a b : ℕ) → bit_and a b / 2 ≡ bit_and (a / 2) (b / 2)
and_half a b = let e = and_step a b in omega (arith, mod-lt a (zero-lt-suc 1), mod-lt b (zero-lt-suc 1))

and_odd : (a b : ℕ) → bit_and a b % 2 ≡ min (a % 2) (b % 2)
and_odd a b = let e = and_step a b in omega arith

or_half : (a b : ℕ) → bit_or a b / 2 ≡ bit_or (a / 2) (b / 2)
or_half a b = let e = or_step a b in omega arith

or_odd : (a b : ℕ) → bit_or a b % 2 ≡ max (a % 2) (b % 2)
or_odd a b = let e = or_step a b in omega arith

pub bit_of_and : (r a b : ℕ) → bit r (bit_and a b) ≡ (bit r a && bit r b)
bit_of_and zero a b =
    bit_low (bit_and a b) ∙ ap (λ (x : ℕ). nat_eq x 1) (and_odd a b) ∙ digit_and (a % 2) (b % 2) (omega arith) (omega arith)
    ∙ sym (ap₂ ◌&&◌ (bit_low a) (bit_low b))
bit_of_and (suc r) a b =
    bit_suc r (bit_and a b) ∙ ap (bit r) (and_half a b) ∙ bit_of_and r (a / 2) (b / 2)
    ∙ sym (ap₂ ◌&&◌ (bit_suc r a) (bit_suc r b))

pub bit_of_or : (r a b : ℕ) → bit r (bit_or a b) ≡ (bit r a || bit r b)
bit_of_or zero a b =
    bit_low (bit_or a b) ∙ ap (λ (x : ℕ). nat_eq x 1) (or_odd a b) ∙ digit_or (a % 2) (b % 2) (omega arith) (omega arith)
    ∙ sym (ap₂ ◌||◌ (bit_low a) (bit_low b))
bit_of_or (suc r) a b =
    bit_suc r (bit_or a b) ∙ ap (bit r) (or_half a b) ∙ bit_of_or r (a / 2) (b / 2)
    ∙ sym (ap₂ ◌||◌ (bit_suc r a) (bit_suc r b))

-- `!a` at a width of k bits
pub bit_of_not : (k r a : ℕ) → r < k → a < 2 ^ k → bit r ((2 ^ k - 1) - a) ≡ not (bit r a)
bit_of_not zero r a h l = absurd (omega arith)
bit_of_not (suc k) zero a h l =
    let p = pow-suc 2 k in
    bit_low ((2 ^ suc k - 1) - a) ∙ digit_not (a % 2) (((2 ^ suc k - 1) - a) % 2) (omega arith) (omega arith) ∙ sym (ap not (bit_low a))
bit_of_not (suc k) (suc r) a h l =
    let p = pow-suc 2 k in
    let e : ((2 ^ suc k - 1) - a) / 2 ≡ (2 ^ k - 1) - a / 2 = omega arith in
    bit_suc r ((2 ^ suc k - 1) - a) ∙ ap (bit r) e ∙ bit_of_not k r (a / 2) (omega arith) (omega arith) ∙ sym (ap not (bit_suc r a))

pub bit_of_zero : (r : ℕ) → bit r 0 ≡ false
bit_of_zero zero = bit_low 0
bit_of_zero (suc r) = bit_suc r 0 ∙ bit_of_zero r

-- `1 << j`
pub bit_one : (r j : ℕ) → bit r (2 ^ j) ≡ (r == j)
bit_one zero zero = bit_low 1
bit_one zero (suc j) =
    let p = pow-suc 2 j in
    bit_low (2 ^ suc j) ∙ ne_eqb (2 ^ suc j % 2) 1 (λ q. omega arith) ∙ sym (eqb-zero-suc j)
bit_one (suc r) zero = bit_suc r 1 ∙ bit_of_zero r ∙ sym (eqb-suc-zero r)
bit_one (suc r) (suc j) =
    let p = pow-suc 2 j in
    let e : 2 ^ suc j / 2 ≡ 2 ^ j = omega arith in
    bit_suc r (2 ^ suc j) ∙ ap (bit r) e ∙ bit_one r j ∙ sym (eqb-suc-suc r j)

-- all bits of `u64::MAX` and its like
pub bit_ones : (k r : ℕ) → r < k → bit r (2 ^ k - 1) ≡ true
bit_ones k r h =
    let e : 2 ^ k - 1 ≡ (2 ^ k - 1) - 0 = omega arith in
    ap (bit r) e ∙ bit_of_not k r 0 h (pow_pos k) ∙ ap not (bit_of_zero r)

-- the trailing zeros are zeros
below_step : (k n : ℕ) → ((r : ℕ) → r < count_trailing_zeros k (n / 2) → bit r (n / 2) ≡ false)
    → (d r : ℕ) → n % 2 ≡ d → r < under d (count_trailing_zeros k (n / 2)) → bit r n ≡ false
below_step k n rest zero zero e l = bit_low n ∙ ne_eqb (n % 2) 1 (λ q. omega arith)
below_step k n rest zero (suc r) e l = bit_suc r n ∙ rest r (le_of_suc-le-suc l)
below_step k n rest (suc d) r e l = absurd (omega arith)

pub trailing_below : (k n r : ℕ) → r < count_trailing_zeros k n → bit r n ≡ false
unfolding count_trailing_zeros
trailing_below zero n r h = absurd (omega arith)
trailing_below (suc k) n r h = below_step k n (trailing_below k (n / 2)) (n % 2) r refl h

-- and the bit above them is set
at_step : (k n : ℕ) → (count_trailing_zeros k (n / 2) < k → bit (count_trailing_zeros k (n / 2)) (n / 2) ≡ true)
    → (d : ℕ) → n % 2 ≡ d → under d (count_trailing_zeros k (n / 2)) < suc k → bit (under d (count_trailing_zeros k (n / 2))) n ≡ true
at_step k n rest zero e l = bit_suc (count_trailing_zeros k (n / 2)) n ∙ rest (le_of_suc-le-suc l)
at_step k n rest (suc d) e l = bit_low n ∙ eq-eqb (n % 2) 1 (omega arith)

pub trailing_at : (k n : ℕ) → count_trailing_zeros k n < k → bit (count_trailing_zeros k n) n ≡ true
unfolding count_trailing_zeros
trailing_at zero n h = absurd (omega arith)
trailing_at (suc k) n h = at_step k n (trailing_at k (n / 2)) (n % 2) refl h
