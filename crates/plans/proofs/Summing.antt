-- Sums that are cut at 65,535.
use Rattle.std.proofs.Common.{◌≡◌, ℕ, zero, suc, ◌+◌, min, refl, arith}
use Rattle.std.specs.List.{range_with_len, sum_by}
use Rattle.std.proofs.lemmas.List.Sums.{sum_by-cons}
use Rattle.walks.specs.Plans.{sum_from}

-- two cut summands make no difference
pub cut_sum : (a b : ℕ → ℕ) (i n : ℕ) → min (sum_by (λ k. min (a k) 65535 + min (b k) 65535) (range_with_len i n)) 65535 ≡ min (sum_from a i n + sum_from b i n) 65535
cut_sum a b i zero = refl
cut_sum a b i (suc n) =
    omega (arith, sum_by-cons (λ k. min (a k) 65535 + min (b k) 65535) i (range_with_len (i + 1) n), cut_sum a b (i + 1) n)
