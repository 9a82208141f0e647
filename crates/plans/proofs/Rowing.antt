-- Rows, counted.
use Rattle.std.proofs.Common.{◌≡◌, ℕ, ◌+◌, T, Some, subst, rules, Bool, true, false, cond, List, [], ◌∷◌, length, sym, refl, ap, ◌∙◌, zero-add, arith}
use Rattle.std.specs.List.{filter, sum_by}
use Rattle.std.proofs.lemmas.List.Sums.{sum_by-cons}
use Rattle.patterns.specs.declared.row.TernaryRow.{TernaryRow}
use Rattle.patterns.specs.declared.row.RangeRow.{RangeRow}
use Rattle.patterns.specs.declared.span.Span.{Span}
use Rattle.patterns.specs.Sound.{span_ok, kept}
use Rattle.patterns.specs.Sorts.{span_of}
use Rattle.patterns.specs.Splitting.{split_of}
use Rattle.walks.specs.Rows.{leads_to}
use Rattle.walks.specs.Plans.{block_count, ternaries_to, blocks_to}

pub sum_ones : (rs : List TernaryRow) → sum_by (λ r. 1) rs ≡ length rs
sum_ones [] = refl
sum_ones (r ∷ rs) = omega (arith, sum_by-cons (λ (r : TernaryRow). 1) r rs, sum_ones rs)

pub sum_blocks : (rs : List RangeRow) → sum_by (λ r. length (split_of r.low r.high)) rs ≡ block_count rs
sum_blocks [] = refl
sum_blocks (r ∷ rs) = sum_by-cons (λ (r : RangeRow). length (split_of r.low r.high)) r rs ∙ ap (λ n. length (split_of r.low r.high) + n) (sum_blocks rs)

-- of the elements that pass a test, the first one counts if it does
sum_passing : {X : Type 0} (p : X → Bool) (f : X → ℕ) (x : X) (xs : List X) → sum_by f (filter p (x ∷ xs)) ≡ cond (p x) (f x) 0 + sum_by f (filter p xs)
sum_passing p f x xs = split (p x)
  where
    split : (b : Bool) → sum_by f (cond b (x ∷ filter p xs) (filter p xs)) ≡ cond b (f x) 0 + sum_by f (filter p xs)
    split true = sum_by-cons f x (filter p xs)
    split false = sym (zero-add (sum_by f (filter p xs)))

pub sum_ternaries_to : (c : ℕ) (rs : List TernaryRow) → sum_by (λ r. 1) (filter (λ r. leads_to c r.target) rs) ≡ ternaries_to c rs
sum_ternaries_to c [] = refl
sum_ternaries_to c (r ∷ rs) =
    sum_passing (λ r. leads_to c r.target) (λ r. 1) r rs ∙ ap (λ n. cond (leads_to c r.target) 1 0 + n) (sum_ternaries_to c rs)

pub sum_blocks_to : (c : ℕ) (rs : List RangeRow) → sum_by (λ r. length (split_of r.low r.high)) (filter (λ r. leads_to c r.target) rs) ≡ blocks_to c rs
sum_blocks_to c [] = refl
sum_blocks_to c (r ∷ rs) =
    sum_passing (λ r. leads_to c r.target) (λ r. length (split_of r.low r.high)) r rs
    ∙ ap (λ n. cond (leads_to c r.target) (length (split_of r.low r.high)) 0 + n) (sum_blocks_to c rs)

kept_at : {X Y : Type 0} (b : Bool) (mk : T b → X) (f : X → Y) (y : Y) → ((t : T b) → f (mk t) ≡ y) → (s : X) → kept b mk ≡ Some s → f s ≡ y
kept_at true mk f y h s e = let d : mk tt ≡ s = cc in subst (λ x. f x ≡ y) d (h tt)
kept_at false mk f y h s e = search rules

-- the span that a range makes has the blocks of the range
pub span_blocks : (r : RangeRow) (s : Span) → span_of r ≡ Some s → split_of s.low s.high ≡ split_of r.low r.high
span_blocks r s e = kept_at (span_ok r.low r.high) (λ t. record { low = r.low; high = r.high; ordered = t }) (λ s. split_of s.low s.high) _ (λ t. refl) s e
