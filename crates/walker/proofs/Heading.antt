-- Places that a packet holds, one after the other, and a byte shifted out.
use Rattle.std.proofs.Common.{◌≡◌, ℕ, zero, suc, ◌+◌, ◌/◌, ◌^◌, ◌<◌, ◌≤◌, Bool, true, false, ◌&&◌, ltb, List, [], ◌∷◌, ◌++◌, length, get_or, Some, None, Option, refl, sym, inl, inr, arith, pow_mono}
use native.Mathlib.Nat.{div-eq_of_lt}
use Rattle.std.specs.Bool.{MatchBool}
use Rattle.std.specs.List.{AllWithin, HoldsAt}
use Rattle.std.specs.Option.{SomeIff, unwrap_or}
use Rattle.std.proofs.lemmas.Bool.{cases_lt, and_from, and_left, and_right, lt-ltb, le-ltb}
use Rattle.walks.specs.Turning.{held}

-- each place is held, or one is not
module _ (p : List ℕ) (at : ℕ) where
  all_held : (xs : List ℕ) → ((k : ℕ) → k < length xs → at + get_or xs k 0 < length p) → held p at xs ≡ true
  all_held [] h = refl
  all_held (x ∷ xs) h = and_from _ _ (lt-ltb (at + x) (length p) (h 0 (omega arith))) (all_held xs (λ k l. h (suc k) (omega arith)))

  one_lost : (xs : List ℕ) (k : ℕ) → k < length xs → length p ≤ at + get_or xs k 0 → held p at xs ≡ false
  one_lost [] k l h = absurd (omega arith)
  one_lost (x ∷ xs) zero l h = and_left (ltb (at + x) (length p)) (held p at xs) (le-ltb (at + x) (length p) h)
  one_lost (x ∷ xs) (suc k) l h = and_right (ltb (at + x) (length p)) (held p at xs) (one_lost xs k (omega arith) h)

  pub held_by : (xs : List ℕ) (r : Bool)
      → MatchBool r (AllWithin (λ x. at + x < length p) xs 0 (length xs)) ((k : ℕ) × (k < length xs) × HoldsAt (λ x. length p ≤ at + x) xs k) → r ≡ held p at xs
  held_by xs true h = sym (all_held xs (λ k l. h k 0 (omega arith) l))
  held_by xs false (k, l, h) = sym (one_lost xs k l (h 0))

pub held_append : (p : List ℕ) (at : ℕ) (xs ys : List ℕ) → held p at (xs ++ ys) ≡ (held p at xs && held p at ys)
held_append p at [] ys = refl
held_append p at (x ∷ xs) ys = within (ltb (at + x) (length p)) _ (held p at xs) (held p at ys) (held_append p at xs ys)
  where
    within : (b c d e : Bool) → c ≡ (d && e) → (b && c) ≡ ((b && d) && e)
    within true c d e s = s
    within false c d e s = refl

-- a byte shifted by eight bits or more is 0
shifted_out : (b shift : ℕ) → b < 256 → 8 ≤ shift → b / 2 ^ shift ≡ 0
shifted_out b shift h l = let m : 2 ^ 8 ≤ 2 ^ shift = pow_mono l in div-eq_of_lt (omega arith)

pub shifted_or_out : (b shift : ℕ) (r : Option ℕ) → b < 256 → SomeIff r (shift < 8) (b / 2 ^ shift) → unwrap_or r 0 ≡ b / 2 ^ shift
shifted_or_out b shift (Some x) h e = e.1
shifted_or_out b shift None h e = elim (cases_lt shift 8) [ inl l ↦ absurd (e l) | inr l ↦ sym (shifted_out b shift h l) ]
