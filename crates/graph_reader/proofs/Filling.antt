-- An array filled from a function of the index.
use Rattle.std.proofs.Common.{◌≡◌, ℕ, zero, suc, ◌+◌, ◌<◌, ◌≤◌, ◌≢◌, List, [], ◌∷◌, ◌++◌, map, length, get_or, take, set, sym, ap, ◌∙◌, subst, ap₂, inl, inr, arith, below_more}
use denote.Param.Members.{Mut, Called}
use Rattle.std.specs.Array.{IsFromFnResultFrom, IsFromFnResult}
use Rattle.std.specs.List.{range_with_len}
use Rattle.std.proofs.lemmas.List.{ext_get_or, take_more_set, map_push, get_or-set_same, get_or-set_other}
use Rattle.std.proofs.lemmas.List.FromFn.{length-map-range_with_len, get_or-map-range_with_len, map-range_with_len_more}
use Rattle.std.proofs.lemmas.Bool.{cases_lt}

module _ {X F : Type 0} {g : Mut F (ℕ × Unit {0}) X} {f : F} (h : ℕ → X) (n : ℕ) {ys : List X} (made : IsFromFnResult g f ys n)
    (same : (i : ℕ) (y : X) (q : F) → Called g f (i, tt) y q → (q ≡ f) × (y ≡ h i)) where
  at_each : (i k : ℕ) → IsFromFnResultFrom g f ys i k → (d : X) (j : ℕ) → i ≤ j → j < i + k → get_or ys j d ≡ h j
  at_each i zero w d j l m = absurd (omega arith)
  at_each i (suc k) (q, y, is, ran, rest) d j l m = elim (cases_lt i j) [
    | inl less ↦ at_each (i + 1) k (subst (λ p. IsFromFnResultFrom g p ys (i + 1) k) (same i y q ran).0 rest) d j (omega arith) (omega arith)
    | inr more ↦ let e : i ≡ j = omega arith in subst (λ j. get_or ys j d ≡ h j) e (is.1 d ∙ (same i y q ran).1)
  ]

  -- the elements that `from_fn` makes
  pub filled_by : ys ≡ map h (range_with_len 0 n)
  filled_by =
      ext_get_or (h 0) ys (map h (range_with_len 0 n)) (made.long ∙ sym (length-map-range_with_len h 0 n))
      (λ i l.
      let m : i < n = omega (arith, made.long) in
      at_each 0 n made.each (h 0) i (omega arith) (omega arith) ∙ sym (get_or-map-range_with_len h 0 n i i (h 0) m (omega arith)))

module _ {X Y : Type 0} (view : X → Y) (f : ℕ → Y) (xs : List X) (i : ℕ) (x : X) where
  pub shown_more : i < length xs → view x ≡ f i → map view (take i xs) ≡ map f (range_with_len 0 i) → map view (take (i + 1) (set xs i x)) ≡ map f (range_with_len 0 (i + 1))
  shown_more h e inv =
      ap (map view) (take_more_set xs i x h) ∙ map_push view (take i xs) x ∙ ap₂ (λ a y. a ++ y ∷ []) inv e ∙ sym (map-range_with_len_more f 0 i i (omega arith))

module _ {X : Type 0} (P : X → Type 0) (xs : List X) (i : ℕ) (x d : X) where
  -- what holds of each element so far, one more
  pub each_more : i < length xs → P x → ((k : ℕ) → k < i → P (get_or xs k d)) → (k : ℕ) → k < i + 1 → P (get_or (set xs i x) k d)
  each_more h p inv =
      below_more (λ k. P (get_or (set xs i x) k d)) i
      (λ k l. let ne : k ≢ i = omega arith in subst P (sym (get_or-set_other xs i k x d ne)) (inv k l))
      (subst P (sym (get_or-set_same xs i x d h)) p)
