-- The searches find the first place of which their words hold. Assumes nothing.
use Rattle.std.proofs.Common.{◌≡◌, ℕ, zero, suc, ◌+◌, ◌<◌, Bool, true, false, List, [], ◌∷◌, take, Some, None, Decides, Option, sym, refl, ap, ◌∙◌, subst, inl, inr, add-zero, arith, MatchOption}
use Rattle.std.specs.List.{slice_get, list_any}
use Rattle.std.proofs.lemmas.Bool.{cond_both, or_cases, or_left, or_right, both_ways}
use Rattle.patterns.specs.Finding.{first_from, passes, row_fits, first_fit, row_covers, any_covers, covered, first_covered}
use Rattle.patterns.specs.Firsts.{First, FitsAt, CoveredAt}
use Rattle.patterns.proofs.Finding.{position_first}

module _ {X : Type 0} (f : ℕ → X → Bool) where
  -- the element at n, where the first counts as i, passes
  abbrev Here : ℕ → List X → ℕ → Type 0
  Here i xs n = (x : X) × (slice_get xs n ≡ Some x) × (f (i + n) x ≡ true)

  abbrev Found : ℕ → List X → Option ℕ → Type 0
  Found i xs r =
      MatchOption r ((n : ℕ) → Here i xs n → ⊥) (λ m. (n : ℕ) × (m ≡ i + n) × Here i xs n × ((j : ℕ) → j < n → Here i xs j → ⊥))

  module _ (i : ℕ) (x : X) (xs : List X) where
    on : (n : ℕ) → Here (i + 1) xs n → Here i (x ∷ xs) (suc n)
    on n (y, a, b) = (y, a, subst (λ m. f m y ≡ true) (omega arith) b)

    off : (n : ℕ) → Here i (x ∷ xs) (suc n) → Here (i + 1) xs n
    off n (y, a, b) = (y, a, subst (λ m. f m y ≡ true) (omega arith) b)

    not_first : f i x ≡ false → Here i (x ∷ xs) 0 → ⊥
    not_first e (y, a, b) =
        let same : x ≡ y = cc in
        both_ways (f i x) e (subst (λ m. f m x ≡ true) (add-zero i) (subst (λ z. f (i + 0) z ≡ true) (sym same) b))

    none_later : f i x ≡ false → ((n : ℕ) → Here (i + 1) xs n → ⊥) → (n : ℕ) → Here i (x ∷ xs) n → ⊥
    none_later e h zero w = not_first e w
    none_later e h (suc n) w = h n (off n w)

    none_before : f i x ≡ false → (n : ℕ) → ((j : ℕ) → j < n → Here (i + 1) xs j → ⊥) → (j : ℕ) → j < suc n → Here i (x ∷ xs) j → ⊥
    none_before e n h zero l w = not_first e w
    none_before e n h (suc j) l w = h j (omega arith) (off j w)

    later : f i x ≡ false → (r : Option ℕ) → Found (i + 1) xs r → Found i (x ∷ xs) r
    later e None h = none_later e h
    later e (Some m) (n, s, w, before) = (suc n, omega arith, on n w, none_before e n before)

  nothing : (i n : ℕ) → Here i [] n → ⊥
  nothing i n (y, a, b) = let z : ◌≡◌ {A = ℕ} 0 1 = cc in omega arith

  found : (i : ℕ) (xs : List X) → Found i xs (first_from f i xs)
  found i [] = nothing i
  found i (x ∷ xs) =
      cond_both (f i x) (Some i) (first_from f (i + 1) xs) (Found i (x ∷ xs))
      (λ e. (0, omega arith, (x, refl, subst (λ m. f m x ≡ true) (omega arith) e), (λ j l w. absurd (omega arith))))
      (λ e. later i x xs e (first_from f (i + 1) xs) (found (i + 1) xs))

  -- from 0, for any words that say the same as the test
  pub first_from_lem : (xs : List X) (C : ℕ → Type 0)
      → ((n : ℕ) → C n → (x : X) × (slice_get xs n ≡ Some x) × (f n x ≡ true))
      → ((n : ℕ) (x : X) → slice_get xs n ≡ Some x → f n x ≡ true → C n)
      → First C (first_from f 0 xs)
  first_from_lem xs C there back = from (first_from f 0 xs) (found 0 xs)
    where
      at_zero : (n : ℕ) → C n → Here 0 xs n
      at_zero n c = let (x, a, b) = there n c in (x, a, subst (λ m. f m x ≡ true) (omega arith) b)

      from : (r : Option ℕ) → Found 0 xs r → First C r
      from None h = λ n c. h n (at_zero n c)
      from (Some m) (n, e, (x, a, b), before) =
          let s : n ≡ m = omega arith in
          (subst C s (back n x a (subst (λ k. f k x ≡ true) (omega arith) b)), (λ j l c. before j (omega arith) (at_zero j c)))

pub passes_inv : {P : Type 0} (f : P → Bool) (o : Option P) → passes f o ≡ true → (p : P) × (o ≡ Some p) × (f p ≡ true)
passes_inv f None e = absurd (both_ways false refl e)
passes_inv f (Some p) e = (p, refl, e)

module _ {X : Type 0} (f : X → Bool) where
  some_at : (xs : List X) (n j : ℕ) (x : X) → j < n → slice_get xs j ≡ Some x → f x ≡ true → list_any f (take n xs) ≡ true
  some_at [] n j x l a e = let z : ◌≡◌ {A = ℕ} 0 1 = cc in absurd (omega arith)
  some_at (y ∷ ys) zero j x l a e = absurd (omega arith)
  some_at (y ∷ ys) (suc n) zero x l a e = or_left (f y) (list_any f (take n ys)) (let s : y ≡ x = cc in ap f s ∙ e)
  some_at (y ∷ ys) (suc n) (suc j) x l a e = or_right (f y) (list_any f (take n ys)) (some_at ys n j x (omega arith) a e)

  some_from : (xs : List X) (n : ℕ) → list_any f (take n xs) ≡ true → (j : ℕ) × (j < n) × (x : X) × (slice_get xs j ≡ Some x) × (f x ≡ true)
  some_from [] zero e = absurd (both_ways false refl e)
  some_from [] (suc n) e = absurd (both_ways false refl e)
  some_from (y ∷ ys) zero e = absurd (both_ways false refl e)
  some_from (y ∷ ys) (suc n) e =
      elim (or_cases (f y) (list_any f (take n ys)) e) [
        | inl h ↦ (0, omega arith, y, refl, h)
        | inr t ↦ (let (j, l, x, a, h) = some_from ys n t in (suc j, omega arith, x, a, h))
      ]

module _ {R P K : Type 0} (made : R → Option P) (fits : P → K → Bool) where
  pub fit_first : (rows : List R) (key : K) (r : Option ℕ) → r ≡ first_fit made fits key rows → First (FitsAt made fits rows key) r
  fit_first rows key r is =
      subst (First (FitsAt made fits rows key)) (sym (is ∙ position_first (row_fits made fits key) rows)) (first_from_lem (λ _ r. row_fits made fits key r) rows (FitsAt made fits rows key)
      (λ n w. let (p, (a, na, ma), e) = w in (a, na, ap (passes (λ p. fits p key)) ma ∙ e))
      (λ n a na e. let (p, ma, t) = passes_inv (λ p. fits p key) (made a) e in (p, (a, na, ma), t)))

module _ {R P K : Type 0} (keys : K → Type 0) (made : R → Option P) (fits : P → K → Bool) (covers : P → P → Bool)
    (law : (p q : P) → Decides (covers p q) ((k : K) → keys k → fits q k ≡ true → fits p k ≡ true)) where
  pub covered_first : (rows : List R) (r : Option ℕ) → r ≡ first_covered made covers rows → First (CoveredAt keys made fits rows) r
  covered_first rows r is =
      subst (First (CoveredAt keys made fits rows)) (sym is) (first_from_lem (λ i r. covered made covers (take i rows) r) rows (CoveredAt keys made fits rows)
      (λ n w.
      let (j, l, p, q, (a, na, ma), (b, nb, mb), all) = w in
      let t : row_covers made covers q a ≡ true = ap (passes (λ p. covers p q)) ma ∙ (law p q).1 all in
      (b, nb, ap (passes (λ q. any_covers made covers q (take n rows))) mb ∙ some_at (row_covers made covers q) rows n j a l na t))
      (λ n b nb e.
      let (q, mb, t) = passes_inv (λ q. any_covers made covers q (take n rows)) (made b) e in
      let (j, l, a, na, u) = some_from (row_covers made covers q) rows n t in
      let (p, ma, v) = passes_inv (λ p. covers p q) (made a) u in
      (j, l, p, q, (a, na, ma), (b, nb, mb), (law p q).0 v)))
