-- The key of a header, byte by byte.
use Rattle.std.proofs.Common.{◌≡◌, ℕ, zero, suc, ◌+◌, ◌<◌, ◌≤◌, List, [], ◌∷◌, get_or, refl, ap, ◌∙◌, subst, inl, inr, arith}
use denote.Param.Members.{Mut, Called}
use Rattle.std.specs.Int.{w32, from_be_bytes}
use Rattle.std.specs.Array.{IsFromFnResultFrom, IsFromFnResult}
use Rattle.std.proofs.lemmas.Bool.{cases_lt}
use Rattle.walks.specs.Bytes.{spelled_in}

-- four bytes spell a number
four : (bs : List ℕ) → from_be_bytes w32 (get_or bs 0 0 ∷ get_or bs 1 0 ∷ get_or bs 2 0 ∷ get_or bs 3 0 ∷ []) ≡ spelled_in 4 bs
four [] = refl
four (a ∷ []) = omega arith
four (a ∷ b ∷ []) = omega arith
four (a ∷ b ∷ c ∷ []) = omega arith
four (a ∷ b ∷ c ∷ d ∷ bs) = omega arith

module _ {F : Type 0} {g : Mut F (ℕ × Unit {0}) ℕ} {f : F} {ys : List ℕ} (made : IsFromFnResult g f ys 4) (bs : List ℕ)
    (same : (i y : ℕ) (q : F) → Called g f (i, tt) y q → (q ≡ f) × (y ≡ get_or bs i 0)) where
  each : (i n : ℕ) → IsFromFnResultFrom g f ys i n → (k : ℕ) → i ≤ k → k < i + n → get_or ys k 0 ≡ get_or bs k 0
  each i zero w k l m = absurd (omega arith)
  each i (suc n) (q, y, is, ran, rest) k l m = elim (cases_lt i k) [
    | inl h ↦ each (i + 1) n (subst (λ p. IsFromFnResultFrom g p ys (i + 1) n) (same i y q ran).0 rest) k (omega arith) (omega arith)
    | inr h ↦ let e : i ≡ k = omega arith in subst (λ k. get_or ys k 0 ≡ get_or bs k 0) e (is.1 0 ∙ (same i y q ran).1)
  ]

  pub spelled_by : from_be_bytes w32 ys ≡ spelled_in 4 bs
  spelled_by =
      let at : (k : ℕ) → k < 4 → get_or ys k 0 ≡ get_or bs k 0 = λ k h. each 0 4 made.each k (omega arith) (omega arith) in
      ap (λ y. from_be_bytes w32 (y ∷ get_or ys 1 0 ∷ get_or ys 2 0 ∷ get_or ys 3 0 ∷ [])) (at 0 (omega arith))
      ∙ ap (λ y. from_be_bytes w32 (get_or bs 0 0 ∷ y ∷ get_or ys 2 0 ∷ get_or ys 3 0 ∷ [])) (at 1 (omega arith))
      ∙ ap (λ y. from_be_bytes w32 (get_or bs 0 0 ∷ get_or bs 1 0 ∷ y ∷ get_or ys 3 0 ∷ [])) (at 2 (omega arith))
      ∙ ap (λ y. from_be_bytes w32 (get_or bs 0 0 ∷ get_or bs 1 0 ∷ get_or bs 2 0 ∷ y ∷ [])) (at 3 (omega arith))
      ∙ four bs
