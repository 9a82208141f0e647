-- Eight bytes as a number.
use Rattle.std.proofs.Common.{◌≡◌, ℕ, List, [], ◌∷◌, map, get_or, sym, refl, ap, ◌∙◌, arith}
use denote.Param.Members.{Mut, Called}
use Rattle.std.proofs.Math.ListN.{get_or-map}
use Rattle.std.specs.Int.{w64, from_be_bytes}
use Rattle.std.specs.Array.{IsFromFnResult}
use Rattle.graph_reader.proofs.Filling.{filled_by}
use Rattle.walks.specs.Bytes.{filled, spelled, spelled_in}
use Rattle.walks.specs.Rows.{key_width, Cell, free}

-- what is filled up to eight, by places
eight : (xs : List ℕ)
    → filled 0 key_width xs ≡ get_or xs 0 0 ∷ get_or xs 1 0 ∷ get_or xs 2 0 ∷ get_or xs 3 0 ∷ get_or xs 4 0 ∷ get_or xs 5 0 ∷ get_or xs 6 0 ∷ get_or xs 7 0 ∷ []
eight [] = refl
eight (a ∷ []) = refl
eight (a ∷ b ∷ []) = refl
eight (a ∷ b ∷ c ∷ []) = refl
eight (a ∷ b ∷ c ∷ d ∷ []) = refl
eight (a ∷ b ∷ c ∷ d ∷ e ∷ []) = refl
eight (a ∷ b ∷ c ∷ d ∷ e ∷ f ∷ []) = refl
eight (a ∷ b ∷ c ∷ d ∷ e ∷ f ∷ g ∷ []) = refl
eight (a ∷ b ∷ c ∷ d ∷ e ∷ f ∷ g ∷ h ∷ xs) = refl

-- as a number
eight_spelled : (a b c d e f g h : ℕ) → from_be_bytes w64 (a ∷ b ∷ c ∷ d ∷ e ∷ f ∷ g ∷ h ∷ []) ≡ spelled (a ∷ b ∷ c ∷ d ∷ e ∷ f ∷ g ∷ h ∷ [])
eight_spelled a b c d e f g h = omega arith

-- as `from_fn` makes them of a part of each cell
pub spelled_by : {F : Type 0} {g : Mut F (ℕ × Unit {0}) ℕ} {f : F} {ys : List ℕ} (part : Cell → ℕ) → part free ≡ 0 → (cs : List Cell) → IsFromFnResult g f ys key_width
    → ((i y : ℕ) (q : F) → Called g f (i, tt) y q → (q ≡ f) × (y ≡ part (get_or cs i free))) → from_be_bytes w64 ys ≡ spelled_in key_width (map part cs)
spelled_by part none cs made same =
    let at : (i : ℕ) → part (get_or cs i free) ≡ get_or (map part cs) i 0 = λ i. sym (get_or-map part cs i free) ∙ ap (get_or (map part cs) i) none in
    ap (from_be_bytes w64) (filled_by (λ i. get_or (map part cs) i 0) key_width made (λ i y q k. ((same i y q k).0, (same i y q k).1 ∙ at i)))
    ∙ eight_spelled _ _ _ _ _ _ _ _ ∙ sym (ap spelled (eight (map part cs)))
