-- Items written over the front of a list, one more at a time.
use Rattle.std.proofs.Common.{◌≡◌, ℕ, suc, ◌+◌, ◌<◌, ◌≤◌, List, [], ◌∷◌, ◌++◌, length, set, drop, refl, ap, ◌∙◌, arith}
use Rattle.std.proofs.lemmas.List.{length_push}
use Rattle.readers.specs.Fronts.{over, Written}

module _ {X : Type 0} where
  length_over : (ws before : List X) → length (over ws before) ≡ length before
  length_over [] before = refl
  length_over (w ∷ ws) [] = refl
  length_over (w ∷ ws) (b ∷ before) = ap suc (length_over ws before)

  over_more : (ws before : List X) (x : X) → length ws < length before → set (over ws before) (length ws) x ≡ over (ws ++ x ∷ []) before
  over_more ws [] x h = absurd (omega arith)
  over_more [] (b ∷ before) x h = refl
  over_more (w ∷ ws) (b ∷ before) x h = ap (λ ys. w ∷ ys) (over_more ws before x (omega arith))

  over_full : (ws before : List X) (x : X) → length before ≤ length ws → over ws before ≡ over (ws ++ x ∷ []) before
  over_full [] [] x h = refl
  over_full [] (b ∷ before) x h = absurd (omega arith)
  over_full (w ∷ ws) [] x h = refl
  over_full (w ∷ ws) (b ∷ before) x h = ap (λ ys. w ∷ ys) (over_full ws before x (omega arith))

  -- items that all have a place
  pub over_whole : (ws before : List X) → length ws ≤ length before → over ws before ≡ ws ++ drop (length ws) before
  over_whole [] before h = refl
  over_whole (w ∷ ws) [] h = absurd (omega arith)
  over_whole (w ∷ ws) (b ∷ before) h = ap (λ ys. w ∷ ys) (over_whole ws before (omega arith))

  module _ (before now : List X) (count : ℕ) (item : X) (ws : List X) (was : Written before now count ws) where
    pub written_more : count < length now → Written before (set now count item) (count + 1) (ws ++ item ∷ [])
    written_more h =
        let size : length now ≡ length before = ap length was.stand ∙ length_over ws before in
        let n : count ≡ length ws = omega (arith, was.many) in
        record {
          stand = ap (λ xs. set xs count item) was.stand ∙ ap (λ k. set (over ws before) k item) n ∙ over_more ws before item (omega (arith, was.many));
          many = omega (arith, length_push ws item);
        }

    pub written_full : length now ≤ count → Written before now count (ws ++ item ∷ [])
    written_full h =
        let size : length now ≡ length before = ap length was.stand ∙ length_over ws before in
        record {
          stand = was.stand ∙ over_full ws before item (omega (arith, was.many));
          many = omega (arith, length_push ws item, was.many);
        }
