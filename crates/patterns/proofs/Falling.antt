-- A search from above down to 1.
use Rattle.std.proofs.Common.{◌≡◌, ℕ, ◌+◌, ◌-◌, ◌<◌, Bool, true, false, List, [], ◌∷◌, Some, None, Option, MatchOption, ap, sym, ◌∙◌, subst, arith}
use Rattle.std.specs.Prelude.{⊤}
use denote.Param.Members.{Mut}
use Rattle.std.specs.Borrow.{Bor}
use Rattle.std.specs.Fn.{CalledAt}
use Rattle.std.specs.List.{FoldsTo}
use Rattle.std.specs.Iterator.{YieldsThen}
use Rattle.std.specs.Option.{unwrap_or}
use Rattle.std.specs.declared.iter.Rev.{Rev}
use Rattle.std.specs.declared.ops.Range.{Range}
use Rattle.patterns.specs.Splitting.{block_ok, largest}
use Rattle.patterns.proofs.Largest.{largest_down, largest_here}

-- the end of a range is given, and moves down
abbrev pub falls : Rev (Range ℕ) → Option ℕ → Rev (Range ℕ) → Type 0
falls s r t = (t.iter.start ≡ s.iter.start) × MatchOption r ((s.iter.end - s.iter.start ≡ 0) × (t.iter.end ≡ s.iter.end))
    (λ x. (0 < s.iter.end - s.iter.start) × (x ≡ t.iter.end) × (s.iter.end ≡ t.iter.end + 1))

module _ {F : Type 0} {g : Mut F (Bor ℕ × Unit {0}) Bool} (low high : ℕ) (f : F)
    (same : (x : ℕ) (b : Bool) (q : F) → CalledAt g f x b q → (q ≡ f) × (b ≡ block_ok low high x)) where
  pub largest_by : (xs : List ℕ) (s u : Rev (Range ℕ)) (r : Option ℕ) (j : F) → s.iter.start ≡ 1 → YieldsThen falls s xs r u
      → FoldsTo (λ p x q. CalledAt g p x false q) f xs j → MatchOption r ⊤ (λ x. (h : F) × CalledAt g j x true h)
      → unwrap_or r 0 ≡ largest low high (s.iter.end - 1)
  largest_by [] s u None j one (t, e, (a, (z, b))) fs m =
      let none : s.iter.end - s.iter.start ≡ 0 = subst (λ (t : Rev (Range ℕ)). t.iter.end - t.iter.start ≡ 0) (sym e) z in
      let n : 0 ≡ s.iter.end - 1 = omega arith in ap (largest low high) n
  largest_by [] s u (Some x) j one (t, e, (a, (l, w, n))) fs (h, c) =
      let some : 0 < s.iter.end - s.iter.start = subst (λ (t : Rev (Range ℕ)). 0 < t.iter.end - t.iter.start) (sym e) l in
      let next : s.iter.end ≡ u.iter.end + 1 = subst (λ (t : Rev (Range ℕ)). t.iter.end ≡ u.iter.end + 1) (sym e) n in
      let k : x ≡ s.iter.end - 1 = omega arith in
      sym (largest_here low high x (omega arith) (sym (same x true h (subst (λ p. CalledAt g p x true h) (sym fs) c)).1)) ∙ ap (largest low high) k
  largest_by (x ∷ xs) s u r j one (t, (v, (a, (l, w, n)), ys), last) (p, c, fs) m =
      let q = same x false p c in
      let k : v.iter.end ≡ s.iter.end - 1 = omega arith in
      largest_by xs v u r j (a ∙ one) (t, ys, last) (subst (λ p. FoldsTo (λ p x q. CalledAt g p x false q) p xs j) q.0 fs) m
      ∙ ap (λ y. largest low high (y - 1)) (sym w) ∙ sym (largest_down low high x (omega arith) (sym q.1)) ∙ ap (largest low high) (w ∙ k)
