-- One part written behind another.
use Rattle.std.proofs.Common.{◌≡◌, ℕ, ◌+◌, ◌-◌, ◌≤◌, List, [], ◌++◌, length, take, drop, sym, ap, ◌∙◌, ap₂, append_assoc, append-nil, arith}
use Rattle.std.proofs.lemmas.List.{length-append, length-take-le, length-drop, take_at, take_all, drop_at, drop_all, drop-drop}
use Rattle.octets.specs.Writing.{written}
use borrow.Rule.Slice.PartMut.{put_mid}

module _ (area : List ℕ) (at : ℕ) (b : List ℕ) (fits : at + length b ≤ length area) where
  front : length (take at area ++ b) ≡ at + length b
  front = length-append (take at area) b ∙ ap (λ n. n + length b) (length-take-le at area (omega arith))

  pub written_more : (n : ℕ) (c : List ℕ) → n ≡ at + length b → written (written area at b) n c ≡ written area at (b ++ c)
  written_more n c e =
      let split : written area at b ≡ (take at area ++ b) ++ drop (at + length b) area = sym (append_assoc (take at area) b (drop (at + length b) area)) in
      let l : length (take at area ++ b) ≡ n = front ∙ sym e in
      let rest : drop (n + length c) (written area at b) ≡ drop (at + length (b ++ c)) area =
      ap (drop (n + length c)) split ∙ sym (drop-drop (length c) n ((take at area ++ b) ++ drop (at + length b) area))
      ∙ ap (drop (length c)) (drop_at (take at area ++ b) (drop (at + length b) area) n l) ∙ drop-drop (length c) (at + length b) area
      ∙ ap (λ x. drop x area) (omega (arith, length-append b c)) in
      ap₂ (λ x y. x ++ (c ++ y)) (ap (take n) split ∙ take_at (take at area ++ b) (drop (at + length b) area) n l) rest
      ∙ append_assoc (take at area) b (c ++ drop (at + length (b ++ c)) area)
      ∙ ap (λ x. take at area ++ x) (sym (append_assoc b c (drop (at + length (b ++ c)) area)))

-- a part of the area, from `at` to its end, is written to: all of the area after
pub part_written : (area part : List ℕ) (at : ℕ) (bytes : List ℕ) → part ≡ written (take (length area - at) (drop at area)) 0 bytes
    → put_mid at (length area - at) area part ≡ written area at bytes
part_written area part at bytes e =
    let l : length (drop at area) ≤ length area - at = simp length-drop (omega arith) in
    let none : drop (length area - at) (drop at area) ≡ [] = drop_all (length area - at) (drop at area) l in
    let all : take (length area - at) (drop at area) ≡ drop at area = take_all (length area - at) (drop at area) l in
    let rest : drop (0 + length bytes) (drop at area) ≡ drop (at + length bytes) area = drop-drop (0 + length bytes) at area ∙ ap (λ n. drop n area) (omega arith) in
    ap₂ (λ x y. take at area ++ (x ++ y)) (e ∙ ap (λ x. bytes ++ drop (0 + length bytes) x) all ∙ ap (λ x. bytes ++ x) rest) none
    ∙ ap (λ x. take at area ++ x) (append-nil (bytes ++ drop (at + length bytes) area))

-- and all that was written, where something stands before it
pub part_behind : (start area part front bytes : List ℕ) (at : ℕ) → area ≡ written start 0 front → at ≡ length front → at ≤ length start
    → part ≡ written (take (length area - at) (drop at area)) 0 bytes → put_mid at (length area - at) area part ≡ written start 0 (front ++ bytes)
part_behind start area part front bytes at a l fits e =
    part_written area part at bytes e ∙ ap (λ x. written x at bytes) a ∙ written_more start 0 front (omega arith) at bytes (omega arith)
