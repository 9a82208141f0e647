-- Bytes laid out one part behind the other.
use Rattle.std.proofs.Common.{◌≡◌, ℕ, ◌+◌, ◌*◌, ◌<◌, List, [], ◌∷◌, ◌++◌, length, get_or, take, drop, sym, refl, ap, ◌∙◌, ap₂, append_assoc, arith}
use Rattle.std.specs.List.{flat_map}
use Rattle.std.proofs.lemmas.List.{length-take-le, take_at, drop_at, drop-drop, take_more, flat_map_more}
use Rattle.octets.specs.Writing.{written}
use Rattle.headers.specs.declared.mark.Mark.{Mark}
use Rattle.readers.specs.declared.read.Reading.{Reading}
use Rattle.chost.specs.Area.{head, mark_bytes}

-- six bytes a mark
pub marks_length : (marks : List Mark) → length (flat_map mark_bytes marks) ≡ 6 * length marks
marks_length [] = refl
marks_length (m ∷ marks) = omega (arith, marks_length marks)

-- a part behind a front, which is all that was written
part_behind : (start area front part : List ℕ) (at : ℕ) → area ≡ front ++ drop at start → length front ≡ at → written area at part ≡ (front ++ part) ++ drop (at + length part) start
part_behind start area front part at is l =
    let rest : drop (at + length part) area ≡ drop (at + length part) start =
    sym (drop-drop (length part) at area) ∙ ap (λ x. drop (length part) (drop at x)) is ∙ ap (drop (length part)) (drop_at front (drop at start) at l) ∙ drop-drop (length part) at start in
    ap₂ (λ x y. x ++ (part ++ y)) (ap (take at) is ∙ take_at front (drop at start) at l) rest ∙ sym (append_assoc front part (drop (at + length part) start))

-- so many of a reading's marks are laid out, and the bytes behind stay
abbrev pub so_far : Reading → List Mark → ℕ → List ℕ → List ℕ
so_far r marks k start = (head r ++ flat_map mark_bytes (take k marks)) ++ drop (6 + 6 * k) start

-- one mark more
pub more_so_far : (r : Reading) (marks : List Mark) (k : ℕ) (d : Mark) (start area : List ℕ) → k < length marks → area ≡ so_far r marks k start
    → written area (6 + 6 * k) (mark_bytes (get_or marks k d)) ≡ so_far r marks (k + 1) start
more_so_far r marks k d start area h is =
    let m = mark_bytes (get_or marks k d) in
    let before = flat_map mark_bytes (take k marks) in
    let l : length (head r ++ before) ≡ 6 + 6 * k = omega (arith, marks_length (take k marks), length-take-le k marks (omega arith)) in
    let all : before ++ m ≡ flat_map mark_bytes (take (k + 1) marks) = flat_map_more mark_bytes [] (take k marks) (get_or marks k d) ∙ ap (flat_map mark_bytes) (sym (take_more marks k d h)) in
    let n : 6 + 6 * k + 6 ≡ 6 + 6 * (k + 1) = omega arith in
    part_behind start area (head r ++ before) m (6 + 6 * k) is l ∙ ap₂ (λ x y. x ++ drop y start) (append_assoc (head r) before m ∙ ap (λ x. head r ++ x) all) n
