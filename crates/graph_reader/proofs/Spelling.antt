-- A right record is the encoding of the node read off it.
use Rattle.std.proofs.Common.{◌≡◌, ℕ, zero, suc, ◌+◌, ◌*◌, ◌/◌, ◌%◌, ◌<◌, ◌≤◌, true, false, cond, eqb, ltb, leb, List, [], ◌∷◌, ◌++◌, map, length, take, drop, sym, refl, ap, ◌∙◌, ap₂, add-zero, arith}
use Rattle.std.proofs.lemmas.Bool.{leb-true, eqb-true, cond-false, cond_both}
use Rattle.std.proofs.lemmas.Bool.Decides.{nat_tests}
use Rattle.std.proofs.lemmas.List.FromFn.{length-map-range_with_len}
use Rattle.std.proofs.lemmas.List.{drop_more, drop_all}
use Rattle.std.specs.List.{range_with_len, flat_map}
use Rattle.headers.proofs.KindLaws.{number_back}
use Rattle.patterns.specs.declared.row.Target.TheVariants.{Node, Done, Dropped}
use Rattle.graphs.specs.declared.graph.Length.TheVariants.{Fixed, Counted}
use Rattle.graphs.specs.View.{row_count}
use Rattle.graph_reader.specs.Encoding.{two, four, length_bytes, place_bytes, target_bytes, ternary_bytes, range_bytes, sort_byte, row_bytes, record_of}
use Rattle.graph_reader.specs.Records.{at, at2, at4, fixed_right, counted_right, right, row_right}
use Rattle.graph_reader.specs.Decoding.{target_in, ternary_in, range_in, rows_in, node_in}
use Rattle.graph_reader.proofs.Recorded.{Whole, row_bytes_right}

-- digits
pub two_digits : (a b : ℕ) → b < 256 → two (a * 256 + b) ≡ a ∷ b ∷ []
two_digits a b h =
    let p : (a * 256 + b) / 256 ≡ a = omega arith in
    let q : (a * 256 + b) % 256 ≡ b = omega arith in
    cc

pub four_digits : (a b c d : ℕ) → b < 256 → c < 256 → d < 256
    → four (a * 16777216 + b * 65536 + c * 256 + d) ≡ a ∷ b ∷ c ∷ d ∷ []
four_digits a b c d hb hc hd =
    let p : (a * 16777216 + b * 65536 + c * 256 + d) / 16777216 ≡ a = omega arith in
    let q : (a * 16777216 + b * 65536 + c * 256 + d) / 65536 % 256 ≡ b = omega arith in
    let r : (a * 16777216 + b * 65536 + c * 256 + d) / 256 % 256 ≡ c = omega arith in
    let s : (a * 16777216 + b * 65536 + c * 256 + d) % 256 ≡ d = omega arith in
    cc

-- the seven bytes of a length
length_spelled : (a b c d e f g : ℕ) → leb a 1 ≡ true
    → cond (eqb a 0) (fixed_right 3 c) (counted_right 3 c) ≡ true
    → cond (eqb a 0) (fixed_right 4 d) (counted_right 4 d) ≡ true
    → cond (eqb a 0) (fixed_right 5 e) (counted_right 5 e) ≡ true
    → cond (eqb a 0) (fixed_right 6 f) (counted_right 6 f) ≡ true
    → cond (eqb a 0) (fixed_right 7 g) (counted_right 7 g) ≡ true
    → length_bytes (cond (eqb a 0) (Fixed b) (Counted b c d e f)) ≡ a ∷ b ∷ c ∷ d ∷ e ∷ f ∷ g ∷ []
length_spelled zero b c d e f g ha hc hd he hf hg =
    let pc = eqb-true c 0 hc in
    let pd = eqb-true d 0 hd in
    let pe = eqb-true e 0 he in
    let pf = eqb-true f 0 hf in
    let pg = eqb-true g 0 hg in
    cc
length_spelled (suc zero) b c d e f g ha hc hd he hf hg = let pg = eqb-true g 0 hg in cc
length_spelled (suc (suc a)) b c d e f g ha hc hd he hf hg = absurd (omega (arith, leb-true _ _ ha))

-- the lookup count and its four bytes
record Placed (n a b c d : ℕ) : Type 0 where
  count : length (take n (a ∷ b ∷ c ∷ d ∷ [])) ≡ n
  bytes : place_bytes (take n (a ∷ b ∷ c ∷ d ∷ [])) ≡ a ∷ b ∷ c ∷ d ∷ []

places_spelled : (n a b c d : ℕ) → leb n 4 ≡ true
    → cond (ltb 0 n) (leb a 63) (eqb a 0) ≡ true → cond (ltb 1 n) (leb b 63) (eqb b 0) ≡ true
    → cond (ltb 2 n) (leb c 63) (eqb c 0) ≡ true → cond (ltb 3 n) (leb d 63) (eqb d 0) ≡ true
    → Placed n a b c d
places_spelled zero a b c d h ha hb hc hd =
    let pa = eqb-true a 0 ha in let pb = eqb-true b 0 hb in let pc = eqb-true c 0 hc in let pd = eqb-true d 0 hd in
    record { count = refl; bytes = cc }
places_spelled (suc zero) a b c d h ha hb hc hd =
    let pb = eqb-true b 0 hb in let pc = eqb-true c 0 hc in let pd = eqb-true d 0 hd in
    record { count = refl; bytes = cc }
places_spelled (suc (suc zero)) a b c d h ha hb hc hd =
    let pc = eqb-true c 0 hc in let pd = eqb-true d 0 hd in
    record { count = refl; bytes = cc }
places_spelled (suc (suc (suc zero))) a b c d h ha hb hc hd =
    let pd = eqb-true d 0 hd in
    record { count = refl; bytes = cc }
places_spelled (suc (suc (suc (suc zero)))) a b c d h ha hb hc hd = record { count = refl; bytes = refl }
places_spelled (suc (suc (suc (suc (suc n))))) a b c d h ha hb hc hd = absurd (omega (arith, leb-true _ _ h))

-- the two bytes of a target
target_spelled : (s t : ℕ) → leb s 2 ≡ true → cond (eqb s 0) true (eqb t 0) ≡ true
    → target_bytes (cond (eqb s 0) (Node t) (cond (eqb s 1) Done Dropped)) ≡ s ∷ t ∷ []
target_spelled zero t h e = refl
target_spelled (suc zero) t h e = let p = eqb-true t 0 e in cc
target_spelled (suc (suc zero)) t h e = let p = eqb-true t 0 e in cc
target_spelled (suc (suc (suc s))) t h e = absurd (omega (arith, leb-true _ _ h))

-- the ten bytes from o on
abbrev ten : List ℕ → ℕ → List ℕ
ten r o =
    at r o ∷ at r (o + 1) ∷ at r (o + 2) ∷ at r (o + 3) ∷ at r (o + 4) ∷ at r (o + 5) ∷ at r (o + 6) ∷ at r (o + 7) ∷ at r (o + 8) ∷ at r (o + 9) ∷ []

module _ (r : List ℕ) (byte : (i : ℕ) → at r i < 256) where
  four_spelled : (o : ℕ) → four (at4 r o) ≡ at r o ∷ at r (o + 1) ∷ at r (o + 2) ∷ at r (o + 3) ∷ []
  four_spelled o = four_digits (at r o) (at r (o + 1)) (at r (o + 2)) (at r (o + 3)) (byte (o + 1)) (byte (o + 2)) (byte (o + 3))

  two_spelled : (o : ℕ) → two (at2 r o) ≡ at r o ∷ at r (o + 1) ∷ []
  two_spelled o = two_digits (at r o) (at r (o + 1)) (byte (o + 1))

  module _ (o : ℕ) (row : (j : ℕ) → j < 10 → row_right r o j ≡ true) where
    end_spelled : target_bytes (target_in r o) ≡ at r (o + 8) ∷ at r (o + 9) ∷ []
    end_spelled = target_spelled (at r (o + 8)) (at r (o + 9)) (row 8 (omega arith)) (row 9 (omega arith))

    ternary_spelled : ternary_bytes (ternary_in r o) ≡ ten r o
    ternary_spelled =
        let a : o + 4 + 1 ≡ o + 5 = omega arith in
        let b : o + 4 + 2 ≡ o + 6 = omega arith in
        let c : o + 4 + 3 ≡ o + 7 = omega arith in
        let m : four (at4 r (o + 4)) ≡ at r (o + 4) ∷ at r (o + 5) ∷ at r (o + 6) ∷ at r (o + 7) ∷ [] = cc (four_spelled (o + 4)) in
        ap₂ (λ x y. x ++ y) (four_spelled o) (ap₂ (λ x y. x ++ y) m end_spelled)

    range_spelled : eqb (at r 13) 0 ≡ false → range_bytes (range_in r o) ≡ ten r o
    range_spelled s =
        let a : o + 2 + 1 ≡ o + 3 = omega arith in
        let c4 = eqb-true (at r (o + 4)) 0 (sym (cond-false _ _ _ s) ∙ row 4 (omega arith)) in
        let c5 = eqb-true (at r (o + 5)) 0 (sym (cond-false _ _ _ s) ∙ row 5 (omega arith)) in
        let c6 = eqb-true (at r (o + 6)) 0 (sym (cond-false _ _ _ s) ∙ row 6 (omega arith)) in
        let c7 = eqb-true (at r (o + 7)) 0 (sym (cond-false _ _ _ s) ∙ row 7 (omega arith)) in
        let m : two (at2 r (o + 2)) ≡ at r (o + 2) ∷ at r (o + 3) ∷ [] = cc (two_spelled (o + 2)) in
        let z : ◌≡◌ {A = List ℕ} (0 ∷ 0 ∷ 0 ∷ 0 ∷ target_bytes (target_in r o)) (at r (o + 4) ∷ at r (o + 5) ∷ at r (o + 6) ∷ at r (o + 7) ∷ at r (o + 8) ∷ at r (o + 9) ∷ []) =
        cc end_spelled in
        ap₂ (λ x y. x ++ y) (two_spelled o) (ap₂ (λ x y. x ++ y) m z)

-- some bytes from a place on, then the rest
pub peel : (r : List ℕ) (o n a : ℕ) → o + (a + n) ≤ length r → drop (o + a) r ≡ map (λ j. at r (o + j)) (range_with_len a n) ++ drop (o + (a + n)) r
peel r o zero a h = ap (λ x. drop x r) (omega arith)
peel r o (suc n) a h =
    drop_more r (o + a) 0 (omega arith)
    ∙ ap (λ x. at r (o + a) ∷ x)
    (ap (λ x. drop x r) (omega arith) ∙ peel r o n (a + 1) (omega arith)
    ∙ ap (λ x. map (λ j. at r (o + j)) (range_with_len (a + 1) n) ++ drop x r) (omega arith))

ten_off : (r : List ℕ) (o : ℕ) → o + 10 ≤ length r → ten r o ++ drop (o + 10) r ≡ drop o r
ten_off r o h =
    sym (ap (λ x. drop x r) (sym (add-zero o)) ∙ peel r o 10 0 h ∙ ap (λ x. at r x ∷ (map (λ j. at r (o + j)) (range_with_len 1 9) ++ drop (o + 10) r)) (add-zero o))

rows_off : {X : Type 0} (bytes : X → List ℕ) (row : ℕ → X) (r : List ℕ) (n a : ℕ)
    → ((k : ℕ) → k < a + n → bytes (row (16 + 10 * k)) ≡ ten r (16 + 10 * k)) → length r ≡ 16 + 10 * (a + n)
    → flat_map bytes (map (λ k. row (16 + 10 * k)) (range_with_len a n)) ≡ drop (16 + 10 * a) r
rows_off bytes row r zero a each e = sym (drop_all (16 + 10 * a) r (omega arith))
rows_off bytes row r (suc n) a each e =
    let next : 16 + 10 * (a + 1) ≡ 16 + 10 * a + 10 = omega arith in
    ap₂ (λ x y. x ++ y) (each a (omega arith))
    (rows_off bytes row r n (a + 1) (λ k h. each k (omega arith)) (omega arith) ∙ ap (λ x. drop x r) next)
    ∙ ten_off r (16 + 10 * a) (omega arith)

sort_one : (n s : ℕ) → cond (ltb n 2) (eqb s 0) (leb s 1) ≡ true → eqb s 0 ≡ false → 1 ≡ s
sort_one n s h e = grind (arith, nat_tests)

module _ (r : List ℕ) (byte : (i : ℕ) → at r i < 256) (w : Whole r) where
  head : (j : ℕ) → j < 16 → right r j ≡ true
  head j h = w.each j (omega (arith, w.counted))

  range_sort : eqb (at r 13) 0 ≡ false → 1 ≡ at r 13
  unfolding right
  range_sort s = sort_one (at r 8) (at r 13) (head 13 (omega arith)) s

  tail_spelled : sort_byte (rows_in r) ∷ row_count (rows_in r) ∷ 0 ∷ row_bytes (rows_in r) ≡ at r 13 ∷ at r 14 ∷ at r 15 ∷ drop 16 r
  unfolding right
  tail_spelled =
      let z : 0 ≡ at r 15 = sym (eqb-true _ _ (head 15 (omega arith))) in
      cond_both (eqb (at r 13) 0) _ _ (λ v. sort_byte v ∷ row_count v ∷ 0 ∷ row_bytes v ≡ at r 13 ∷ at r 14 ∷ at r 15 ∷ drop 16 r)
      (λ s.
      let a = eqb-true _ _ s in
      let n = length-map-range_with_len (λ k. ternary_in r (16 + 10 * k)) 0 (at r 14) in
      let rows = rows_off ternary_bytes (ternary_in r) r (at r 14) 0 (λ k h. ternary_spelled r byte (16 + 10 * k) (row_bytes_right r w k (omega arith))) (omega (arith, w.counted)) in
      cc)
      (λ s.
      let a = range_sort s in
      let n = length-map-range_with_len (λ k. range_in r (16 + 10 * k)) 0 (at r 14) in
      let rows = rows_off range_bytes (range_in r) r (at r 14) 0 (λ k h. range_spelled r byte (16 + 10 * k) (row_bytes_right r w k (omega arith)) s) (omega (arith, w.counted)) in
      cc)

  pub spelled : record_of (node_in r) ≡ r
  unfolding right node_in
  spelled =
      let p = places_spelled (at r 8) (at r 9) (at r 10) (at r 11) (at r 12) (head 8 (omega arith)) (head 9 (omega arith)) (head 10 (omega arith)) (head 11 (omega arith)) (head 12 (omega arith)) in
      ap₂ (λ x y. x ∷ y) (number_back (at r 0) (leb-true _ _ (head 0 (omega arith))))
      (ap₂ (λ x y. x ++ y)
      (length_spelled (at r 1) (at r 2) (at r 3) (at r 4) (at r 5) (at r 6) (at r 7) (head 1 (omega arith)) (head 3 (omega arith)) (head 4 (omega arith)) (head 5 (omega arith)) (head 6 (omega arith)) (head 7 (omega arith)))
      (ap₂ (λ x y. x ∷ y) p.count (ap₂ (λ x y. x ++ y) p.bytes tail_spelled)))
      ∙ sym (peel r 0 16 0 (omega (arith, w.counted)))
