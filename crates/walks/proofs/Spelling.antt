-- Patterns and keys byte by byte, and as the numbers that they spell.
use Rattle.std.proofs.Common.{◌≡◌, ℕ, zero, suc, ◌+◌, ◌*◌, ◌/◌, ◌%◌, ◌^◌, ◌<◌, ◌≤◌, Bool, true, ◌&&◌, eqb, List, [], ◌∷◌, ◌++◌, map, length, sym, refl, ap, ◌∙◌, ap₂, ⊎_elim, mod-lt, arith, lit<, pow_pos}
use mathlib.Core.Bool.{and_assoc}
use lib.Bits.{bit_and, and_block, and_lt, and_zero_r}
use Rattle.std.specs.List.{AllByRecursion}
use Rattle.std.proofs.lemmas.Nat.{pow-add, shr_split, mul-add-lt, div-mul-add, mod-mul-add, shr_below}
use Rattle.std.proofs.lemmas.List.{length-map}
use Rattle.std.proofs.lemmas.Bool.{eq-eqb, ne_eqb, cases_eq}
use Rattle.walks.specs.Bytes.{filled, spelled, spelled_in}
use Rattle.walks.specs.Rows.{Cell, free, cells_of}

-- each number is a byte
abbrev pub Bytes : List ℕ → Type 0
Bytes xs = AllByRecursion (λ x. x < 256) xs

abbrev pub values : List Cell → List ℕ
values cs = map (λ c. c.value) cs

abbrev pub masks : List Cell → List ℕ
masks cs = map (λ c. c.mask) cs

-- values and masks are bytes
pub record Small (cs : List Cell) : Type 0 where
  pub value : Bytes (values cs)
  pub mask : Bytes (masks cs)

-- a key fits a pattern, byte by byte; bytes of the key behind the pattern are free
abbrev pub fits_cells : List Cell → List ℕ → Bool
fits_cells [] ks = true
fits_cells (c ∷ cs) [] = eqb 0 c.value && fits_cells cs []
fits_cells (c ∷ cs) (k ∷ ks) = eqb (bit_and k c.mask) c.value && fits_cells cs ks

-- Numbers

eight_more : (n : ℕ) → 2 ^ (8 * suc n) ≡ 2 ^ (8 * n) * 256
eight_more n = let e : 8 * suc n ≡ 8 * n + 8 = omega arith in ap (λ k. 2 ^ k) e ∙ pow-add 2 (8 * n) 8

pub spelled_lt : (bs : List ℕ) → Bytes bs → spelled bs < 2 ^ (8 * length bs)
spelled_lt [] h = lit< tt
spelled_lt (b ∷ bs) h =
    let e = eight_more (length bs) in
    omega (arith, mul-add-lt b (2 ^ (8 * length bs)) (spelled bs) 256 h.0 (spelled_lt bs h.1))

-- two numbers are equal if both parts are
eqb_parts : (b x r v s : ℕ) → r < b → s < b → eqb (x * b + r) (v * b + s) ≡ (eqb x v && eqb r s)
eqb_parts b x r v s hr hs =
    ⊎_elim
    (λ (e : x ≡ v). ⊎_elim
    (λ (d : r ≡ s). eq-eqb _ _ (ap₂ (λ y z. y * b + z) e d) ∙ sym (ap₂ ◌&&◌ (eq-eqb x v e) (eq-eqb r s d)))
    (λ (d : r ≡ s → ⊥). ne_eqb _ _ (λ q. d (sym (mod-mul-add x b r hr) ∙ ap (λ y. y % b) q ∙ mod-mul-add v b s hs)) ∙ sym (ap₂ ◌&&◌ (eq-eqb x v e) (ne_eqb r s d)))
    (cases_eq r s))
    (λ (e : x ≡ v → ⊥). ne_eqb _ _ (λ q. e (sym (div-mul-add x b r hr) ∙ ap (λ y. y / b) q ∙ div-mul-add v b s hs)) ∙ sym (ap (λ y. y && eqb r s) (ne_eqb x v e)))
    (cases_eq x v)

-- a key's bits under the mask are the value exactly if each byte's are
pub fits_spelled : (cs : List Cell) (ks : List ℕ) → length cs ≡ length ks → Bytes ks → Small cs
    → eqb (bit_and (spelled ks) (spelled (masks cs))) (spelled (values cs)) ≡ fits_cells cs ks
fits_spelled [] [] e hk hs = refl
fits_spelled [] (k ∷ ks) e hk hs = absurd (omega arith)
fits_spelled (c ∷ cs) [] e hk hs = absurd (omega arith)
fits_spelled (c ∷ cs) (k ∷ ks) e hk hs =
    let n = 8 * length ks in
    let b = 2 ^ n in
    let m = spelled (masks cs) in
    let v = spelled (values cs) in
    let em : length (masks cs) ≡ length ks = length-map cs (λ c. c.mask) ∙ (let f : length cs ≡ length ks = omega arith in f) in
    let ev : length (values cs) ≡ length ks = length-map cs (λ c. c.value) ∙ (let f : length cs ≡ length ks = omega arith in f) in
    let lm : m < b = rw em at (spelled_lt (masks cs) hs.mask.1) in
    let lv : v < b = rw ev at (spelled_lt (values cs) hs.value.1) in
    let lk : spelled ks < b = spelled_lt ks hk.1 in
    ap₂ (λ x y. eqb (bit_and (k * b + spelled ks) (c.mask * 2 ^ (8 * x) + m)) (c.value * 2 ^ (8 * y) + v)) em ev
    ∙ ap (λ x. eqb x (c.value * b + v)) (and_block n k c.mask (spelled ks) m lk lm)
    ∙ eqb_parts b (bit_and k c.mask) (bit_and (spelled ks) m) c.value v (and_lt n (spelled ks) m lk lm) lv
    ∙ ap (λ x. eqb (bit_and k c.mask) c.value && x) (fits_spelled cs ks (omega arith) hk.1 (record { value = hs.value.1; mask = hs.mask.1 }))

-- the n bytes of a number, the topmost first
pub bytes_of : ℕ → ℕ → List ℕ
bytes_of zero k = []
bytes_of (suc n) k = k / 2 ^ (8 * n) ∷ bytes_of n (k % 2 ^ (8 * n))

length_bytes_lem : (n k : ℕ) → length (bytes_of n k) ≡ n
unfolding bytes_of
length_bytes_lem zero k = refl
length_bytes_lem (suc n) k = ap suc (length_bytes_lem n (k % 2 ^ (8 * n)))

bytes_small : (n k : ℕ) → k < 2 ^ (8 * n) → Bytes (bytes_of n k)
unfolding bytes_of
bytes_small zero k h = tt
bytes_small (suc n) k h =
    let e : 8 * suc n ≡ 8 + 8 * n = omega arith in
    (shr_below k 8 (8 * n) (rw e at h), bytes_small n (k % 2 ^ (8 * n)) (mod-lt k (pow_pos (8 * n))))

bytes_spell : (n k : ℕ) → k < 2 ^ (8 * n) → spelled (bytes_of n k) ≡ k
unfolding bytes_of
bytes_spell zero k h = omega arith
bytes_spell (suc n) k h =
    ap₂ (λ x y. k / 2 ^ (8 * n) * 2 ^ (8 * x) + y) (length_bytes_lem n (k % 2 ^ (8 * n))) (bytes_spell n (k % 2 ^ (8 * n)) (mod-lt k (pow_pos (8 * n))))
    ∙ shr_split k (8 * n)

-- the cells of a value and a mask are their bytes
cells_values : (n v m : ℕ) → values (cells_of n v m) ≡ bytes_of n v
unfolding bytes_of cells_of
cells_values zero v m = refl
cells_values (suc n) v m = ap (λ bs. v / 2 ^ (8 * n) ∷ bs) (cells_values n (v % 2 ^ (8 * n)) (m % 2 ^ (8 * n)))

cells_masks : (n v m : ℕ) → masks (cells_of n v m) ≡ bytes_of n m
unfolding bytes_of cells_of
cells_masks zero v m = refl
cells_masks (suc n) v m = ap (λ bs. m / 2 ^ (8 * n) ∷ bs) (cells_masks n (v % 2 ^ (8 * n)) (m % 2 ^ (8 * n)))

pub length_cells : (n v m : ℕ) → length (cells_of n v m) ≡ n
unfolding cells_of
length_cells zero v m = refl
length_cells (suc n) v m = ap suc (length_cells n (v % 2 ^ (8 * n)) (m % 2 ^ (8 * n)))

pub cells_small : (n v m : ℕ) → v < 2 ^ (8 * n) → m < 2 ^ (8 * n) → Small (cells_of n v m)
cells_small n v m hv hm = record { value = rw (cells_values n v m) (bytes_small n v hv); mask = rw (cells_masks n v m) (bytes_small n m hm) }

-- a key of n bytes fits the cells as its number fits value and mask
pub cells_fit : (n v m : ℕ) (ks : List ℕ) → v < 2 ^ (8 * n) → m < 2 ^ (8 * n) → length ks ≡ n → Bytes ks
    → eqb (bit_and (spelled ks) m) v ≡ fits_cells (cells_of n v m) ks
cells_fit n v m ks hv hm e hk =
    sym (ap₂ (λ x y. eqb (bit_and (spelled ks) x) y) (ap spelled (cells_masks n v m) ∙ bytes_spell n m hm) (ap spelled (cells_values n v m) ∙ bytes_spell n v hv))
    ∙ fits_spelled (cells_of n v m) ks (length_cells n v m ∙ sym e) hk (cells_small n v m hv hm)

-- cells that are bytes are those of the numbers that they spell
pub cells_back : (cs : List Cell) → Small cs → cells_of (length cs) (spelled (values cs)) (spelled (masks cs)) ≡ cs
unfolding cells_of
cells_back [] h = refl
cells_back (c ∷ cs) h =
    let n = length cs in
    let B = 2 ^ (8 * n) in
    let v = spelled (values cs) in
    let m = spelled (masks cs) in
    let ev : length (values cs) ≡ n = length-map cs (λ c. c.value) in
    let em : length (masks cs) ≡ n = length-map cs (λ c. c.mask) in
    let lv : v < B = rw ev at (spelled_lt (values cs) h.value.1) in
    let lm : m < B = rw em at (spelled_lt (masks cs) h.mask.1) in
    ap₂ (λ x y. cells_of (suc n) (c.value * 2 ^ (8 * x) + v) (c.mask * 2 ^ (8 * y) + m)) ev em
    ∙ ap₂ (λ x y. record { value = x; mask = y } ∷ cells_of n ((c.value * B + v) % B) ((c.mask * B + m) % B)) (div-mul-add c.value B v lv) (div-mul-add c.mask B m lm)
    ∙ ap₂ (λ x y. c ∷ cells_of n x y) (mod-mul-add c.value B v lv) (mod-mul-add c.mask B m lm)
    ∙ ap (λ ds. c ∷ ds) (cells_back cs (record { value = h.value.1; mask = h.mask.1 }))

-- Filling up

pub length_filled : {X : Type 0} (z : X) (n : ℕ) (xs : List X) → length (filled z n xs) ≡ n
length_filled z zero xs = refl
length_filled z (suc n) [] = ap suc (length_filled z n [])
length_filled z (suc n) (x ∷ xs) = ap suc (length_filled z n xs)

pub filled_whole : {X : Type 0} (z : X) (n : ℕ) (xs : List X) → length xs ≡ n → filled z n xs ≡ xs
filled_whole z zero [] e = refl
filled_whole z zero (x ∷ xs) e = absurd (omega arith)
filled_whole z (suc n) [] e = absurd (omega arith)
filled_whole z (suc n) (x ∷ xs) e = ap (λ l. x ∷ l) (filled_whole z n xs (omega arith))

map_filled : {X Y : Type 0} (f : X → Y) (z : X) (n : ℕ) (xs : List X) → map f (filled z n xs) ≡ filled (f z) n (map f xs)
map_filled f z zero xs = refl
map_filled f z (suc n) [] = ap (λ l. f z ∷ l) (map_filled f z n [])
map_filled f z (suc n) (x ∷ xs) = ap (λ l. f x ∷ l) (map_filled f z n xs)

pub bytes_filled : (n : ℕ) (xs : List ℕ) → Bytes xs → Bytes (filled 0 n xs)
bytes_filled zero xs h = tt
bytes_filled (suc n) [] h = (lit< tt, bytes_filled n [] tt)
bytes_filled (suc n) (x ∷ xs) h = (h.0, bytes_filled n xs h.1)

pub small_filled : (n : ℕ) (cs : List Cell) → Small cs → Small (filled free n cs)
small_filled n cs h = record {
  value = rw (map_filled (λ c. c.value) free n cs) (bytes_filled n (values cs) h.value);
  mask = rw (map_filled (λ c. c.mask) free n cs) (bytes_filled n (masks cs) h.mask);
}

free_fits : (n : ℕ) (ks : List ℕ) → fits_cells (filled free n []) ks ≡ true
free_fits zero ks = refl
free_fits (suc n) [] = free_fits n []
free_fits (suc n) (k ∷ ks) = rw (and_zero_r k) (free_fits n ks)

-- filled up to n bytes, a pattern fits as before
pub filled_fits : (n : ℕ) (cs : List Cell) (ks : List ℕ) → length cs ≤ length ks → length ks ≤ n → fits_cells (filled free n cs) (filled 0 n ks) ≡ fits_cells cs ks
filled_fits zero [] ks h l = refl
filled_fits zero (c ∷ cs) ks h l = absurd (omega arith)
filled_fits (suc n) [] ks h l = free_fits (suc n) (filled 0 (suc n) ks)
filled_fits (suc n) (c ∷ cs) [] h l = absurd (omega arith)
filled_fits (suc n) (c ∷ cs) (k ∷ ks) h l = ap (λ b. eqb (bit_and k c.mask) c.value && b) (filled_fits n cs ks (omega arith) (omega arith))

-- as numbers of n bytes, with zeros behind, pattern and key fit as they do byte by byte
pub fits_filled : (n : ℕ) (cs : List Cell) (ks : List ℕ) → length cs ≤ length ks → length ks ≤ n → Bytes ks → Small cs
    → eqb (bit_and (spelled_in n ks) (spelled_in n (masks cs))) (spelled_in n (values cs)) ≡ fits_cells cs ks
fits_filled n cs ks h l hk hs =
    sym (ap₂ (λ x y. eqb (bit_and (spelled_in n ks) (spelled x)) (spelled y)) (map_filled (λ c. c.mask) free n cs) (map_filled (λ c. c.value) free n cs))
    ∙ fits_spelled (filled free n cs) (filled 0 n ks) (length_filled free n cs ∙ sym (length_filled 0 n ks)) (bytes_filled n ks hk) (small_filled n cs hs)
    ∙ filled_fits n cs ks h l

-- Patterns joined

-- a joined pattern fits a joined key where both parts fit
pub cells_append : (cs ds : List Cell) (k l : List ℕ) → length cs ≡ length k → fits_cells (cs ++ ds) (k ++ l) ≡ (fits_cells cs k && fits_cells ds l)
cells_append [] ds [] l e = refl
cells_append [] ds (x ∷ k) l e = absurd (omega arith)
cells_append (c ∷ cs) ds [] l e = absurd (omega arith)
cells_append (c ∷ cs) ds (x ∷ k) l e =
    ap (λ b. eqb (bit_and x c.mask) c.value && b) (cells_append cs ds k l (omega arith))
    ∙ sym (and_assoc (eqb (bit_and x c.mask) c.value) (fits_cells cs k) (fits_cells ds l))

-- a pattern alone looks at its own part of the key only
pub cells_front : (cs : List Cell) (k l : List ℕ) → length cs ≤ length k → fits_cells cs (k ++ l) ≡ fits_cells cs k
cells_front [] k l e = refl
cells_front (c ∷ cs) [] l e = absurd (omega arith)
cells_front (c ∷ cs) (x ∷ k) l e = ap (λ b. eqb (bit_and x c.mask) c.value && b) (cells_front cs k l (omega arith))
