-- Laws of the words: what `agrees` says, and what putting one bit into each word does to the rows.
use Rattle.std.specs.Prelude.{◌≡◌, ℕ, zero, suc, ◌+◌, ◌-◌, ◌*◌, ◌/◌, ◌%◌, ◌^◌, ◌<◌, ◌≤◌, Bool, true, false, cond, not, ◌&&◌, ◌||◌, ◌⊎◌, List, [], ◌∷◌, ◌++◌, map, length, ◌==◌, ◌≢◌, nat_eq, nat_lt, slice_index}
use Rattle.std.proofs.Math.Path.{refl, sym, ap, ap₂}
use Rattle.std.proofs.Common.{◌∙◌, inl, inr, mod-lt, div-one, zero-lt-suc, add-one, lit<, shr-shr}
use Rattle.std.proofs.Math.Bool.{or-false, and-true, or-true, and-false, and_assoc}
use native.Mathlib.Omega.{arith}
use Rattle.std.specs.Int.Bits.{bit_and, and_le_r}
use Rattle.std.specs.List.{range_with_len}
use Rattle.std.proofs.lemmas.Nat.{pow_below, div-mul-add, mod-mul-add, and_shr, and_mod, and_mask}
use Rattle.std.proofs.lemmas.List.FromFn.{map-range_with_len_more, length-map-range_with_len}
use Rattle.std.proofs.lemmas.Bool.{eq-eqb, ne_eqb, cond-true, cond-false, cases_eq, lt-ltb, le-ltb}
use Rattle.stores.specs.declared.question.Question.{Question}
use Rattle.stores.specs.declared.question.Row.{Row}
use Rattle.slices.specs.Bit.{bit}
use Rattle.stores.specs.Fits.{fits}
use Rattle.slices.specs.Words.{half_of, accepts, with_bit, named, agrees, row_at, rows_of}
use Rattle.slices.specs.BitLaws.{bit_of_and, bit_of_or, bit_of_not, bit_one, bit_ones}

-- ---- one bit put

pub bit_with_same : (w r : ℕ) (b : Bool) → r < 64 → bit r (with_bit w r b) ≡ b
bit_with_same w r true h = bit_of_or r w (2 ^ r) ∙ ap (λ b. bit r w || b) (bit_one r r ∙ eq-eqb r r refl) ∙ or-true (bit r w)
bit_with_same w r false h =
    bit_of_and r w ((2 ^ 64 - 1) - 2 ^ r)
    ∙ ap (λ b. bit r w && b) (bit_of_not 64 r (2 ^ r) h (pow_below r 64 h) ∙ ap not (bit_one r r ∙ eq-eqb r r refl))
    ∙ and-false (bit r w)

pub bit_with_other : (w r : ℕ) (b : Bool) (j : ℕ) → r < 64 → j < 64 → (j ≢ r) → bit j (with_bit w r b) ≡ bit j w
bit_with_other w r true j h hj ne = bit_of_or j w (2 ^ r) ∙ ap (λ b. bit j w || b) (bit_one j r ∙ ne_eqb j r ne) ∙ or-false (bit j w)
bit_with_other w r false j h hj ne =
    bit_of_and j w ((2 ^ 64 - 1) - 2 ^ r)
    ∙ ap (λ b. bit j w && b) (bit_of_not 64 j (2 ^ r) hj (pow_below r 64 h) ∙ ap not (bit_one j r ∙ ne_eqb j r ne))
    ∙ and-true (bit j w)

-- ---- places

pub half_below : (s k p : ℕ) → half_of s k p < 16
half_below s k p =
    elim (nat_lt p 2) as (λ b. cond b (s / 2 ^ (4 * (1 - p)) % 16) (k / 2 ^ (4 * (17 - p)) % 16) < 16)
    [ true ↦ mod-lt (s / 2 ^ (4 * (1 - p))) (zero-lt-suc 15) | false ↦ mod-lt (k / 2 ^ (4 * (17 - p))) (zero-lt-suc 15) ]

pub half_state : (s k p : ℕ) → p < 2 → half_of s k p ≡ s / 2 ^ (4 * (1 - p)) % 16
half_state s k p h = cond-true (nat_lt p 2) _ _ (lt-ltb p 2 h)

pub half_key : (s k p : ℕ) → 2 ≤ p → half_of s k p ≡ k / 2 ^ (4 * (17 - p)) % 16
half_key s k p h = cond-false (nat_lt p 2) _ _ (le-ltb p 2 h)

-- ---- a number is its half bytes

both_eqb : (x y a b c d : ℕ) → (x ≡ y → (a ≡ b) × (c ≡ d)) → (a ≡ b → c ≡ d → x ≡ y) → (a == b && c == d) ≡ (x == y)
both_eqb x y a b c d to from = go (cases_eq a b) (cases_eq c d)
  where
    go : (a ≡ b) ⊎ (a ≢ b) → (c ≡ d) ⊎ (c ≢ d) → (a == b && c == d) ≡ (x == y)
    go (inl e) (inl f) = ap₂ ◌&&◌ (eq-eqb a b e) (eq-eqb c d f) ∙ sym (eq-eqb x y (from e f))
    go (inl e) (inr n) = ap₂ ◌&&◌ (eq-eqb a b e) (ne_eqb c d n) ∙ sym (ne_eqb x y (λ q. n (to q).1))
    go (inr n) f = ap (λ t. t && c == d) (ne_eqb a b n) ∙ sym (ne_eqb x y (λ q. n (to q).0))

-- one more half byte
pub eqb_half : (x y : ℕ) → (x / 16 == y / 16 && x % 16 == y % 16) ≡ (x == y)
eqb_half x y =
    both_eqb x y (x / 16) (y / 16) (x % 16) (y % 16)
    (λ e. (ap (λ n. n / 16) e, ap (λ n. n % 16) e)) (λ e f. omega arith)

-- the masked half byte is the half byte of the masked number
pub and_half_byte : (a b m : ℕ) → bit_and (a / 2 ^ m % 16) (b / 2 ^ m % 16) ≡ bit_and a b / 2 ^ m % 16
and_half_byte a b m = sym (and_mod (a / 2 ^ m) (b / 2 ^ m) 4) ∙ ap (λ n. n % 16) (sym (and_shr a b m))

-- ---- a row and a question, place by place

-- the first n places of the half bytes h are accepted by the row
unfoldable pub accepts_all : Row → (ℕ → ℕ) → ℕ → Bool
accepts_all r h zero = true
accepts_all r h (suc p) = accepts_all r h p && accepts r p (h p)

module _ (r : Row) (q : Question) (vb : r.value < 2 ^ 64) (mb : r.mask < 2 ^ 64) where
  state_whole : q.state.number % 256 ≡ q.state.number
  state_whole = let l = q.state.below in omega arith

  accepts_state : (p : ℕ) → p < 2 → accepts r p (half_of q.state.number q.key p) ≡ (q.state.number / 2 ^ (4 * (1 - p)) % 16 == r.state.number / 2 ^ (4 * (1 - p)) % 16)
  accepts_state p h =
      let m : bit_and q.state.number 255 ≡ q.state.number = and_mask q.state.number 8 ∙ state_whole in
      ap₂ nat_eq
      (ap₂ bit_and (half_state q.state.number q.key p h) (half_state 255 r.mask p h)
      ∙ and_half_byte q.state.number 255 (4 * (1 - p)) ∙ ap (λ n. n / 2 ^ (4 * (1 - p)) % 16) m)
      (half_state r.state.number r.value p h)

  accepts_key : (p : ℕ) → 2 ≤ p
      → accepts r p (half_of q.state.number q.key p) ≡ (bit_and q.key r.mask / 2 ^ (4 * (17 - p)) % 16 == r.value / 2 ^ (4 * (17 - p)) % 16)
  accepts_key p h =
      ap₂ nat_eq
      (ap₂ bit_and (half_key q.state.number q.key p h) (half_key 255 r.mask p h) ∙ and_half_byte q.key r.mask (4 * (17 - p)))
      (half_key r.state.number r.value p h)

  state_all : accepts_all r (half_of q.state.number q.key) 2 ≡ (q.state.number == r.state.number)
  unfolding accepts_all
  state_all =
      let l : q.state.number < 64 = q.state.below in
      let m : r.state.number < 64 = r.state.below in
      ap₂ ◌&&◌ (accepts_state 0 (lit< tt)) (accepts_state 1 (lit< tt))
      ∙ both_eqb q.state.number r.state.number (q.state.number / 16 % 16) (r.state.number / 16 % 16) (q.state.number / 1 % 16) (r.state.number / 1 % 16)
      (λ e. (ap (λ n. n / 16 % 16) e, ap (λ n. n / 1 % 16) e)) (λ e f. omega arith)

  key_more : (j : ℕ) → j ≤ 16
      → accepts_all r (half_of q.state.number q.key) (suc (suc j))
      ≡ (q.state.number == r.state.number && bit_and q.key r.mask / 2 ^ (4 * (16 - j)) == r.value / 2 ^ (4 * (16 - j)))
  unfolding accepts_all
  key_more zero h =
      let a : bit_and q.key r.mask ≤ r.mask = and_le_r q.key r.mask in
      state_all
      ∙ sym (ap (λ t. (q.state.number == r.state.number) && t) (eq-eqb (bit_and q.key r.mask / 2 ^ 64) (r.value / 2 ^ 64) (omega arith))
      ∙ and-true (q.state.number == r.state.number))
  key_more (suc j) h =
      let e : 17 - suc (suc j) ≡ 16 - suc j = omega arith in
      let f : 4 * (16 - j) ≡ 4 * (16 - suc j) + 4 = omega arith in
      let cut : (x : ℕ) → x / 2 ^ (4 * (16 - j)) ≡ x / 2 ^ (4 * (16 - suc j)) / 16
      = λ x. ap (λ k. x / 2 ^ k) f ∙ sym (shr-shr x (4 * (16 - suc j)) 4) in
      let x : ℕ = bit_and q.key r.mask in
      ap₂ ◌&&◌ (key_more j (omega arith))
      (accepts_key (suc (suc j)) (omega arith) ∙ ap (λ k. nat_eq (bit_and q.key r.mask / 2 ^ (4 * k) % 16) (r.value / 2 ^ (4 * k) % 16)) e)
      ∙ and_assoc (q.state.number == r.state.number) _ _
      ∙ ap (λ t. (q.state.number == r.state.number) && t)
      (ap (λ t. t && x / 2 ^ (4 * (16 - suc j)) % 16 == r.value / 2 ^ (4 * (16 - suc j)) % 16) (ap₂ nat_eq (cut x) (cut r.value))
      ∙ eqb_half (x / 2 ^ (4 * (16 - suc j))) (r.value / 2 ^ (4 * (16 - suc j))))

  -- a row accepts all places of a question exactly if it fits it
  pub accepts_fits : accepts_all r (half_of q.state.number q.key) 18 ≡ fits r q
  accepts_fits =
      key_more 16 (omega arith)
      ∙ ap (λ t. (q.state.number == r.state.number) && t) (ap₂ nat_eq (div-one (bit_and q.key r.mask)) (div-one r.value))

-- ---- words that differ in one bit

module _ (ws vs : List ℕ) (h : ℕ → ℕ) (hb : (p : ℕ) → h p < 16) where
  -- a row whose bits are the same in both agrees with the same questions
  pub agrees_kept : (r : ℕ) → ((k : ℕ) → k < 288 → bit r (slice_index vs k) ≡ bit r (slice_index ws k)) → (n : ℕ) → n ≤ 18 → agrees vs r h n ≡ agrees ws r h n
  unfolding agrees
  agrees_kept r e zero l = refl
  agrees_kept r e (suc p) l =
      let b = hb p in
      ap₂ ◌&&◌ (agrees_kept r e p (omega arith)) (e (p * 16 + h p) (omega arith))

  -- a row whose bits are what a row accepts agrees with what that accepts
  pub agrees_accepts : (r : ℕ) (row : Row) → ((k : ℕ) → k < 288 → bit r (slice_index vs k) ≡ accepts row (k / 16) (k % 16)) → (n : ℕ) → n ≤ 18
      → agrees vs r h n ≡ accepts_all row h n
  unfolding agrees accepts_all
  agrees_accepts r row e zero l = refl
  agrees_accepts r row e (suc p) l =
      let b = hb p in
      ap₂ ◌&&◌ (agrees_accepts r row e p (omega arith))
      (e (p * 16 + h p) (omega arith) ∙ ap₂ (accepts row) (div-mul-add p 16 (h p) b) (mod-mul-add p 16 (h p) b))

map_same : (f g : ℕ → Question → Bool) (a n : ℕ) → ((k : ℕ) → a ≤ k → k < a + n → f k ≡ g k) → map f (range_with_len a n) ≡ map g (range_with_len a n)
map_same f g a zero h = refl
map_same f g a (suc n) h = ap₂ ◌∷◌ (h a (omega arith) (omega arith)) (map_same f g (a + 1) n (λ k l u. h k (omega arith) (omega arith)))

-- the words after a row's bits were put at `held` mean the rows before and that row behind them
pub rows_more : (ws vs : List ℕ) (held : ℕ) (row : Row) → row.value < 2 ^ 64 → row.mask < 2 ^ 64
    → ((k r : ℕ) → k < 288 → r < held → bit r (slice_index vs k) ≡ bit r (slice_index ws k))
    → ((k : ℕ) → k < 288 → bit held (slice_index vs k) ≡ accepts row (k / 16) (k % 16))
    → rows_of vs (held + 1) ≡ rows_of ws held ++ fits row ∷ []
unfolding row_at
rows_more ws vs held row vb mb kept put =
    map-range_with_len_more (row_at vs) 0 held held (omega arith)
    ∙ ap₂ (λ x y. x ++ y ∷ [])
    (map_same (row_at vs) (row_at ws) 0 held
    (λ r l u i q. agrees_kept ws vs (half_of q.state.number q.key) (half_below q.state.number q.key) r (λ k b. kept k r b (omega arith)) 18 (omega arith) i))
    (λ i q. (agrees_accepts ws vs (half_of q.state.number q.key) (half_below q.state.number q.key) held row put 18 (omega arith) ∙ accepts_fits row q vb mb) i)

-- the bits of the named words together are the rows' answers
pub bit_named : (ws : List ℕ) (h : ℕ → ℕ) (r n : ℕ) → r < 64 → bit r (named ws h n) ≡ agrees ws r h n
unfolding named agrees
bit_named ws h r zero l = bit_ones 64 r l
bit_named ws h r (suc p) l =
    bit_of_and r (named ws h p) (slice_index ws (p * 16 + h p)) ∙ ap (λ b. b && bit r (slice_index ws (p * 16 + h p))) (bit_named ws h r p l)

-- the same from what each word has become
pub rows_put : (ws vs : List ℕ) (held : ℕ) (row : Row) → held < 64 → row.value < 2 ^ 64 → row.mask < 2 ^ 64
    → ((k : ℕ) → k < 288 → slice_index vs k ≡ with_bit (slice_index ws k) held (accepts row (k / 16) (k % 16)))
    → rows_of vs (held + 1) ≡ rows_of ws held ++ fits row ∷ []
rows_put ws vs held row h vb mb e =
    rows_more ws vs held row vb mb
    (λ k r b l. ap (bit r) (e k b) ∙ bit_with_other (slice_index ws k) held (accepts row (k / 16) (k % 16)) r h (omega arith) (λ q. omega arith))
    (λ k b. ap (bit held) (e k b) ∙ bit_with_same (slice_index ws k) held (accepts row (k / 16) (k % 16)) h)

pub named_more : (ws : List ℕ) (h : ℕ → ℕ) (n : ℕ) → named ws h (n + 1) ≡ bit_and (named ws h n) (slice_index ws (n * 16 + h n))
unfolding named
named_more ws h n = ap (named ws h) (add-one n)

pub rows_length : (ws : List ℕ) (held : ℕ) → length (rows_of ws held) ≡ held
rows_length ws held = length-map-range_with_len (row_at ws) 0 held
