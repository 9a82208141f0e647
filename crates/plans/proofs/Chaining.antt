-- The chains of a plan, one after the other.
use Rattle.std.proofs.Common.{◌≡◌, ℕ, zero, suc, ◌+◌, ◌*◌, ◌<◌, ◌≤◌, ◌≢◌, Bool, false, ◌&&◌, eqb, leb, List, [], ◌∷◌, Some, None, Option, Bor, length, get_or, take, drop, set, replicate, sym, refl, ap, ◌∙◌, inl, inr, arith, below_more}
use Rattle.std.specs.List.{list_all}
use Rattle.std.specs.Simd.{first_chunks}
use Rattle.std.proofs.Math.Bool.{and-true}
use Rattle.std.specs.Option.{MatchOption}
use Rattle.std.specs.Slice.{IsGetRangeResult}
use mathlib.Core.Path.{fun_ext}
use Rattle.std.proofs.lemmas.List.{get_or-set_same, get_or-set_other, get_or_past, get_or-take, get_or-drop, drop-drop, take_rest}
use Rattle.std.proofs.lemmas.Bool.{cases_lt, and_left, lt-leb}
use Rattle.plans.specs.declared.chains.Chain.{Chain}
use Rattle.plans.specs.declared.chains.Chains.{Chains}
use Rattle.plans.specs.Chains.{nodes_of, no_chain, chain_itself, chain_of, chain_at, chain_in}
use Rattle.plans.specs.Checking.{chain_right}

-- a chain of no nodes in each place, and none past the end
pub none_anywhere : (m n : ℕ) → get_or (replicate m no_chain) n no_chain ≡ no_chain
none_anywhere zero n = refl
none_anywhere (suc m) zero = refl
none_anywhere (suc m) (suc n) = none_anywhere m n

module _ (bytes : List ℕ) (xs : List Chain) (i : ℕ) (x : Chain) (h : i < length xs) where
  abbrev at_place : List Chain → ℕ → Chain
  at_place cs k = get_or cs k no_chain

  -- one chain more is that of the bytes
  pub chain_more : x ≡ chain_at bytes i → ((k : ℕ) → k < i → at_place xs k ≡ chain_at bytes k) → (k : ℕ) → k < i + 1 → at_place (set xs i x) k ≡ chain_at bytes k
  chain_more e inv =
      below_more (λ k. at_place (set xs i x) k ≡ chain_at bytes k) i
      (λ k l. let ne : k ≢ i = omega arith in get_or-set_other xs i k x _ ne ∙ inv k l)
      (get_or-set_same xs i x _ h ∙ e)

  -- the places behind it stay
  pub chain_less : ((k : ℕ) → i ≤ k → at_place xs k ≡ no_chain) → (k : ℕ) → i + 1 ≤ k → at_place (set xs i x) k ≡ no_chain
  chain_less inv k l = let ne : k ≢ i = omega arith in get_or-set_other xs i k x _ ne ∙ inv k (omega arith)

-- past the last node the bytes say the chain of no nodes
pub none_past : (bytes : List ℕ) (n k : ℕ) → length bytes ≡ 4 * n → n ≤ k → chain_at bytes k ≡ no_chain
none_past bytes n k size l =
    let byte : (i : ℕ) → get_or bytes (4 * k + i) 0 ≡ 0 = λ i. get_or_past bytes (4 * k + i) 0 (omega arith) in
    ap (λ a. record { count = a; nodes = get_or bytes (4 * k + 1) 0 ∷ get_or bytes (4 * k + 2) 0 ∷ get_or bytes (4 * k + 3) 0 ∷ [] }) (get_or_past bytes (4 * k) 0 (omega arith))
    ∙ ap (λ a. record { count = 0; nodes = a ∷ get_or bytes (4 * k + 2) 0 ∷ get_or bytes (4 * k + 3) 0 ∷ [] }) (byte 1)
    ∙ ap (λ a. record { count = 0; nodes = 0 ∷ a ∷ get_or bytes (4 * k + 3) 0 ∷ [] }) (byte 2)
    ∙ ap (λ a. record { count = 0; nodes = 0 ∷ 0 ∷ a ∷ [] }) (byte 3)

pub chain_past : (bytes : List ℕ) (n k : ℕ) → length bytes ≡ 4 * n → n ≤ k → chain_in bytes k ≡ []
chain_past bytes n k size l = ap nodes_of (none_past bytes n k size l)

-- all chains are those of the bytes
pub chains_whole : (bytes : List ℕ) (p : Chains) (n : ℕ) → length bytes ≡ 4 * n → ((k : ℕ) → k < n → chain_itself p k ≡ chain_at bytes k)
    → ((k : ℕ) → n ≤ k → chain_itself p k ≡ no_chain) → (k : ℕ) → chain_itself p k ≡ chain_at bytes k
chains_whole bytes p n size below past k = elim (cases_lt k n) [
  | inl l ↦ below k l
  | inr l ↦ past k l ∙ sym (none_past bytes n k size l)
]

pub chains_same : (bytes : List ℕ) (p : Chains) → ((k : ℕ) → chain_itself p k ≡ chain_at bytes k) → chain_of p ≡ chain_in bytes
chains_same bytes p whole = fun_ext (λ k. ap nodes_of (whole k))

-- a node's four bytes
chunk : (k n : ℕ) (bytes d : List ℕ) → n < k → get_or (first_chunks 4 k bytes) n d ≡ take 4 (drop (4 * n) bytes)
chunk zero n bytes d h = absurd (omega arith)
chunk (suc k) zero bytes d h = refl
chunk (suc k) (suc n) bytes d h =
    let m : 4 + 4 * n ≡ 4 * suc n = omega arith in
    chunk k n (drop 4 bytes) d (omega arith) ∙ ap (take 4) (drop-drop (4 * n) 4 bytes ∙ ap (λ m. drop m bytes) m)

pub chain_said : (bytes : List ℕ) (k n : ℕ) (fours : List (List ℕ)) (d : List ℕ) → fours ≡ first_chunks 4 k bytes → n < k → chain_at (get_or fours n d) 0 ≡ chain_at bytes n
chain_said bytes k n fours d e h =
    let four = get_or fours n d in
    let byte : (i j : ℕ) → i < 4 → 4 * n + i ≡ j → get_or four i 0 ≡ get_or bytes j 0 =
    λ i j l m. ap (λ xs. get_or (get_or xs n d) i 0) e ∙ ap (λ xs. get_or xs i 0) (chunk k n bytes d h)
    ∙ get_or-take 4 (drop (4 * n) bytes) i 0 l ∙ get_or-drop (4 * n) bytes i 0 ∙ ap (λ m. get_or bytes m 0) m in
    ap (λ a. record { count = a; nodes = get_or four 1 0 ∷ get_or four 2 0 ∷ get_or four 3 0 ∷ [] }) (byte 0 (4 * n) (omega arith) (omega arith))
    ∙ ap (λ a. record { count = get_or bytes (4 * n) 0; nodes = a ∷ get_or four 2 0 ∷ get_or four 3 0 ∷ [] }) (byte 1 (4 * n + 1) (omega arith) refl)
    ∙ ap (λ a. record { count = get_or bytes (4 * n) 0; nodes = get_or bytes (4 * n + 1) 0 ∷ a ∷ get_or four 3 0 ∷ [] }) (byte 2 (4 * n + 2) (omega arith) refl)
    ∙ ap (λ a. record { count = get_or bytes (4 * n) 0; nodes = get_or bytes (4 * n + 1) 0 ∷ get_or bytes (4 * n + 2) 0 ∷ a ∷ [] }) (byte 3 (4 * n + 3) (omega arith) refl)

-- the count is in its range, and the bytes behind the nodes that it names are zero
right_by : (n : ℕ) (xs : List ℕ) → length xs ≡ 3 → n ≤ 3 → list_all (λ x. eqb x 0) (drop n xs) ≡ chain_right (record { count = n; nodes = xs })
right_by zero (a ∷ b ∷ c ∷ []) w h = ap (λ e. eqb a 0 && (eqb b 0 && e)) (and-true (eqb c 0))
right_by (suc zero) (a ∷ b ∷ c ∷ []) w h = ap (λ e. eqb b 0 && e) (and-true (eqb c 0))
right_by (suc (suc zero)) (a ∷ b ∷ c ∷ []) w h = and-true (eqb c 0)
right_by (suc (suc (suc zero))) (a ∷ b ∷ c ∷ []) w h = refl
right_by (suc (suc (suc (suc n)))) xs w h = absurd (omega arith)
right_by n [] w h = absurd (omega arith)
right_by n (a ∷ []) w h = absurd (omega arith)
right_by n (a ∷ b ∷ []) w h = absurd (omega arith)
right_by n (a ∷ b ∷ c ∷ d ∷ xs) w h = absurd (omega arith)

pub right_is : (c : Chain) → length c.nodes ≡ 3 → (o : Option (Bor (List ℕ))) (r : Bool) (P : Bor (List ℕ) → Type 0)
    → IsGetRangeResult c.nodes c.count (length c.nodes) o → MatchOption o (r ≡ false) P → ((x : Bor (List ℕ)) → P x → r ≡ list_all (λ n. eqb n 0) x.now) → r ≡ chain_right c
right_is c whole None r P h e is =
    let many : 3 < c.count = elim h.0 [ inl l ↦ omega arith | inr l ↦ absurd (omega arith) ] in
    e ∙ sym (and_left (leb c.count 3) _ (lt-leb c.count 3 many))
right_is c whole (Some x) r P h e is =
    is x e ∙ ap (list_all (λ n. eqb n 0)) (h.0.2 ∙ take_rest c.nodes c.count) ∙ right_by c.count c.nodes whole (omega (arith, h.0.0))
