-- The test of the rules says what the rules say.
use Rattle.std.specs.List.{list_any}
use Rattle.std.proofs.Common.{◌≡◌, ℕ, zero, suc, ◌+◌, ◌-◌, ◌<◌, ◌≤◌, Bool, true, false, ◌&&◌, leb, List, [], ◌∷◌, length, get_or, refl, ap, ◌∙◌, inl, inr, arith}
use Rattle.std.proofs.lemmas.Bool.{and_parts, and_from, or_cases, or_left, or_right, leb-true, le-leb, eq-eqb, both_ways}
use Rattle.patterns.specs.declared.row.Target.{Target}
use Rattle.patterns.specs.declared.row.Target.TheVariants as to
use Rattle.graphs.specs.declared.graph.Length.{Length}
use Rattle.graphs.specs.declared.graph.Length.TheVariants.{Fixed, Counted}
use Rattle.graphs.specs.View.{RowsView, ternary_rows, range_rows, NodeView, node_at}
use Rattle.walks.specs.Rows.{key_width, leads_to}
use Rattle.walks.specs.Plans.{IsFixed, IsTarget, AllFixed, Linked, lookups, Keeps}
use Rattle.walks.proofs.Widths.{leads}
use Rattle.plans.specs.Checking.{is_fixed, any_to, ruled, keeps}

fixed_says : (l : Length) → is_fixed l ≡ true → IsFixed l
fixed_says (Fixed n) e = (n, refl)
fixed_says (Counted place mask shift unit base) e = absurd (both_ways false refl e)

fixed_told : (l : Length) → IsFixed l → is_fixed l ≡ true
fixed_told l h = ap is_fixed h.1

leads_told : (c : ℕ) (t : Target) → t ≡ to.Node c → leads_to c t ≡ true
leads_told c t e = ap (leads_to c) e ∙ eq-eqb c c refl

-- some element passes a test exactly if one at a place does
some_says : {X : Type 0} (f : X → Bool) (d : X) (xs : List X) → list_any f xs ≡ true → (k : ℕ) × (k < length xs) × (f (get_or xs k d) ≡ true)
some_says f d [] e = absurd (both_ways false refl e)
some_says f d (x ∷ xs) e = elim (or_cases (f x) (list_any f xs) e) [
  | inl h ↦ (0, omega arith, h)
  | inr h ↦ let (k, l, p) = some_says f d xs h in (suc k, omega arith, p)
]

some_told : {X : Type 0} (f : X → Bool) (d : X) (xs : List X) (k : ℕ) → k < length xs → f (get_or xs k d) ≡ true → list_any f xs ≡ true
some_told f d [] k h e = absurd (omega arith)
some_told f d (x ∷ xs) zero h e = or_left (f x) (list_any f xs) e
some_told f d (x ∷ xs) (suc k) h e = or_right (f x) (list_any f xs) (some_told f d xs k (omega arith) e)

target_says : (c : ℕ) (rows : RowsView) → any_to c rows ≡ true → IsTarget rows c
target_says c (ternary_rows rs) e =
    let (k, h, p) = some_says (λ r. leads_to c r.target) (record { value = 0; mask = 0; target = to.Node 0 }) rs e in (k, h, leads c _ p)
target_says c (range_rows rs) e =
    let (k, h, p) = some_says (λ r. leads_to c r.target) (record { low = 0; high = 0; target = to.Node 0 }) rs e in (k, h, leads c _ p)

target_told : (c : ℕ) (rows : RowsView) → IsTarget rows c → any_to c rows ≡ true
target_told c (ternary_rows rs) (k, h, p) = some_told (λ r. leads_to c r.target) (record { value = 0; mask = 0; target = to.Node 0 }) rs k h (leads_told c _ p)
target_told c (range_rows rs) (k, h, p) = some_told (λ r. leads_to c r.target) (record { low = 0; high = 0; target = to.Node 0 }) rs k h (leads_told c _ p)

module _ (g : List NodeView) where
  -- the four parts of the test
  parts : (room n c : ℕ) (cs : List ℕ) → ruled g room n (c ∷ cs) ≡ true
      → (is_fixed (node_at g n).len ≡ true) × (length (node_at g n).places ≤ room) × (any_to c (node_at g n).rows ≡ true) × (ruled g (room - length (node_at g n).places) c cs ≡ true)
  parts room n c cs e =
      let L = leb (length (node_at g n).places) room in
      let A = any_to c (node_at g n).rows in
      let R = ruled g (room - length (node_at g n).places) c cs in
      let p = and_parts (is_fixed (node_at g n).len) (L && (A && R)) e in
      let q = and_parts L (A && R) p.1 in
      let r = and_parts A R q.1 in
      (p.0, leb-true _ _ q.0, r.0, r.1)

  ends : (room n : ℕ) → ruled g room n [] ≡ true → (is_fixed (node_at g n).len ≡ true) × (length (node_at g n).places ≤ room)
  ends room n e = let p = and_parts (is_fixed (node_at g n).len) (leb (length (node_at g n).places) room) e in (p.0, leb-true _ _ p.1)

  all_fixed : (room n : ℕ) (cs : List ℕ) → ruled g room n cs ≡ true → AllFixed g n cs
  all_fixed room n [] e = fixed_says _ (ends room n e).0
  all_fixed room n (c ∷ cs) e = let p = parts room n c cs e in (fixed_says _ p.0, all_fixed (room - length (node_at g n).places) c cs p.3)

  all_linked : (room n : ℕ) (cs : List ℕ) → ruled g room n cs ≡ true → Linked g n cs
  all_linked room n [] e = tt
  all_linked room n (c ∷ cs) e = let p = parts room n c cs e in (target_says c (node_at g n).rows p.2, all_linked (room - length (node_at g n).places) c cs p.3)

  all_narrow : (room n : ℕ) (cs : List ℕ) → ruled g room n cs ≡ true → lookups g n cs ≤ room
  all_narrow room n [] e = (ends room n e).1
  all_narrow room n (c ∷ cs) e =
      let p = parts room n c cs e in
      let k = p.1 in
      let r = all_narrow (room - length (node_at g n).places) c cs p.3 in
      omega arith

  ruled_told : (room n : ℕ) (cs : List ℕ) → AllFixed g n cs → Linked g n cs → lookups g n cs ≤ room → ruled g room n cs ≡ true
  ruled_told room n [] f l w = and_from _ _ (fixed_told _ f) (le-leb _ _ w)
  ruled_told room n (c ∷ cs) f l w =
      let k : length (node_at g n).places + lookups g c cs ≤ room = w in
      let m : length (node_at g n).places ≤ room = omega arith in
      let r : lookups g c cs ≤ room - length (node_at g n).places = omega arith in
      and_from _ _ (fixed_told _ f.0) (and_from _ _ (le-leb _ _ m) (and_from _ _ (target_told c (node_at g n).rows l.0) (ruled_told (room - length (node_at g n).places) c cs f.1 l.1 r)))

  pub keeps_says : (n : ℕ) (cs : List ℕ) → keeps g n cs ≡ true → Keeps g n cs
  keeps_says n [] e = tt
  keeps_says n (c ∷ cs) e = record { fixed = all_fixed key_width n (c ∷ cs) e; linked = all_linked key_width n (c ∷ cs) e; narrow = all_narrow key_width n (c ∷ cs) e }

  pub keeps_told : (n : ℕ) (cs : List ℕ) → Keeps g n cs → keeps g n cs ≡ true
  keeps_told n [] h = refl
  keeps_told n (c ∷ cs) h = ruled_told key_width n (c ∷ cs) h.fixed h.linked h.narrow
