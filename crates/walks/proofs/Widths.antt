-- The rows of a node and its chain: no pattern is longer than their lookup bytes, and each leads onward.
use Rattle.std.proofs.Common.{◌≡◌, ℕ, ◌<◌, true, List, [], ◌∷◌, ◌++◌, map, length, Some, sym, refl, ap, subst, arith, length-append}
use Rattle.std.specs.List.{flat_map, AllByRecursion}
use Rattle.std.proofs.ByRecursion.{All-append, All-map, All-weaker}
use Rattle.std.proofs.lemmas.List.{length-map}
use Rattle.std.proofs.lemmas.Bool.{eqb-true, cond_both}
use Rattle.headers.specs.declared.kinds.Kind.{Kind}
use Rattle.patterns.specs.declared.row.Target.{Target}
use Rattle.patterns.specs.declared.row.Target.TheVariants as to
use Rattle.graphs.specs.View.{NodeView, node_at}
use Rattle.walks.specs.Walk.{past}
use Rattle.walks.specs.Rows.{Cell, Piece, tried, pieces_at, Entry, alone, join, closing, leads_to, expand, entries}
use Rattle.walks.specs.Plans.{IsTarget, Linked, lookups}
use Rattle.walks.specs.Turns.{keys_at}
use Rattle.walks.proofs.Spelling.{Small, values, masks}
use Rattle.walks.proofs.Store.{Fair}
use Rattle.walks.proofs.Sound.{Onward, Sound}
use Rattle.walks.proofs.Pieces.{pieces_even, pieces_small, pieces_lead, SmallPiece, tried_sound, tried_targets}

pub leads : (c : ℕ) (t : Target) → leads_to c t ≡ true → t ≡ to.Node c
leads c (to.Node m) e = ap to.Node (sym (eqb-true c m e))
leads c to.Done e = cc
leads c to.Dropped e = cc

-- what holds of each form of a row
expand_all : (Q : Entry → Type 0) (c : ℕ) (rest : List Entry) (r : Piece) → AllByRecursion (λ e. Q (join r e)) rest → Q (closing r) → Q (alone r) → AllByRecursion Q (expand c rest r)
expand_all Q c rest r js h a =
    cond_both (leads_to c r.target) (map (join r) rest ++ (closing r ∷ [])) (alone r ∷ []) (λ es. AllByRecursion Q es)
    (λ _. All-append Q (map (join r) rest) (closing r ∷ []) (All-map Q (join r) rest js) (h, tt))
    (λ _. (a, tt))

joined_all : (Q : Entry → Type 0) (P : Piece → Type 0) (f : Piece → List Entry) → ((r : Piece) → P r → AllByRecursion Q (f r)) → (rs : List Piece) → AllByRecursion P rs → AllByRecursion Q (flat_map f rs)
joined_all Q P f each [] a = tt
joined_all Q P f each (r ∷ rs) a = All-append Q (f r) (flat_map f rs) (each r a.0) (joined_all Q P f each rs a.1)

both_all : {X : Type 0} (P Q : X → Type 0) (xs : List X) → AllByRecursion P xs → AllByRecursion Q xs → AllByRecursion (λ x. P x × Q x) xs
both_all P Q [] a b = tt
both_all P Q (x ∷ xs) a b = ((a.0, b.0), both_all P Q xs a.1 b.1)

map_append : {X Y : Type 0} (f : X → Y) (xs ys : List X) → map f (xs ++ ys) ≡ map f xs ++ map f ys
map_append f [] ys = refl
map_append f (x ∷ xs) ys = ap (λ zs. f x ∷ zs) (map_append f xs ys)

small_append : (cs ds : List Cell) → Small cs → Small ds → Small (cs ++ ds)
small_append cs ds a b = record {
  value = rw (map_append (λ c. c.value) cs ds) (All-append _ (values cs) (values ds) a.value b.value);
  mask = rw (map_append (λ c. c.mask) cs ds) (All-append _ (masks cs) (masks ds) a.mask b.mask);
}

-- a row that has a target has one that lies onward
abbrev pub Ahead : ℕ → ℕ → Entry → Type 0
Ahead size n e = (m : ℕ) → e.action.target ≡ Some (to.Node m) → (n < m) × (m < size)

module _ (minimum : Kind → ℕ) (g : List NodeView) (sound : Sound minimum g) where
  abbrev width : ℕ → ℕ
  width n = length (node_at g n).places

  pub linked_onward : (n c : ℕ) → n < length g → IsTarget (node_at g n).rows c → (n < c) × (c < length g)
  linked_onward n c l (k, h, e) = subst (Onward (length g) n) e (sound.onward n l k h)

  abbrev Made : ℕ → Piece → Type 0
  Made n r = (length r.cells ≡ width n) × SmallPiece r

  made : (n : ℕ) → n < length g → AllByRecursion (Made n) (pieces_at g n)
  made n l = both_all _ _ (pieces_at g n) (pieces_even (width n) (tried (node_at g n).rows)) (pieces_small (width n) (tried (node_at g n).rows) (tried_sound (width n) (node_at g n).rows (sound.rows n l)))

  -- patterns are no longer than the lookup bytes, and made of bytes
  pub entries_fair : (cs : List ℕ) (n : ℕ) → n < length g → Linked g n cs → AllByRecursion (Fair (lookups g n cs)) (entries g n cs)
  entries_fair [] n l k = All-map _ alone (pieces_at g n) (All-weaker (Made n) (λ r. Fair (width n) (alone r)) (λ r h. record { short = omega (arith, h.0); small = h.1 }) (pieces_at g n) (made n l))
  entries_fair (c ∷ cs) n l k =
      let o = linked_onward n c l k.0 in
      let rest = entries_fair cs c o.1 k.1 in
      joined_all (Fair (lookups g n (c ∷ cs))) (Made n) (expand c (entries g c cs))
      (λ r h. expand_all (Fair (lookups g n (c ∷ cs))) c (entries g c cs) r
      (All-weaker (Fair (lookups g c cs)) (λ e. Fair (lookups g n (c ∷ cs)) (join r e))
      (λ e f. record { short = omega (arith, h.0, f.short, length-append r.cells e.cells); small = small_append r.cells e.cells h.1 f.small }) (entries g c cs) rest)
      (record { short = omega (arith, h.0); small = h.1 })
      (record { short = omega (arith, h.0); small = h.1 }))
      (pieces_at g n) (made n l)

  -- targets lie onward
  abbrev Led : ℕ → Piece → Type 0
  Led n r = Onward (length g) n r.target

  pub led_on : (n : ℕ) → n < length g → AllByRecursion (Led n) (pieces_at g n)
  led_on n l = pieces_lead (Onward (length g) n) (width n) (tried (node_at g n).rows) (tried_targets (Onward (length g) n) (node_at g n).rows (sound.onward n l))

  alone_ahead : (n : ℕ) (r : Piece) → Led n r → Ahead (length g) n (alone r)
  alone_ahead n r h m e = let same : r.target ≡ to.Node m = cc in subst (Onward (length g) n) same h

  pub entries_ahead : (cs : List ℕ) (n : ℕ) → n < length g → Linked g n cs → AllByRecursion (Ahead (length g) n) (entries g n cs)
  entries_ahead [] n l k = All-map _ alone (pieces_at g n) (All-weaker (Led n) (λ r. Ahead (length g) n (alone r)) (alone_ahead n) (pieces_at g n) (led_on n l))
  entries_ahead (c ∷ cs) n l k =
      let o = linked_onward n c l k.0 in
      let rest = entries_ahead cs c o.1 k.1 in
      joined_all (Ahead (length g) n) (Led n) (expand c (entries g c cs))
      (λ r h. expand_all (Ahead (length g) n) c (entries g c cs) r
      (All-weaker (Ahead (length g) c) (λ e. Ahead (length g) n (join r e)) (λ e f m t. let q = f m t in let p = o.0 in (omega arith, q.1)) (entries g c cs) rest)
      (λ m t. let z : ◌≡◌ {A = ℕ} 0 1 = cc in absurd (omega arith))
      (alone_ahead n r h))
      (pieces_at g n) (led_on n l)

pub length_keys : (g : List NodeView) (p : List ℕ) (cs : List ℕ) (n : ℕ) (at : ℕ) → length (keys_at g p n cs at) ≡ lookups g n cs
length_keys g p [] n at = length-map _ _
length_keys g p (c ∷ cs) n at = rw (length-append, length-map, length_keys g p cs c (past g p n at))
