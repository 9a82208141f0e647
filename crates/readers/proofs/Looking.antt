-- Lookup bytes, one behind the other: those of a chain lie where a program says.
use Rattle.std.proofs.Common.{◌≡◌, ℕ, ◌+◌, ◌<◌, List, [], ◌∷◌, ◌++◌, map, length, get_or, take, refl, sym, ap, ◌∙◌, subst}
use Rattle.std.proofs.lemmas.List.{map-append, map_more}
use Rattle.graphs.specs.View.{NodeView, node_at}
use Rattle.walks.specs.Bytes.{byte_at}
use Rattle.walks.specs.Walk.{past, key_at}
use Rattle.walks.specs.Plans.{AllFixed, fixed_size}
use Rattle.walks.specs.Turns.{keys_at}
use Rattle.compiler.specs.Programs.{looked_up}
use Rattle.compiler.proofs.Looking.{further}
use Rattle.readers.specs.declared.key.Key.{Key}
use Rattle.readers.specs.Headers.{bytes_at}
use Rattle.readers.specs.Keys.{Spells}
use Rattle.readers.proofs.Standing.{fixed_is}

-- one place more is looked at
pub looked_more : (f : ℕ → ℕ) (places : List ℕ) (i : ℕ) → i < length places → (byte : ℕ) → byte ≡ f (get_or places i 0) → (now new : Key)
    → Spells now (map f (take i places)) → ((bytes : List ℕ) → Spells now bytes → Spells new (bytes ++ byte ∷ [])) → Spells new (map f (take (i + 1) places))
looked_more f places i h byte is now new so_far push =
    let byte_more : map f (take i places) ++ byte ∷ [] ≡ map f (take (i + 1) places) = ap (λ b. map f (take i places) ++ b ∷ []) is ∙ sym (map_more f places i 0 h) in
    subst (Spells new) byte_more (push (map f (take i places)) so_far)

module _ (p : List ℕ) where
  -- the lookup bytes of a node and the nodes behind it, which have fixed lengths
  pub keys_looked : (g : List NodeView) (cs : List ℕ) (n at : ℕ) → AllFixed g n cs → bytes_at p at (looked_up g n cs) ≡ keys_at g p n cs at
  keys_looked g [] n at f = refl
  keys_looked g (c ∷ cs) n at f =
      let size = fixed_size (node_at g n).len in
      let rest = looked_up g c cs in
      map-append (λ i. byte_at p (at + i)) (node_at g n).places (map (λ i. size + i) rest)
      ∙ ap (λ ks. key_at g p n at ++ ks) (further (byte_at p) at size rest ∙ ap (λ s. bytes_at p (at + s) rest) (sym (fixed_is g p n at f.0)) ∙ keys_looked g cs c (past g p n at) f.1)
