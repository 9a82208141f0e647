-- Where lookup bytes lie: the places of a node's own, and behind them those of its chain.
use Rattle.std.proofs.Common.{◌≡◌, ℕ, ◌+◌, ◌<◌, ◌≤◌, List, [], ◌∷◌, ◌++◌, map, length, take, refl, sym, ap, ap₂, ◌∙◌, arith}
use Rattle.std.proofs.lemmas.List.{append_assoc, length-append, length-map, length-take, map-append, take_all}
use Rattle.std.proofs.Math.Seq.{take-append_seam}
use Rattle.graphs.specs.View.{NodeView, node_at}
use Rattle.walks.specs.Plans.{lookups, fixed_size}
use Rattle.compiler.specs.Programs.{looked_up}

-- what is at places counted from b bytes behind a, is at those from a + b on
pub further : (f : ℕ → ℕ) (a b : ℕ) (places : List ℕ) → map (λ i. f (a + i)) (map (λ i. b + i) places) ≡ map (λ i. f ((a + b) + i)) places
further f a b [] = refl
further f a b (x ∷ xs) = let e : a + (b + x) ≡ (a + b) + x = omega arith in ap₂ (λ i ys. f i ∷ ys) e (further f a b xs)

-- places counted from no bytes on
pub from_none : (xs : List ℕ) → map (λ i. 0 + i) xs ≡ xs
from_none [] = refl
from_none (x ∷ xs) = let e : 0 + x ≡ x = omega arith in ap₂ (λ y ys. y ∷ ys) e (from_none xs)

-- how many places there are when k of a node's stand behind the others
pub put_length : (old now places : List ℕ) (from k : ℕ) → now ≡ old ++ map (λ i. from + i) (take k places) → k < length places → length now ≡ length old + k
put_length old now places from k is l =
    omega (arith, ap length is ∙ length-append old (map (λ i. from + i) (take k places)), length-map (take k places) (λ i. from + i), length-take k places)

module _ (g : List NodeView) (n : ℕ) where
  -- the node's own lookup places come first
  pub own_first : (cs : List ℕ) → take (length (node_at g n).places) (looked_up g n cs) ≡ (node_at g n).places
  own_first [] = take_all (length (node_at g n).places) (node_at g n).places (omega arith)
  own_first (c ∷ cs) = take-append_seam (node_at g n).places (map (λ i. fixed_size (node_at g n).len + i) (looked_up g c cs))

  -- they are no more than those of node and chain together
  pub own_few : (cs : List ℕ) → length (node_at g n).places ≤ lookups g n cs
  own_few [] = omega arith
  own_few (c ∷ cs) = omega arith

  -- the node's places are put, and behind them those of the rest of the path
  pub put_all : (c : ℕ) (cs behind old now new : List ℕ) (from size : ℕ) → behind ≡ c ∷ cs → size ≡ fixed_size (node_at g n).len
      → now ≡ old ++ map (λ i. from + i) (node_at g n).places → new ≡ now ++ map (λ i. (from + size) + i) (looked_up g c cs)
      → new ≡ old ++ map (λ i. from + i) (looked_up g n behind)
  put_all c cs behind old now new from size is fixed own rest =
      let f = λ (i : ℕ). from + i in
      let places = (node_at g n).places in
      let more = looked_up g c cs in
      rest ∙ ap (λ xs. xs ++ map (λ i. (from + size) + i) more) own
      ∙ append_assoc old (map f places) (map (λ i. (from + size) + i) more)
      ∙ ap (λ s. old ++ (map f places ++ map (λ i. (from + s) + i) more)) fixed
      ∙ ap (λ xs. old ++ (map f places ++ xs)) (sym (further (λ i. i) from (fixed_size (node_at g n).len) more))
      ∙ ap (λ xs. old ++ xs) (sym (map-append f places (map (λ i. fixed_size (node_at g n).len + i) more)))
      ∙ ap (λ cs'. old ++ map f (looked_up g n cs')) (sym is)
