-- The window is the fewest bytes that hold node and chain.
use Rattle.std.proofs.Common.{ℕ, ◌+◌, ◌<◌, ◌≤◌, List, [], ◌∷◌, arith}
use Rattle.std.specs.List.{AllByRecursion}
use Rattle.graphs.specs.View.{NodeView, node_at}
use Rattle.walks.specs.Plans.{reach, fixed_size, window, Holds}

reach_all : (b m : ℕ) (is : List ℕ) → b ≤ m → (b + reach is ≤ m → AllByRecursion (λ i. b + i < m) is) × (AllByRecursion (λ i. b + i < m) is → b + reach is ≤ m)
reach_all b m [] l = (λ h. tt, λ h. omega arith)
reach_all b m (i ∷ is) l = let r = reach_all b m is l in (λ h. (omega arith, r.0 (omega arith)), λ h. let q = r.1 h.1 in let p = h.0 in omega arith)

both : (g : List NodeView) (cs : List ℕ) (n b m : ℕ) → (b + window g n cs ≤ m → Holds g m b n cs) × (Holds g m b n cs → b + window g n cs ≤ m)
both g [] n b m = (
  λ h. (omega arith, (reach_all b m (node_at g n).places (omega arith)).0 (omega arith)),
  λ h. let q = (reach_all b m (node_at g n).places (let p = h.0 in omega arith)).1 h.1 in let p = h.0 in omega arith,
)
both g (c ∷ cs) n b m =
    let r = both g cs c (b + fixed_size (node_at g n).len) m in (
      λ h. ((omega arith, (reach_all b m (node_at g n).places (omega arith)).0 (omega arith)), r.0 (omega arith)),
      λ h. let q = (reach_all b m (node_at g n).places (let p = h.0.0 in omega arith)).1 h.0.1 in let p = h.0.0 in let s = r.1 h.1 in omega arith,
    )

pub fewest : (g : List NodeView) (n : ℕ) (cs : List ℕ) (m : ℕ) → (window g n cs ≤ m → Holds g m 0 n cs) × (Holds g m 0 n cs → window g n cs ≤ m)
fewest g n cs m = let r = both g cs n 0 m in (λ h. r.0 (omega arith), λ h. let q = r.1 h in omega arith)
