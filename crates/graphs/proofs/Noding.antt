-- A search through the nodes that a count names.
use Rattle.std.proofs.Common.{◌≡◌, ℕ, ◌+◌, ◌-◌, ◌<◌, ◌≤◌, List, map, length, get_or, Some, None, Option, sym, ap, ◌∙◌, arith}
use Rattle.std.proofs.lemmas.List.{get_or-map, length-map}
use Rattle.graphs.specs.declared.fault.GraphFault.{GraphFault}
use Rattle.graphs.specs.declared.graph.Node.{Node}
use Rattle.graphs.specs.View.{NodeView, node_view, node_at}
use Rattle.refusals.specs.Searching.{first_told}
use Rattle.graphs.specs.Checking.{node_fault}
use Rattle.refusals.proofs.Searching.{found, passed, ended}

-- node n of what is shown of some nodes
pub node_at_lem : (ns : List Node) {vs : List NodeView} → map node_view ns ≡ vs → (n : ℕ) (d : Node) → n < length ns → node_at vs n ≡ node_view (get_or ns n d)
node_at_lem ns shown n d h = ap (λ v. node_at v n) (sym shown) ∙ get_or-map node_view ns n d _ h

module _ (f : ℕ → NodeView → Option GraphFault) (ns : List Node) (n : ℕ) {vs : List NodeView} (shown : map node_view ns ≡ vs)
    {o : Option GraphFault} (inv : first_told (node_fault f vs) n (length vs - n) ≡ o) where
  many : length vs ≡ length ns
  many = ap length (sym shown) ∙ length-map ns node_view

  here : (d : Node) → n < length ns → node_fault f vs n ≡ f n (node_view (get_or ns n d))
  here d h = ap (f n) (node_at_lem ns shown n d h)

  pub node_found : (d : Node) (x : GraphFault) → n < length ns → f n (node_view (get_or ns n d)) ≡ Some x → Some x ≡ o
  node_found d x h e = let m = many in found (node_fault f vs) n (length vs) inv x (omega arith) (here d h ∙ e)

  pub node_passed : (d : Node) → n < length ns → f n (node_view (get_or ns n d)) ≡ None → first_told (node_fault f vs) (n + 1) (length vs - (n + 1)) ≡ o
  node_passed d h e = let m = many in passed (node_fault f vs) n (length vs) inv (omega arith) (here d h ∙ e)

  pub node_ended : length ns ≤ n → None ≡ o
  node_ended h = let m = many in ended (node_fault f vs) n (length vs) inv (omega arith)
