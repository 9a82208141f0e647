-- The plain walk: a packet read one header at a time, straight from the graph.
use Rattle.std.specs.Prelude.{◌≡◌, ℕ, ◌+◌, ◌*◌, ◌/◌, ◌^◌, ◌<◌, ◌≤◌, List, [], ◌∷◌, ◌++◌, map, length, Some, None, Option, bit_and}
use Rattle.std.specs.List.{AllByRecursion}
use Rattle.headers.specs.declared.kinds.Kind.{Kind}
use Rattle.headers.specs.declared.mark.Mark.{Mark}
use Rattle.headers.specs.Kinds.{kind_number}
use Rattle.patterns.specs.declared.row.Target.{Target}
use Rattle.patterns.specs.declared.row.Target.TheVariants as to
use Rattle.graphs.specs.declared.graph.Length.{Length}
use Rattle.graphs.specs.declared.graph.Length.TheVariants.{Fixed, Counted}
use Rattle.graphs.specs.View.{NodeView, node_at}
use Rattle.graphs.specs.Deciding.{decide}
use Rattle.walks.specs.declared.outcome.Ending.{Ending}
use Rattle.walks.specs.declared.outcome.Ending.TheVariants.{Done, Cut, Short, Unfit, Dropped}
use Rattle.walks.specs.declared.outcome.Outcome.{Outcome}
use Rattle.walks.specs.Bytes.{byte_at, spelled_in}
use Rattle.walks.specs.Outcomes.{outcome}

-- the places that a length rule reads
abbrev pub length_places : Length → List ℕ
length_places (Fixed n) = []
length_places (Counted place mask shift unit base) = place ∷ []

-- the length of a header that begins at an offset
abbrev pub measured : Length → List ℕ → ℕ → ℕ
measured (Fixed n) p at = n
measured (Counted place mask shift unit base) p at = base + unit * (bit_and (byte_at p (at + place)) mask / 2 ^ shift)

-- the places that a step at a node reads: those that it looks up, and its length's
abbrev pub reads : NodeView → List ℕ
reads v = v.places ++ length_places v.len

-- the most lookup bytes of a node: a node's key has so many, zeros where it looks up fewer
abbrev pub lookup_width : ℕ
lookup_width = 4

-- each of the places, counted from an offset on, lies in the packet
abbrev pub Held : List ℕ → ℕ → List ℕ → Type 0
Held p at places = AllByRecursion (λ i. at + i < length p) places

-- what stands at node n of a graph, and at an offset of a packet
module _ (g : List NodeView) (p : List ℕ) where
  abbrev pub size_at : ℕ → ℕ → ℕ
  size_at n at = measured (node_at g n).len p at

  -- the offset behind the header
  abbrev pub past : ℕ → ℕ → ℕ
  past n at = at + size_at n at

  abbrev pub mark_at : ℕ → ℕ → Mark
  mark_at n at = record { node = n; kind = kind_number (node_at g n).kind; offset = at; length = size_at n at }

  -- the lookup bytes, in order
  abbrev pub key_at : ℕ → ℕ → List ℕ
  key_at n at = map (λ i. byte_at p (at + i)) (node_at g n).places

  -- the target of the row that decides, if one fits
  abbrev pub decide_at : ℕ → ℕ → Option Target
  decide_at n at = decide (node_at g n).rows (spelled_in lookup_width (key_at n at))

  -- done: the payload begins behind the header of node n
  abbrev pub finished : ℕ → ℕ → Outcome
  finished n at = outcome Done n (past n at)

-- `minimum` has the fewest bytes of each kind.
-- The three checks of a header, in their order: a byte that is read lies outside the packet; the length is below the kind's
-- minimum; the header overruns the packet
pub data Refused (minimum : Kind → ℕ) (g : List NodeView) (p : List ℕ) (n : ℕ) (at : ℕ) : Ending → Type 0 where
  outside : (Held p at (reads (node_at g n)) → ⊥) → Refused minimum g p n at Cut
  under : Held p at (reads (node_at g n)) → size_at g p n at < minimum (node_at g n).kind → Refused minimum g p n at Short
  overrun : Held p at (reads (node_at g n)) → minimum (node_at g n).kind ≤ size_at g p n at → length p < (past g p n at)
      → Refused minimum g p n at Cut

-- a header that passes all three
pub record Header (minimum : Kind → ℕ) (g : List NodeView) (p : List ℕ) (n : ℕ) (at : ℕ) : Type 0 where
  pub held : Held p at (reads (node_at g n))
  pub long : minimum (node_at g n).kind ≤ size_at g p n at
  pub within : (past g p n at) ≤ length p

-- The walk from node n at an offset on: its marks and how it ends. A header that is not refused is marked, and then the deciding
-- row says: none fits; the packet is dropped; done; or on at a node, behind the header
pub data Walk (minimum : Kind → ℕ) (g : List NodeView) (p : List ℕ) : ℕ → ℕ → List Mark → Outcome → Type 0 where
  refused : {n : ℕ} {at : ℕ} {e : Ending} → Refused minimum g p n at e → Walk minimum g p n at [] (outcome e n at)
  unfit : {n : ℕ} {at : ℕ} → Header minimum g p n at → decide_at g p n at ≡ None
      → Walk minimum g p n at (mark_at g p n at ∷ []) (outcome Unfit n at)
  drops : {n : ℕ} {at : ℕ} → Header minimum g p n at → decide_at g p n at ≡ Some to.Dropped
      → Walk minimum g p n at (mark_at g p n at ∷ []) (outcome Dropped n at)
  ends : {n : ℕ} {at : ℕ} → Header minimum g p n at → decide_at g p n at ≡ Some to.Done
      → Walk minimum g p n at (mark_at g p n at ∷ []) (finished g p n at)
  on : {n m : ℕ} {at : ℕ} {ms : List Mark} {o : Outcome} → Header minimum g p n at → decide_at g p n at ≡ Some (to.Node m)
      → Walk minimum g p m (past g p n at) ms o → Walk minimum g p n at (mark_at g p n at ∷ ms) o

-- the walk of a packet: from node 0 at offset 0 on
abbrev pub PlainWalk : (Kind → ℕ) → List NodeView → List ℕ → List Mark → Outcome → Type 0
PlainWalk minimum g p ms o = Walk minimum g p 0 0 ms o
