-- The rows of a store that stand for a graph and a plan, each with an action beside it.
use Rattle.std.specs.Prelude.{ℕ, zero, suc, ◌+◌, ◌*◌, ◌/◌, ◌%◌, ◌^◌, Bool, false, cond, List, [], ◌∷◌, ◌++◌, map, length, Some, None, Option, ◌==◌, slice_index_or}
use Rattle.std.proofs.Common.{mod-lt, lit<}
use Rattle.std.specs.List.{range_with_len, flat_map}
use Rattle.patterns.specs.declared.block.Block.{Block}
use Rattle.patterns.specs.declared.row.Target.{Target}
use Rattle.patterns.specs.declared.row.Target.TheVariants as to
use Rattle.patterns.specs.declared.row.TernaryRow.{TernaryRow}
use Rattle.patterns.specs.declared.row.RangeRow.{RangeRow}
use Rattle.patterns.specs.Splitting.{split_of}
use Rattle.graphs.specs.View.{RowsView, ternary_rows, range_rows, NodeView, node_at}
use Rattle.stores.specs.declared.state.State.{State}
use Rattle.stores.specs.declared.question.Question.{Question}
use Rattle.stores.specs.declared.question.Row.{Row}
use Rattle.stores.specs.Fits.{fits}
use Rattle.stores.specs.Meaning.{answer}
use Rattle.walks.specs.declared.action.Action.{Action}
use Rattle.walks.specs.Bytes.{filled, spelled_in}

-- the bytes of a key in a store
abbrev pub key_width : ℕ
key_width = 8

-- node n has the state n, and with its chain the state chain_base + n
abbrev pub chain_base : ℕ
chain_base = 32

-- a plan gives each node its chain: the nodes behind it that are taken in one look
abbrev pub Plan : Type 0
Plan = ℕ → List ℕ

-- Patterns over lookup bytes

-- one byte of a ternary pattern: the bits under the mask have to be the value
pub record Cell : Type 0 where
  pub value : ℕ
  pub mask : ℕ

-- a byte that is not looked at
abbrev pub free : Cell
free = record { value = 0; mask = 0 }

-- a value and a mask of n bytes, byte by byte, the topmost first
unfoldable pub cells_of : ℕ → ℕ → ℕ → List Cell
cells_of zero v m = []
cells_of (suc n) v m = record { value = v / 2 ^ (8 * n); mask = m / 2 ^ (8 * n) } ∷ cells_of n (v % 2 ^ (8 * n)) (m % 2 ^ (8 * n))

-- one ternary row of a node: a pattern over its lookup bytes, and where it leads
pub record Piece : Type 0 where
  pub cells : List Cell
  pub target : Target

abbrev pub piece : List Cell → Target → Piece
piece cs t = record { cells = cs; target = t }

-- at a node with w lookup bytes: a ternary row is one piece
abbrev pub ternary_piece : ℕ → TernaryRow → Piece
ternary_piece w r = piece (filled free w (cells_of 4 r.value r.mask)) r.target

-- a block of a range is one, over the first two lookup bytes
abbrev pub block_piece : ℕ → Target → Block → Piece
block_piece w t b = piece (filled free w (cells_of 2 b.value b.mask)) t

-- and a range as many as it has blocks. This is what has to be believed of a range's rows: what the compiler has of them is proved to
-- be the same. The split of a range is computed (`split_of`); the rule that it follows is `SplitsInto`, proved of it
abbrev pub range_pieces : ℕ → RangeRow → List Piece
range_pieces w r = map (block_piece w r.target) (split_of r.low r.high)

abbrev pub pieces : ℕ → RowsView → List Piece
pieces w (ternary_rows rs) = map (ternary_piece w) rs
pieces w (range_rows rs) = flat_map (range_pieces w) rs

-- a node's rows in the order in which a store tries them: that of the file. The rows for the store and their count are stated over it,
-- so that another order, with another rule for which row decides, changes it and `decide` and nothing between
abbrev pub tried : RowsView → RowsView
tried rows = rows

abbrev pub pieces_at : List NodeView → ℕ → List Piece
pieces_at g n = pieces (length (node_at g n).places) (tried (node_at g n).rows)

-- Rows of a node and its chain

-- what a fitting row says: how many headers are passed beyond the first (a row passes one header more than that), and where to go, or
-- none
abbrev pub action : ℕ → Option Target → Action
action k t = record { beyond = k; target = t }

-- a pattern over the lookup bytes of a node and of nodes behind it, and its action
pub record Entry : Type 0 where
  pub cells : List Cell
  pub action : Action

abbrev pub entry : List Cell → Action → Entry
entry cs a = record { cells = cs; action = a }

-- a row that stands as it is
abbrev pub alone : Piece → Entry
alone r = entry r.cells (action 0 (Some r.target))

-- a row joined with one of the rest of the chain: one header more is passed
abbrev pub join : Piece → Entry → Entry
join r e = entry (r.cells ++ e.cells) (action (suc e.action.beyond) e.action.target)

-- its closing row: only its own part, both headers passed, none
abbrev pub closing : Piece → Entry
closing r = entry r.cells (action 1 None)

-- the target is node c
abbrev pub leads_to : ℕ → Target → Bool
leads_to c (to.Node m) = c == m
leads_to c to.Done = false
leads_to c to.Dropped = false

-- what a row becomes where the chain goes on at node c with the rows `rest`
abbrev pub expand : ℕ → List Entry → Piece → List Entry
expand c rest r = cond (leads_to c r.target) (map (join r) rest ++ (closing r ∷ [])) (alone r ∷ [])

-- the rows of node n, followed by a chain
abbrev pub entries : List NodeView → ℕ → List ℕ → List Entry
entries g n [] = map alone (pieces_at g n)
entries g n (c ∷ cs) = flat_map (expand c (entries g c cs)) (pieces_at g n)

-- none where there is no chain
abbrev pub chain_entries : List NodeView → ℕ → List ℕ → List Entry
chain_entries g n [] = []
chain_entries g n (c ∷ cs) = entries g n (c ∷ cs)

-- Rows of the store

-- the state of a number, counted modulo 64
abbrev pub state_of : ℕ → State
state_of s = record { number = s % 64; below = mod-lt s (lit< tt) }

-- a row of the store, and the action that is kept beside it
pub record StoreRow : Type 0 where
  pub row : Row
  pub action : Action

-- value and mask over the lookup bytes in order, then zeros
abbrev pub store_row : ℕ → Entry → StoreRow
store_row s e = record {
  row = record { state = state_of s; value = spelled_in key_width (map (λ c. c.value) e.cells); mask = spelled_in key_width (map (λ c. c.mask) e.cells) };
  action = e.action;
}

-- the rows under the states n, and those under the states chain_base + n
abbrev pub node_rows : List NodeView → ℕ → List StoreRow
node_rows g n = map (store_row n) (entries g n [])

abbrev pub chain_rows : List NodeView → Plan → ℕ → List StoreRow
chain_rows g chain n = map (store_row (chain_base + n)) (chain_entries g n (chain n))

-- all states n come first, then all states chain_base + n, by node
abbrev pub store_rows : List NodeView → Plan → List StoreRow
store_rows g chain = flat_map (node_rows g) (range_with_len 0 (length g)) ++ flat_map (chain_rows g chain) (range_with_len 0 (length g))

-- Questions

-- a question for a state: lookup bytes in order, then zeros
abbrev pub question : ℕ → List ℕ → Question
question s bs = record { state = state_of s; key = spelled_in key_width bs }

-- the action beside the row at a place
abbrev pub action_at : List Action → Option ℕ → Option Action
action_at acts None = None
action_at acts (Some i) = Some (slice_index_or acts i (action 0 None))

-- what rows answer to a question: the action beside the first that fits, as a store finds it
abbrev pub answer_by : List StoreRow → Question → Option Action
answer_by rows q = action_at (map (λ r. r.action) rows) (answer (map (λ r. fits r.row) rows) q)
