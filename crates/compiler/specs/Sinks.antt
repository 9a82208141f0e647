-- Rows with their actions, put one after the other into a store and a list of actions.
use Rattle.std.specs.Prelude.{◌≡◌, ℕ, ◌+◌, ◌-◌, ◌*◌, ◌≤◌, Bool, ◌&&◌, List, [], ◌++◌, map, length, Option, ◌==◌, bit_and}
use Rattle.patterns.specs.declared.row.Target.{Target}
use Rattle.patterns.specs.declared.row.TernaryRow.{TernaryRow}
use Rattle.stores.specs.declared.question.Question.{Question}
use Rattle.stores.specs.Fits.{fits}
use Rattle.stores.specs.Meaning.{Meaning, holding, wiped}
use Rattle.walks.specs.declared.action.Action.{Action}
use Rattle.walks.specs.Bytes.{spelled_in}
use Rattle.walks.specs.Rows.{key_width, Cell, ternary_piece, Entry, StoreRow, action}
use Rattle.compiler.specs.declared.start.Masked.{Masked}
use Rattle.compiler.specs.declared.start.Start.{Start}
use Rattle.compiler.specs.declared.sink.Sink as lent
use Rattle.compiler.specs.Held.{held}
use Rattle.compiler.specs.Programs.{most_rows}

-- a row as the questions that it fits, and its action
pub record Line : Type 0 where
  pub fits : Question → Bool
  pub action : Action

abbrev pub line_of : StoreRow → Line
line_of r = record { fits = fits r.row; action = r.action }

-- a store, and the actions beside its rows
pub record Sink : Type 0 where
  pub meaning : Meaning
  pub actions : List Action

abbrev pub sink : Meaning → List Action → Sink
sink m acts = record { meaning = m; actions = acts }

-- rows put behind the others, their actions behind the others
abbrev pub sunk : Sink → List Line → Sink
sunk s rs =
    sink (holding s.meaning (s.meaning.rows ++ map (λ (r : Line). r.fits) rs) (s.meaning.takes - length rs)) (s.actions ++ map (λ (r : Line). r.action) rs)

-- both have room for so many rows
pub record Room {X : Type 0} (s : Sink) (rows : List X) : Type 0 where
  pub taken : length rows ≤ s.meaning.takes
  pub beside : length s.actions + length rows ≤ most_rows

-- what a lent store means, and the lent actions
abbrev pub sink_of : {S : Type 0} → (S → Meaning) → lent.Sink S → Sink
sink_of meaning s = sink (meaning s.store.now) (held s.actions.now)

-- store and actions are still those that were lent, and hold this now
pub record Becomes {S : Type 0} (meaning : S → Meaning) (a b : lent.Sink S) (s : Sink) : Type 0 where
  pub store : b.store.ghost_name ≡ a.store.ghost_name
  pub actions : b.actions.ghost_name ≡ a.actions.ghost_name
  pub after : sink_of meaning b ≡ s

-- no rows and no actions
abbrev pub Emptied : {S : Type 0} → (S → Meaning) → lent.Sink S → lent.Sink S → Type 0
Emptied meaning a b = Becomes meaning a b (sink (wiped (meaning a.store.now)) [])

-- these rows behind the others
abbrev pub Filled : {S : Type 0} → (S → Meaning) → lent.Sink S → lent.Sink S → List Line → Type 0
Filled meaning a b rs = Becomes meaning a b (sunk (sink_of meaning a) rs)

-- Rows that are begun

-- the first part of a row as a pattern over lookup bytes: its bytes, each a cell
abbrev pub cell_of : Masked → Cell
cell_of b = record { value = b.value; mask = b.mask }

abbrev pub cells_in : Start → List Cell
cells_in p = map cell_of (held p.bytes)

-- the questions that a row of a state fits whose value and mask are those of a pattern
abbrev pub fits_by : ℕ → List Cell → Question → Bool
fits_by s cs q = q.state.number == s && bit_and q.key (spelled_in key_width (map (λ c. c.mask) cs)) == spelled_in key_width (map (λ c. c.value) cs)

-- the first part of a row goes on with an entry
abbrev pub line_as : Start → Entry → Line
line_as p e = record { fits = fits_by p.state.number (cells_in p ++ e.cells); action = action (p.beyond + e.action.beyond) e.action.target }

-- the first part is the whole row
abbrev pub fits_start : Start → Question → Bool
fits_start p = fits_by p.state.number (cells_in p)

abbrev pub line_with : Start → Option Target → Line
line_with p t = record { fits = fits_start p; action = action p.beyond t }

-- a node and the chain behind it fit behind the first part of a row
pub record Ready (cs : List ℕ) (p : Start) : Type 0 where
  pub bytes : length (held p.bytes) + 4 * length cs ≤ 12
  pub beyond : p.beyond + length cs ≤ 3

-- r is p with the lookup bytes of a piece behind it, w of them, and k headers more are passed
pub record Longer (p r : Start) (w : ℕ) (q : TernaryRow) (k : ℕ) : Type 0 where
  pub cells : cells_in r ≡ cells_in p ++ (ternary_piece w q).cells
  pub state : r.state ≡ p.state
  pub beyond : r.beyond ≡ p.beyond + k
