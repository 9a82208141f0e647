-- What is proved of walk, rows and turns.
use Rattle.std.specs.Prelude.{◌≡◌, ℕ, ◌+◌, ◌<◌, ◌≤◌, List, [], length, Ok, slice_index}
use Rattle.std.specs.List.{AllByRecursion}
use Rattle.headers.specs.declared.kinds.Kind.{Kind}
use Rattle.headers.specs.declared.mark.Mark.{Mark}
use Rattle.headers.specs.declared.table.KindTable.{KindTable}
use Rattle.headers.specs.Part.{HasItsFields}
use Rattle.headers.specs.Table.{minimum_in, FieldsLieInside}
use Rattle.graphs.specs.View.{NodeView}
use Rattle.graph_reader.specs.Reading.{reading}
use Rattle.stores.specs.declared.question.Question.{Question}
use Rattle.walks.specs.declared.outcome.Outcome.{Outcome}
use Rattle.walks.specs.Walk.{PlainWalk}
use Rattle.walks.specs.Rows.{Plan, chain_base, node_rows, chain_rows, store_rows, answer_by}
use Rattle.walks.specs.Plans.{Lawful, window, Holds, store_count}
use Rattle.walks.specs.Turns.{Reads}
use Rattle.walks.specs.Turning.{read_by}

-- a graph that reading accepts: some file of bytes is read as it
pub record Accepted (minimum : Kind → ℕ) (g : List NodeView) : Type 0 where
  pub file : List ℕ
  pub bytes : (i : ℕ) → slice_index file i < 256
  pub read : reading minimum file ≡ Ok g

-- The walk

-- a packet has one walk, of at most 32 marks
pub record OneWalk (minimum : Kind → ℕ) (g : List NodeView) (p : List ℕ) : Type 0 where
  pub marks : List Mark
  pub outcome : Outcome
  pub walks : PlainWalk minimum g p marks outcome
  pub only : (ms : List Mark) (o : Outcome) → PlainWalk minimum g p ms o → (ms ≡ marks) × (o ≡ outcome)
  pub few : length marks ≤ 32

abbrev pub WalkIsOne : Type 0
WalkIsOne = (minimum : Kind → ℕ) (g : List NodeView) → Accepted minimum g → (p : List ℕ) → OneWalk minimum g p

-- No field of a mark that a walk made is refused, whatever the graph: the header has the fewest bytes of its kind and lies in the
-- packet. So it is for every table of kinds whose fields lie inside the shortest headers, as those of the built-in table do
abbrev pub MarksHaveTheirFields : Type 0
MarksHaveTheirFields =
    (t : KindTable) → FieldsLieInside t → (g : List NodeView) (p : List ℕ) (ms : List Mark) (o : Outcome) → PlainWalk (minimum_in t) g p ms o
    → AllByRecursion (HasItsFields t (length p)) ms

-- The turns

-- the turns over the rows of graph and plan read a packet as the plain walk does
pub record ReadsPlainly (minimum : Kind → ℕ) (g : List NodeView) (chain : Plan) (p : List ℕ) : Type 0 where
  -- there are such turns, those of the function
  pub there : Reads minimum g chain p (read_by minimum g chain p).marks (read_by minimum g chain p).outcome (read_by minimum g chain p).questions
  -- and no others
  pub only : (ms : List Mark) (o : Outcome) (qs : List Question) → Reads minimum g chain p ms o qs
      → (ms ≡ (read_by minimum g chain p).marks) × (o ≡ (read_by minimum g chain p).outcome) × (qs ≡ (read_by minimum g chain p).questions)
  -- their marks and outcome are those of the plain walk
  pub walks : (ms : List Mark) (o : Outcome) (qs : List Question) → Reads minimum g chain p ms o qs → PlainWalk minimum g p ms o
  -- and the plain walk's are theirs
  pub back : (ms : List Mark) (o : Outcome) → PlainWalk minimum g p ms o → (qs : List Question) × Reads minimum g chain p ms o qs
  -- questions are at most the marks, and 32
  pub few : (ms : List Mark) (o : Outcome) (qs : List Question) → Reads minimum g chain p ms o qs → (length qs ≤ length ms) × (length qs ≤ 32)
  -- as many as the marks, where the plan has no chains
  pub plainly : ((n : ℕ) → chain n ≡ []) → (ms : List Mark) (o : Outcome) (qs : List Question) → Reads minimum g chain p ms o qs → length qs ≡ length ms

-- for every graph that reading accepts, every plan that keeps the rules, and every packet
abbrev pub TurnsWalkTheWalk : Type 0
TurnsWalkTheWalk =
    (minimum : Kind → ℕ) (g : List NodeView) → Accepted minimum g → (chain : Plan) → Lawful g chain → (p : List ℕ) → ReadsPlainly minimum g chain p

-- The rows

-- the number of rows is what the formula says, which lists none
abbrev pub RowsAreCounted : Type 0
RowsAreCounted = (g : List NodeView) (chain : Plan) → length (store_rows g chain) ≡ store_count g chain

-- a question of a state is answered as by that state's own rows
pub record OwnRows (g : List NodeView) (chain : Plan) (n : ℕ) (q : Question) : Type 0 where
  pub node : q.state.number ≡ n → answer_by (store_rows g chain) q ≡ answer_by (node_rows g n) q
  pub with_chain : q.state.number ≡ chain_base + n → answer_by (store_rows g chain) q ≡ answer_by (chain_rows g chain n) q

abbrev pub StatesStandApart : Type 0
StatesStandApart = (g : List NodeView) → length g ≤ chain_base → (chain : Plan) (n : ℕ) → n < length g → (q : Question) → OwnRows g chain n q

-- The window

-- so many bytes hold every header and lookup byte of node and chain exactly if they are not fewer than the window
abbrev pub WindowIsFewest : Type 0
WindowIsFewest = (g : List NodeView) (n : ℕ) (cs : List ℕ) (m : ℕ) → (window g n cs ≤ m → Holds g m 0 n cs) × (Holds g m 0 n cs → window g n cs ≤ m)
