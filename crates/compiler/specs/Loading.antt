-- What a load is refused for, in words and as the first fault, and what it leaves.
use Rattle.std.specs.Option.{option_or, option_map}
use Rattle.std.specs.Prelude.{◌≡◌, ℕ, ◌*◌, ◌<◌, ◌≤◌, min, Bool, ◌&&◌, ◌⊎◌, List, map, length, Ok, Option, nat_le}
use Rattle.refusals.specs.Searching.{unless}
use Rattle.headers.specs.declared.kinds.Kind.{Kind}
use Rattle.graphs.specs.View.{NodeView, graph_view}
use Rattle.graphs.specs.Refusals.{GraphApplies}
use Rattle.graph_reader.specs.Refusals.{FileApplies}
use Rattle.graph_reader.specs.Decoding.{nodes_in}
use Rattle.graph_reader.specs.Reading.{read_fault, reading}
use Rattle.stores.specs.Fits.{fits}
use Rattle.stores.specs.Meaning.{Meaning, wiped, appended_each}
use Rattle.walks.specs.Rows.{StoreRow, store_rows}
use Rattle.walks.specs.Plans.{Lawful, store_count}
use Rattle.compiler.specs.declared.checked.Checked.{Checked}
use Rattle.plans.specs.Chains.{chain_of, chain_in}
use Rattle.plans.specs.Refusals.{PlanApplies}
use Rattle.plans.specs.Checking.{plan_fault}
use Rattle.compiler.specs.declared.fault.LoadFault.{LoadFault}
use Rattle.compiler.specs.declared.fault.LoadFault.TheVariants.{File, Graph, Plan, TooMany, Store}
use Rattle.compiler.specs.declared.program.Program.{Program}
use Rattle.compiler.specs.Faults.{from_read}
use Rattle.compiler.specs.Programs.{most_rows, Stands}

-- 9: graph and plan need more rows than 512, or than the store can have. The place is their number, 65,535 if they are more
pub record TooManyRows (count capacity rows : ℕ) : Type 0 where
  pub over : (most_rows < count) ⊎ (capacity < count)
  pub told : rows ≡ min count 65535

-- as a test
abbrev pub roomy : ℕ → ℕ → Bool
roomy count capacity = nat_le count most_rows && nat_le count capacity

-- numbers 1 to 9 of a file, a plan and a store of some capacity. Each presupposes that no lower number applies; the store itself
-- refuses nothing, since it is wiped and the rows are not more than its capacity
abbrev pub LoadApplies : (Kind → ℕ) → List ℕ → List ℕ → ℕ → LoadFault → Type 0
LoadApplies minimum file plan capacity (File e) = FileApplies file e
LoadApplies minimum file plan capacity (Graph e) = GraphApplies minimum (nodes_in file) e
LoadApplies minimum file plan capacity (Plan e) = PlanApplies (nodes_in file) plan e
LoadApplies minimum file plan capacity (TooMany rows) = TooManyRows (length (store_rows (nodes_in file) (chain_in plan))) capacity rows
LoadApplies minimum file plan capacity (Store e) = ⊥

-- what is said of a count of rows. It is counted by a formula that lists none, which is proved to give their number
abbrev pub room_fault : (count capacity : ℕ) → Option LoadFault
room_fault count capacity = unless (roomy count capacity) (TooMany (min count 65535))

-- the first fault by number: that of the file and its graph, else that of the plan, else that of the count of rows
abbrev pub load_fault : (Kind → ℕ) → List ℕ → List ℕ → ℕ → Option LoadFault
load_fault minimum file plan capacity =
    option_or (option_map from_read (read_fault minimum file))
    (option_or (option_map Plan (plan_fault (nodes_in file) plan)) (room_fault (store_count (nodes_in file) (chain_in plan)) capacity))

-- the store is wiped, and the rows of graph and plan are appended in order
abbrev pub storing : Meaning → List StoreRow → Meaning
storing m rows = appended_each (wiped m) (map (λ (r : StoreRow). r.row) rows)

-- what is promised of an accepted load: the file is read as a graph, the plan's chains keep its rules, the store holds their rows,
-- and the program stands for both
pub record Loaded (minimum : Kind → ℕ) (file plan : List ℕ) (before after : Meaning) (program : Program) : Type 0 where
  pub graph : List NodeView
  pub read : reading minimum file ≡ Ok graph
  pub lawful : Lawful graph (chain_in plan)
  pub rows : after ≡ storing before (store_rows graph (chain_in plan))
  -- so that it holds these rows in order, and no others
  pub holds : after.rows ≡ map (λ (r : StoreRow). fits r.row) (store_rows graph (chain_in plan))
  pub stands : Stands minimum program graph (chain_in plan)

-- what is known once nothing is refused
pub record Loadable (minimum : Kind → ℕ) (file plan : List ℕ) (capacity : ℕ) (c : Checked) : Type 0 where
  pub read : reading minimum file ≡ Ok (graph_view c.graph)
  pub same : chain_of c.chains ≡ chain_in plan
  pub lawful : Lawful (graph_view c.graph) (chain_of c.chains)
  pub size : length plan ≡ 4 * length (graph_view c.graph)
  pub few : store_count (graph_view c.graph) (chain_of c.chains) ≤ most_rows
  pub room : store_count (graph_view c.graph) (chain_of c.chains) ≤ capacity
