-- The worked examples: the sample graph's file and two plans, byte by byte, the rows that they make, and packets that are read by them.
use Rattle.std.specs.Prelude.{◌≡◌, ℕ, zero, suc, List, [], ◌∷◌, ◌++◌, length, take, replicate, Some, None, Ok, Option, slice_set}
use Rattle.std.specs.List.{AllByRecursion}
use Rattle.refusals.specs.declared.refusal.Layer.TheVariants as layer
use Rattle.refusals.specs.declared.refusal.Refusal.{Refusal}
use Rattle.refusals.specs.Least.{Least}
use Rattle.headers.specs.declared.kinds.Kind.{Kind}
use Rattle.headers.specs.declared.kinds.Kind.TheVariants.{Ethernet, Vlan, Ipv4, Tcp}
use Rattle.headers.specs.declared.mark.Mark.{Mark}
use Rattle.headers.specs.Kinds.{kind_number}
use Rattle.headers.specs.Table.{minimum}
use Rattle.patterns.specs.declared.row.Target.{Target}
use Rattle.patterns.specs.declared.row.Target.TheVariants as to
use Rattle.patterns.specs.Splitting.{split_of}
use Rattle.graphs.specs.View.{NodeView}
use Rattle.graph_reader.specs.Encoding.{encode}
use Rattle.graph_reader.specs.Decoding.{nodes_in}
use Rattle.graph_reader.specs.Reading.{reading}
use Rattle.stores.specs.declared.question.Question.{Question}
use Rattle.walks.specs.declared.outcome.Ending.TheVariants.{Done, Cut, Short, Unfit, Dropped}
use Rattle.walks.specs.declared.outcome.Outcome.{Outcome}
use Rattle.walks.specs.Outcomes.{outcome}
use Rattle.walks.specs.Walk.{PlainWalk}
use Rattle.walks.specs.Rows.{Plan, action, StoreRow, state_of, store_rows}
use Rattle.walks.specs.Plans.{Lawful, window, store_count}
use Rattle.walks.specs.Turns.{Reads}
use Rattle.walks.specs.Theorems.{Accepted}
use Rattle.walks.specs.Samples.{ethernet_with, tag_or_ipv4, behind_ethernet, four_nodes}
use Rattle.plans.specs.Chains.{chain_in}
use Rattle.compiler.specs.declared.fault.LoadFault.{LoadFault}
use Rattle.compiler.specs.declared.fault.LoadFault.TheVariants.{TooMany}
use Rattle.compiler.specs.Faults.{of_load}
use Rattle.compiler.specs.Loading.{LoadApplies}
use Rattle.plan_examples.specs.SampleBytes.{sample_file, file_without_last_row, plan_without_chains, plan_with_tag}

-- The graph and the plans, as the bytes say them

abbrev pub sample : List NodeView
sample = nodes_in sample_file

abbrev pub without_chains : Plan
without_chains = chain_in plan_without_chains

abbrev pub with_tag : Plan
with_tag = chain_in plan_with_tag

-- no node has a chain
abbrev pub no_chains : Plan
no_chains n = []

-- node 0 has the chain 1
abbrev pub tag_in_one_look : Plan
tag_in_one_look zero = 1 ∷ []
tag_in_one_look (suc n) = []

-- the sample graph without the last row of node 0, which drops what is left
abbrev pub no_catch_all : List NodeView
no_catch_all = ethernet_with (tag_or_ipv4 []) ∷ behind_ethernet

-- Packets

-- the four headers, each as short as it can be: type 0x8100, inner type 0x0800, IPv4 of five words with protocol 6, TCP of five words
abbrev pub tagged_tcp : List ℕ
tagged_tcp = slice_set (slice_set (slice_set (slice_set (slice_set (replicate 58 0) 12 0x81) 16 0x08) 18 0x45) 27 6) 50 0x50

-- the flag 'do not fragment', and the first fragment offset
abbrev pub not_to_fragment : List ℕ
not_to_fragment = slice_set tagged_tcp 24 0x40

abbrev pub later_fragment : List ℕ
later_fragment = slice_set tagged_tcp 25 0x01

-- one byte too few for the tag
abbrev pub cut_inside_tag : List ℕ
cut_inside_tag = take 17 tagged_tcp

-- a tag, and an inner type that is not looked into, 0x0806
abbrev pub tagged_arp : List ℕ
tagged_arp = slice_set (take 18 tagged_tcp) 17 0x06

-- nothing behind a type of IPv4
abbrev pub cut_before_ipv4 : List ℕ
cut_before_ipv4 = slice_set (take 14 tagged_tcp) 12 0x08

-- IPv4 of four words
abbrev pub short_ipv4 : List ℕ
short_ipv4 = slice_set tagged_tcp 18 0x44

-- IPv6, which the graph does not know
abbrev pub ipv6 : List ℕ
ipv6 = slice_set (slice_set (replicate 60 0) 12 0x86) 13 0xdd

-- Marks

abbrev pub mark : ℕ → Kind → ℕ → ℕ → Mark
mark n k at size = record { node = n; kind = kind_number k; offset = at; length = size }

abbrev pub four_marks : List Mark
four_marks = mark 0 Ethernet 0 14 ∷ mark 1 Vlan 14 4 ∷ mark 2 Ipv4 18 20 ∷ mark 3 Tcp 38 20 ∷ []

-- The table

-- a packet, its marks, how it ends, and how many questions are put without chains and with the tag in one look
pub record Example : Type 0 where
  pub packet : List ℕ
  pub marks : List Mark
  pub ending : Outcome
  pub singly : ℕ
  pub planned : ℕ

abbrev pub example : List ℕ → List Mark → Outcome → ℕ → ℕ → Example
example p ms o q r = record { packet = p; marks = ms; ending = o; singly = q; planned = r }

abbrev pub examples : List Example
examples =
    example tagged_tcp four_marks (outcome Done 3 58) 4 3
    ∷ example not_to_fragment four_marks (outcome Done 3 58) 4 3
    ∷ example later_fragment (take 3 four_marks) (outcome Done 2 38) 3 2
    ∷ example cut_inside_tag (take 1 four_marks) (outcome Cut 1 14) 1 1
    ∷ example tagged_arp (take 2 four_marks) (outcome Done 1 18) 2 1
    ∷ example cut_before_ipv4 (take 1 four_marks) (outcome Cut 2 14) 1 1
    ∷ example [] [] (outcome Cut 0 0) 0 0
    ∷ example short_ipv4 (take 2 four_marks) (outcome Short 2 18) 2 1
    ∷ example ipv6 (take 1 four_marks) (outcome Dropped 0 0) 1 1
    ∷ []

-- the turns under a plan read so, with so many questions
abbrev pub ReadWith : Plan → Example → ℕ → Type 0
ReadWith chain e n = (qs : List Question) × Reads minimum sample chain e.packet e.marks e.ending qs × (length qs ≡ n)

pub record Stands (e : Example) : Type 0 where
  pub walks : PlainWalk minimum sample e.packet e.marks e.ending
  pub one_by_one : ReadWith without_chains e e.singly
  pub in_one_look : ReadWith with_tag e e.planned

-- The rows

-- a row under a state: value and mask of eight bytes, headers passed beyond the first, target
abbrev pub stored : ℕ → ℕ → ℕ → ℕ → Option Target → StoreRow
stored s v m k t = record { row = record { state = state_of s; value = v; mask = m }; action = action k t }

-- without chains: the rows of each node
abbrev pub plain_rows : List StoreRow
plain_rows =
    stored 0 0x8100000000000000 0xffff000000000000 0 (Some (to.Node 1))
    ∷ stored 0 0x0800000000000000 0xffff000000000000 0 (Some (to.Node 2))
    ∷ stored 0 0x0000000000000000 0x0000000000000000 0 (Some to.Dropped)
    ∷ stored 1 0x0800000000000000 0xffff000000000000 0 (Some (to.Node 2))
    ∷ stored 1 0x0000000000000000 0x0000000000000000 0 (Some to.Done)
    ∷ stored 2 0x0000060000000000 0x1fffff0000000000 0 (Some (to.Node 3))
    ∷ stored 2 0x0000000000000000 0x0000000000000000 0 (Some to.Done)
    ∷ stored 3 0x0000000000000000 0x0000000000000000 0 (Some to.Done)
    ∷ []

-- the chain of node 0: its first row joined with both rows of the tag, its closing row, and its other rows as they are
abbrev pub tag_rows : List StoreRow
tag_rows =
    stored 32 0x8100080000000000 0xffffffff00000000 1 (Some (to.Node 2))
    ∷ stored 32 0x8100000000000000 0xffff000000000000 1 (Some to.Done)
    ∷ stored 32 0x8100000000000000 0xffff000000000000 1 None
    ∷ stored 32 0x0800000000000000 0xffff000000000000 0 (Some (to.Node 2))
    ∷ stored 32 0x0000000000000000 0x0000000000000000 0 (Some to.Dropped)
    ∷ []

-- The refusal of a store that is too small

abbrev pub ninth : ℕ → Refusal
ninth rows = record { number = 9; layer = layer.Store; first = rows; second = 0 }

-- All of them

pub record WorkedExamples : Type 0 where
  -- the file is the encoding of the sample graph and is read as it, without a refusal
  pub file : sample_file ≡ encode four_nodes
  pub read : reading minimum sample_file ≡ Ok four_nodes
  pub graph : sample ≡ four_nodes
  pub accepted : Accepted minimum sample
  -- the file with a row fewer is read as the graph with a row fewer
  pub read_without_row : reading minimum file_without_last_row ≡ Ok no_catch_all
  -- the plans say the chains, and the chain of node 0 keeps the rules and has a window of 18 bytes
  pub bare : without_chains ≡ no_chains
  pub tagged : with_tag ≡ tag_in_one_look
  pub lawful : Lawful sample with_tag
  pub window : window sample 0 (with_tag 0) ≡ 18
  -- nine packets, and one that fits no row where node 0 has a row fewer
  pub packets : AllByRecursion Stands examples
  pub unfit : PlainWalk minimum (nodes_in file_without_last_row) ipv6 (take 1 four_marks) (outcome Unfit 0 0)
  -- 8 rows without chains, 13 with the tag
  pub rows : store_rows sample without_chains ≡ plain_rows
  pub rows_with_tag : store_rows sample with_tag ≡ plain_rows ++ tag_rows
  pub count : store_count sample without_chains ≡ 8
  pub count_with_tag : store_count sample with_tag ≡ 13
  -- a store that can have 13 rows serves; one of 12 is refused by 9, at place 13, and by nothing before that
  pub served : (e : LoadFault) → LoadApplies minimum sample_file plan_with_tag 13 e → ⊥
  pub refused : Least of_load (LoadApplies minimum sample_file plan_with_tag 12) (TooMany 13)
  pub told : of_load (TooMany 13) ≡ ninth 13
  -- 0 to 0x05FF, every number below the first EtherType, 0x0600, is two blocks: 0 to 0x03FF and 0x0400 to 0x05FF
  pub below : split_of 0 0x05ff ≡ record { value = 0x0000; mask = 0xfc00 } ∷ record { value = 0x0400; mask = 0xfe00 } ∷ []
  -- 1 to 0xFFFE is thirty: 1, 2, 4 and so on to 2^14 numbers, and then down again
  pub widest : length (split_of 1 0xfffe) ≡ 30
