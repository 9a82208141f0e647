-- A tap that loads once and reads once.
use Rattle.std.specs.Option.{option_or, option_map}
use Rattle.std.specs.Prelude.{◌≡◌, ℕ, ◌≤◌, List, length, take, Some, Ok, Err, Option, Result}
use Rattle.refusals.specs.declared.refusal.Refusal.{Refusal}
use Rattle.headers.specs.declared.mark.Mark.{Mark}
use Rattle.headers.specs.Table.{minimum}
use Rattle.graph_reader.specs.Decoding.{nodes_in}
use Rattle.stores.specs.declared.question.Question.{Question}
use Rattle.walks.specs.declared.outcome.Outcome.{Outcome}
use Rattle.walks.specs.Turns.{Reads}
use Rattle.plans.specs.Chains.{chain_in}
use Rattle.compiler.specs.declared.fault.LoadFault.{LoadFault}
use Rattle.compiler.specs.Faults.{of_load}
use Rattle.compiler.specs.Loading.{load_fault}
use Rattle.readers.specs.declared.read.Reading.{Reading}
use Rattle.taps.specs.declared.fault.PacketFault.{PacketFault}
use Rattle.taps.specs.Faults.{of_packet, packet_fault}
use Rattle.taps.specs.Plain.{PlainTap, fresh, PlainLoad, PlainRead}

-- the rows of the store
abbrev pub capacity : ℕ
capacity = 512

-- A plain tap with nothing loaded loads a graph file and a plan into a store of 512 rows, and then reads a packet, lent some marks:
-- what is answered, and the marks after it. The load is refused; or it is accepted, and the read is refused; or both are accepted
pub data Once (graph plan packet : List ℕ) (before : List Mark) : Result Reading Refusal → List Mark → Type 0 where
  unloaded : {e : LoadFault} {p : PlainTap} → PlainLoad fresh graph plan capacity (Err e) p → Once graph plan packet before (Err (of_load e)) before
  unread : {e : PacketFault} {p q : PlainTap} {after : List Mark} {qs : List Question} → PlainLoad fresh graph plan capacity (Ok tt) p → PlainRead p packet before (Err e) after qs q
      → Once graph plan packet before (Err (of_packet e)) after
  read : {r : Reading} {p q : PlainTap} {after : List Mark} {qs : List Question} → PlainLoad fresh graph plan capacity (Ok tt) p → PlainRead p packet before (Ok r) after qs q
      → Once graph plan packet before (Ok r) after

-- what is refused, where so many marks are lent: the first of 1 to 9, else the first of 10 and 11
abbrev pub refused_by : (graph plan : List ℕ) (size lent : ℕ) → Option Refusal
refused_by graph plan size lent = option_or (option_map of_load (load_fault minimum graph plan capacity)) (option_map of_packet (packet_fault {X = Unit {0}} size lent (Some tt)))

-- the turns over the rows of the file's graph and the plan read the packet so
abbrev pub ReadByFiles : (graph plan packet : List ℕ) → List Mark → Outcome → List Question → Type 0
ReadByFiles graph plan packet ms o qs = Reads minimum (nodes_in graph) (chain_in plan) packet ms o qs

-- the reading that such turns are told as
abbrev pub reading_of : List Mark → Outcome → List Question → Reading
reading_of ms o qs = record { outcome = o; marks = length ms; questions = length qs }

-- the marks of a reading are at most 32, and at least 32 were lent
pub record IsLent (lent : ℕ) (r : Reading) : Type 0 where
  pub few : r.marks ≤ 32
  pub enough : 32 ≤ lent

-- so are those of an answer, if it is a reading
abbrev pub LentEnough : ℕ → Result Reading Refusal → Type 0
LentEnough lent (Ok r) = IsLent lent r
LentEnough lent (Err e) = Unit {0}

-- a packet that the turns read so is answered so, and its marks stand at the front
pub record AnsweredBy (ms : List Mark) (o : Outcome) (qs : List Question) (result : Result Reading Refusal) (after : List Mark) : Type 0 where
  pub is : result ≡ Ok (reading_of ms o qs)
  pub front : take (length ms) after ≡ ms
