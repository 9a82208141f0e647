-- Successions of calls, on a plain tap and a store beside it.
use Rattle.std.specs.Prelude.{◌≡◌, ℕ, Bool, List, [], ◌∷◌, ◌++◌, map, take, drop, Some, None, Option, Result}
use Rattle.std.specs.Borrow.{Bor}
use Rattle.headers.specs.declared.mark.Mark.{Mark}
use Rattle.stores.specs.declared.question.Question.{Question}
use Rattle.stores.specs.Fits.{fits}
use Rattle.stores.specs.Meaning.{Meaning, asked_each}
use Rattle.walks.specs.Rows.{StoreRow, store_rows}
use Rattle.compiler.specs.declared.fault.LoadFault.{LoadFault}
use Rattle.readers.specs.declared.read.Reading.{Reading}
use Rattle.taps.specs.declared.fault.PacketFault.{PacketFault}
use Rattle.taps.specs.Counts.{report_of}
use Rattle.taps.specs.Plain.{GraphAndPlan, PlainTap, LoadLeaves, PlainRead}
use Rattle.taps.specs.Following.{after_load}
use Rattle.runs.specs.declared.calls.Call.{Call}
use Rattle.runs.specs.declared.calls.Call.TheVariants.{Load, Read, Report}
use Rattle.runs.specs.declared.calls.Answer.{Answer}
use Rattle.runs.specs.declared.calls.Answer.TheVariants as answer
use Rattle.runs.specs.declared.calls.Reply.{Reply}

-- a plain tap, and what the store beside it means
pub record World : Type 0 where
  pub tap : PlainTap
  pub store : Meaning

abbrev pub world : PlainTap → Meaning → World
world p m = record { tap = p; store = m }

-- A call where some marks stand: its answer, the marks after it, and the world after it. What a load is refused for is said apart
-- (`LoadRight` in `Promises`). An accepted load puts the rows of graph and plan into the store. A read is lent the first marks, as many
-- as its room says or all, and puts its questions to the store; the marks behind those that it is lent stay. A load and a report change
-- no mark, and a report changes nothing
pub data Answered (w : World) : Call → (before : List Mark) → Answer → (after : List Mark) → World → Type 0 where
  load : {file plan : Bor (List ℕ)} {marks : List Mark} {r : Result (Unit {0}) LoadFault} {next : PlainTap} → LoadLeaves w.tap file.now plan.now r next
      → Answered w (Load file plan) marks (answer.Load r) marks (world next (after_load r file.now plan.now w.store))
  read : {packet : Bor (List ℕ)} {room : ℕ} {before front : List Mark} {r : Result Reading PacketFault} {qs : List Question} {next : PlainTap}
      → PlainRead w.tap packet.now (take room before) r front qs next
      → Answered w (Read packet room) before (answer.Read r) (front ++ drop room before) (world next (asked_each w.store qs))
  report : {marks : List Mark} → Answered w Report marks (answer.Report (report_of w.tap.counts)) marks w

-- the store's rows fit, place by place, the questions that the rows of the graph and plan last accepted fit
abbrev pub RowsFit : Option GraphAndPlan → List (Question → Bool) → Type 0
RowsFit None rows = Unit {0}
RowsFit (Some l) rows = rows ≡ map (λ (r : StoreRow). fits r.row) (store_rows l.graph l.chain)

abbrev pub RowsHeld : World → Type 0
RowsHeld w = RowsFit w.tap.loaded w.store.rows

-- calls one after the other, what stands in the place of each reply and what is left there, from a world to a world; the store's rows
-- are right after each
pub data Succession {N : ℕ} : World → List Call → (before after : List (Reply N)) → World → Type 0 where
  none : {w : World} → Succession w [] [] [] w
  next : {w u v : World} {call : Call} {calls : List Call} {place reply : Reply N} {places replies : List (Reply N)}
      → Answered w call place.marks reply.answer reply.marks u → RowsHeld u → Succession u calls places replies v
      → Succession w (call ∷ calls) (place ∷ places) (reply ∷ replies) v
