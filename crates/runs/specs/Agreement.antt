-- When two taps agree.
use Rattle.std.specs.Prelude.{◌≡◌, ℕ, Bool, true, false, List, [], ◌∷◌, map, Ok, Err, Result}
use Rattle.std.specs.Borrow.{Bor}
use Rattle.headers.specs.declared.mark.Mark.{Mark}
use Rattle.readers.specs.declared.read.Reading.{Reading}
use Rattle.taps.specs.declared.fault.PacketFault.{PacketFault}
use Rattle.runs.specs.declared.calls.Call.{Call}
use Rattle.runs.specs.declared.calls.Call.TheVariants.{Load, Read, Report}
use Rattle.runs.specs.declared.calls.Answer.{Answer}
use Rattle.runs.specs.declared.calls.Answer.TheVariants as answer
use Rattle.runs.specs.declared.calls.Reply.{Reply}
use Rattle.runs.specs.Promises.{marks_told}

-- the same calls, but for the plans of loads
pub data AlikeCall : Call → Call → Type 0 where
  loads : {file other plan its : Bor (List ℕ)} → file.now ≡ other.now → AlikeCall (Load file plan) (Load other its)
  reads : {packet other : Bor (List ℕ)} {room its : ℕ} → packet.now ≡ other.now → room ≡ its → AlikeCall (Read packet room) (Read other its)
  reports : AlikeCall Report Report

pub data Alike : List Call → List Call → Type 0 where
  none : Alike [] []
  next : {c d : Call} {cs ds : List Call} → AlikeCall c d → Alike cs ds → Alike (c ∷ cs) (d ∷ ds)

-- whether a load was accepted
abbrev pub accepts : Answer → Bool
accepts (answer.Load (Ok u)) = true
accepts (answer.Load (Err e)) = false
accepts (answer.Read r) = false
accepts (answer.Report t) = false

-- a read's answer without its questions
abbrev pub unasked : Result Reading PacketFault → Result Reading PacketFault
unasked (Ok r) = Ok (record { outcome = r.outcome; marks = r.marks; questions = 0 })
unasked (Err e) = Err e

-- what of an answer is the same whatever the plan: all but a load's fault and a read's questions
abbrev pub plan_free : Answer → Answer
plan_free (answer.Load r) = answer.Load (Ok tt)
plan_free (answer.Read r) = answer.Read (unasked r)
plan_free (answer.Report t) = answer.Report t

module _ {N : ℕ} where
  abbrev pub accepts_load : Reply N → Bool
  accepts_load r = accepts r.answer

  -- what is seen of a reply: that much of its answer, and the marks of an accepted read. What stands behind them is the place's own
  abbrev pub seen : Reply N → Answer × List Mark
  seen r = (plan_free r.answer, marks_told r.answer r.marks)

  -- where both accept the same loads, they agree on all reports and on all reads' marks and answers, save questions
  abbrev pub Agree : (calls others : List Call) → (replies answers : List (Reply N)) → Type 0
  Agree calls others replies answers = Alike calls others → map accepts_load replies ≡ map accepts_load answers → map seen replies ≡ map seen answers
