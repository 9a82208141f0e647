-- What is promised of a new tap, its calls and their replies.
use Rattle.std.specs.Prelude.{◌≡◌, ℕ, zero, ◌+◌, ◌%◌, ◌^◌, ◌≤◌, List, [], ◌∷◌, take, Ok, Err}
use Rattle.std.specs.List.{AllByRecursion}
use Rattle.headers.specs.declared.mark.Mark.{Mark}
use Rattle.stores.specs.Meaning.{Meaning}
use Rattle.taps.specs.declared.tap.Tap.{Tap}
use Rattle.taps.specs.Counts.{Counts, no_counts, counted, report_of}
use Rattle.taps.specs.Plain.{fresh, LoadAnswers}
use Rattle.taps.specs.Following.{questions_in}
use Rattle.runs.specs.declared.calls.Call.{Call}
use Rattle.runs.specs.declared.calls.Call.TheVariants.{Load, Read, Report}
use Rattle.runs.specs.declared.calls.Answer.{Answer}
use Rattle.runs.specs.declared.calls.Answer.TheVariants as answer
use Rattle.runs.specs.declared.calls.Reply.{Reply}
use Rattle.runs.specs.Successions.{World, world, Succession, RowsFit}

-- a load into a store of some capacity is accepted exactly where none of 1 to 9 applies, and else refused by the least that does
abbrev pub LoadRight : ℕ → Call → Answer → Type 0
LoadRight capacity (Load file plan) (answer.Load r) = LoadAnswers file.now plan.now capacity r
LoadRight capacity (Load file plan) (answer.Read r) = ⊥
LoadRight capacity (Load file plan) (answer.Report t) = ⊥
LoadRight capacity (Read packet room) a = Unit {0}
LoadRight capacity Report a = Unit {0}

-- a report tells these counts
abbrev pub ReportRight : Counts → Answer → Type 0
ReportRight c (answer.Load r) = Unit {0}
ReportRight c (answer.Read r) = Unit {0}
ReportRight c (answer.Report t) = t ≡ report_of c

-- the marks that an answer tells, at the front of a list: those of an accepted read
abbrev pub marks_told : Answer → List Mark → List Mark
marks_told (answer.Load r) ms = []
marks_told (answer.Read (Ok r)) ms = take r.marks ms
marks_told (answer.Read (Err e)) ms = []
marks_told (answer.Report t) ms = []

-- the counts, and what an answer with such marks adds to them
abbrev pub with_answer : Answer → List Mark → Counts → Counts
with_answer (answer.Load r) ms c = c
with_answer (answer.Read (Ok r)) ms c = counted ms r.outcome.ending c
with_answer (answer.Read (Err e)) ms c = c
with_answer (answer.Report t) ms c = c

-- the questions that an answer tells
abbrev pub questions_told : Answer → ℕ
questions_told (answer.Load r) = 0
questions_told (answer.Read r) = questions_in r
questions_told (answer.Report t) = 0

-- a read puts at most as many questions as it marks headers, and marks at most 32
abbrev pub FewTold : Answer → Type 0
FewTold (answer.Load r) = Unit {0}
FewTold (answer.Read (Ok r)) = (r.questions ≤ r.marks) × (r.marks ≤ 32)
FewTold (answer.Read (Err e)) = Unit {0}
FewTold (answer.Report t) = Unit {0}

module _ {N : ℕ} where
  -- each load, in its place
  abbrev pub LoadsRight : ℕ → List Call → List (Reply N) → Type 0
  LoadsRight capacity [] [] = Unit {0}
  LoadsRight capacity [] (r ∷ rs) = ⊥
  LoadsRight capacity (c ∷ cs) [] = ⊥
  LoadsRight capacity (c ∷ cs) (r ∷ rs) = LoadRight capacity c r.answer × LoadsRight capacity cs rs

  -- the counts with what a reply tells of a read
  abbrev pub with_reply : Reply N → Counts → Counts
  with_reply r c = with_answer r.answer (marks_told r.answer r.marks) c

  -- each report tells what the reads before it add up to
  abbrev pub ReportsAddUp : Counts → List (Reply N) → Type 0
  ReportsAddUp c [] = Unit {0}
  ReportsAddUp c (r ∷ rs) = ReportRight c r.answer × ReportsAddUp (with_reply r c) rs

  -- the questions that replies tell
  abbrev pub questions_told_in : List (Reply N) → ℕ
  questions_told_in [] = zero
  questions_told_in (r ∷ rs) = questions_told r.answer + questions_told_in rs

-- What is promised of a tap t that was new over the store s, after calls, with what stood in the places of their replies and what
-- stands there now
pub record Promised {S : Type 0} {N : ℕ} (meaning : S → Meaning) (s : S) (t : Tap S) (calls : List Call) (places replies : List (Reply N)) : Type 0 where
  -- the plain tap and the store beside it, after the last call
  pub last : World
  -- call by call, answers and marks are the plain tap's, from nothing loaded and nothing counted on, and a refused call changes nothing;
  -- a read's questions are as many as the turns', and as the marks where the plan has no chains
  pub answers : Succession (world fresh (meaning s)) calls places replies last
  -- a report tells what the reads before it add up to, each count cut at 4,294,967,295
  pub reports : ReportsAddUp no_counts replies
  -- the tap's store is the one beside the plain tap: no call but these has touched it
  pub store : meaning t.inner.store ≡ last.store
  -- it has the rows of the graph and plan last accepted
  pub rows : RowsFit last.tap.loaded (meaning t.inner.store).rows
  -- its count of questions grew by those that were told, modulo 2^64
  pub questions : (meaning t.inner.store).questions ≡ ((meaning s).questions + questions_told_in replies) % 2 ^ 64
  -- of each read these are at most its marks, which are at most 32
  pub few : AllByRecursion (λ (r : Reply N). FewTold r.answer) replies
  -- its capacity is as at first
  pub capacity : (meaning t.inner.store).capacity ≡ (meaning s).capacity
