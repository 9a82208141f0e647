-- When a tap follows a plain one, and what each call promises.
use Rattle.std.specs.Prelude.{◌≡◌, ℕ, Bool, List, length, take, Some, None, Ok, Err, Option, Result}
use Rattle.headers.specs.declared.mark.Mark.{Mark}
use Rattle.std.specs.List.{AllByRecursion}
use Rattle.headers.specs.Part.{HasItsFields}
use Rattle.headers.specs.Table.{minimum, standard_table}
use Rattle.graph_reader.specs.Decoding.{nodes_in}
use Rattle.stores.specs.declared.question.Question.{Question}
use Rattle.stores.specs.Meaning.{Meaning, asked_each}
use Rattle.walks.specs.Rows.{store_rows}
use Rattle.plans.specs.Chains.{chain_in}
use Rattle.compiler.specs.declared.fault.LoadFault.{LoadFault}
use Rattle.compiler.specs.declared.program.Program.{Program}
use Rattle.compiler.specs.Loading.{storing}
use Rattle.readers.specs.declared.read.Reading.{Reading}
use Rattle.readers.specs.Reading.{Programmed}
use Rattle.taps.specs.declared.fault.PacketFault.{PacketFault}
use Rattle.taps.specs.declared.tap.Tap.{Tap}
use Rattle.taps.specs.Counts.{report_of}
use Rattle.taps.specs.Held.{report_in}
use Rattle.taps.specs.Plain.{GraphAndPlan, PlainTap, PlainLoad, PlainRead}

-- nothing is loaded in either, or the program stands for the graph and the plan, and the store's rows are theirs in order
abbrev pub LoadedAs : Option GraphAndPlan → Option Program → List (Question → Bool) → Type 0
LoadedAs None None rows = Unit {0}
LoadedAs None (Some program) rows = ⊥
LoadedAs (Some l) None rows = ⊥
LoadedAs (Some l) (Some program) rows = Programmed minimum l.graph l.chain program rows

-- the tap t, over a store of some meaning, follows the plain tap p: what is loaded is what p accepted last, and each count is p's
-- or, if that is more, 4,294,967,295
pub record Follows {S : Type 0} (meaning : S → Meaning) (t : Tap S) (p : PlainTap) : Type 0 where
  pub loaded : LoadedAs p.loaded t.inner.program (meaning t.inner.store).rows
  pub counts : report_in t.inner ≡ report_of p.counts

-- a load is answered as the plain tap's, and Q holds of the plain tap after it
pub record LoadFollows (p : PlainTap) (file plan : List ℕ) (capacity : ℕ) (r : Result (Unit {0}) LoadFault) (Q : PlainTap → Type 0) : Type 0 where
  pub next : PlainTap
  pub plain : PlainLoad p file plan capacity r next
  pub follows : Q next

-- a read likewise, with the marks that it leaves; and what the store means after it: as the turns' questions, put in order, leave it.
-- A meaning counts its questions and keeps none, so of these it is the number that this says
pub record ReadFollows (p : PlainTap) (packet : List ℕ) (before after : List Mark) (r : Result Reading PacketFault) (old new : Meaning) (Q : PlainTap → Type 0) : Type 0 where
  pub next : PlainTap
  pub questions : List Question
  pub plain : PlainRead p packet before r after questions next
  pub store : new ≡ asked_each old questions
  pub follows : Q next

-- what the store means after a load: the rows of the file's graph and the plan in place of its own; as before, if it is refused
abbrev pub after_load : Result (Unit {0}) LoadFault → (file plan : List ℕ) → Meaning → Meaning
after_load (Ok u) file plan m = storing m (store_rows (nodes_in file) (chain_in plan))
after_load (Err e) file plan m = m

-- the questions that a read tells: none, if it is refused
abbrev pub questions_in : Result Reading PacketFault → ℕ
questions_in (Ok r) = r.questions
questions_in (Err e) = 0

-- what a read does to a store, whatever is loaded: it puts as many questions as it tells, and does nothing else
pub record PutsQuestions (old new : Meaning) (r : Result Reading PacketFault) : Type 0 where
  pub questions : List Question
  pub many : length questions ≡ questions_in r
  pub after : new ≡ asked_each old questions

-- an accepted read's marks have their fields: none is refused by 17
abbrev pub MarksHaveFields : (size : ℕ) → List Mark → Result Reading PacketFault → Type 0
MarksHaveFields size marks (Ok r) = AllByRecursion (HasItsFields standard_table size) (take r.marks marks)
MarksHaveFields size marks (Err e) = Unit {0}
