-- What a call of a C host answers, and the area after it.
use Rattle.std.specs.Prelude.{◌≡◌, ℕ, ◌≤◌, List, length, Ok, Err, Result}
use Rattle.refusals.specs.declared.refusal.Refusal.{Refusal}
use Rattle.headers.specs.declared.mark.Mark.{Mark}
use Rattle.walks.specs.Outcomes.{ending_number}
use Rattle.readers.specs.declared.read.Reading.{Reading}
use Rattle.chost.specs.Number.{number_of}
use Rattle.chost.specs.Area.{room, laid, with_front}
use Rattle.chost.specs.Once.{Once}

-- the ending's number, 0 or 13 to 16; or the refusal's number with its places
abbrev pub answer_of : Result Reading Refusal → ℕ
answer_of (Ok r) = ending_number r.outcome.ending
answer_of (Err e) = number_of e

-- the reading with its marks at the front of the area; or the area as it was
abbrev pub area_after : Result Reading Refusal → List Mark → List ℕ → List ℕ
area_after (Ok r) marks area = with_front (laid r marks) area
area_after (Err e) marks area = area

-- what is asked before a reading is laid out: it has at most 32 marks, they are there, and the area has room for 32
pub record LaysOut (marks area : ℕ) (r : Reading) : Type 0 where
  pub few : r.marks ≤ 32
  pub there : r.marks ≤ marks
  pub room : 198 ≤ area

abbrev pub CanBeTold : Result Reading Refusal → (marks area : ℕ) → Type 0
CanBeTold (Ok r) marks area = LaysOut marks area r
CanBeTold (Err e) marks area = Unit {0}

-- A call is answered as by the plain tap, which is lent as many marks as the area has room for
pub record Called (graph plan packet area : List ℕ) (answer : ℕ) (after : List ℕ) : Type 0 where
  pub lent : List Mark
  pub marks : List Mark
  pub result : Result Reading Refusal
  pub room_lent : length lent ≡ room (length area)
  pub once : Once graph plan packet lent result marks
  pub answered : answer ≡ answer_of result
  pub left : after ≡ area_after result marks area
