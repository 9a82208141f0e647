-- Questions one after the other change nothing but their count. Assumes nothing.
use Rattle.std.proofs.Common.{◌≡◌, ◌+◌, ◌%◌, ◌^◌, ◌<◌, List, [], ◌∷◌, ◌++◌, length, refl, ◌∙◌, arith}
use Rattle.stores.specs.declared.question.Question.{Question}
use Rattle.stores.specs.Meaning.{Meaning, asked, asked_each}

-- one question more, behind others
pub asked_push : (m : Meaning) (qs : List Question) (q : Question) → asked_each m (qs ++ q ∷ []) ≡ asked (asked_each m qs) q
asked_push m [] q = refl
asked_push m (r ∷ qs) q = asked_push (asked m r) qs q

pub asked_rows : (m : Meaning) (qs : List Question) → (asked_each m qs).rows ≡ m.rows
asked_rows m [] = refl
asked_rows m (q ∷ qs) = asked_rows (asked m q) qs

pub asked_capacity : (m : Meaning) (qs : List Question) → (asked_each m qs).capacity ≡ m.capacity
asked_capacity m [] = refl
asked_capacity m (q ∷ qs) = asked_capacity (asked m q) qs

-- a count that is told in 64 bits grows by as many as there are
pub asked_questions : (m : Meaning) (qs : List Question) → m.questions < 2 ^ 64 → (asked_each m qs).questions ≡ (m.questions + length qs) % 2 ^ 64
asked_questions m [] h = omega arith
asked_questions m (q ∷ qs) h = asked_questions (asked m q) qs (omega arith) ∙ omega arith
