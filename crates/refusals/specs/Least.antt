-- Which refusal a call answers: the least of those that apply.
use Rattle.std.specs.Prelude.{◌≡◌, ℕ, ◌<◌, ◌≤◌, ◌⊎◌, Ok, Err, Result}
use Rattle.refusals.specs.declared.refusal.Refusal.{Refusal}

-- the highest number of the table
abbrev pub last_number : ℕ
last_number = 17

-- The rank of a number: refusals are tried in the order of their ranks. Today a number is its own rank. It is shut, so that proofs
-- rest on its laws alone and not on that: equal ranks are equal numbers, and up to the last number a lower one has the lower rank
unfoldable pub rank_of : ℕ → ℕ
rank_of n = n

abbrev pub rank : Refusal → ℕ
rank r = rank_of r.number

-- the lower rank goes first, then the lower first place (a node or a pair), then the lower second (a row or a byte)
abbrev pub NotAfter : Refusal → Refusal → Type 0
NotAfter a b = (rank a < rank b) ⊎ ((rank a ≡ rank b) × ((a.first < b.first) ⊎ ((a.first ≡ b.first) × (a.second ≤ b.second))))

module _ {E : Type 0} (refusal : E → Refusal) (Applies : E → Type 0) where
  -- the fault applies, and goes before every other that applies. So the condition of a fault need only make sense where none before it applies
  pub record Least (e : E) : Type 0 where
    pub applies : Applies e
    pub first : (d : E) → Applies d → NotAfter (refusal e) (refusal d)

  -- a call answers the least fault that applies, and a value exactly where none does; what is then said of the value
  abbrev pub Answers : {X : Type 0} → (X → Type 0) → Result X E → Type 0
  Answers Says (Err e) = Least e
  Answers Says (Ok x) = ((e : E) → Applies e → ⊥) × Says x
