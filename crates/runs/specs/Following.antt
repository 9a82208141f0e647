-- Taps whose calls are answered as a plain tap's.
use Rattle.std.specs.Prelude.{◌≡◌, ℕ, List, length}
use Rattle.std.specs.List.{AllByRecursion}
use Rattle.headers.specs.declared.mark.Mark.{Mark}
use Rattle.stores.specs.Meaning.{Meaning}
use Rattle.taps.specs.declared.tap.Tap.{Tap}
use Rattle.taps.specs.Plain.{PlainTap, fresh}
use Rattle.taps.specs.Following.{Follows}
use Rattle.runs.specs.declared.calls.Call.{Call}
use Rattle.runs.specs.declared.calls.Answer.{Answer}
use Rattle.runs.specs.declared.calls.Reply.{Reply}
use Rattle.runs.specs.Successions.{World, world, Answered, Succession}
use Rattle.runs.specs.Promises.{LoadRight, LoadsRight}

module _ {S : Type 0} (meaning : S → Meaning) where
  -- a tap is in a world
  pub record InWorld (t : Tap S) (w : World) : Type 0 where
    -- it follows the plain tap there
    pub follows : Follows meaning t w.tap
    -- and its store means what the store there does
    pub store : meaning t.inner.store ≡ w.store

  -- from t to u, a call is answered as by the plain tap p, and leaves the marks as that does
  pub record AnsweredAs (p : PlainTap) (t u : Tap S) (call : Call) (before : List Mark) (answer : Answer) (after : List Mark) : Type 0 where
    -- the plain tap and the store beside it after the call
    pub end : World
    pub answered : Answered (world p (meaning t.inner.store)) call before answer after end
    -- a load is accepted exactly where nothing is against it, and else refused by the least that is
    pub loads : LoadRight (meaning t.inner.store).capacity call answer
    -- where u is
    pub there : InWorld u end

  -- and no other answer and no other marks are the plain tap's, which ends where u is
  abbrev pub AnsweredOnly : PlainTap → (t u : Tap S) → Call → (before : List Mark) → Answer → (after : List Mark) → Type 0
  AnsweredOnly p t u call before answer after =
      (other : Answer) (marks : List Mark) (end : World) → Answered (world p (meaning t.inner.store)) call before other marks end
      → LoadRight (meaning t.inner.store).capacity call other → (other ≡ answer) × (marks ≡ after) × InWorld u end

  -- so is a succession of calls
  pub record RunAs {N : ℕ} (p : PlainTap) (t u : Tap S) (calls : List Call) (places replies : List (Reply N)) : Type 0 where
    -- the plain tap and the store beside it after the last call
    pub end : World
    -- call by call, loads, reads and reports are answered as the plain tap's; the store gets the rows of an accepted load and a read's
    -- questions, and nothing else
    pub answered : Succession (world p (meaning t.inner.store)) calls places replies end
    -- each load is accepted exactly where nothing is against it, and else refused by the least that is
    pub loads : LoadsRight (meaning t.inner.store).capacity calls replies
    -- in each place stand N marks
    pub size : AllByRecursion (λ (r : Reply N). length r.marks ≡ N) places
    -- where u is
    pub there : InWorld u end

  -- and no other replies are those of such a succession, which ends where u is
  abbrev pub RunOnly : {N : ℕ} → PlainTap → (t u : Tap S) → List Call → (places replies : List (Reply N)) → Type 0
  RunOnly {N} p t u calls places replies =
      (others : List (Reply N)) (end : World) → Succession (world p (meaning t.inner.store)) calls places others end
      → LoadsRight (meaning t.inner.store).capacity calls others → (others ≡ replies) × InWorld u end

  -- a tap t that was new over the store s is wherever plain taps end by such calls and replies, from nothing loaded and nothing counted on
  abbrev pub EndsThere : {N : ℕ} → S → Tap S → List Call → (places replies : List (Reply N)) → Type 0
  EndsThere {N} s t calls places replies = (end : World) → Succession (world fresh (meaning s)) calls places replies end → InWorld t end
