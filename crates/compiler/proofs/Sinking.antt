-- Rows put one after the other.
use Rattle.std.proofs.Common.{◌≡◌, ℕ, ◌+◌, ◌-◌, ◌≤◌, Bool, List, [], ◌++◌, map, length, sym, refl, ap, ◌∙◌, subst, ap₂, arith}
use Rattle.std.proofs.lemmas.List.{append-nil, append_assoc, map-append, length-append, length-map}
use Rattle.stores.specs.declared.question.Question.{Question}
use Rattle.stores.specs.Meaning.{Meaning, holding}
use Rattle.walks.specs.declared.action.Action.{Action}
use Rattle.compiler.specs.Programs.{most_rows}
use Rattle.compiler.specs.Sinks.{Line, Sink, sink, sunk, Room}

-- the two halves of rows
abbrev fits_in : List Line → List (Question → Bool)
fits_in = map (λ (r : Line). r.fits)

abbrev actions_in : List Line → List Action
actions_in = map (λ (r : Line). r.action)

abbrev after : Meaning → List (Question → Bool) → ℕ → List Action → Sink
after m rows takes acts = sink (holding m rows takes) acts

pub sunk_none : (s : Sink) → sunk s [] ≡ s
sunk_none s =
    let t : s.meaning.takes - 0 ≡ s.meaning.takes = omega arith in
    ap₂ (λ rows takes. after s.meaning rows takes (s.actions ++ [])) (append-nil s.meaning.rows) t ∙ ap (sink s.meaning) (append-nil s.actions)

pub sunk_append : (s : Sink) (xs ys : List Line) → sunk s (xs ++ ys) ≡ sunk (sunk s xs) ys
sunk_append s xs ys =
    let t : s.meaning.takes - length (xs ++ ys) ≡ s.meaning.takes - length xs - length ys = omega (arith, length-append xs ys) in
    ap₂ (λ rows takes. after s.meaning rows takes (s.actions ++ actions_in (xs ++ ys)))
    (ap (λ zs. s.meaning.rows ++ zs) (map-append (λ (r : Line). r.fits) xs ys) ∙ sym (append_assoc s.meaning.rows (fits_in xs) (fits_in ys))) t
    ∙ ap (sink (holding s.meaning ((s.meaning.rows ++ fits_in xs) ++ fits_in ys) (s.meaning.takes - length xs - length ys)))
    (ap (λ zs. s.actions ++ zs) (map-append (λ (r : Line). r.action) xs ys) ∙ sym (append_assoc s.actions (actions_in xs) (actions_in ys)))

-- what is still to come has room, and gives the whole
pub record Going (s : Sink) (rest : List Line) (whole : Sink) : Type 0 where
  pub gives : sunk s rest ≡ whole
  pub taken : length rest ≤ s.meaning.takes
  pub beside : length s.actions + length rest ≤ most_rows

pub going_same : (s : Sink) (xs ys : List Line) (whole : Sink) → xs ≡ ys → Going s xs whole → Going s ys whole
going_same s xs ys whole e h = subst (λ zs. Going s zs whole) e h

pub going_on : (s t : Sink) (xs ys : List Line) (whole : Sink) → t ≡ sunk s xs → Going s (xs ++ ys) whole → Going t ys whole
going_on s t xs ys whole e h =
    subst (λ u. Going u ys whole) (sym e) (record {
      gives = sym (sunk_append s xs ys) ∙ h.gives;
      taken = omega (arith, h.taken, length-append xs ys);
      beside = omega (arith, h.beside, length-append xs ys, length-append s.actions (actions_in xs), length-map xs (λ (r : Line). r.action));
    })

pub going_done : (s whole : Sink) → Going s [] whole → s ≡ whole
going_done s whole h = sym (sunk_none s) ∙ h.gives

-- room for the next rows
pub going_rooms : {X : Type 0} (s : Sink) (f : X → Line) (es : List X) (ys : List Line) (whole : Sink) → Going s (map f es ++ ys) whole → Room s es
going_rooms s f es ys whole h =
    record {
      taken = omega (arith, h.taken, length-append (map f es) ys, length-map es f);
      beside = omega (arith, h.beside, length-append (map f es) ys, length-map es f);
    }

-- room for as many other rows
pub room_like : {X Y : Type 0} (s : Sink) (xs : List X) (ys : List Y) → length xs ≡ length ys → Room s xs → Room s ys
room_like s xs ys e r = record { taken = omega (arith, r.taken); beside = omega (arith, r.beside) }

-- rows that have room are going
pub going_begin : {X : Type 0} (s : Sink) (f : X → Line) (xs : List X) → Room s xs → Going s (map f xs) (sunk s (map f xs))
going_begin s f xs r = record { gives = refl; taken = omega (arith, r.taken, length-map xs f); beside = omega (arith, r.beside, length-map xs f) }

pub going_last : {X : Type 0} (s : Sink) (f : X → Line) (es : List X) (whole : Sink) → Going s (map f es) whole → Room s es
going_last s f es whole h = going_rooms s f es [] whole (going_same s (map f es) (map f es ++ []) whole (sym (append-nil (map f es))) h)
