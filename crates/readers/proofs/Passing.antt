-- The headers of a turn, marked one behind the other.
use Rattle.std.proofs.Common.{◌≡◌, ℕ, min, List, [], ◌∷◌, ◌++◌, Option, refl, sym, ap, ◌∙◌, subst}
use Rattle.std.proofs.lemmas.List.{append_assoc, append-nil}
use Rattle.headers.specs.declared.mark.Mark.{Mark}
use Rattle.patterns.specs.declared.row.Target.{Target}
use Rattle.walker.specs.Steps.{step_at}
use Rattle.walker.specs.declared.step.Step.{Step}
use Rattle.readers.specs.declared.turn.Turn.{Turn}
use Rattle.readers.specs.Fronts.{Written}
use Rattle.readers.specs.Headers.{end_of}
use Rattle.readers.specs.Asking.{last_of, marks_of, Passes}

pub last_is : (ms : List Mark) (m : Mark) → last_of (ms ++ m ∷ []) ≡ m
last_is [] m = refl
last_is (n ∷ []) m = refl
last_is (n ∷ o ∷ ms) m = last_is (o ∷ ms) m

-- Some are marked, the last of them `last`, and those that are left stand behind them in the whole
pub record Passing (old : List Mark) (from : ℕ) (now : List Mark) (count : ℕ) (last : Mark) (left whole : List Mark) : Type 0 where
  pub ms : List Mark
  pub written : (before ws : List Mark) → Written before old from ws → Written before now count (ws ++ (ms ++ last ∷ []))
  pub rest : (ms ++ last ∷ []) ++ left ≡ whole

module _ (old : List Mark) (from : ℕ) (now : List Mark) (count : ℕ) (last : Mark) (left whole : List Mark) (w : Passing old from now count last left whole) where
  -- one header more
  pub passing_more : (m : Mark) (others : List Mark) → left ≡ m ∷ others → (new : List Mark) (n : ℕ)
      → ((before ws : List Mark) → Written before now count ws → Written before new n (ws ++ m ∷ [])) → Passing old from new n m others whole
  passing_more m others e new n put = record {
    ms = w.ms ++ last ∷ [];
    written = λ before ws h. subst (λ xs. Written before new n xs) (append_assoc ws (w.ms ++ last ∷ []) (m ∷ [])) (put before (ws ++ (w.ms ++ last ∷ [])) (w.written before ws h));
    rest = append_assoc (w.ms ++ last ∷ []) (m ∷ []) others ∙ ap (λ xs. (w.ms ++ last ∷ []) ++ xs) (sym e) ∙ w.rest;
  }

  -- none is left
  module _ (none : left ≡ []) where
    all_passed : w.ms ++ last ∷ [] ≡ whole
    all_passed = sym (append-nil (w.ms ++ last ∷ [])) ∙ ap (λ xs. (w.ms ++ last ∷ []) ++ xs) (sym none) ∙ w.rest

    passing_last : last ≡ last_of whole
    passing_last = sym (last_is w.ms last) ∙ ap last_of all_passed

    pub passing_done : (turn : Turn) (behind : List ℕ) → whole ≡ marks_of turn behind → (t : Option Target) (s : Step) → s ≡ step_at last t (min (end_of last) 65535)
        → Passes turn behind t old from now (record { marks = count; step = s })
    passing_done turn behind is t s leads = record {
      marks = λ before ws h. subst (λ xs. Written before now count (ws ++ xs)) (all_passed ∙ is) (w.written before ws h);
      leads = leads ∙ ap (λ m. step_at m t (min (end_of m) 65535)) (passing_last ∙ ap last_of is);
    }
