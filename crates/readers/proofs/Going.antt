-- A reading in progress, and where it ends.
use Rattle.std.proofs.Common.{◌≡◌, ℕ, suc, ◌+◌, ◌-◌, ◌<◌, ◌≤◌, min, List, [], ◌∷◌, ◌++◌, length, Ok, Err, Result, ◌⊎◌, inl, inr, sym, refl, ap, ap₂, ◌∙◌, subst, arith}
use Rattle.std.proofs.lemmas.List.{append_assoc, append-nil, length_push}
use Rattle.headers.specs.declared.mark.Mark.{Mark}
use Rattle.stores.specs.declared.question.Question.{Question}
use Rattle.stores.specs.Meaning.{Meaning, answer, asked, asked_each}
use Rattle.stores.proofs.Asked.{asked_push, asked_rows}
use Rattle.walks.specs.declared.action.Action.{Action}
use Rattle.walks.specs.declared.outcome.Outcome.{Outcome}
use Rattle.walks.specs.declared.outcome.Ending.TheVariants.{Done}
use Rattle.walks.specs.Rows.{action_at}
use Rattle.walks.specs.Turns.{settled}
use Rattle.walks.specs.Turning.{Trace, trace, ahead}
use Rattle.walker.specs.declared.step.Step.{Step}
use Rattle.walker.specs.declared.step.Step.TheVariants.{Stop, Last, On}
use Rattle.compiler.specs.declared.program.Program.{Program}
use Rattle.compiler.specs.Held.{held}
use Rattle.readers.specs.declared.read.Reading.{Reading}
use Rattle.readers.specs.declared.turn.Passed.{Passed}
use Rattle.readers.specs.Fronts.{Written, over}
use Rattle.readers.specs.Asking.{Look, look, stopped_at, turn_asks, step_behind}
use Rattle.readers.specs.Tracing.{trace_after, action_by, passed_by, answered_by, turn_trace, turns_by, trace_by, reading_of}

-- a question is answered by the rows as they were
pub answered_before : (program : Program) (m : Meaning) (p : List ℕ) (now : Meaning) (qs : List Question) (q : Question) → now ≡ asked_each m qs
    → settled (action_at (held program.actions) (answer now.rows q)) ≡ action_by program m.rows p q
answered_before program m p now qs q is = ap (λ fs. settled (action_at (held program.actions) (answer fs q))) (ap (λ (x : Meaning). x.rows) is ∙ asked_rows m qs)

-- a step that does not go on ends the reading
led_stops : (next : ℕ → ℕ → Trace) (s : Step) (o : Outcome) → (s ≡ Stop o) ⊎ ((m : Mark) × (s ≡ Last m o)) → trace_after next s ≡ trace [] o []
led_stops next s o (inl e) = ap (trace_after next) e
led_stops next s o (inr (m, e)) = ap (trace_after next) e

module _ (program : Program) (m : Meaning) (p : List ℕ) (before : List Mark) where
  abbrev run : ℕ → ℕ → ℕ → Trace
  run f n at = turns_by program m.rows p f n at

  abbrev most : ℕ
  most = length (held program.heads)

  -- k turns are made, their marks stand at the front, their questions are put, and the turns from node n on follow
  pub record Going (now : List Mark) (after : Meaning) (count k n at : ℕ) : Type 0 where
    pub ws : List Mark
    pub qs : List Question
    pub written : Written before now count ws
    pub asked : after ≡ asked_each m qs
    pub many : length qs ≡ k
    pub turns : run most 0 0 ≡ ahead ws qs (run (most - k) n at)

  -- the whole is read
  pub record Ended (now : List Mark) (after : Meaning) (o : Outcome) (count k : ℕ) : Type 0 where
    pub ws : List Mark
    pub qs : List Question
    pub written : Written before now count ws
    pub asked : after ≡ asked_each m qs
    pub many : length qs ≡ k
    pub turns : run most 0 0 ≡ trace ws o qs

  pub going_first : Going before m 0 0 0 0
  going_first = record {
    ws = [];
    qs = [];
    written = record { stand = refl; many = omega arith };
    asked = refl;
    many = refl;
    turns = let e : most ≡ most - 0 = omega arith in ap (λ f. run f 0 0) e;
  }

  module _ (now : List Mark) (after : Meaning) (count k n at : ℕ) (w : Going now after count k n at) where
    -- what is left comes to an outcome without a question more
    stops : (o : Outcome) → run (most - k) n at ≡ trace [] o [] → Ended now after o count k
    stops o e = record {
      ws = w.ws;
      qs = w.qs;
      written = w.written;
      asked = w.asked;
      many = w.many;
      turns = w.turns ∙ ap (ahead w.ws w.qs) e ∙ ap₂ (λ ms qs. trace ms o qs) (append-nil w.ws) (append-nil w.qs);
    }

    -- no turn is left
    pub going_out : (o : Outcome) (turns : ℕ) → o ≡ stopped_at p n at Done → turns ≡ k → most ≤ k → Ended now after o count turns
    going_out o turns is many l =
        let none : most - k ≡ 0 = omega arith in
        subst (Ended now after o count) (sym many) (stops o (ap (λ f. run f n at) none ∙ ap (λ x. trace [] x []) (sym is)))

    module _ (more : k < most) where
      abbrev next : ℕ → ℕ → Trace
      next = run (most - (k + 1))

      one_more : (r : Result Look Outcome) → turn_asks program p n at ≡ r → run (most - k) n at ≡ turn_trace program m.rows p next n at r
      one_more r e = let one : most - k ≡ suc (most - (k + 1)) = omega arith in ap (λ f. run f n at) one ∙ ap (turn_trace program m.rows p next n at) e

      -- the turn asks none
      pub going_ends : (o : Outcome) → Err o ≡ turn_asks program p n at → Ended now after o count k
      going_ends o e = stops o (one_more (Err o) (sym e))

      -- it asks, and the answer passes headers
      module _ (q : Question) (cs : List ℕ) (asks : Ok (look q cs) ≡ turn_asks program p n at) (a : Action) (answers : a ≡ action_by program m.rows p q)
          (final : Meaning) (put : final ≡ asked after q) (new : List Mark) (r : Passed)
          (puts : (before ws : List Mark) → Written before now count ws → Written before new r.marks (ws ++ passed_by program m.rows p n at (look q cs) a))
          (leads : r.step ≡ step_behind (passed_by program m.rows p n at (look q cs) a) a.target) where
        abbrev ms : List Mark
        ms = passed_by program m.rows p n at (look q cs) a

        written : Written before new r.marks (w.ws ++ ms)
        written = puts before w.ws w.written

        all_asked : final ≡ asked_each m (w.qs ++ q ∷ [])
        all_asked = put ∙ ap (λ x. asked x q) w.asked ∙ sym (asked_push m w.qs q)

        many : length (w.qs ++ q ∷ []) ≡ k + 1
        many = length_push w.qs q ∙ ap (λ i. i + 1) w.many

        all : run most 0 0 ≡ ahead (w.ws ++ ms) (w.qs ++ q ∷ []) (trace_after next r.step)
        all =
            w.turns
            ∙ ap (ahead w.ws w.qs) (one_more (Ok (look q cs)) (sym asks) ∙ ap (answered_by program m.rows p next n at (look q cs)) (sym answers) ∙ ap (λ s. ahead ms (q ∷ []) (trace_after next s)) (sym leads))
            ∙ ap₂ (λ xs ys. trace xs (trace_after next r.step).outcome ys) (sym (append_assoc w.ws ms (trace_after next r.step).marks)) (sym (append_assoc w.qs (q ∷ []) (trace_after next r.step).questions))

        -- the reading ends there
        pub going_led : (o : Outcome) → (r.step ≡ Stop o) ⊎ ((x : Mark) × (r.step ≡ Last x o)) → Ended new final o r.marks (k + 1)
        going_led o e = record {
          ws = w.ws ++ ms;
          qs = w.qs ++ q ∷ [];
          written = written;
          asked = all_asked;
          many = many;
          turns = all ∙ ap (ahead (w.ws ++ ms) (w.qs ++ q ∷ [])) (led_stops next r.step o e) ∙ ap₂ (λ xs ys. trace xs o ys) (append-nil (w.ws ++ ms)) (append-nil (w.qs ++ q ∷ []));
        }

        -- or goes on
        pub going_on : (x : Mark) (t past : ℕ) → r.step ≡ On x t past → Going new final r.marks (k + 1) t past
        going_on x t past e = record {
          ws = w.ws ++ ms;
          qs = w.qs ++ q ∷ [];
          written = written;
          asked = all_asked;
          many = many;
          turns = all ∙ ap (λ s. ahead (w.ws ++ ms) (w.qs ++ q ∷ []) (trace_after next s)) e;
        }

  -- what is told of a reading that has ended: the trace of the program and the rows
  pub record Told (now : List Mark) (after : Meaning) (r : Reading) : Type 0 where
    pub is : r ≡ reading_of (trace_by program m.rows p) (length before)
    pub marks : now ≡ over (trace_by program m.rows p).marks before
    pub asked : after ≡ asked_each m (trace_by program m.rows p).questions

  whole : trace_by program m.rows p ≡ run most 0 0
  unfolding trace_by
  whole = refl

  reading_is : (t : Trace) (o : Outcome) (count k : ℕ) (ws : List Mark) (qs : List Question) → t ≡ trace ws o qs → count ≡ min (length ws) (length before) → length qs ≡ k
      → (r : Reading) → r ≡ record { outcome = o; marks = count; questions = k } → r ≡ reading_of t (length before)
  reading_is t o count k ws qs is many asked r e =
      e ∙ ap₂ (λ n q. let x : Reading = record { outcome = o; marks = n; questions = q } in x) many (sym asked) ∙ ap (λ t. reading_of t (length before)) (sym is)

  pub ended_told : (now : List Mark) (after : Meaning) (o : Outcome) (count k : ℕ) → Ended now after o count k → (r : Reading) → r ≡ record { outcome = o; marks = count; questions = k } → Told now after r
  ended_told now after o count k e r is =
      let t = trace_by program m.rows p in
      let same : t ≡ trace e.ws o e.qs = whole ∙ e.turns in
      record {
        is = reading_is t o count k e.ws e.qs same e.written.many e.many r is;
        marks = e.written.stand ∙ ap (λ (x : Trace). over x.marks before) (sym same);
        asked = e.asked ∙ ap (λ (x : Trace). asked_each m x.questions) (sym same);
      }
