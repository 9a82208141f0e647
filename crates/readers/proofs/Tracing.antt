-- What a program that stands for a graph and a plan reads, by a store of their rows, is what the turns read.
use Rattle.std.proofs.Common.{◌≡◌, ℕ, zero, suc, ◌+◌, ◌≤◌, min, Bool, List, [], ◌∷◌, length, Some, None, Ok, Err, Option, Result, sym, refl, ap, ap₂, ◌∙◌, subst, arith}
use Rattle.headers.specs.declared.kinds.Kind.{Kind}
use Rattle.headers.specs.declared.mark.Mark.{Mark}
use Rattle.patterns.specs.declared.row.Target.{Target}
use Rattle.patterns.specs.declared.row.Target.TheVariants as to
use Rattle.graphs.specs.View.{NodeView}
use Rattle.stores.specs.declared.question.Question.{Question}
use Rattle.stores.specs.Meaning.{answer}
use Rattle.walks.specs.declared.action.Action.{Action}
use Rattle.walks.specs.declared.outcome.Outcome.{Outcome}
use Rattle.walks.specs.declared.outcome.Ending.TheVariants.{Done}
use Rattle.walks.specs.Outcomes.{outcome}
use Rattle.walks.specs.Walk.{mark_at, PlainWalk}
use Rattle.walks.specs.Rows.{Plan, store_rows, answer_by, action_at}
use Rattle.walks.specs.Turns.{settled, passed, last_at, last_node, Asks, Reads}
use Rattle.walks.specs.Turning.{Trace, trace, ahead, turn, turns, read_by}
use Rattle.walks.specs.Theorems.{OneWalk, ReadsPlainly}
use Rattle.walks.proofs.Accepted.{accepted_sound}
use Rattle.walks.proofs.Whole.{reads_plainly, walk_there}
use Rattle.walker.specs.Steps.{step_at, step_to}
use Rattle.compiler.specs.declared.program.Program.{Program}
use Rattle.readers.specs.declared.read.Reading.{Reading}
use Rattle.readers.specs.Fronts.{over}
use Rattle.readers.specs.Headers.{end_of}
use Rattle.readers.specs.Asking.{Look, turn_asks, last_of, step_behind}
use Rattle.readers.specs.Tracing.{trace_after, action_by, passed_by, answered_by, turn_trace, turns_by, trace_by, reading_of}
use Rattle.readers.specs.Reading.{Programmed, ReadAs}
use Rattle.readers.proofs.Fronting.{over_whole}
use Rattle.readers.proofs.Standing.{Near, near_more, last_near, last_passed, asked_near, same_marks}
use Rattle.readers.proofs.Asking.{Asking, asking_right}
use Rattle.readers.proofs.Turning.{turn_ends, turn_led}

module _ (minimum : Kind → ℕ) (g : List NodeView) (chain : Plan) (program : Program) (rows : List (Question → Bool)) (pr : Programmed minimum g chain program rows) (p : List ℕ)
    (short : length p ≤ 9600) where
  abbrev put : Question → Option Action
  put = answer_by (store_rows g chain)

  -- a question is answered by the rows of graph and plan
  says : (q : Question) → action_by program rows p q ≡ settled (put q)
  says q = ap₂ (λ acts fs. settled (action_at acts (answer fs q))) pr.stands.actions pr.holds

  -- the turns that follow one that asks
  module _ (next turn_next : ℕ → ℕ → Trace) (same_next : (n at : ℕ) → at ≤ length p → next n at ≡ turn_next n at) (n at : ℕ) (near : at ≤ length p) where
    led_same : (m : Mark) (t : Option Target) → m.offset + m.length ≤ length p → trace_after next (step_to m t) ≡ trace_after turn_next (step_to m t)
    led_same m None l = refl
    led_same m (Some to.Dropped) l = refl
    led_same m (Some to.Done) l = refl
    led_same m (Some (to.Node t)) l = same_next t (m.offset + m.length) l

    module _ (l : Look) (asks : Asks minimum g chain p n at l.behind l.question) where
      abbrev a : Action
      a = action_by program rows p l.question

      abbrev ms : List Mark
      ms = passed_by program rows p n at l a

      headers_near : Near g p (length p) n l.behind at
      headers_near = asked_near g p minimum program chain pr.stands pr.lawful n at asks

      marks_are : ms ≡ passed g p a.beyond n l.behind at
      marks_are = same_marks g p minimum program chain pr.stands a.beyond l.behind n at (near_more g p (length p) 65535 (omega (arith, short)) l.behind n at headers_near)

      abbrev last : Mark
      last = mark_at g p (last_node a.beyond n l.behind) (last_at g p a.beyond n l.behind at)

      last_is : last_of ms ≡ last
      last_is = ap last_of marks_are ∙ last_passed g p a.beyond l.behind n at

      ends_within : last.offset + last.length ≤ length p
      ends_within = last_near g p (length p) a.beyond l.behind n at headers_near

      leads_are : step_behind ms a.target ≡ step_to last a.target
      leads_are =
          let past_is : min (end_of last) 65535 ≡ end_of last = omega (arith, ends_within, short) in
          ap (λ m. step_at m a.target (min (end_of m) 65535)) last_is ∙ ap (step_at last a.target) past_is

      pub answered_same : answered_by program rows p next n at l a ≡ ahead (passed g p a.beyond n l.behind at) (l.question ∷ []) (trace_after turn_next (step_to last a.target))
      answered_same =
          ap₂ (λ xs s. ahead xs (l.question ∷ []) (trace_after next s)) marks_are leads_are
          ∙ ap (ahead (passed g p a.beyond n l.behind at) (l.question ∷ [])) (led_same last a.target ends_within)

    -- one turn
    turn_same : (r : Result Look Outcome) → Asking minimum g chain p n at r → turn_trace program rows p next n at r ≡ turn minimum put g p turn_next n (chain n) at
    turn_same (Err o) e = sym (turn_ends minimum put g chain p turn_next n at o e)
    turn_same (Ok l) asks =
        answered_same l asks ∙ sym (turn_led minimum put g chain p turn_next n at l.behind l.question asks (action_by program rows p l.question) (says l.question))

  turns_same : (f n at : ℕ) → at ≤ length p → turns_by program rows p f n at ≡ turns minimum put g p chain f n at
  turns_same zero n at near = let a : min at 65535 ≡ at = omega (arith, near, short) in ap (λ i. trace [] (outcome Done n i) []) a
  turns_same (suc f) n at near =
      turn_same (turns_by program rows p f) (turns minimum put g p chain f) (turns_same f) n at near (turn_asks program p n at)
      (asking_right minimum g chain p n at program pr.stands pr.lawful near short)

  -- the trace is that of the turns
  pub trace_same : trace_by program rows p ≡ read_by minimum g chain p
  unfolding trace_by read_by
  trace_same = ap (λ f. turns_by program rows p f 0 0) pr.stands.count ∙ turns_same (length g) 0 0 (omega arith)

  -- so it reads as the turns and the plain walk do
  pub reads_as : (before after : List Mark) (r : Reading) → 32 ≤ length before → r ≡ reading_of (trace_by program rows p) (length before) → after ≡ over (trace_by program rows p).marks before
      → ReadAs minimum g chain p before after (trace_by program rows p).questions r
  reads_as before after r room is written =
      let sound = accepted_sound minimum g pr.accepted in
      let plain : ReadsPlainly minimum g chain p = reads_plainly minimum g p sound chain pr.lawful in
      let one : OneWalk minimum g p = walk_there minimum g p sound in
      let t = trace_by program rows p in
      let outcome : r.outcome ≡ t.outcome = ap (λ (x : Reading). x.outcome) is in
      let there : Reads minimum g chain p t.marks r.outcome t.questions =
      subst (λ o. Reads minimum g chain p t.marks o t.questions) (sym outcome) (subst (λ (x : Trace). Reads minimum g chain p x.marks x.outcome x.questions) (sym trace_same) plain.there) in
      let walks : PlainWalk minimum g p t.marks r.outcome = plain.walks t.marks r.outcome t.questions there in
      let same = one.only t.marks r.outcome walks in
      let most : length t.marks ≤ 32 = omega (arith, ap length same.0, one.few) in
      let marks : r.marks ≡ length t.marks = ap (λ (x : Reading). x.marks) is ∙ omega (arith, most, room) in
      let questions : r.questions ≡ length t.questions = ap (λ (x : Reading). x.questions) is in
      let few = plain.few t.marks r.outcome t.questions there in
      record {
        ms = t.marks;
        turns = there;
        marks = marks;
        questions = questions;
        written = written ∙ over_whole t.marks before (omega (arith, most, room));
        walks = walks;
        only = λ ns o w. let q = one.only ns o w in (q.0 ∙ sym same.0, q.1 ∙ sym same.1);
        few = (omega (arith, few.0, marks, questions), omega (arith, marks, most));
        plainly = λ bare. questions ∙ plain.plainly bare t.marks r.outcome t.questions there ∙ sym marks;
      }
