-- The turns read a packet to its end, as the plain walk does, and put at most as many questions as there are marks.
use Rattle.std.proofs.Common.{◌≡◌, ℕ, zero, suc, ◌+◌, ◌<◌, ◌≤◌, Bool, true, false, ltb, leb, List, [], ◌∷◌, length, Some, None, Decides, Option, sym, refl, ap, ◌∙◌, subst, append-nil, arith, length-append}
use Rattle.std.proofs.lemmas.Bool.{ltb-true, ltb-false, leb-true, leb-false, both_ways}
use Rattle.headers.specs.declared.kinds.Kind.{Kind}
use Rattle.headers.specs.declared.mark.Mark.{Mark}
use Rattle.patterns.specs.declared.row.Target.{Target}
use Rattle.patterns.specs.declared.row.Target.TheVariants as to
use Rattle.graphs.specs.View.{NodeView, node_at}
use Rattle.stores.specs.declared.question.Question.{Question}
use Rattle.walks.specs.declared.action.Action.{Action}
use Rattle.walks.specs.declared.outcome.Outcome.{Outcome}
use Rattle.walks.specs.Walk as walk
use Rattle.walks.specs.Walk.{Held, reads, size_at, past, mark_at, Refused, outside, under, overrun, Header, Walk}
use Rattle.walks.specs.Rows.{Plan, action, entries, store_rows, answer_by}
use Rattle.walks.specs.Plans.{Lawful, Keeps, Linked, window}
use Rattle.walks.specs.Turns as by
use Rattle.walks.specs.Turns.{settled, keys_at, passed, last_at, last_node, Singly, Asks, chained, singly, Turns}
use Rattle.walks.specs.Turning.{Trace, held, checked, refusal, answered, asking, single, turn_by, turn, turns, read_by}
use Rattle.walks.specs.Theorems.{OneWalk, ReadsPlainly}
use Rattle.walks.proofs.Fit.{fit_all}
use Rattle.walks.proofs.Join.{answer_to}
use Rattle.walks.proofs.Sound.{Sound}
use Rattle.walks.proofs.Widths.{entries_ahead}
use Rattle.walks.proofs.Steps.{turn_walks, decides_held, decided_onward, node_says, chain_says}
use Rattle.walks.proofs.Once.{one_walk, one_reading}

-- Marks and questions of any reading

module _ (g : List NodeView) (p : List ℕ) where
  -- one header is marked at least
  some_passed : (k n : ℕ) (cs : List ℕ) (at : ℕ) → 1 ≤ length (passed g p k n cs at)
  some_passed zero n cs at = omega arith
  some_passed (suc k) n [] at = omega arith
  some_passed (suc k) n (c ∷ cs) at = omega arith

  -- and without a chain one
  one_passed : (k n : ℕ) (at : ℕ) → length (passed g p k n [] at) ≡ 1
  one_passed zero n at = refl
  one_passed (suc k) n at = refl

module _ (minimum : Kind → ℕ) (put : Question → Option Action) (g : List NodeView) (chain : Plan) (p : List ℕ) where
  pub few_questions : {n : ℕ} {at : ℕ} {ms : List Mark} {o : Outcome} {qs : List Question} → Turns minimum put g chain p n at ms o qs → length qs ≤ length ms
  few_questions (by.refused s r) = omega arith
  few_questions (by.unfit {n} {at} {cs} {q} {k} a e) = some_passed g p k n cs at
  few_questions (by.drops {n} {at} {cs} {q} {k} a e) = some_passed g p k n cs at
  few_questions (by.ends {n} {at} {cs} {q} {k} a e) = some_passed g p k n cs at
  few_questions (by.on {n} {m} {at} {cs} {q} {k} {ms} a e w) = omega (arith, some_passed g p k n cs at, few_questions w, length-append (passed g p k n cs at) ms)

  module _ (bare : (n : ℕ) → chain n ≡ []) where
    -- a question without chains passes one header
    bare_passed : {n : ℕ} {at : ℕ} {cs : List ℕ} {q : Question} (k : ℕ) → Asks minimum g chain p n at cs q → length (passed g p k n cs at) ≡ 1
    bare_passed {n} {at} k (chained {c} {cs} e w) = let z : c ∷ cs ≡ [] = sym e ∙ bare n in let y : ◌≡◌ {A = ℕ} 0 1 = cc in absurd (omega arith)
    bare_passed {n} {at} k (singly s h) = one_passed g p k n at

    pub each_question : {n : ℕ} {at : ℕ} {ms : List Mark} {o : Outcome} {qs : List Question} → Turns minimum put g chain p n at ms o qs → length qs ≡ length ms
    each_question (by.refused s r) = refl
    each_question (by.unfit {n} {at} {cs} {q} {k} a e) = sym (bare_passed k a)
    each_question (by.drops {n} {at} {cs} {q} {k} a e) = sym (bare_passed k a)
    each_question (by.ends {n} {at} {cs} {q} {k} a e) = sym (bare_passed k a)
    each_question (by.on {n} {m} {at} {cs} {q} {k} {ms} a e w) = omega (arith, bare_passed k a, each_question w, length-append (passed g p k n cs at) ms)

module _ (minimum : Kind → ℕ) (g : List NodeView) (p : List ℕ) (sound : Sound minimum g) where
  -- a walk marks each node once at most
  pub few_marks : {n : ℕ} {at : ℕ} {ms : List Mark} {o : Outcome} → Walk minimum g p n at ms o → n < length g → length ms + n ≤ length g
  few_marks (walk.refused r) l = omega arith
  few_marks (walk.unfit h d) l = omega arith
  few_marks (walk.drops h d) l = omega arith
  few_marks (walk.ends h d) l = omega arith
  few_marks (walk.on {n} {m} {at} h d w) l = let o = decided_onward minimum g p sound n at (to.Node m) l d in let q = few_marks w o.1 in omega arith

  module _ (chain : Plan) (law : Lawful g chain) where
    abbrev put : Question → Option Action
    put = answer_by (store_rows g chain)

    abbrev run : ℕ → ℕ → ℕ → Trace
    run f n at = turns minimum put g p chain f n at

    -- as many turns as there are nodes walk to the end
    turns_walk : (f n : ℕ) (at : ℕ) → n < length g → length g ≤ n + f → Walk minimum g p n at (run f n at).marks (run f n at).outcome
    turns_walk zero n at l u = absurd (omega arith)
    turns_walk (suc f) n at l u = turn_walks minimum g p sound chain (run f) n (λ t at' lt ls. turns_walk f t at' ls (omega arith)) l at (chain n) refl (law n l)

    -- an answer leads onward
    rows_lead : (cs : List ℕ) (n : ℕ) → n < length g → Linked g n cs → (k : List ℕ) (m : ℕ) → (settled (answer_to (entries g n cs) k)).target ≡ Some (to.Node m) → (n < m) × (m < length g)
    rows_lead cs n l ok k m e = go (answer_to (entries g n cs) k) refl e
      where
        go : (a : Option Action) → answer_to (entries g n cs) k ≡ a → (settled a).target ≡ Some (to.Node m) → (n < m) × (m < length g)
        go None s t = let z : ◌≡◌ {A = ℕ} 0 1 = cc in absurd (omega arith)
        go (Some a) s t =
            fit_all _ _ (λ (x : Action). (m : ℕ) → x.target ≡ Some (to.Node m) → (n < m) × (m < length g)) (entries g n cs) (entries_ahead minimum g sound cs n l ok) a s m t

    asked_onward : {n : ℕ} {at : ℕ} {cs : List ℕ} {q : Question} → n < length g → Asks minimum g chain p n at cs q → (m : ℕ) → (settled (put q)).target ≡ Some (to.Node m) → (n < m) × (m < length g)
    asked_onward {n} {at} l (chained {c} {cs} e w) m t =
        let ok : Keeps g n (c ∷ cs) = subst (Keeps g n) e (law n l) in
        rows_lead (c ∷ cs) n l ok.linked (keys_at g p n (c ∷ cs) at) m (sym (ap (λ a. (settled a).target) (chain_says minimum g p sound chain n c cs at l e ok)) ∙ t)
    asked_onward {n} {at} l (singly s h) m t =
        rows_lead [] n l tt (walk.key_at g p n at) m (sym (ap (λ a. (settled a).target) (node_says minimum g p sound chain n at l)) ∙ t)

    -- the function's turns are turns
    module _ (next : ℕ → ℕ → Trace) (n : ℕ) (within : n < length g) (at : ℕ)
        (later : (t : ℕ) (at : ℕ) → n < t → t < length g → Turns minimum put g chain p t at (next t at).marks (next t at).outcome (next t at).questions) where
      abbrev Met : Trace → Type 0
      Met t = Turns minimum put g chain p n at t.marks t.outcome t.questions

      asked_meets : {cs : List ℕ} {q : Question} → Asks minimum g chain p n at cs q → Met (asking minimum put g p next n cs at q)
      asked_meets {cs} {q} a = go (settled (put q)).beyond (settled (put q)).target refl
        where
          go : (k : ℕ) (t : Option Target) → settled (put q) ≡ action k t → Met (answered minimum put g p next n cs at q (action k t))
          go k None e = rw (append-nil (passed g p k n cs at)) (by.unfit a e)
          go k (Some to.Dropped) e = rw (append-nil (passed g p k n cs at)) (by.drops a e)
          go k (Some to.Done) e = rw (append-nil (passed g p k n cs at)) (by.ends a e)
          go k (Some (to.Node m)) e = let o = asked_onward within a m (ap (λ x. x.target) e) in by.on a e (later m _ o.0 o.1)

      single_meets : Singly g chain p n at → Met (single minimum put g p next n at (refusal minimum put g p n at))
      single_meets s = go _ _ _ refl refl refl
        where
          all : Decides (held p at (reads (node_at g n))) (Held p at (reads (node_at g n)))
          all = decides_held p at (reads (node_at g n))

          go : (x y z : Bool) → held p at (reads (node_at g n)) ≡ x → ltb (size_at g p n at) (minimum (node_at g n).kind) ≡ y → ltb (length p) (past g p n at) ≡ z
              → Met (single minimum put g p next n at (checked x y z))
          go false y z ex ey ez = by.refused s (outside (λ h. both_ways (held p at (reads (node_at g n))) ex (all.1 h)))
          go true true z ex ey ez = by.refused s (under (all.0 ex) (ltb-true _ _ ey))
          go true false true ex ey ez = by.refused s (overrun (all.0 ex) (ltb-false _ _ ey) (ltb-true _ _ ez))
          go true false false ex ey ez = asked_meets (singly s (record { held = all.0 ex; long = ltb-false _ _ ey; within = ltb-false _ _ ez }))

      turn_meets : (cs : List ℕ) → chain n ≡ cs → Met (turn minimum put g p next n cs at)
      turn_meets [] e = single_meets (λ c cs f. let z : c ∷ cs ≡ [] = sym f ∙ e in let y : ◌≡◌ {A = ℕ} 0 1 = cc in absurd (omega arith))
      turn_meets (c ∷ cs) e = go (leb (at + window g n (c ∷ cs)) (length p)) refl
        where
          go : (b : Bool) → leb (at + window g n (c ∷ cs)) (length p) ≡ b → Met (turn_by minimum put g p next n (c ∷ cs) at b)
          go true w = asked_meets (chained e (leb-true _ _ w))
          go false w =
              single_meets (λ d ds f.
              let x : c ≡ d = let z : c ∷ cs ≡ d ∷ ds = sym e ∙ f in cc in
              let y : cs ≡ ds = let z : c ∷ cs ≡ d ∷ ds = sym e ∙ f in cc in
              let h : length p < at + window g n (c ∷ cs) = leb-false _ _ w in
              subst (λ es. length p < at + window g n es) (sym e ∙ f) h)

    turns_meet : (f n : ℕ) (at : ℕ) → n < length g → length g ≤ n + f → Turns minimum put g chain p n at (run f n at).marks (run f n at).outcome (run f n at).questions
    turns_meet zero n at l u = absurd (omega arith)
    turns_meet (suc f) n at l u = turn_meets (run f) n l at (λ t at' lt ls. turns_meet f t at' ls (omega arith)) (chain n) refl

    -- the theorem, of a sound graph
    pub reads_plainly : ReadsPlainly minimum g chain p
    unfolding read_by
    reads_plainly =
        let there = turns_meet (length g) 0 0 sound.some (omega arith) in
        let walks = turns_walk (length g) 0 0 sound.some (omega arith) in
        let marks : length (run (length g) 0 0).marks ≤ 32 = let q = few_marks walks sound.some in let s = sound.few in omega arith in
        record {
          there = there;
          only = λ ms o qs r. one_reading minimum put g p chain r there;
          walks = λ ms o qs r.
              let (m, e, s) = one_reading minimum put g p chain r there in
              subst (λ x. Walk minimum g p 0 0 x o) (sym m) (subst (λ x. Walk minimum g p 0 0 (run (length g) 0 0).marks x) (sym e) walks);
          back = λ ms o w.
              let (m, e) = one_walk minimum put g p w walks in (
                (run (length g) 0 0).questions,
                subst (λ x. Turns minimum put g chain p 0 0 x o (run (length g) 0 0).questions) (sym m)
                    (subst (λ x. Turns minimum put g chain p 0 0 (run (length g) 0 0).marks x (run (length g) 0 0).questions) (sym e) there),
              );
          few = λ ms o qs r.
              let (m, e, s) = one_reading minimum put g p chain r there in
              let a = few_questions minimum put g chain p r in
              let b : length ms ≡ length (run (length g) 0 0).marks = ap length m in
              (a, omega arith);
          plainly = λ bare ms o qs r. each_question minimum put g chain p bare r;
        }

  -- the plan without chains breaks no rule, so there is a walk
  pub walk_there : OneWalk minimum g p
  walk_there =
      let walks = turns_walk (λ n. []) (λ n l. tt) (length g) 0 0 sound.some (omega arith) in
      record {
        marks = _;
        outcome = _;
        walks = walks;
        only = λ ms o w. one_walk minimum (answer_by []) g p w walks;
        few = let q = few_marks walks sound.some in let s = sound.few in omega arith;
      }
