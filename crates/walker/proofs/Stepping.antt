-- What the checks of a header and its deciding row say of the walk.
use Rattle.std.proofs.Common.{◌≡◌, ℕ, ◌+◌, ◌≤◌, min, Bool, true, false, ltb, List, [], length, Some, None, Option, sym, refl, ap, ap₂, ◌∙◌, subst, arith}
use Rattle.std.proofs.lemmas.Bool.{both_ways, ltb-true, ltb-false}
use Rattle.headers.specs.declared.kinds.Kind.{Kind}
use Rattle.headers.specs.declared.mark.Mark.{Mark}
use Rattle.headers.specs.Kinds.{kind_number}
use Rattle.patterns.specs.declared.row.Target.{Target}
use Rattle.patterns.specs.declared.row.Target.TheVariants as to
use Rattle.graphs.specs.View.{NodeView, node_at}
use Rattle.graphs.specs.Deciding.{decide}
use Rattle.walks.specs.declared.outcome.Ending.{Ending}
use Rattle.walks.specs.declared.outcome.Ending.TheVariants.{Cut, Short}
use Rattle.walks.specs.Walk as walk
use Rattle.walks.specs.Walk.{measured, reads, size_at, past, mark_at, decide_at, Refused, Header, Walk}
use Rattle.walks.specs.Outcomes.{outcome}
use Rattle.walks.specs.Turning.{held, checked}
use Rattle.walks.proofs.Steps.{decides_held}
use Rattle.walker.specs.declared.step.Step.{Step}
use Rattle.walks.specs.Turning.{header_refusal}
use Rattle.walker.specs.Headers.{key_of}
use Rattle.walker.specs.Steps.{marked, step_at, step_to, Stepped}

module _ (minimum : Kind → ℕ) (g : List NodeView) (p : List ℕ) (n at : ℕ) where
  abbrev v : NodeView
  v = node_at g n

  abbrev ended : Option Ending
  ended = header_refusal p at (minimum v.kind) v.len v.places

  -- a header that a check refuses
  refused_by_lem : (h s o : Bool) → held p at (reads v) ≡ h → ltb (size_at g p n at) (minimum v.kind) ≡ s → ltb (length p) (past g p n at) ≡ o
      → (e : Ending) → Some e ≡ checked h s o → Refused minimum g p n at e
  refused_by_lem false s o a b c e q =
      let is : e ≡ Cut = cc in
      subst (Refused minimum g p n at) (sym is) (walk.outside (λ w. both_ways (held p at (reads v)) a ((decides_held p at (reads v)).1 w)))
  refused_by_lem true true o a b c e q =
      let is : e ≡ Short = cc in
      subst (Refused minimum g p n at) (sym is) (walk.under ((decides_held p at (reads v)).0 a) (ltb-true _ _ b))
  refused_by_lem true false true a b c e q =
      let is : e ≡ Cut = cc in
      subst (Refused minimum g p n at) (sym is) (walk.overrun ((decides_held p at (reads v)).0 a) (ltb-false _ _ b) (ltb-true _ _ c))
  refused_by_lem true false false a b c e q = let z : ◌≡◌ {A = ℕ} 0 1 = cc in absurd (omega arith)

  -- a header that all of them pass
  header_by : (h s o : Bool) → held p at (reads v) ≡ h → ltb (size_at g p n at) (minimum v.kind) ≡ s → ltb (length p) (past g p n at) ≡ o
      → None ≡ checked h s o → Header minimum g p n at
  header_by false s o a b c q = let z : ◌≡◌ {A = ℕ} 0 1 = cc in absurd (omega arith)
  header_by true true o a b c q = let z : ◌≡◌ {A = ℕ} 0 1 = cc in absurd (omega arith)
  header_by true false true a b c q = let z : ◌≡◌ {A = ℕ} 0 1 = cc in absurd (omega arith)
  header_by true false false a b c q = record { held = (decides_held p at (reads v)).0 a; long = ltb-false _ _ b; within = ltb-false _ _ c }

  -- behind a header that passes, the deciding row says how the walk goes on
  decided_by : Header minimum g p n at → (o : Option Target) → decide_at g p n at ≡ o → Stepped minimum g p n at (step_to (mark_at g p n at) o)
  decided_by h None e = walk.unfit h e
  decided_by h (Some to.Dropped) e = walk.drops h e
  decided_by h (Some to.Done) e = walk.ends h e
  decided_by h (Some (to.Node m)) e = record { decides = e; within = h.within; walks = λ ms o w. walk.on h e w }

  -- the same, from a node
  module _ (here : NodeView) (is : here ≡ v) (places : List ℕ) (named : places ≡ here.places) (least : ℕ) (fewest : least ≡ minimum here.kind) where
    told : header_refusal p at least here.len places ≡ ended
    told =
        ap (λ m. header_refusal p at m here.len places) fewest ∙ ap (header_refusal p at (minimum here.kind) here.len) named
        ∙ ap (λ x. header_refusal p at (minimum x.kind) x.len x.places) is

    pub node_fails : (e : Ending) → Some e ≡ header_refusal p at least here.len places → Refused minimum g p n at e
    node_fails e s = refused_by_lem _ _ _ refl refl refl e (s ∙ told)

    pub node_refused : (e : Ending) → Some e ≡ header_refusal p at least here.len places → Walk minimum g p n at [] (outcome e n at)
    node_refused e s = walk.refused (node_fails e s)

    pub node_passes : None ≡ header_refusal p at least here.len places → Header minimum g p n at
    node_passes s = header_by _ _ _ refl refl refl (s ∙ told)

    module _ (size : ℕ) (measures : size ≡ measured here.len p at) where
      pub size_is : size ≡ size_at g p n at
      size_is = measures ∙ ap (λ x. measured x.len p at) is

      -- in a packet that is not long
      module _ (none : None ≡ header_refusal p at least here.len places) (short : length p ≤ 9600) where
        passes : Header minimum g p n at
        passes = node_passes none

        marked_is : marked n here.kind at size ≡ mark_at g p n at
        marked_is =
            let a : min at 65535 ≡ at = omega (arith, passes.within) in
            let b : min size 65535 ≡ size_at g p n at = omega (arith, passes.within, size_is) in
            ap₂ (λ o l. record { node = n; kind = kind_number here.kind; offset = o; length = l }) a b
            ∙ ap (λ x. record { node = n; kind = kind_number x.kind; offset = at; length = size_at g p n at }) is

        pub node_decides : (m : Mark) → m ≡ marked n here.kind at size → (key : ℕ) → key ≡ key_of p at places → (o : Option Target) → o ≡ decide v.rows key
            → (s : Step) → s ≡ step_at m o (min (m.offset + m.length) 65535) → Stepped minimum g p n at s
        node_decides m marks key spells o decides s leads =
            let mark : m ≡ mark_at g p n at = marks ∙ marked_is in
            let past_is : min (m.offset + m.length) 65535 ≡ m.offset + m.length = omega (arith, ap (λ x. x.offset + x.length) mark, passes.within) in
            let target : decide_at g p n at ≡ o = ap (decide v.rows) (sym (spells ∙ ap (key_of p at) named ∙ ap (λ x. key_of p at x.places) is)) ∙ sym decides in
            subst (Stepped minimum g p n at) (sym (leads ∙ ap (step_at m o) past_is ∙ ap (λ m. step_to m o) mark)) (decided_by passes o target)
