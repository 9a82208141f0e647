use Rattle.std.proofs.Common.{◌≡◌, ◌++◌, map, length, ◌+◌, ◌∙◌, ap, subst, arith}
use Rattle.std.proofs.lemmas.List.{take_all}
use Rattle.graphs.specs.View.{NodeView, graph_view}
use Rattle.walks.specs.Plans.{fixed_size}
use Rattle.compiler.specs.Held.{held}
use Rattle.compiler.specs.Programs.{looked_up}
use Rattle.compiler.proofs.Looking.{put_length, own_few, put_all}
use Rattle.compiler.proofs.lookups.+put_lookups.Goals as goal

pub push-requires : goal.push-requires
push-requires t c =
    let path = c.args.path.now in
    let places = c.lookup-place-items.ensures.is ∙ ap (λ (v : NodeView). v.places) c.here-here.ensures.is in
    let now = put_length (held c.args.lookups.now) (held c.loop-place.lookups) c.lookup-place-items.result.now c.args.from c.loop-place.place-index c.loop-place.invariant c.loop-place-test.true in
    (omega arith, omega (arith, now, ap length places, own_few (graph_view path.graph.now) path.node path.behind.now, c.requires.room, c.loop-place-test.true))

pub returns-in-Some : goal.returns-in-Some
returns-in-Some t c =
    let path = c.args.path.now in
    let rest = c.in-Some.rest in
    let places = take_all c.loop-place.place-index c.lookup-place-items.result.now c.loop-place-test.false ∙ c.lookup-place-items.ensures.is ∙ ap (λ (v : NodeView). v.places) c.here-here.ensures.is in
    put_all (graph_view path.graph.now) path.node rest.node rest.behind.now path.behind.now (held c.args.lookups.now) (held c.loop-place.lookups) (held c.put_lookups.new.lookups) c.args.from c.fixed_size.result
    c.in-Some.ensures.1 (c.fixed_size.ensures.is ∙ ap (λ (v : NodeView). fixed_size v.len) c.here-here.ensures.is) (c.loop-place.invariant ∙ ap (λ ps. held c.args.lookups.now ++ map (λ i. c.args.from + i) ps) places)
    (subst (λ gr. held c.put_lookups.new.lookups ≡ held c.loop-place.lookups ++ map (λ i. (c.args.from + c.fixed_size.result) + i) (looked_up (graph_view gr) rest.node rest.behind.now)) c.in-Some.ensures.0 c.put_lookups.ensures)
