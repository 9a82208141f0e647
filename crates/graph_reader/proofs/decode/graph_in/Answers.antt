use Rattle.std.proofs.Common.{◌≡◌, ◌<◌, ◌++◌, List, map, length, get_or, take, sym, ap, ap₂, ◌∙◌, subst, arith, length-set}
use Rattle.std.specs.List.{range_with_len}
use Rattle.std.proofs.lemmas.List.{take_at, take_all}
use Rattle.graph_reader.specs.declared.fault.FileFault.TheVariants.{Pair}
use Rattle.graphs.specs.declared.graph.Node.{Node}
use Rattle.graphs.specs.View.{node_view, no_node, NodeCounts}
use Rattle.graph_reader.specs.Decoding.{node_in}
use Rattle.graph_reader.specs.Records.{at}
use Rattle.graph_reader.specs.Files.{record_at, pair_right}
use Rattle.refusals.proofs.Searching.{holds}
use Rattle.graph_reader.proofs.Filling.{shown_more, each_more}
use Rattle.graph_reader.proofs.Recorded.{Whole, record_whole}
use Rattle.graph_reader.proofs.decode.graph_in.Goals as goal

pub record-requires : goal.record-requires
record-requires c = ap₂ pair_right c.of.ensures.file c.of.ensures.node ∙ holds (pair_right c.args.file.now) Pair _ _ c.requires.pairs (omega (arith, c.loop-i.invariant.0))

pub node_in-requires : goal.node_in-requires
node_in-requires c =
    let w : Whole c.record.result.now = subst Whole (sym (c.record.ensures.is ∙ ap₂ record_at c.of.ensures.file c.of.ensures.node)) (record_whole c.args.file.now c.loop-i.i c.requires.pairs c.requires.bytes (omega (arith, c.loop-i.invariant.0))) in
    record { long = omega (arith, w.counted); rows = w.few; places = w.places }

pub loop-i-preserved : goal.loop-i-preserved
loop-i-preserved c =
    let nodes = c.loop-i.node-items in
    let l : c.loop-i.i < length nodes = omega arith in (
      length-set _ _ _ ∙ c.loop-i.invariant.0,
      shown_more node_view (λ i. node_in (record_at c.args.file.now i)) nodes c.loop-i.i _ l (c.node_in.ensures.is ∙ ap node_in (c.record.ensures.is ∙ ap₂ record_at c.of.ensures.file c.of.ensures.node)) c.loop-i.invariant.1,
      each_more NodeCounts nodes c.loop-i.i _ no_node l c.node_in.ensures.counts c.loop-i.invariant.2,
    )

pub returns : goal.returns
returns c =
    let nodes = c.loop-i.node-items in
    let count = at c.args.file.now 0 in
    let full : length nodes ≡ count = c.loop-i.invariant.0 in
    let end : c.loop-i.i ≡ count = omega arith in
    let all : take c.loop-i.i nodes ≡ nodes = take_all c.loop-i.i nodes (omega arith) in
    let named : take count (nodes ++ _) ≡ nodes = take_at nodes _ count full in
    record {
      is =
          ap (map node_view) (named ∙ sym all) ∙ c.loop-i.invariant.1
          ∙ ap (λ n. map (λ i. node_in (record_at c.args.file.now i)) (range_with_len 0 n)) end;
      counts =
          record {
            nodes = sym (ap length named ∙ full);
            each = λ k h.
                let l : k < length nodes = subst (λ (ns : List Node). k < length ns) named h in
                subst (λ (ns : List Node). NodeCounts (get_or ns k no_node)) (sym named) (c.loop-i.invariant.2 k (omega arith));
          };
    }
