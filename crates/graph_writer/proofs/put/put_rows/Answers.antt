use Rattle.std.proofs.Common.{◌≡◌, ◌+◌, ◌*◌, ◌++◌, length, take, sym, ap, ◌∙◌, arith, rules}
use Rattle.std.specs.List.{flat_map}
use Rattle.std.proofs.lemmas.List.{length-append}
use Rattle.octets.specs.Writing.{written}
use Rattle.graph_writer.proofs.Written.{part_behind}
use Rattle.graph_writer.proofs.Putting.{parts_more}
use Rattle.graph_writer.proofs.put.put_rows.Goals as goal

pub loop-k-preserved : goal.loop-k-preserved
loop-k-preserved g c =
    let f = g.R.RowBytes.said in
    let rows = c.args.rows.now in
    let k = c.loop-k.k in
    let ten : length c.row_bytes.result ≡ 10 = search rules in
    let more : flat_map f (take k rows) ++ c.row_bytes.result ≡ flat_map f (take (k + 1) rows) =
    ap (λ x. flat_map f (take k rows) ++ x) (c.row_bytes.ensures ∙ ap f c.index-rows-k.is) ∙ parts_more f rows k _ c.loop-k-test.true in (
      part_behind c.args.area.now c.loop-k.area c.put.new.area (flat_map f (take k rows)) c.row_bytes.result (10 * k)
          c.loop-k.invariant.0 (sym c.loop-k.invariant.1) (omega arith) c.put.ensures ∙ ap (written c.args.area.now 0) more,
      sym (ap length more) ∙ length-append (flat_map f (take k rows)) c.row_bytes.result ∙ omega (arith, ten, c.loop-k.invariant.1),
    )
