use Rattle.std.proofs.Common.{map, get_or, ap, ◌∙◌, ap₂, rules, arith}
use Rattle.std.specs.List.{range_with_len}
use Rattle.graph_reader.proofs.Filling.{filled_by}
use Rattle.compiler.specs.Sinks.{cell_of}
use Rattle.compiler.proofs.Cells.{bytes_cells}
use Rattle.compiler.proofs.start.bytes_of.Goals as goal

pub returns : goal.returns
returns c =
    let values = c.to_be_bytes-values.result in
    let masks = c.to_be_bytes-masks.result in
    ap (map cell_of) (filled_by (λ i. record { value = get_or values i 0; mask = get_or masks i 0 }) 4 c.from_fn.ensures.items (λ i y q k. search rules))
    ∙ ap₂ (λ vs ms. map (λ i. record { value = get_or vs i 0; mask = get_or ms i 0 }) (range_with_len 0 4)) c.to_be_bytes-values.ensures c.to_be_bytes-masks.ensures
    ∙ bytes_cells c.args.piece.value c.args.piece.mask (omega arith) (omega arith)
