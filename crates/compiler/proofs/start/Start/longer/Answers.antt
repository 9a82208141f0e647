use Rattle.std.proofs.Common.{◌++◌, map, take, sym, refl, ap, ◌∙◌, arith}
use Rattle.std.proofs.lemmas.List.{map-append}
use Rattle.std.specs.List.{take-map}
use Rattle.compiler.specs.Held.{held}
use Rattle.compiler.specs.Sinks.{cell_of, cells_in}
use Rattle.compiler.proofs.Cells.{piece_front}
use Rattle.compiler.proofs.start.Start.longer.Goals as goal

pub returns : goal.returns
returns c =
    let p = c.args.self.now in
    let w = c.args.width in
    record {
      cells =
          ap (map cell_of) c.extend_from_slice.ensures ∙ map-append cell_of (held p.bytes) (take w c.bytes_of.result)
          ∙ ap (λ cs. cells_in p ++ cs) (sym (take-map cell_of w c.bytes_of.result) ∙ ap (take w) c.bytes_of.ensures ∙ piece_front w c.args.piece c.requires.0);
      state = refl;
      beyond = omega arith;
    }
