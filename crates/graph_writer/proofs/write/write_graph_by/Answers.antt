use Rattle.std.proofs.Common.{◌≡◌, map, length, Some, None, Ok, Err, sym, ap, ◌∙◌, subst, arith}
use Rattle.std.proofs.lemmas.Result.{err_from_is_err_and}
use Rattle.octets.specs.Writing.{written}
use Rattle.refusals.specs.Searching.{unless_fault}
use Rattle.headers.specs.Table.{minimum_in}
use Rattle.graphs.specs.View.{node_view, graph_view}
use Rattle.graph_reader.specs.Encoding.{encode}
use Rattle.graph_writer.specs.Writing.{Standing, write_fault, area_after}
use Rattle.graph_writer.specs.Parts.{file_for}
use Rattle.graph_writer.specs.Refusals.{ReadsBack, file_of}
use Rattle.graph_writer.proofs.Putting.{file_encodes, written_all}
use Rattle.graph_writer.proofs.Refused.{answered}
use Rattle.graph_writer.proofs.Reread.{written_reads_back}
use Rattle.graph_writer.proofs.write.write_graph_by.Goals as goal

pub returns-in_err-first_fault : goal.returns-in_err-first_fault
returns-in_err-first_fault c =
    let g = c.args.graph.now in
    let area = c.args.area.now in
    let room = length area in
    let file = encode (graph_view g) in
    let minimum = minimum_in c.args.table.now in
    let fault = c.in_err-first_fault.field-0.0 in
    let told : Some fault ≡ write_fault minimum g room = c.in_err-first_fault.ensures.is in
    let p = err_from_is_err_and c.from_residual.result c.from_residual.ensures.1 in
    let is : c.from_residual.result ≡ unless_fault (write_fault minimum g room) (length file) =
    p.1 ∙ ap Err p.2 ∙ ap (λ o. unless_fault o (length file)) told in
    record {
      is = is;
      area = ap (λ o. area_after o file area) told;
      answers =
          answered minimum g room (λ _. ReadsBack minimum (graph_view g)) (length file)
          (λ clear. let none : Some fault ≡ None = told ∙ clear in absurd (grind arith)) c.from_residual.result is;
      as_read = λ laid. p.1 ∙ ap Err p.2 ∙ ap (λ o. unless_fault o (length (file_of g))) (c.in_err-first_fault.ensures.as_read laid);
    }

pub returns : goal.returns
returns c =
    let g = c.args.graph.now in
    let area = c.args.area.now in
    let room = length area in
    let file = encode (graph_view g) in
    let minimum = minimum_in c.args.table.now in
    let ns = c.named_nodes.result.now in
    let shown = c.named_nodes.ensures.is in
    let writable = c.in_ok-first_fault.ensures.writable in
    let none : None ≡ write_fault minimum g room = c.in_ok-first_fault.ensures.is in
    let same : file_for ns ≡ file =
    file_encodes ns (subst Standing (sym shown) writable.stand) ∙ ap (λ ms. encode (map node_view ms)) shown in
    let is : Ok c.put_file.result ≡ unless_fault (write_fault minimum g room) (length file) =
    ap Ok (c.put_file.ensures.is ∙ ap length same) ∙ ap (λ o. unless_fault o (length file)) none in
    record {
      is = is;
      area = c.put_file.ensures.area ∙ ap (written area 0) same ∙ written_all area file ∙ ap (λ o. area_after o file area) none;
      answers = answered minimum g room (λ _. ReadsBack minimum (graph_view g)) (length file) (λ clear. written_reads_back minimum g room clear writable) (Ok c.put_file.result) is;
      as_read = λ laid. ap Ok (c.put_file.ensures.is ∙ ap (λ ns. length (file_for ns)) shown) ∙ ap (λ o. unless_fault o (length (file_of g))) (c.in_ok-first_fault.ensures.as_read laid);
    }
