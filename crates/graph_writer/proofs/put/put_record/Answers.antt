use Rattle.std.proofs.Common.{◌≡◌, ◌+◌, ◌*◌, ◌++◌, length, sym, ap, ◌∙◌, arith}
use Rattle.octets.specs.Writing.{written}
use Rattle.graphs.specs.View.{ternary_rows, range_rows, rows_view, node_view}
use Rattle.graph_reader.specs.Encoding.{row_bytes}
use Rattle.graph_writer.specs.Parts.{head_of, bytes_for}
use Rattle.graph_writer.proofs.Written.{part_behind}
use Rattle.graph_writer.proofs.Rowing.{bytes_length, record_for_lem, head_length}
use Rattle.graph_writer.proofs.put.put_record.Goals.{in-Ternary, in-Range}
use Rattle.graph_writer.proofs.put.put_record.Goals as goal

pub returns : goal.returns
returns c =
    let n = c.args.node.now in
    let start = c.args.area.now in
    let four : length n.places ≡ 4 = c.head_of.ensures.four in
    let same = record_for_lem n four in
    let head : c.put.new.area ≡ written start 0 (head_of n) = c.put.ensures ∙ ap (written start 0) c.head_of.ensures.is in
    let all : c.match-node.area ≡ written start 0 (bytes_for n) = elim c.match-node.branch [
      | in-Ternary w ↦
          let rows : ternary_rows w.named.result.now ≡ (node_view n).rows = ap ternary_rows w.named.ensures.is ∙ ap (rows_view n.row_count) (sym w.in-Ternary.is) in
          w.area-is ∙ part_behind start c.put.new.area w.put_rows.new.area (head_of n) (row_bytes (ternary_rows w.named.result.now)) 16 head (sym (head_length n)) (omega arith) w.put_rows.ensures
          ∙ ap (λ v. written start 0 (head_of n ++ row_bytes v)) rows
      | in-Range w ↦
          let rows : range_rows w.named-in-Range.result.now ≡ (node_view n).rows = ap range_rows w.named-in-Range.ensures.is ∙ ap (rows_view n.row_count) (sym w.in-Range.is) in
          w.area-is ∙ part_behind start c.put.new.area w.put_rows-in-Range.new.area (head_of n) (row_bytes (range_rows w.named-in-Range.result.now)) 16 head (sym (head_length n)) (omega arith) w.put_rows-in-Range.ensures
          ∙ ap (λ v. written start 0 (head_of n ++ row_bytes v)) rows
    ] in
    record {
      is = ap (λ n. 16 + 10 * n) c.row_total.ensures.is ∙ sym (bytes_length n) ∙ ap length same;
      rows =
          record {
            long = ap (λ n. 16 + 10 * n) c.row_total.ensures.is;
            small = omega (arith, c.row_total.ensures.few);
            four = four;
            all = λ h. sym c.row_total.ensures.is ∙ c.row_total.ensures.full h;
          };
      area = all ∙ ap (written start 0) same;
    }
