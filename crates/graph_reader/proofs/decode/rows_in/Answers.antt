use Rattle.std.proofs.Common.{◌≡◌, ◌+◌, ◌*◌, take, ap, ◌∙◌, rules}
use Rattle.std.proofs.lemmas.List.FromFn.{take-map-range_with_len}
use Rattle.graph_reader.specs.Records.{at}
use Rattle.graph_reader.specs.Decoding.{each_row, ternary_in, range_in}
use Rattle.graph_reader.proofs.decode.rows_in.Goals as goal

pub returns-then-bytes-eq0 : goal.returns-then-bytes-eq0
returns-then-bytes-eq0 c =
    let r = c.args.bytes.now in
    let rows : take (at r 14) c.all_rows.result ≡ each_row (ternary_in r) (at r 14) =
    ap (take (at r 14)) c.all_rows.ensures ∙ take-map-range_with_len (λ k. ternary_in r (16 + 10 * k)) 0 16 (at r 14) c.requires.1 in
    search rules

pub returns-else-bytes-eq0 : goal.returns-else-bytes-eq0
returns-else-bytes-eq0 c =
    let r = c.args.bytes.now in
    let rows : take (at r 14) c.all_rows-else-bytes-eq0.result ≡ each_row (range_in r) (at r 14) =
    ap (take (at r 14)) c.all_rows-else-bytes-eq0.ensures ∙ take-map-range_with_len (λ k. range_in r (16 + 10 * k)) 0 16 (at r 14) c.requires.1 in
    search rules
