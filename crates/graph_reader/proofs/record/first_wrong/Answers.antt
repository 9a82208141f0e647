use Rattle.std.proofs.Common.{◌≡◌, true, false, length, sym, ◌∙◌, arith, rules, tests}
use Rattle.std.proofs.lemmas.Iterator.{first_from_Range}
use Rattle.graph_reader.specs.Records.{right}
use Rattle.graphs.proofs.Finding.{First, told_first, wrapped_same}
use Rattle.graph_reader.proofs.record.first_wrong.Goals as goal

pub returns-clause-is : goal.returns-clause-is
returns-clause-is c =
    let r = c.args.bytes.now in
    let first : First (right r) (λ b. b) (length r) c.find.result =
    first_from_Range _ _ _ _ (λ i. right r i ≡ false) (λ i. right r i ≡ true) c.find.ensures.ran
    (λ x q k. grind (arith, tests)) (λ x q k. (search rules, grind (arith, tests))) in
    sym (wrapped_same _) ∙ told_first (right r) (λ b. b) (length r) c.find.result first
