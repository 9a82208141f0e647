use Rattle.std.specs.Option.{option_map}
use Rattle.std.proofs.Common.{◌≡◌, true, false, ◌∙◌, subst, arith, rules, tests}
use Rattle.std.proofs.lemmas.Iterator.{first_from_Range}
use Rattle.refusals.specs.Searching.{fault_of}
use Rattle.graph_reader.specs.declared.fault.FileFault.TheVariants.{Pair}
use Rattle.graph_reader.specs.Records.{at}
use Rattle.graph_reader.specs.Files.{pair_right}
use Rattle.graphs.proofs.Finding.{First, told_first}
use Rattle.graph_reader.proofs.pairs.check_pairs.Goals as goal

pub returns : goal.returns
returns c =
    let f = c.args.file.now in
    let first : First (pair_right f) Pair (at f 0) c.find.result =
    subst (λ n. First (pair_right f) Pair n c.find.result) c.byte_at.ensures
    (first_from_Range _ _ _ _ (λ i. pair_right f i ≡ false) (λ i. pair_right f i ≡ true) c.find.ensures.ran
    (λ x q k. grind (arith, tests)) (λ x q k. (search rules, grind (arith, tests)))) in
    let same : fault_of c.map_or.result ≡ option_map Pair c.find.result = search rules in
    same ∙ told_first (pair_right f) Pair (at f 0) c.find.result first
