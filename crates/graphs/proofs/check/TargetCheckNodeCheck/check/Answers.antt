use Rattle.std.specs.Option.{option_map}
use Rattle.std.proofs.Common.{◌≡◌, ℕ, Bool, true, false, ap, ◌∙◌, arith, rules, tests}
use Rattle.std.proofs.lemmas.Iterator.{first_from_Range}
use Rattle.refusals.specs.Searching.{fault_of, first_told}
use Rattle.graphs.specs.declared.fault.GraphFault.{GraphFault}
use Rattle.graphs.specs.declared.fault.GraphFault.TheVariants.{Target}
use Rattle.graphs.specs.View.{node_view, target_of}
use Rattle.graphs.specs.Checking.{target_sound, row_fault}
use Rattle.graphs.proofs.Finding.{First, told_first}
use Rattle.graphs.proofs.check.TargetCheckNodeCheck.check.Goals as goal

pub returns : goal.returns
returns c =
    let rows = (node_view c.args.node.now).rows in
    let sound : ℕ → Bool = λ k. target_sound c.args.self.now.count c.args.n (target_of rows k) in
    let say : ℕ → GraphFault = Target c.args.n in
    let first : First sound say c.row_total.result c.find.result =
    first_from_Range _ _ _ _ (λ i. sound i ≡ false) (λ i. sound i ≡ true) c.find.ensures.ran
    (λ x q k. grind (arith, tests)) (λ x q k. (search rules, grind (arith, tests))) in
    let same : fault_of c.map_or.result ≡ option_map say c.find.result = search rules in
    same ∙ told_first sound say c.row_total.result c.find.result first ∙ ap (first_told (row_fault c.args.self.now.count c.args.n rows) 0) c.row_total.ensures.is
