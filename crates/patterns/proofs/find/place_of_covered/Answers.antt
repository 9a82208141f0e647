use Rattle.std.proofs.Common.{◌∙◌, take, rules, tests}
use Rattle.std.proofs.lemmas.Iterator.{YieldsList-from_slice}
use Rattle.std.proofs.lemmas.Iterator.Consumers.{YieldsList-from_enumerate}
use Rattle.std.proofs.lemmas.Iterator.Search.{position_from_yields_List}
use Rattle.patterns.specs.Finding.{covered}
use Rattle.patterns.proofs.Finding.{position_numbered}
use Rattle.patterns.proofs.find.place_of_covered.Goals as goal

pub returns-clause-is : goal.returns-clause-is
returns-clause-is g c =
    let m = g.P.Pattern in
    let rows = c.args.rows.now in
    position_from_yields_List (λ p. covered m.made m.covers (take p.0 rows) p.1) _ _ c.position.result c.position.ensures.ran
    (YieldsList-from_enumerate (YieldsList-from_slice rows (search rules)) c.enumerate.ensures.count)
    (λ x b q k. search (rules, tests))
    ∙ position_numbered (λ i r. covered m.made m.covers (take i rows) r) rows
