use Rattle.std.proofs.Common.{◌≡◌, ◌-◌, ap, ◌∙◌, rules, tests}
use Rattle.patterns.specs.Splitting.{largest, top_block}
use Rattle.patterns.proofs.Falling.{largest_by}
use Rattle.patterns.proofs.split.top_block.Goals as goal

pub returns : goal.returns
unfolding top_block
returns c =
    let (xs, j, then, folds, last) = c.find.ensures.ran in
    c.unwrap_or.ensures
    ∙ largest_by c.args.low c.args.high _ (λ x b q k. search (rules, tests)) xs c.rev.result _ c.find.result j (search rules) then folds last
    ∙ (let top : c.rev.result.iter.end ≡ 17 = search rules in ap (λ e. largest c.args.low c.args.high (e - 1)) top)
