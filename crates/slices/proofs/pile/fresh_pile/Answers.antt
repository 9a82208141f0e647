use Rattle.std.proofs.Common.{ap, ◌∙◌}
use Rattle.stores.specs.Meaning.{fresh}
use Rattle.stores.specs.Paired.{paired}
use Rattle.slices.specs.Piled.{of_sliced, of_pair}
use Rattle.slices.proofs.pile.fresh_pile.Goals as goal

pub returns : goal.returns
returns c =
    let inner = c.new-4.ensures ∙ ap (λ m. paired m (of_sliced c.new-3.result) 0) c.new-2.ensures ∙ ap (λ m. paired (fresh 512) m 0) c.new-3.ensures in
    c.new-5.ensures ∙ ap (λ m. paired m (of_pair c.new-4.result) 0) c.new.ensures ∙ ap (λ m. paired (fresh 64) m 0) inner
