use Rattle.std.proofs.Common.{◌&&◌, sym, ap, ◌∙◌}
use Rattle.walks.specs.Walk.{length_places}
use Rattle.walks.specs.Turning.{held}
use Rattle.walker.proofs.Heading.{held_append}
use Rattle.walker.proofs.header.HeaderAt.holds_all.Goals as goal

pub returns-then-holds : goal.returns-then-holds
returns-then-holds c =
    let p = c.args.self.now.packet.now in
    let at = c.args.self.now.at in
    c.holds_length.ensures
    ∙ ap (λ b. b && held p at (length_places c.args.length)) (sym c.if-holds.true ∙ c.holds.ensures)
    ∙ sym (held_append p at c.args.places.now (length_places c.args.length))

pub returns-else-holds : goal.returns-else-holds
returns-else-holds c =
    let p = c.args.self.now.packet.now in
    let at = c.args.self.now.at in
    c.if-holds.false
    ∙ ap (λ b. b && held p at (length_places c.args.length)) (sym c.if-holds.false ∙ c.holds.ensures)
    ∙ sym (held_append p at c.args.places.now (length_places c.args.length))
