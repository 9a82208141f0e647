use Rattle.std.proofs.Common.{◌+◌, ◌<◌, ◌≤◌, length, rules}
use borrow.Author.Tests.{tests}
use Rattle.std.proofs.lemmas.Iterator.{YieldsList-from_slice, cases_from_all}
use Rattle.walker.proofs.Heading.{held_by}
use Rattle.walker.proofs.header.HeaderAt.holds.Goals as goal

pub returns : goal.returns
returns c =
    let p = c.args.self.now.packet.now in
    let at = c.args.self.now.at in
    held_by p at c.args.places.now c.all.result
    (cases_from_all _ _ c.all.result (λ place. at + place < length p) (λ place. length p ≤ at + place) c.all.ensures.ran
    (YieldsList-from_slice c.args.places.now c.iter.ensures.rest) (λ x q k. search (rules, tests)) (λ x q k. search (rules, tests)))
