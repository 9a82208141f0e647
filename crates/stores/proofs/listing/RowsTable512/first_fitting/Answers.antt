use Rattle.std.proofs.Common.{◌≡◌, position, take, ap, ◌∙◌, rules}
use Rattle.stores.specs.Fits.{fits}
use Rattle.stores.specs.Answering.{answer_position}
use Rattle.stores.proofs.listing.RowsTable512.first_fitting.Goals as goal

-- a place below 512 stays what it is in 16 bits
pub returns-clause-found : goal.returns-clause-found
returns-clause-found c =
    let told : c.map.result ≡ c.first_place.result = search rules in
    λ _. told ∙ c.first_place.ensures ∙ ap (λ held. position (λ r. fits r c.args.question.now) (take held c.args.self.now.rows)) c.from-end.ensures ∙ answer_position c.args.question.now (take c.args.held c.args.self.now.rows)
