use Rattle.std.proofs.Common.{◌+◌, map, rules, ◌∙◌}
use Rattle.walks.specs.Bytes.{byte_at}
use Rattle.walker.proofs.Keying.{spelled_by}
use Rattle.walker.proofs.header.HeaderAt.key.Goals as goal

pub returns : goal.returns
returns c =
    c.from_be_bytes.ensures
    ∙ spelled_by c.from_fn.ensures.items (map (λ place. byte_at c.args.self.now.packet.now (c.args.self.now.at + place)) c.args.places.now) (λ i y q k. search rules)
