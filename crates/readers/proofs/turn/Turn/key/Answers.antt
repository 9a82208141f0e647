use Rattle.std.proofs.Common.{◌+◌, get_or, ap, ap₂, ◌∙◌}
use Rattle.std.proofs.lemmas.List.{take_all}
use Rattle.walks.specs.Bytes.{byte_at, spelled_in}
use Rattle.readers.specs.Headers.{bytes_at}
use Rattle.readers.proofs.Looking.{looked_more}
use Rattle.readers.proofs.turn.Turn.key.Goals as goal

pub loop-place-preserved : goal.loop-place-preserved
loop-place-preserved c =
    let self = c.args.self.now in
    looked_more (λ i. byte_at self.packet.now (self.at + i)) c.args.lookups.now c.loop-place.place-index c.loop-place-test.true
    c.byte.result (c.byte.ensures ∙ ap₂ (λ p at. byte_at p (at + get_or c.args.lookups.now c.loop-place.place-index 0)) c.header-header.ensures.packet c.header-header.ensures.at) c.loop-place.key c.push.new.self c.loop-place.invariant c.push.ensures

pub returns : goal.returns
returns c =
    let self = c.args.self.now in
    c.loop-place.invariant.number
    ∙ ap (λ ps. spelled_in 8 (bytes_at self.packet.now self.at ps)) (take_all c.loop-place.place-index c.args.lookups.now c.loop-place-test.false)
