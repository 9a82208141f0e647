use Rattle.std.proofs.Common.{◌≡◌, ◌^◌, ◌<◌, ap, ◌∙◌, arith, pow_pos}
use Rattle.patterns.specs.Splitting.{top_block}
use Rattle.patterns.proofs.Largest.{top_le, top_is}
use Rattle.patterns.proofs.split.step.Goals as goal

pub size-requires : goal.size-requires
size-requires c = omega (arith, c.top_block.ensures, top_le c.args.low c.args.high)

pub returns : goal.returns
returns c =
    let k = top_block c.args.low c.args.high in
    let e : c.size.result ≡ 2 ^ k = c.size.ensures ∙ ap (λ x. 2 ^ x) c.top_block.ensures in
    let p : 0 < 2 ^ k = pow_pos k in
    let t = (top_is c.args.low c.args.high c.requires (omega arith)).inside in
    record { is = e; some = omega arith; within = omega arith }
