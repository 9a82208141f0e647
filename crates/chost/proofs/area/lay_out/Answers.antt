use Rattle.std.proofs.Common.{◌+◌, ◌*◌, take, ap, ◌∙◌}
use Rattle.octets.specs.Writing.{written}
use Rattle.chost.proofs.Laying.{more_so_far}
use Rattle.chost.proofs.area.lay_out.Goals as goal

pub loop-place-preserved : goal.loop-place-preserved
loop-place-preserved c =
    let r = c.args.reading.now in
    let k = c.loop-place.place in
    c.put-in-loop-place.ensures ∙ ap (written c.loop-place.area (6 + 6 * k)) c.mark_bytes.ensures
    ∙ more_so_far r (take r.marks c.args.marks.now) k _ c.args.area.now c.loop-place.area c.loop-place-test.true c.loop-place.invariant
