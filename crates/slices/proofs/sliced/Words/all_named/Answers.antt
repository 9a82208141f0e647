use Rattle.std.proofs.Common.{refl}
use Rattle.slices.specs.Words.{named, half_of}
use Rattle.slices.specs.WordLaws.{named_more}
use Rattle.slices.proofs.sliced.Words.all_named.Goals as goal

pub loop-place-init : goal.loop-place-init
unfolding named
loop-place-init c = refl

pub loop-place-preserved : goal.loop-place-preserved
loop-place-preserved c =
    let m = named_more c.args.self.now.words (half_of c.args.question.now.state.number c.args.question.now.key) c.loop-place.place in
    cc
