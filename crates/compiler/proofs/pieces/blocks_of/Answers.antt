use Rattle.std.proofs.Common.{◌≡◌, length, ◌++◌, List, take, ℕ, sym, ◌∙◌}
use Rattle.std.proofs.Math.Seq.{take-append_seam}
use Rattle.plans.proofs.Rowing.{span_blocks}
use Rattle.compiler.proofs.pieces.blocks_of.Goals as goal

-- a list that was written from the front begins with what was written
begins : {X : Type 0} (xs ys zs : List X) (n : ℕ) → n ≡ length xs → zs ≡ xs ++ ys → take n zs ≡ xs
begins xs ys zs n count written = rw count (rw written (take-append_seam xs ys))

pub returns : goal.returns
returns c =
    let e = c.split-count.ensures in
    c.counted.ensures ∙ begins _ _ _ _ e.count e.written ∙ span_blocks c.args.row c.in-Some.span (sym c.make.ensures ∙ c.in-Some.is)
