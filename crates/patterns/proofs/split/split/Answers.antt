use Rattle.std.proofs.Common.{◌≡◌, ◌+◌, ◌-◌, ◌^◌, ◌<◌, ◌++◌, length, take, sym, ap, ◌∙◌, ap₂, le_refl, arith}
use Rattle.std.proofs.lemmas.List.{length-set, length-take-le, take-append-drop}
use Rattle.patterns.specs.Splitting.{split_of}
use Rattle.patterns.proofs.Blocks.{split_fits}
use Rattle.patterns.proofs.Steps.{split_rule}
use Rattle.patterns.proofs.Writing.{room, write, done, drop_next}
use Rattle.patterns.proofs.split.split.Goals as goal

pub bounds-out-n : goal.bounds-out-n
bounds-out-n c =
    omega (arith, room c.loop-low.out c.loop-low.n c.loop-low.low c.args.span.now.high c.args.span.now.low c.loop-low.invariant.0 (omega (arith, c.loop-low.invariant.2, c.loop-low.invariant.3)) (omega arith) (omega arith))

pub loop-low-preserved : goal.loop-low-preserved
loop-low-preserved c =
    let high = c.args.span.now.high in
    let from = c.args.span.now.low in
    let out = c.loop-low.out in
    let n = c.loop-low.n in
    let low = c.loop-low.low in
    let wide : high < 2 ^ 16 = omega arith in
    let long : length out ≡ 30 = c.loop-low.invariant.3 in
    let r : n < 30 = room out n low high from c.loop-low.invariant.0 (omega (arith, c.loop-low.invariant.2)) wide (omega arith) in
    let i : n < length out = omega arith in
    let b = c.block_at.result in (
      write out n low high from c.loop-low.invariant.0 c.step-count.result b c.step-count.ensures.is c.block_at.ensures (omega arith) i,
      drop_next out c.args.out.now n b c.loop-low.invariant.1,
      omega arith,
      simp length-set long,
    )

pub returns : goal.returns
returns c =
    let high = c.args.span.now.high in
    let low = c.args.span.now.low in
    let out = c.loop-low.out in
    let n = c.loop-low.n in
    let wide : high < 2 ^ 16 = omega arith in
    let long : length out ≡ 30 = c.loop-low.invariant.3 in
    let held : length (take n out) ≡ n = length-take-le n out (omega (arith, c.loop-low.invariant.2)) in
    let all : take n out ≡ split_of low high = done out n c.loop-low.low high low c.loop-low.invariant.0 (omega arith) in
    record {
      count = sym held ∙ ap length all;
      written = sym (take-append-drop n out) ∙ ap₂ ◌++◌ all c.loop-low.invariant.1;
      room = long;
      few = c.loop-low.invariant.2;
      rule = split_rule (high + 1 - low) low high (le_refl _) wide;
      same = λ k h. split_fits (high + 1 - low) low high k (le_refl _) wide h;
    }
