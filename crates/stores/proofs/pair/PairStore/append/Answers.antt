use Rattle.std.proofs.Common.{◌≡◌, ◌-◌, min, length, ap, ◌∙◌, arith}
use Rattle.stores.specs.Paired.{paired, both_take, both_rows}
use Rattle.stores.specs.Pairs.{append_first, append_second, admits_same, take_empty, take_second, taken_by_both}
use Rattle.stores.proofs.pair.PairStore.append.Goals as goal
use Rattle.stores.proofs.pair.PairStore.append.Goals.{else-held-eq0-via-then-held-eq0+else-takes-gt0, else-held-eq0-via-else-held-eq0}

pub returns-then-takes-gt0 : goal.returns-then-takes-gt0
returns-then-takes-gt0 g c =
    let s = c.args.self.now in
    let a = g.A.Store.meaning s.first in
    let b = g.B.Store.meaning s.second in
    let r = c.args.row.now in
    let room : min (both_take a b) (65535 - length (both_rows a b)) ≡ 0 → ⊥ = omega arith in
    record {
      answered = c.append.ensures.answered ∙ admits_same a (paired a b s.questions) (omega arith) room;
      after = ap (λ m. paired m b s.questions) c.append.ensures.after ∙ append_first a b r s.questions room (omega arith) (omega arith);
    }

pub returns-else-held-eq0 : goal.returns-else-held-eq0
returns-else-held-eq0 g c =
    let s = c.args.self.now in
    let a = g.A.Store.meaning s.first in
    let b = g.B.Store.meaning s.second in
    let r = c.args.row.now in
    let room : min (both_take a b) (65535 - length (both_rows a b)) ≡ 0 → ⊥ = omega arith in
    let second : both_take a b ≡ b.takes =
    elim c.else-held-eq0.branch [
      | else-held-eq0-via-then-held-eq0+else-takes-gt0 w ↦ (let e = take_empty a b (omega arith) in omega arith)
      | else-held-eq0-via-else-held-eq0 w ↦ take_second a b (omega arith)
    ] in
    record {
      answered = c.append-else-held-eq0.ensures.answered ∙ admits_same b (paired a b s.questions) (omega (arith, taken_by_both a b r s.questions room)) room;
      after = ap (λ m. paired a m s.questions) c.append-else-held-eq0.ensures.after ∙ append_second a b r s.questions room second;
    }
