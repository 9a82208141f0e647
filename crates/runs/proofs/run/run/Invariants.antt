use Rattle.std.proofs.Common.{◌≡◌, take, drop}
use Rattle.taps.specs.Plain.{PlainTap}
use Rattle.taps.specs.Following.{Follows}
use Rattle.runs.specs.Following.{RunAs}
use Rattle.runs.proofs.run.run.Given as goal

-- the calls so far are answered as on the plain tap, and the places behind them are as they were
abbrev pub invariant-loop-i : goal.invariant-loop-i
invariant-loop-i g l =
    let meaning = g.S.Store.meaning in record {
      run : (p : PlainTap) → Follows meaning l.initial.tap p → RunAs meaning p l.initial.tap l.tap (take l.i l.calls) (take l.i l.initial.replies) (take l.i l.replies);
      rest : drop l.i l.replies ≡ drop l.i l.initial.replies;
    }
