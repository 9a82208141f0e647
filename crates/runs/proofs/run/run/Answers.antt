use Rattle.std.proofs.Common.{◌≡◌, ◌+◌, ◌<◌, List, [], ◌∷◌, ◌++◌, length, get_or, take, sym, refl, ap, ◌∙◌, subst, arith}
use Rattle.std.proofs.lemmas.List.{take_more, take_more_set}
use Rattle.runs.specs.declared.calls.Call.{Call}
use Rattle.runs.specs.declared.calls.Reply.{Reply}
use Rattle.runs.specs.Following.{RunAs}
use Rattle.runs.proofs.Calling.{run_none, run_more, run_only, next_place, rest_more}
use Rattle.runs.proofs.run.run.Goals as goal

pub loop-i-init : goal.loop-i-init
loop-i-init g c = record { run = λ p f. run_none g.S.Store.meaning p c.args.tap.now g.row.N f; rest = refl }

pub loop-i-preserved : goal.loop-i-preserved
loop-i-preserved g c =
    let meaning = g.S.Store.meaning in
    let l = c.loop-i in
    let t = c.args.tap.now in
    let calls = c.args.calls.now in
    let places = c.args.replies.now in
    let any = c.index-replies-i.result in
    let place = get_or l.replies l.i any in
    let reply = c.make_in_place.new.reply in
    let called : l.i < length calls = omega (arith, c.loop-i-test.true, c.min-count.ensures) in
    let there : l.i < length places = omega (arith, c.loop-i-test.true, c.min-count.ensures) in
    let placed : l.i < length l.replies = omega arith in
    let before : take (l.i + 1) places ≡ take l.i places ++ (place ∷ []) =
    take_more places l.i any there ∙ ap (λ r. take l.i places ++ (r ∷ [])) (sym (next_place l.replies places l.i any l.invariant.rest)) in
    record {
      run = λ p f.
          subst (λ (rs : List (Reply g.row.N)). RunAs meaning p t c.make_in_place.new.tap (take (l.i + 1) calls) (take (l.i + 1) places) rs) (sym (take_more_set l.replies l.i reply placed))
          (subst (λ (ps : List (Reply g.row.N)). RunAs meaning p t c.make_in_place.new.tap (take (l.i + 1) calls) ps (take l.i l.replies ++ (reply ∷ []))) (sym before)
          (subst (λ (cs : List Call). RunAs meaning p t c.make_in_place.new.tap cs (take l.i places ++ (place ∷ [])) (take l.i l.replies ++ (reply ∷ []))) (sym (take_more calls l.i _ called))
          (run_more meaning p t l.tap c.make_in_place.new.tap (take l.i calls) (take l.i places) (take l.i l.replies) _ place reply (l.invariant.run p f) c.make_in_place.ensures.answered c.make_in_place.ensures.size)));
      rest = rest_more l.replies places l.i reply l.invariant.rest;
    }

pub returns-clause-only : goal.returns-clause-only
returns-clause-only g c = λ p f.
    let meaning = g.S.Store.meaning in
    let l = c.loop-i in
    let t = c.args.tap.now in
    let n = c.min-count.result in
    let all : l.i ≡ n = omega arith in
    run_only meaning p t l.tap (take n c.args.calls.now) (take n c.args.replies.now) (take n l.replies)
    (subst (λ k. RunAs meaning p t l.tap (take k c.args.calls.now) (take k c.args.replies.now) (take k l.replies)) all (l.invariant.run p f))
