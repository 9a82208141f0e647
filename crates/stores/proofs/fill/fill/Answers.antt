use Rattle.std.proofs.Common.{◌+◌, ◌-◌, ◌<◌, Err, sym, ap, ◌∙◌, arith}
use Rattle.std.proofs.lemmas.Result.{err_from_is_err_and}
use Rattle.stores.specs.Meaning.{appended, admits}
use Rattle.stores.proofs.Fills.{put, put_none, put_more, put_all, put_full, all_in, not_all, admits_ok, admits_err, refused_same}
use Rattle.stores.proofs.fill.fill.Goals as goal

pub loop-row-init : goal.loop-row-init
loop-row-init g c =
    let m = g.S.Store.meaning c.args.store.now in
    let rows = c.args.rows.now in
    let is = put_none m rows in
    (omega arith, is, λ h. all_in m rows (omega arith), λ h. is ∙ put_all m rows 0 (omega arith) (omega arith))

pub loop-row-preserved : goal.loop-row-preserved
loop-row-preserved g c =
    let m = g.S.Store.meaning c.args.store.now in
    let rows = c.args.rows.now in
    let i = c.loop-row.row-index in
    let now-is = c.loop-row.invariant.1 in
    let some : 0 < m.takes - i = admits_ok (put m i rows) _ (sym (ap admits now-is) ∙ sym c.append.ensures.answered ∙ c.in_ok-append.was) in
    let is = c.append.ensures.after ∙ ap (λ k. appended k c.row-item.result) now-is ∙ put_more m rows i c.row-item.result c.row-item.is (omega arith) (omega arith) in
    (omega arith, is, λ h. all_in m rows (omega arith), λ h. is ∙ put_all m rows (i + 1) (omega arith) (omega arith))

pub returns-in_err-append : goal.returns-in_err-append
returns-in_err-append g c =
    let m = g.S.Store.meaning c.args.store.now in
    let rows = c.args.rows.now in
    let i = c.loop-row.row-index in
    let now-is = c.loop-row.invariant.1 in
    let full = admits_err (put m i rows) _ (sym (ap admits now-is) ∙ sym c.append.ensures.answered ∙ c.in_err-append.was) in
    let p = err_from_is_err_and c.from_residual.result c.from_residual.ensures.1 in
    record {
      answered = p.1 ∙ ap Err (p.2 ∙ full.1) ∙ not_all m rows (omega arith);
      after = c.append.ensures.after ∙ ap (λ k. appended k c.row-item.result) now-is ∙ refused_same (put m i rows) c.row-item.result full.0 ∙ put_full m rows i (omega arith) (omega arith);
    }
