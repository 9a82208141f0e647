use Rattle.std.proofs.Common.{map, Err, Result, sym, ap, ◌∙◌, subst, arith}
use Rattle.std.proofs.lemmas.Result.{err_from_is_err_and}
use Rattle.stores.specs.Meaning.{Meaning, wiped}
use Rattle.stores.proofs.Fills.{appended_capacity}
use Rattle.walks.specs.Rows.{StoreRow, store_rows}
use Rattle.plans.specs.Chains.{chain_in}
use Rattle.compiler.specs.declared.fault.LoadFault.{LoadFault}
use Rattle.taps.specs.Following.{Follows, LoadFollows}
use Rattle.taps.proofs.Loading.{over, load_refused, load_accepted}
use Rattle.taps.proofs.tap.Tap.load.Goals as goal

pub returns-in_err-compile-clause-follows : goal.returns-in_err-compile-clause-follows
returns-in_err-compile-clause-follows g c = λ p f.
    let meaning = g.S.Store.meaning in
    let t = c.args.self.now in
    let e = err_from_is_err_and c.from_residual.result c.from_residual.ensures.1 in
    let h = c.in_err-compile.ensures in
    subst (λ (r : Result (Unit {0}) LoadFault). LoadFollows p c.args.file.now c.args.plan.now (meaning t.inner.store).capacity r (Follows meaning (over t c.compile.new.store))) (sym (e.1 ∙ ap Err e.2))
    (load_refused meaning t c.compile.new.store c.args.file.now c.args.plan.now p f c.in_err-compile.field-0.0 h.answers (ap meaning h.kept.0))

pub returns-clause-follows : goal.returns-clause-follows
returns-clause-follows g c = λ p f.
    let h = c.in_ok-compile.ensures in
    load_accepted g.S.Store.meaning c.args.self.now c.compile.new.store c.args.file.now c.args.plan.now p f c.compile.new.program (λ i. omega (arith, c.type_inv.file i)) h.answers.0 h.answers.1

pub returns-clause-capacity : goal.returns-clause-capacity
returns-clause-capacity g c =
    let m = g.S.Store.meaning c.args.self.now.inner.store in
    let l = c.in_ok-compile.ensures.answers.1 in
    ap (λ (x : Meaning). x.capacity) l.rows ∙ appended_capacity (wiped m) (map (λ (r : StoreRow). r.row) (store_rows l.graph (chain_in c.args.plan.now)))
