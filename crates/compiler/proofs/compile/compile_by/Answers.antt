use Rattle.std.proofs.Common.{map, length, Err, Result, sym, ap, ◌∙◌, subst, arith}
use Rattle.std.proofs.lemmas.Result.{err_from_is_err_and}
use Rattle.refusals.specs.Least.{Least, Answers}
use Rattle.headers.specs.Table.{minimum_in}
use Rattle.graphs.specs.View.{graph_view}
use Rattle.stores.specs.Fits.{fits}
use Rattle.walks.specs.Rows.{StoreRow, store_rows}
use Rattle.walks.specs.Plans.{Lawful}
use Rattle.plans.proofs.Chaining.{chain_past}
use Rattle.compiler.specs.declared.fault.LoadFault.{LoadFault}
use Rattle.compiler.specs.Programs.{Stands}
use Rattle.compiler.specs.Faults.{of_load}
use Rattle.compiler.specs.Loading.{LoadApplies, Loaded, load_fault, storing}
use Rattle.compiler.proofs.compile.compile_by.Goals as goal

pub load-requires : goal.load-requires
load-requires g c =
    let l = c.in_ok-checked.ensures.answers.1 in
    record {
      few = l.few;
      room = omega (arith, l.room, c.capacity.ensures);
      lawful = l.lawful;
      past = λ n h. ap (λ chain. chain n) l.same ∙ chain_past c.args.plan.now (length (graph_view c.in_ok-checked.checked.graph)) n l.size h;
    }

pub returns : goal.returns
returns g c =
    let checked = c.in_ok-checked.ensures in
    let l = checked.answers.1 in
    let gr = graph_view c.in_ok-checked.checked.graph in
    let m = g.S.Store.meaning c.args.store.now in
    record {
      is = checked.is ∙ ap (load_fault (minimum_in c.args.table.now) c.args.file.now c.args.plan.now) c.capacity.ensures;
      answers = (
        subst (λ n. (e : LoadFault) → LoadApplies (minimum_in c.args.table.now) c.args.file.now c.args.plan.now n e → ⊥) c.capacity.ensures checked.answers.0,
        record {
          graph = gr;
          read = l.read;
          lawful = subst (Lawful gr) l.same l.lawful;
          rows = c.load.ensures.rows ∙ ap (λ chain. storing m (store_rows gr chain)) l.same;
          holds = c.load.ensures.holds ∙ ap (λ chain. map (λ (r : StoreRow). fits r.row) (store_rows gr chain)) l.same;
          stands = subst (Stands (minimum_in c.args.table.now) c.load.new.program gr) l.same c.load.ensures.stands;
        },
      );
      kept = tt;
    }

pub returns-in_err-checked-clause-answers : goal.returns-in_err-checked-clause-answers
returns-in_err-checked-clause-answers g c =
    let minimum = minimum_in c.args.table.now in
    let f = c.args.file.now in
    let p = c.args.plan.now in
    let m = g.S.Store.meaning c.args.store.now in
    let e = err_from_is_err_and c.from_residual.result c.from_residual.ensures.1 in
    let told : Result (Unit {0}) LoadFault → Type 0 = Answers of_load (LoadApplies minimum f p m.capacity) (λ x. Loaded minimum f p m m c.args.program.now) in
    subst told (sym (e.1 ∙ ap Err e.2))
    (subst (λ n. Least of_load (LoadApplies minimum f p n) c.in_err-checked.field-0.0) c.capacity.ensures c.in_err-checked.ensures.answers)
