use Rattle.std.proofs.Common.{◌≡◌, min, true, None, Err, Result, sym, ap, ◌∙◌, subst, ap₂}
use Rattle.std.proofs.lemmas.Result.{err_from_is_err_and}
use Rattle.refusals.specs.Searching.{fault_of}
use Rattle.refusals.specs.Least.{Answers}
use Rattle.refusals.proofs.Searching.{unless_none}
use Rattle.headers.specs.Table.{minimum_in}
use Rattle.graphs.specs.View.{graph_view}
use Rattle.walks.specs.Plans.{store_count}
use Rattle.plans.specs.Chains.{chain_of}
use Rattle.plans.specs.Faults.{of_plan}
use Rattle.plans.specs.declared.fault.PlanFault.{PlanFault}
use Rattle.plans.specs.Refusals.{PlanApplies}
use Rattle.plans.specs.Checking.{plan_fault}
use Rattle.compiler.specs.declared.checked.Checked.{Checked}
use Rattle.compiler.specs.declared.fault.LoadFault.{LoadFault}
use Rattle.compiler.specs.declared.fault.LoadFault.TheVariants.{TooMany}
use Rattle.compiler.specs.Faults.{of_load}
use Rattle.compiler.specs.Loading.{roomy, LoadApplies, Loadable}
use Rattle.refusals.specs.Least.{Least}
use Rattle.compiler.proofs.Refused.{read_is, read_clear, size_is, roomy_cut, read_told, plan_told, room_told, read_least, plan_least, room_least, nothing_left}
use Rattle.compiler.proofs.compile.check.Goals as goal

pub returns-in_err-graph : goal.returns-in_err-graph
returns-in_err-graph c =
    let minimum = minimum_in c.args.table.now in
    let f = c.args.file.now in
    let p = c.args.plan.now in
    let e = err_from_is_err_and c.from_residual.result c.from_residual.ensures.1 in
    let told : Result Checked LoadFault → Type 0 = Answers of_load (LoadApplies minimum f p c.args.capacity) (λ x. Loadable minimum f p c.args.capacity x) in
    record {
      is = ap fault_of (e.1 ∙ ap Err e.2) ∙ read_told minimum f p c.args.capacity c.in_err-graph.field-0.0 c.in_err-graph.ensures.is;
      answers = subst told (sym (e.1 ∙ ap Err e.2)) (read_least minimum f p c.args.capacity c.in_err-graph.field-0.0 c.in_err-graph.ensures.answers);
    }

pub returns-in_err-chains : goal.returns-in_err-chains
returns-in_err-chains c =
    let minimum = minimum_in c.args.table.now in
    let f = c.args.file.now in
    let p = c.args.plan.now in
    let read = c.in_ok-graph.ensures in
    let nodes = read_is minimum f (graph_view c.in_ok-graph.graph) read.is in
    let e = err_from_is_err_and c.from_residual-in_err-chains.result c.from_residual-in_err-chains.ensures.1 in
    let told : Result Checked LoadFault → Type 0 = Answers of_load (LoadApplies minimum f p c.args.capacity) (λ x. Loadable minimum f p c.args.capacity x) in
    let clear = read_clear minimum f (graph_view c.in_ok-graph.graph) read.is in
    record {
      is =
          ap fault_of (e.1 ∙ ap Err e.2)
          ∙ plan_told minimum f p c.args.capacity clear c.in_err-chains.field-0.0 (c.in_err-chains.ensures.is ∙ ap (λ g. plan_fault g p) nodes);
      answers =
          subst told (sym (e.1 ∙ ap Err e.2))
          (plan_least minimum f p c.args.capacity read.answers.0 c.in_err-chains.field-0.0
          (subst (λ g. Least of_plan (PlanApplies g p) c.in_err-chains.field-0.0) nodes c.in_err-chains.ensures.answers));
    }

pub returns-in_err-check_room : goal.returns-in_err-check_room
returns-in_err-check_room c =
    let minimum = minimum_in c.args.table.now in
    let f = c.args.file.now in
    let p = c.args.plan.now in
    let read = c.in_ok-graph.ensures in
    let nodes = read_is minimum f (graph_view c.in_ok-graph.graph) read.is in
    let plan = c.in_ok-chains.ensures.answers in
    let e = err_from_is_err_and c.from_residual-in_err-check_room.result c.from_residual-in_err-check_room.ensures.1 in
    let told : Result Checked LoadFault → Type 0 = Answers of_load (LoadApplies minimum f p c.args.capacity) (λ x. Loadable minimum f p c.args.capacity x) in
    let counted = c.row_count.ensures ∙ ap₂ (λ g chain. min (store_count g chain) 65535) nodes plan.1.same in
    let clear = read_clear minimum f (graph_view c.in_ok-graph.graph) read.is in
    record {
      is =
          ap fault_of (e.1 ∙ ap Err e.2)
          ∙ room_told minimum f p c.args.capacity clear (c.in_ok-chains.ensures.is ∙ ap (λ g. plan_fault g p) nodes) c.row_count.result counted _ c.in_err-check_room.ensures;
      answers =
          subst told (sym (e.1 ∙ ap Err e.2))
          (room_least minimum f p c.args.capacity read.answers.0 (subst (λ g. (d : PlanFault) → PlanApplies g p d → ⊥) nodes plan.0) c.row_count.result counted
          c.in_err-check_room.field-0.0 c.in_err-check_room.ensures);
    }

pub returns : goal.returns
returns c =
    let minimum = minimum_in c.args.table.now in
    let f = c.args.file.now in
    let p = c.args.plan.now in
    let capacity = c.args.capacity in
    let g = c.in_ok-graph.graph in
    let chains = c.in_ok-chains.chains in
    let read = c.in_ok-graph.ensures in
    let nodes = read_is minimum f (graph_view g) read.is in
    let plan = c.in_ok-chains.ensures.answers in
    let rows = c.row_count.result in
    let fits : roomy rows capacity ≡ true = unless_none (roomy rows capacity) (TooMany rows) (sym c.in_ok-check_room.ensures) in
    let room = roomy_cut (store_count (graph_view g) (chain_of chains)) capacity (ap (λ n. roomy n capacity) (sym c.row_count.ensures) ∙ fits) in
    let counted = c.row_count.ensures ∙ ap₂ (λ g chain. min (store_count g chain) 65535) nodes plan.1.same in
    let clear = read_clear minimum f (graph_view g) read.is in
    record {
      is = room_told minimum f p capacity clear (c.in_ok-chains.ensures.is ∙ ap (λ g. plan_fault g p) nodes) rows counted None c.in_ok-check_room.ensures;
      answers = (
        nothing_left minimum f p capacity read.answers.0 (subst (λ g. (d : PlanFault) → PlanApplies g p d → ⊥) nodes plan.0) rows counted fits,
        record { read = sym read.is; same = plan.1.same; lawful = plan.1.lawful; size = size_is (graph_view g) p c.in_ok-chains.ensures.is; few = room.0; room = room.1 },
      );
    }
