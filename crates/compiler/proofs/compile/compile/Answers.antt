use Rattle.std.proofs.Common.{ap, ◌∙◌, subst}
use Rattle.refusals.specs.Least.{Answers}
use Rattle.headers.specs.Table.{minimum_in}
use Rattle.compiler.specs.Faults.{of_load}
use Rattle.compiler.specs.Loading.{LoadApplies, load_fault, Loaded}
use Rattle.compiler.proofs.compile.compile.Goals as goal

pub returns : goal.returns
returns g c =
    let f = c.args.file.now in
    let p = c.args.plan.now in
    let before = g.S.Store.meaning c.args.store.now in
    let after = g.S.Store.meaning c.compile_by.new.store in
    record {
      is = c.compile_by.ensures.is ∙ ap (λ table. load_fault (minimum_in table) f p before.capacity) c.standard.ensures.is;
      answers =
          subst (λ table. Answers of_load (LoadApplies (minimum_in table) f p before.capacity) (λ _. Loaded (minimum_in table) f p before after c.compile_by.new.program) c.compile_by.result)
          c.standard.ensures.is c.compile_by.ensures.answers;
      kept = c.compile_by.ensures.kept;
    }
