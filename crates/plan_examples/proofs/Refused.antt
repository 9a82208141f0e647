-- No fault before 9 applies to the sample, and it needs 13 rows.
use Rattle.std.proofs.Common.{◌≡◌, min, refl}
use Rattle.refusals.specs.Least.{Least}
use Rattle.headers.specs.Table.{minimum}
use Rattle.graphs.specs.Refusals.{GraphApplies}
use Rattle.graphs.specs.declared.fault.GraphFault.{GraphFault}
use Rattle.graphs.proofs.Refused.{graph_lowest}
use Rattle.graph_reader.specs.declared.fault.FileFault.{FileFault}
use Rattle.graph_reader.specs.declared.fault.ReadFault.{ReadFault}
use Rattle.graph_reader.specs.declared.fault.ReadFault.TheVariants.{File, Graph}
use Rattle.graph_reader.specs.Decoding.{node_in}
use Rattle.graph_reader.specs.Files.{pair_right}
use Rattle.graph_reader.specs.Records.{right}
use Rattle.graph_reader.specs.Refusals.{FileApplies, Applies}
use Rattle.graph_reader.proofs.Refused.{file_lowest}
use Rattle.walks.specs.Plans.{store_count}
use Rattle.plans.specs.declared.fault.PlanFault.{PlanFault}
use Rattle.plans.specs.Refusals.{PlanApplies}
use Rattle.plans.proofs.Refused.{plan_lowest}
use Rattle.compiler.specs.declared.fault.LoadFault.{LoadFault}
use Rattle.compiler.specs.declared.fault.LoadFault.TheVariants.{TooMany}
use Rattle.compiler.specs.Faults.{of_load}
use Rattle.compiler.specs.Loading.{LoadApplies}
use Rattle.compiler.proofs.Refused.{room_least, nothing_left}
use Rattle.plan_examples.specs.SampleBytes.{sample_file, plan_with_tag}
use Rattle.plan_examples.specs.Worked.{sample, with_tag}

-- the first fault of file, graph and plan is computed: there is none
file_none : (e : FileFault) → FileApplies sample_file e → ⊥
unfolding right pair_right
file_none = file_lowest sample_file

graph_none : (e : GraphFault) → GraphApplies minimum sample e → ⊥
unfolding node_in
graph_none = graph_lowest minimum sample

read_none : (e : ReadFault) → Applies minimum sample_file e → ⊥
read_none (File e) = file_none e
read_none (Graph e) = graph_none e

plan_none : (e : PlanFault) → PlanApplies sample plan_with_tag e → ⊥
unfolding node_in
plan_none = plan_lowest sample plan_with_tag

counted : 13 ≡ min (store_count sample with_tag) 65535
unfolding node_in
counted = refl

pub serves : (e : LoadFault) → LoadApplies minimum sample_file plan_with_tag 13 e → ⊥
serves = nothing_left minimum sample_file plan_with_tag 13 read_none plan_none 13 counted refl

pub refuses : Least of_load (LoadApplies minimum sample_file plan_with_tag 12) (TooMany 13)
refuses = room_least minimum sample_file plan_with_tag 12 read_none plan_none 13 counted (TooMany 13) refl
