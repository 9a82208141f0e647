use Rattle.std.proofs.Common.{◌≡◌, length, Some, None, sym, ap, ◌∙◌, subst, rules}
use Rattle.refusals.specs.Searching.{fault_of}
use Rattle.headers.specs.Table.{minimum_in}
use Rattle.graph_writer.specs.declared.fault.WriteFault.TheVariants.{Area}
use Rattle.graph_writer.specs.Writing.{records_fault, write_fault, Standing}
use Rattle.graph_writer.proofs.AsRead.{told_as_read}
use Rattle.graph_writer.proofs.write.first_fault.Goals as goal

pub returns-in_err-check_records-clause-as_read : goal.returns-in_err-check_records-clause-as_read
returns-in_err-check_records-clause-as_read c =
    let g = c.args.graph.now in
    let minimum = minimum_in c.args.table.now in
    let named = c.named_nodes.ensures.is in
    let is : fault_of c.from_residual-in_err-check_records.result ≡ write_fault minimum g c.args.room = search rules in
    λ laid.
    is ∙ told_as_read g laid (ap length (sym named) ∙ c.named_nodes.ensures.full laid.few)
    (λ none. let z : Some c.in_err-check_records.field-0.0 ≡ None = c.in_err-check_records.ensures.is ∙ ap records_fault named ∙ none in absurd (cc)) minimum c.args.room

pub returns-in_err-check_graph-clause-as_read : goal.returns-in_err-check_graph-clause-as_read
returns-in_err-check_graph-clause-as_read c =
    let g = c.args.graph.now in
    let minimum = minimum_in c.args.table.now in
    let named = c.named_nodes.ensures.is in
    let is : fault_of c.from_residual-in_err-check_graph.result ≡ write_fault minimum g c.args.room = search rules in
    λ laid.
    is ∙ told_as_read g laid (ap length (sym named) ∙ c.named_nodes.ensures.full laid.few) (λ _. subst Standing named c.in_ok-check_records.ensures.stand) minimum c.args.room

pub returns-then-room-lt-MOST_BYTES-clause-as_read : goal.returns-then-room-lt-MOST_BYTES-clause-as_read
returns-then-room-lt-MOST_BYTES-clause-as_read c =
    let g = c.args.graph.now in
    let minimum = minimum_in c.args.table.now in
    let named = c.named_nodes.ensures.is in
    let is : Some Area ≡ write_fault minimum g c.args.room = search rules in
    λ laid.
    is ∙ told_as_read g laid (ap length (sym named) ∙ c.named_nodes.ensures.full laid.few) (λ _. subst Standing named c.in_ok-check_records.ensures.stand) minimum c.args.room

pub returns-clause-as_read : goal.returns-clause-as_read
returns-clause-as_read c =
    let g = c.args.graph.now in
    let minimum = minimum_in c.args.table.now in
    let named = c.named_nodes.ensures.is in
    let is : None ≡ write_fault minimum g c.args.room = search rules in
    λ laid.
    is ∙ told_as_read g laid (ap length (sym named) ∙ c.named_nodes.ensures.full laid.few) (λ _. subst Standing named c.in_ok-check_records.ensures.stand) minimum c.args.room
