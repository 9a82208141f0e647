use Rattle.std.proofs.Common.{length, Err, Result, refl, sym, ap, ◌∙◌, subst}
use Rattle.std.proofs.lemmas.Result.{err_from_is_err_and}
use Rattle.refusals.specs.declared.refusal.Refusal.{Refusal}
use Rattle.refusals.specs.Searching.{fault_of}
use Rattle.readers.specs.declared.read.Reading.{Reading}
use Rattle.compiler.specs.Faults.{of_load}
use Rattle.taps.specs.Faults.{of_packet}
use Rattle.taps.specs.Plain.{fresh, said_by}
use Rattle.chost.specs.Once.{Once}
use Rattle.chost.specs.Once.Once.{unloaded, unread, read}
use Rattle.chost.proofs.Reading.{loads, fault_same, said, answered_by, refused_so, not_read}
use Rattle.chost.proofs.once.read_once.Goals as goal

pub returns-in_err-load-clause-once : goal.returns-in_err-load-clause-once
returns-in_err-load-clause-once c =
    let e = err_from_is_err_and c.from_residual.result c.from_residual.ensures.1 in
    let load = c.in_err-load.ensures.follows fresh c.new-tap.ensures.follows in
    subst (λ (r : Result Reading Refusal). Once c.args.graph.now c.args.plan.now c.args.packet.now c.args.marks.now r c.args.marks.now) (sym (e.1 ∙ ap Err e.2))
    (unloaded load.plain)

pub returns-in_err-read-clause-is : goal.returns-in_err-read-clause-is
returns-in_err-read-clause-is c =
    let e = err_from_is_err_and c.from_residual-in_err-read.result c.from_residual-in_err-read.ensures.1 in
    let load = c.in_ok-load.ensures.follows fresh c.new-tap.ensures.follows in
    let size = length c.args.packet.now in
    let lent = length c.args.marks.now in
    ap fault_of (e.1 ∙ ap Err e.2)
    ∙ refused_so c.args.graph.now c.args.plan.now c.args.packet.now lent c.in_ok-load.ensures.is
    (c.in_err-read.ensures.is ∙ fault_same size lent load.next.loaded (said_by c.args.graph.now c.args.plan.now) _ _ load.follows.loaded (loads c.args.graph.now c.args.plan.now load.plain))

pub returns-in_err-read-clause-once : goal.returns-in_err-read-clause-once
returns-in_err-read-clause-once c =
    let e = err_from_is_err_and c.from_residual-in_err-read.result c.from_residual-in_err-read.ensures.1 in
    let load = c.in_ok-load.ensures.follows fresh c.new-tap.ensures.follows in
    subst (λ (r : Result Reading Refusal). Once c.args.graph.now c.args.plan.now c.args.packet.now c.args.marks.now r c.read.new.marks) (sym (e.1 ∙ ap Err e.2))
    (unread load.plain (c.in_err-read.ensures.follows load.next load.follows).plain)

pub returns-clause-is : goal.returns-clause-is
returns-clause-is c =
    let load = c.in_ok-load.ensures.follows fresh c.new-tap.ensures.follows in
    let size = length c.args.packet.now in
    let lent = length c.args.marks.now in
    refused_so c.args.graph.now c.args.plan.now c.args.packet.now lent c.in_ok-load.ensures.is
    (c.in_ok-read.ensures.is ∙ fault_same size lent load.next.loaded (said_by c.args.graph.now c.args.plan.now) _ _ load.follows.loaded (loads c.args.graph.now c.args.plan.now load.plain))

pub returns-clause-lent : goal.returns-clause-lent
returns-clause-lent c =
    let load = c.in_ok-load.ensures.follows fresh c.new-tap.ensures.follows in
    let its_read = c.in_ok-read.ensures.follows load.next load.follows in
    let s = said c.args.graph.now c.args.plan.now c.args.packet.now (loads c.args.graph.now c.args.plan.now load.plain) its_read.plain in
    record { few = s.tells.few.1; enough = s.enough }

pub returns-clause-read : goal.returns-clause-read
returns-clause-read c = λ none.
    let load = c.in_ok-load.ensures.follows fresh c.new-tap.ensures.follows in
    let its_read = c.in_ok-read.ensures.follows load.next load.follows in
    answered_by c.args.graph.now c.args.plan.now c.args.packet.now (said c.args.graph.now c.args.plan.now c.args.packet.now (loads c.args.graph.now c.args.plan.now load.plain) its_read.plain)

pub returns-in_err-load-clause-read : goal.returns-in_err-load-clause-read
returns-in_err-load-clause-read c = λ none ms o qs by.
    not_read {e = of_load c.in_err-load.field-0.0} (refused_so c.args.graph.now c.args.plan.now c.args.packet.now (length c.args.marks.now) c.in_err-load.ensures.is refl) none

pub returns-in_err-read-clause-read : goal.returns-in_err-read-clause-read
returns-in_err-read-clause-read c = λ none ms o qs by.
    let e = err_from_is_err_and c.from_residual-in_err-read.result c.from_residual-in_err-read.ensures.1 in
    not_read {e = of_packet c.in_err-read.field-0.0} (sym (ap fault_of (e.1 ∙ ap Err e.2)) ∙ returns-in_err-read-clause-is c) none

pub returns-clause-once : goal.returns-clause-once
returns-clause-once c =
    let load = c.in_ok-load.ensures.follows fresh c.new-tap.ensures.follows in
    read load.plain (c.in_ok-read.ensures.follows load.next load.follows).plain
