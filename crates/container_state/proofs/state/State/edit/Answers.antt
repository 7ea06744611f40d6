use Rattle.std.proofs.Common.{◌≡◌, Ok, Result, refl}
use Rattle.std.proofs.lemmas.Result.{IfErr-weaker, IfOk-weaker}
use Rattle.container_model.specs.Commands.{edit, edit_linked}
use Rattle.container_model.specs.Record.{Record, Refuses, Took, counts_none}
use Rattle.container_model.specs.declared.fault.ContainerFault.{ContainerFault}
use Rattle.container_model.specs.declared.record.Frame.{Frame}
use Rattle.container_model.specs.declared.record.Object.{Object}
use Rattle.container_commands.proofs.LocatedSteps.{by_object, stood}
use Rattle.container_state.proofs.state.State.edit.Goals as goal

pub returns-in-Ok-clause-taken : goal.returns-in-Ok-clause-taken
returns-in-Ok-clause-taken c =
    let r : Record = c.args.self.now in
    let step : Object → Frame → Result Took ContainerFault = λ o f. edit_linked r o c.args.bytes o.link in
    IfOk-weaker c.edit_object.result _ _ (λ a made. by_object (λ t. t ≡ Ok (counts_none c.edit_object.new.self a))
    (edit r c.args.object c.args.bytes) (λ o. edit_linked r o c.args.bytes o.link) _ _
    (stood r c.args.object c.in-Ok.i c.in-Ok.field-0-1 step (edit r c.args.object c.args.bytes) refl
    c.in-Ok.ensures.step) made) c.edit_object.ensures.taken

pub returns-in-Ok-clause-refused : goal.returns-in-Ok-clause-refused
returns-in-Ok-clause-refused c =
    let r : Record = c.args.self.now in
    let step : Object → Frame → Result Took ContainerFault = λ o f. edit_linked r o c.args.bytes o.link in
    IfErr-weaker c.edit_object.result _ _
    (λ e told. by_object (λ t. Refuses t e) (edit r c.args.object c.args.bytes)
    (λ o. edit_linked r o c.args.bytes o.link) _ _
    (stood r c.args.object c.in-Ok.i c.in-Ok.field-0-1 step (edit r c.args.object c.args.bytes) refl
    c.in-Ok.ensures.step) told) c.edit_object.ensures.refused

pub returns-in-Err-clause-refused : goal.returns-in-Err-clause-refused
returns-in-Err-clause-refused c =
    let r : Record = c.args.self.now in
    let step : Object → Frame → Result Took ContainerFault = λ o f. edit_linked r o c.args.bytes o.link in
    c.in-Err.ensures.refused step
