use Rattle.std.proofs.Common.{◌≡◌, Ok, Result, refl}
use Rattle.std.proofs.lemmas.Result.{IfErr-weaker, IfOk-weaker}
use Rattle.container_model.specs.Commands.{delete, delete_made}
use Rattle.std.specs.Prelude.{is_some}
use Rattle.container_model.specs.Record.{Record, Refuses, Took, counts_none, unless}
use Rattle.container_model.specs.declared.fault.ContainerFault.{ContainerFault}
use Rattle.container_model.specs.declared.record.Frame.{Frame}
use Rattle.container_model.specs.declared.record.Object.{Object}
use Rattle.container_commands.proofs.LocatedSteps.{by_object, stood}
use Rattle.container_model.specs.declared.fault.ContainerFault.TheVariants.{WrongState}
use Rattle.container_state.proofs.state.State.delete.Goals as goal

pub returns-in-Ok-clause-taken : goal.returns-in-Ok-clause-taken
returns-in-Ok-clause-taken c =
    let r : Record = c.args.self.now in
    let step : Object → Frame → Result Took ContainerFault = λ o f. unless (is_some o.link) WrongState
    (Ok (delete_made r o)) in
    IfOk-weaker c.delete_object.result _ _
    (λ a made. by_object (λ t. t ≡ Ok (counts_none c.delete_object.new.self a)) (delete r c.args.object)
    (λ o. unless (is_some o.link) WrongState (Ok (delete_made r o))) _ _
    (stood r c.args.object c.in-Ok.i c.in-Ok.field-0-1 step (delete r c.args.object) refl c.in-Ok.ensures.step)
    made) c.delete_object.ensures.taken

pub returns-in-Ok-clause-refused : goal.returns-in-Ok-clause-refused
returns-in-Ok-clause-refused c =
    let r : Record = c.args.self.now in
    let step : Object → Frame → Result Took ContainerFault = λ o f. unless (is_some o.link) WrongState
    (Ok (delete_made r o)) in
    IfErr-weaker c.delete_object.result _ _ (λ e told. by_object (λ t. Refuses t e) (delete r c.args.object)
    (λ o. unless (is_some o.link) WrongState (Ok (delete_made r o))) _ _
    (stood r c.args.object c.in-Ok.i c.in-Ok.field-0-1 step (delete r c.args.object) refl c.in-Ok.ensures.step)
    told) c.delete_object.ensures.refused

pub returns-in-Err-clause-refused : goal.returns-in-Err-clause-refused
returns-in-Err-clause-refused c =
    let r : Record = c.args.self.now in
    let step : Object → Frame → Result Took ContainerFault = λ o f. unless (is_some o.link) WrongState
    (Ok (delete_made r o)) in
    c.in-Err.ensures.refused step
