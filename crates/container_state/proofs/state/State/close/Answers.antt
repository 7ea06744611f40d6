use Rattle.std.proofs.Common.{◌≡◌, Ok, Result, refl}
use Rattle.std.proofs.lemmas.Result.{IfErr-weaker, IfOk-weaker}
use Rattle.container_model.specs.Verbs.{close, close_linked}
use Rattle.container_model.specs.Record.{Record, Refuses, Took, counts_none}
use Rattle.container_model.specs.declared.fault.ContainerFault.{ContainerFault}
use Rattle.container_model.specs.declared.record.Frame.{Frame}
use Rattle.container_model.specs.declared.record.Object.{Object}
use Rattle.container_commands.proofs.LocatedSteps.{by_both, stood}
use Rattle.container_state.proofs.state.State.close.Goals as goal

pub returns-in-Ok-clause-taken : goal.returns-in-Ok-clause-taken
returns-in-Ok-clause-taken c =
    let r : Record = c.args.self.now in
    let step : Object → Frame → Result Took ContainerFault = λ o f. close_linked r f o c.args.option o.link in
    IfOk-weaker c.close_object.result _ _ (λ a made. by_both (λ t. t ≡ Ok (counts_none c.close_object.new.self a))
    (close r c.args.object c.args.option) step _ _
    (stood r c.args.object c.in-Ok.i c.in-Ok.at step (close r c.args.object c.args.option) refl
    c.in-Ok.ensures.step) made) c.close_object.ensures.taken

pub returns-in-Ok-clause-refused : goal.returns-in-Ok-clause-refused
returns-in-Ok-clause-refused c =
    let r : Record = c.args.self.now in
    let step : Object → Frame → Result Took ContainerFault = λ o f. close_linked r f o c.args.option o.link in
    IfErr-weaker c.close_object.result _ _
    (λ e told. by_both (λ t. Refuses t e) (close r c.args.object c.args.option) step _ _
    (stood r c.args.object c.in-Ok.i c.in-Ok.at step (close r c.args.object c.args.option) refl
    c.in-Ok.ensures.step) told) c.close_object.ensures.refused

pub returns-in-Err-clause-refused : goal.returns-in-Err-clause-refused
returns-in-Err-clause-refused c =
    let r : Record = c.args.self.now in
    let step : Object → Frame → Result Took ContainerFault = λ o f. close_linked r f o c.args.option o.link in
    c.in-Err.ensures.refused step
