use Rattle.std.proofs.Common.{◌≡◌, Ok, Result, subst, sym, ◌∙◌, false, true}
use Rattle.std.proofs.lemmas.Result.{IfErr-weaker, IfOk-weaker}
use Rattle.container_model.specs.Commands.{run, run_object}
use Rattle.container_model.specs.Record.{Record, Refuses, Took, counts_none, is_alive}
use Rattle.container_model.specs.declared.fault.ContainerFault.{ContainerFault}
use Rattle.container_model.specs.declared.record.Frame.{Frame}
use Rattle.container_model.specs.declared.record.Object.{Object}
use Rattle.container_model.specs.Located.{located, ready}
use Rattle.container_commands.proofs.LocatedSteps.{by_object, stood}
use Rattle.container_commands.proofs.CommandsRun.{run_alive, run_dead}
use Rattle.container_state.proofs.state.State.run.Goals as goal

pub returns-in-Ok-clause-taken : goal.returns-in-Ok-clause-taken
returns-in-Ok-clause-taken c =
    let r : Record = c.args.self.now in
    let alive : is_alive r c.args.inc ≡ true = subst (λ (t : Record). is_alive t c.args.inc ≡ true) c.self.view_is
    (sym c.is_alive.ensures ∙ c.if-not-is_alive.false) in
    let step : Object → Frame → Result Took ContainerFault = λ o f. run_object r o c.args.inc in
    let is : run r c.args.object c.args.inc ≡ located r c.args.object (ready step) =
    run_alive r c.args.object c.args.inc alive in
    IfOk-weaker c.run_object.result _ _ (λ a made. by_object (λ t. t ≡ Ok (counts_none c.run_object.new.self a))
    (run r c.args.object c.args.inc) (λ o. run_object r o c.args.inc) _ _
    (stood r c.args.object c.in-Ok.i c.in-Ok.field-0-1 step (run r c.args.object c.args.inc) is
    c.in-Ok.ensures.step) made) c.run_object.ensures.taken

pub returns-in-Ok-clause-refused : goal.returns-in-Ok-clause-refused
returns-in-Ok-clause-refused c =
    let r : Record = c.args.self.now in
    let alive : is_alive r c.args.inc ≡ true = subst (λ (t : Record). is_alive t c.args.inc ≡ true) c.self.view_is
    (sym c.is_alive.ensures ∙ c.if-not-is_alive.false) in
    let step : Object → Frame → Result Took ContainerFault = λ o f. run_object r o c.args.inc in
    let is : run r c.args.object c.args.inc ≡ located r c.args.object (ready step) =
    run_alive r c.args.object c.args.inc alive in
    IfErr-weaker c.run_object.result _ _ (λ e told. by_object (λ t. Refuses t e) (run r c.args.object c.args.inc)
    (λ o. run_object r o c.args.inc) _ _ (stood r c.args.object c.in-Ok.i c.in-Ok.field-0-1 step
    (run r c.args.object c.args.inc) is c.in-Ok.ensures.step) told) c.run_object.ensures.refused

pub returns-in-Err-clause-refused : goal.returns-in-Err-clause-refused
returns-in-Err-clause-refused c =
    let r : Record = c.args.self.now in
    let alive : is_alive r c.args.inc ≡ true = subst (λ (t : Record). is_alive t c.args.inc ≡ true) c.self.view_is
    (sym c.is_alive.ensures ∙ c.if-not-is_alive.false) in
    let step : Object → Frame → Result Took ContainerFault = λ o f. run_object r o c.args.inc in
    let is : run r c.args.object c.args.inc ≡ located r c.args.object (ready step) =
    run_alive r c.args.object c.args.inc alive in
    subst (λ t. Refuses t c.in-Err.fault) (sym is) (c.in-Err.ensures.refused step)

pub returns-then-not-is_alive-clause-refused : goal.returns-then-not-is_alive-clause-refused
returns-then-not-is_alive-clause-refused c =
    let r : Record = c.args.self.now in
    let dead : is_alive r c.args.inc ≡ false = subst (λ (t : Record). is_alive t c.args.inc ≡ false) c.self.view_is
    (sym c.is_alive.ensures ∙ c.if-not-is_alive.true) in
    run_dead r c.args.object c.args.inc dead
