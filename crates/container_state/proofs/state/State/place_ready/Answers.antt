use Rattle.std.proofs.Common.{◌≡◌, ◌∙◌, Result, subst, sym}
use Rattle.container_model.specs.Record.{Record, Refuses, Took}
use Rattle.container_model.specs.declared.fault.ContainerFault.{ContainerFault}
use Rattle.container_model.specs.declared.record.Frame.{Frame}
use Rattle.container_model.specs.declared.record.Object.{Object}
use Rattle.container_model.specs.Located.{located, ready}
use Rattle.container_commands.proofs.LocatedSteps.{at_there, to_there}
use Rattle.container_state.proofs.state.State.place_ready.Goals as goal

pub returns-in-Err-clause-refused : goal.returns-in-Err-clause-refused
returns-in-Err-clause-refused c = λ step. c.in-Err.ensures.refused (ready step)

pub returns-in-Err-may_ask-clause-refused : goal.returns-in-Err-may_ask-clause-refused
returns-in-Err-may_ask-clause-refused c =
    let r : Record = c.args.self.now in
    let told : (step : Object → Frame → Result Took ContainerFault) → located r c.args.object step
    ≡ step c.index-2.result.now c.index.result.now =
    at_there (λ o f. (step : Object → Frame → Result Took ContainerFault) → located r c.args.object step ≡ step o f)
    _ r c.in-Ok.places.0 c.in-Ok.places.1 c.index-2.result.now c.index.result.now c.self.view_is
    c.in-Ok.ensures.place.fits c.in-Ok.ensures.frame c.index-2.ensures c.index.ensures c.in-Ok.ensures.step in
    λ step. subst (λ t. Refuses t c.in-Err-may_ask.fault) (sym (told (ready step)))
    (c.in-Err-may_ask.ensures.refused step)

pub returns-in-Ok-may_ask-clause-step : goal.returns-in-Ok-may_ask-clause-step
returns-in-Ok-may_ask-clause-step c =
    let r : Record = c.args.self.now in
    let told : (step : Object → Frame → Result Took ContainerFault) → located r c.args.object step
    ≡ step c.index-2.result.now c.index.result.now =
    at_there (λ o f. (step : Object → Frame → Result Took ContainerFault) → located r c.args.object step ≡ step o f)
    _ r c.in-Ok.places.0 c.in-Ok.places.1 c.index-2.result.now c.index.result.now c.self.view_is
    c.in-Ok.ensures.place.fits c.in-Ok.ensures.frame c.index-2.ensures c.index.ensures c.in-Ok.ensures.step in
    to_there (λ o f. (step : Object → Frame → Result Took ContainerFault) → located r c.args.object (ready step)
    ≡ step o f) _ r c.in-Ok.places.0 c.in-Ok.places.1 c.index-2.result.now c.index.result.now c.self.view_is
    c.in-Ok.ensures.place.fits c.in-Ok.ensures.frame c.index-2.ensures c.index.ensures
    (λ step. told (ready step) ∙ c.in-Ok-may_ask.ensures.may step)
