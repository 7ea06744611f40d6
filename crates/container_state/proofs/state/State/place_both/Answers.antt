use Rattle.std.proofs.Common.{List, ap, subst, refl}
use Rattle.message_values.specs.Found.{IsPlace}
use Rattle.container_model.specs.Record.{Record, is_object}
use Rattle.container_model.specs.declared.record.Object.{Object}
use Rattle.container_model.specs.Located.{located_at, located_in}
use Rattle.container_commands.proofs.LocatedSteps.{framed, stands}
use Rattle.container_commands.proofs.Missing.{no_object, no_frame}
use Rattle.container_state.proofs.state.State.place_both.Goals as goal

pub returns-in_default-clause-refused : goal.returns-in_default-clause-refused
returns-in_default-clause-refused c = λ step. no_object _ c.args.self.now (located_at step c.args.self.now.frames)
    c.args.object _ c.self.view_is refl c.in_default.ensures.found

pub returns-in_default-place-clause-refused : goal.returns-in_default-place-clause-refused
returns-in_default-place-clause-refused c = λ step. no_frame _ c.args.self.now
    (located_at step c.args.self.now.frames) (located_in step) (is_object c.args.object) c.in-Some.i _ _
    c.index.result.now c.self.view_is refl refl (λ o. refl) c.in-Some.ensures.found c.index.ensures
    c.in_default-place.ensures

pub returns-clause-frame : goal.returns-clause-frame
returns-clause-frame c =
    let place : IsPlace (is_object c.args.object) c.args.self.now.objects c.in-Some.i =
    subst (λ (xs : List Object). IsPlace (is_object c.args.object) xs c.in-Some.i)
    (ap (λ (t : Record). t.objects) c.self.view_is) c.in-Some.ensures.found in
    framed _ c.args.self.now c.in-Some.i c.in-Some-place.at _ c.index.result.now c.self.view_is refl place.fits
    c.index.ensures c.in-Some-place.ensures

pub returns-clause-step : goal.returns-clause-step
returns-clause-step c = stands _ c.args.self.now c.args.object c.in-Some.i c.in-Some-place.at _ _ c.index.result.now
    c.self.view_is refl refl c.in-Some.ensures.found c.index.ensures c.in-Some-place.ensures
