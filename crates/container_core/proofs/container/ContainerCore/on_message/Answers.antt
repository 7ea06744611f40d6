use Rattle.std.proofs.Common.{◌≡◌, [], subst}
use Rattle.std.specs.Prelude.{OnOk}
use Rattle.container_queues.specs.Steady.{Steady}
use Rattle.container_model.specs.Inputs.{Input}
use Rattle.container_model.specs.Messages.{on_message}
use Rattle.container_model.specs.Record.{Record}
use Rattle.container_model.specs.Room.{IsSound}
use Rattle.container_numbers.specs.FewFrames.{FewFrames}
use Rattle.container_numbers.specs.Sessions.{InSession}
use Rattle.container_steps.proofs.StepsKeep.{step_keeps}
use Rattle.container_laws.specs.Apart.{StaysApart}
use Rattle.container_laws.proofs.ApartLaws.{stays_as_it_was}
use Rattle.container_core.proofs.SaidIn.{taken_in_session}
use Rattle.container_core.proofs.container.ContainerCore.on_message.Goals as goal

pub returns-clause-others : goal.returns-clause-others
returns-clause-others c =
    subst (λ (z : Record). StaysApart c.args.link.inc z c.on_message.new.self) c.self.view_is
    (step_keeps (StaysApart c.args.link.inc c.self.inside.state) c.self.inside.state c.on_message.new.self
    (on_message c.self.inside.state c.args.link c.args.message) []
    (stays_as_it_was c.args.link.inc c.self.inside.state)
    (λ t e. c.messages_stay_apart.ensures c.self.inside.state c.args.link c.args.message t c.self.invariant.0 e)
    c.on_message.result c.on_message.ensures.taken c.on_message.ensures.kept)

pub returns-clause-session : goal.returns-clause-session
returns-clause-session c =
    subst (λ (z : Record). OnOk c.on_message.result ((c.args.link.session ≡ z.session)
    × (c.args.message.session ≡ z.session))) c.self.view_is
    (taken_in_session c.self.inside.state c.on_message.new.self c.args.link c.args.message c.on_message.result
    c.on_message.ensures.taken)

pub returns-clause-steady : goal.returns-clause-steady
returns-clause-steady c =
    step_keeps Steady c.self.inside.state c.on_message.new.self
    (on_message c.self.inside.state c.args.link c.args.message) [] c.self.invariant.0
    (λ t e. c.steady_after.ensures c.self.inside.state (Input.Told c.args.link c.args.message) t
    c.self.invariant.0 e) c.on_message.result c.on_message.ensures.taken c.on_message.ensures.kept

pub returns-clause-sound : goal.returns-clause-sound
returns-clause-sound c =
    step_keeps IsSound c.self.inside.state c.on_message.new.self
    (on_message c.self.inside.state c.args.link c.args.message) [] c.self.invariant.1
    (λ t e. c.sound_after.ensures c.self.inside.state (Input.Told c.args.link c.args.message) t
    c.self.invariant.0 c.self.invariant.1 e) c.on_message.result c.on_message.ensures.taken
    c.on_message.ensures.kept

pub invariant_of-self : goal.invariant_of-self
invariant_of-self c = (
  step_keeps Steady c.self.inside.state c.on_message.new.self
      (on_message c.self.inside.state c.args.link c.args.message) [] c.self.invariant.0
      (λ t e. c.steady_after.ensures c.self.inside.state (Input.Told c.args.link c.args.message) t
      c.self.invariant.0 e) c.on_message.result c.on_message.ensures.taken c.on_message.ensures.kept,
  step_keeps IsSound c.self.inside.state c.on_message.new.self
      (on_message c.self.inside.state c.args.link c.args.message) [] c.self.invariant.1
      (λ t e. c.sound_after.ensures c.self.inside.state (Input.Told c.args.link c.args.message) t c.self.invariant.0
      c.self.invariant.1 e) c.on_message.result c.on_message.ensures.taken c.on_message.ensures.kept,
  step_keeps FewFrames c.self.inside.state c.on_message.new.self
      (on_message c.self.inside.state c.args.link c.args.message) [] c.self.invariant.2
      (λ t e. c.few_frames_after.ensures c.self.inside.state (Input.Told c.args.link c.args.message) t
      c.self.invariant.2 e) c.on_message.result c.on_message.ensures.taken c.on_message.ensures.kept,
  step_keeps InSession c.self.inside.state c.on_message.new.self
      (on_message c.self.inside.state c.args.link c.args.message) [] c.self.invariant.3
      (λ t e. (c.sessions_stay.ensures c.self.inside.state (Input.Told c.args.link c.args.message) t
      c.self.invariant.3 e).holds) c.on_message.result c.on_message.ensures.taken c.on_message.ensures.kept,
)
