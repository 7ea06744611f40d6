use Rattle.std.proofs.Common.{◌≡◌, ◌≢◌, [], refl, subst}
use Rattle.std.specs.Prelude.{OnOk}
use Rattle.container_queues.specs.Steady.{Steady}
use Rattle.container_model.specs.Inputs.{Input}
use Rattle.container_model.specs.Commands.{on_command}
use Rattle.container_model.specs.Record.{Record}
use Rattle.container_model.specs.Room.{IsSound}
use Rattle.container_numbers.specs.FewFrames.{FewFrames}
use Rattle.container_numbers.specs.Sessions.{InSession, WantsSession}
use Rattle.container_steps.proofs.StepsKeep.{step_keeps}
use Rattle.container_core.proofs.SessionKept.{ok_gives}
use Rattle.container_core.proofs.container.ContainerCore.command.Goals as goal

pub returns-clause-steady : goal.returns-clause-steady
returns-clause-steady c =
    step_keeps Steady c.self.inside.state c.command.new.self (on_command c.self.inside.state c.args.command) []
    c.self.invariant.0 (λ t e. c.steady_after.ensures c.self.inside.state (Input.Ordered c.args.command) t
    c.self.invariant.0 e) c.command.result c.command.ensures.taken c.command.ensures.kept

pub returns-clause-sound : goal.returns-clause-sound
returns-clause-sound c =
    step_keeps IsSound c.self.inside.state c.command.new.self (on_command c.self.inside.state c.args.command) []
    c.self.invariant.1 (λ t e. c.sound_after.ensures c.self.inside.state (Input.Ordered c.args.command) t
    c.self.invariant.0 c.self.invariant.1 e) c.command.result c.command.ensures.taken c.command.ensures.kept

pub returns-clause-session : goal.returns-clause-session
returns-clause-session c =
    subst (λ (z : Record). c.command.new.self.session ≡ z.session) c.self.view_is
    (step_keeps (λ (z : Record). z.session ≡ c.self.inside.state.session) c.self.inside.state c.command.new.self
    (on_command c.self.inside.state c.args.command) [] refl
    (λ t e. (c.commands_want_sessions.ensures c.self.inside.state c.args.command t c.self.invariant.3 e).0)
    c.command.result c.command.ensures.taken c.command.ensures.kept)

pub returns-clause-raised : goal.returns-clause-raised
returns-clause-raised c =
    subst (λ (z : Record). OnOk c.command.result (WantsSession c.args.command → z.session ≢ 0)) c.self.view_is
    (ok_gives (WantsSession c.args.command → c.self.inside.state.session ≢ 0) c.command.new.self
    (on_command c.self.inside.state c.args.command) []
    (λ t e. (c.commands_want_sessions.ensures c.self.inside.state c.args.command t c.self.invariant.3 e).1)
    c.command.result c.command.ensures.taken)

pub invariant_of-self : goal.invariant_of-self
invariant_of-self c = (
  step_keeps Steady c.self.inside.state c.command.new.self (on_command c.self.inside.state c.args.command) []
      c.self.invariant.0 (λ t e. c.steady_after.ensures c.self.inside.state (Input.Ordered c.args.command) t
      c.self.invariant.0 e) c.command.result c.command.ensures.taken c.command.ensures.kept,
  step_keeps IsSound c.self.inside.state c.command.new.self (on_command c.self.inside.state c.args.command) []
      c.self.invariant.1 (λ t e. c.sound_after.ensures c.self.inside.state (Input.Ordered c.args.command) t
      c.self.invariant.0 c.self.invariant.1 e) c.command.result c.command.ensures.taken c.command.ensures.kept,
  step_keeps FewFrames c.self.inside.state c.command.new.self (on_command c.self.inside.state c.args.command) []
      c.self.invariant.2 (λ t e. c.few_frames_after.ensures c.self.inside.state (Input.Ordered c.args.command) t
      c.self.invariant.2 e) c.command.result c.command.ensures.taken c.command.ensures.kept,
  step_keeps InSession c.self.inside.state c.command.new.self (on_command c.self.inside.state c.args.command) []
      c.self.invariant.3
      (λ t e. (c.sessions_stay.ensures c.self.inside.state (Input.Ordered c.args.command) t c.self.invariant.3
      e).holds) c.command.result c.command.ensures.taken c.command.ensures.kept,
)
