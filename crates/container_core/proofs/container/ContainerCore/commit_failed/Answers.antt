use Rattle.std.proofs.Common.{[]}
use Rattle.container_queues.specs.Steady.{Steady}
use Rattle.container_model.specs.Inputs.{Input}
use Rattle.container_model.specs.Saves.{commit_failed}
use Rattle.container_model.specs.Room.{IsSound}
use Rattle.container_numbers.specs.FewFrames.{FewFrames}
use Rattle.container_numbers.specs.Sessions.{InSession}
use Rattle.container_steps.proofs.StepsKeep.{step_keeps}
use Rattle.container_core.proofs.container.ContainerCore.commit_failed.Goals as goal

pub returns-clause-steady : goal.returns-clause-steady
returns-clause-steady c =
    step_keeps Steady c.self.inside.state c.commit_failed.new.state (commit_failed c.self.inside.state c.args.f) []
    c.self.invariant.0 (λ t e. c.steady_after.ensures c.self.inside.state (Input.Failed c.args.f) t
    c.self.invariant.0 e) c.commit_failed.result c.commit_failed.ensures.taken c.commit_failed.ensures.kept

pub returns-clause-sound : goal.returns-clause-sound
returns-clause-sound c =
    step_keeps IsSound c.self.inside.state c.commit_failed.new.state (commit_failed c.self.inside.state c.args.f) []
    c.self.invariant.1 (λ t e. c.sound_after.ensures c.self.inside.state (Input.Failed c.args.f) t
    c.self.invariant.0 c.self.invariant.1 e) c.commit_failed.result c.commit_failed.ensures.taken
    c.commit_failed.ensures.kept

pub invariant_of-self : goal.invariant_of-self
invariant_of-self c = (
  step_keeps Steady c.self.inside.state c.commit_failed.new.state (commit_failed c.self.inside.state c.args.f) []
      c.self.invariant.0 (λ t e. c.steady_after.ensures c.self.inside.state (Input.Failed c.args.f) t
      c.self.invariant.0 e) c.commit_failed.result c.commit_failed.ensures.taken c.commit_failed.ensures.kept,
  step_keeps IsSound c.self.inside.state c.commit_failed.new.state (commit_failed c.self.inside.state c.args.f) []
      c.self.invariant.1 (λ t e. c.sound_after.ensures c.self.inside.state (Input.Failed c.args.f) t
      c.self.invariant.0 c.self.invariant.1 e) c.commit_failed.result c.commit_failed.ensures.taken
      c.commit_failed.ensures.kept,
  step_keeps FewFrames c.self.inside.state c.commit_failed.new.state (commit_failed c.self.inside.state c.args.f) []
      c.self.invariant.2 (λ t e. c.few_frames_after.ensures c.self.inside.state (Input.Failed c.args.f) t
      c.self.invariant.2 e) c.commit_failed.result c.commit_failed.ensures.taken c.commit_failed.ensures.kept,
  step_keeps InSession c.self.inside.state c.commit_failed.new.state (commit_failed c.self.inside.state c.args.f) []
      c.self.invariant.3
      (λ t e. (c.sessions_stay.ensures c.self.inside.state (Input.Failed c.args.f) t c.self.invariant.3 e).holds)
      c.commit_failed.result c.commit_failed.ensures.taken c.commit_failed.ensures.kept,
)
