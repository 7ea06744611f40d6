use Rattle.std.proofs.Common.{◌≡◌, ◌≢◌, refl, subst}
use Rattle.std.specs.Prelude.{OnOk}
use Rattle.container_queues.specs.Steady.{Steady}
use Rattle.container_model.specs.Inputs.{Input}
use Rattle.container_model.specs.Record.{Record}
use Rattle.container_model.specs.Saves.{commit_done, counted_of, session_counted}
use Rattle.container_model.specs.Room.{IsSound}
use Rattle.container_numbers.specs.FewFrames.{FewFrames}
use Rattle.container_numbers.specs.Sessions.{InSession}
use Rattle.container_steps.proofs.StepsKeep.{step_keeps}
use Rattle.container_core.proofs.SessionKept.{session_given}
use Rattle.container_core.proofs.container.ContainerCore.commit_done.Goals as goal

pub returns-clause-steady : goal.returns-clause-steady
returns-clause-steady c =
    step_keeps Steady c.self.inside.state c.commit_done-answer.new.state (commit_done c.self.inside.state c.args.f)
    (counted_of c.self.inside.state c.args.f) c.self.invariant.0
    (λ t e. c.steady_after.ensures c.self.inside.state (Input.Committed c.args.f) t c.self.invariant.0 e)
    c.commit_done-answer.result c.commit_done-answer.ensures.taken c.commit_done-answer.ensures.kept

pub returns-clause-sound : goal.returns-clause-sound
returns-clause-sound c =
    step_keeps IsSound c.self.inside.state c.commit_done-answer.new.state (commit_done c.self.inside.state c.args.f)
    (counted_of c.self.inside.state c.args.f) c.self.invariant.1
    (λ t e. c.sound_after.ensures c.self.inside.state (Input.Committed c.args.f) t c.self.invariant.0
    c.self.invariant.1 e) c.commit_done-answer.result c.commit_done-answer.ensures.taken
    c.commit_done-answer.ensures.kept

pub returns-clause-session : goal.returns-clause-session
returns-clause-session c =
    subst (λ (z : Record). OnOk c.commit_done-answer.result
    (c.commit_done-answer.new.state.session ≡ session_counted z c.args.f)) c.self.view_is
    (session_given (session_counted c.self.inside.state c.args.f) c.commit_done-answer.new.state
    (commit_done c.self.inside.state c.args.f) (counted_of c.self.inside.state c.args.f)
    (λ t e. (c.sessions_stay.ensures c.self.inside.state (Input.Committed c.args.f) t c.self.invariant.3 e).same)
    c.commit_done-answer.result c.commit_done-answer.ensures.taken)

pub returns-clause-stays : goal.returns-clause-stays
returns-clause-stays c =
    subst (λ (z : Record). z.session ≢ 0 → c.commit_done-answer.new.state.session ≡ z.session) c.self.view_is
    (step_keeps (λ (z : Record). c.self.inside.state.session ≢ 0 → z.session ≡ c.self.inside.state.session)
    c.self.inside.state c.commit_done-answer.new.state (commit_done c.self.inside.state c.args.f)
    (counted_of c.self.inside.state c.args.f) (λ raised. refl)
    (λ t e. (c.sessions_stay.ensures c.self.inside.state (Input.Committed c.args.f) t c.self.invariant.3 e).stays)
    c.commit_done-answer.result c.commit_done-answer.ensures.taken c.commit_done-answer.ensures.kept)

pub invariant_of-self : goal.invariant_of-self
invariant_of-self c = (
  step_keeps Steady c.self.inside.state c.commit_done-answer.new.state (commit_done c.self.inside.state c.args.f)
      (counted_of c.self.inside.state c.args.f) c.self.invariant.0
      (λ t e. c.steady_after.ensures c.self.inside.state (Input.Committed c.args.f) t c.self.invariant.0 e)
      c.commit_done-answer.result c.commit_done-answer.ensures.taken c.commit_done-answer.ensures.kept,
  step_keeps IsSound c.self.inside.state c.commit_done-answer.new.state (commit_done c.self.inside.state c.args.f)
      (counted_of c.self.inside.state c.args.f) c.self.invariant.1
      (λ t e. c.sound_after.ensures c.self.inside.state (Input.Committed c.args.f) t c.self.invariant.0
      c.self.invariant.1 e) c.commit_done-answer.result c.commit_done-answer.ensures.taken
      c.commit_done-answer.ensures.kept,
  step_keeps FewFrames c.self.inside.state c.commit_done-answer.new.state (commit_done c.self.inside.state c.args.f)
      (counted_of c.self.inside.state c.args.f) c.self.invariant.2
      (λ t e. c.few_frames_after.ensures c.self.inside.state (Input.Committed c.args.f) t c.self.invariant.2 e)
      c.commit_done-answer.result c.commit_done-answer.ensures.taken c.commit_done-answer.ensures.kept,
  step_keeps InSession c.self.inside.state c.commit_done-answer.new.state (commit_done c.self.inside.state c.args.f)
      (counted_of c.self.inside.state c.args.f) c.self.invariant.3
      (λ t e. (c.sessions_stay.ensures c.self.inside.state (Input.Committed c.args.f) t c.self.invariant.3 e).holds)
      c.commit_done-answer.result c.commit_done-answer.ensures.taken c.commit_done-answer.ensures.kept,
)
