use Rattle.std.proofs.Common.{option_copied}
use Rattle.container_queues.specs.Steady.{Steady}
use Rattle.container_model.specs.Inputs.{Input}
use Rattle.container_model.specs.Opens.{IsReadAs, opened}
use Rattle.container_model.specs.Room.{IsSound}
use Rattle.container_numbers.specs.FewFrames.{FewFrames}
use Rattle.container_numbers.specs.Sessions.{InSession}
use Rattle.container_core.proofs.OpensMade.{opening_keeps}
use Rattle.container_core.proofs.container.ContainerCore.open_file.Goals as goal

pub returns-clause-steady : goal.returns-clause-steady
returns-clause-steady c =
    opening_keeps Steady (IsReadAs (option_copied c.args.file)) c.self.inside.state c.open_file.new.state
    (opened c.self.inside.state c.args.name c.args.w c.args.h) c.self.invariant.0
    (λ given t e. c.steady_after.ensures c.self.inside.state (Input.Opened c.args.name c.args.w c.args.h given)
    t c.self.invariant.0 e) c.open_file.result c.open_file.ensures.taken c.open_file.ensures.kept

pub returns-clause-sound : goal.returns-clause-sound
returns-clause-sound c =
    opening_keeps IsSound (IsReadAs (option_copied c.args.file)) c.self.inside.state c.open_file.new.state
    (opened c.self.inside.state c.args.name c.args.w c.args.h) c.self.invariant.1
    (λ given t e. c.sound_after.ensures c.self.inside.state (Input.Opened c.args.name c.args.w c.args.h given) t
    c.self.invariant.0 c.self.invariant.1 e) c.open_file.result c.open_file.ensures.taken
    c.open_file.ensures.kept

pub invariant_of-self : goal.invariant_of-self
invariant_of-self c = (
  opening_keeps Steady (IsReadAs (option_copied c.args.file)) c.self.inside.state c.open_file.new.state
      (opened c.self.inside.state c.args.name c.args.w c.args.h) c.self.invariant.0
      (λ given t e. c.steady_after.ensures c.self.inside.state (Input.Opened c.args.name c.args.w c.args.h given) t
      c.self.invariant.0 e) c.open_file.result c.open_file.ensures.taken c.open_file.ensures.kept,
  opening_keeps IsSound (IsReadAs (option_copied c.args.file)) c.self.inside.state c.open_file.new.state
      (opened c.self.inside.state c.args.name c.args.w c.args.h) c.self.invariant.1
      (λ given t e. c.sound_after.ensures c.self.inside.state (Input.Opened c.args.name c.args.w c.args.h given) t
      c.self.invariant.0 c.self.invariant.1 e) c.open_file.result c.open_file.ensures.taken
      c.open_file.ensures.kept,
  opening_keeps FewFrames (IsReadAs (option_copied c.args.file)) c.self.inside.state c.open_file.new.state
      (opened c.self.inside.state c.args.name c.args.w c.args.h) c.self.invariant.2
      (λ given t e. c.few_frames_after.ensures c.self.inside.state
      (Input.Opened c.args.name c.args.w c.args.h given) t c.self.invariant.2 e) c.open_file.result
      c.open_file.ensures.taken c.open_file.ensures.kept,
  opening_keeps InSession (IsReadAs (option_copied c.args.file)) c.self.inside.state c.open_file.new.state
      (opened c.self.inside.state c.args.name c.args.w c.args.h) c.self.invariant.3
      (λ given t e. (c.sessions_stay.ensures c.self.inside.state (Input.Opened c.args.name c.args.w c.args.h given)
      t c.self.invariant.3 e).holds) c.open_file.result c.open_file.ensures.taken c.open_file.ensures.kept,
)
