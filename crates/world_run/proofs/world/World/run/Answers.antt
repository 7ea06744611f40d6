use Rattle.std.proofs.Common.{[]}
use Rattle.std.proofs.Math.Logic.{∥∥₁_map}
use Rattle.object_core.specs.Content.{note}
use Rattle.world_stories.proofs.SafeSound.{safe_sound}
use Rattle.world_stories.proofs.Sounding.{sound_told}
use Rattle.world_run.proofs.Sounded.{sound_seen}
use Rattle.world_run.proofs.world.World.run.Goals as goal

pub invariant_of-self : goal.invariant_of-self
invariant_of-self g c = record {
  holds = ∥∥₁_map c.args.self.now.holds
      (λ h. sound_seen (λ s. (goal.Embedded-dyn g (s.boxed.vtable, s.boxed.value)).content s.boxed.value)
      (λ s. note []) c.run.new.self
      (sound_told _ _ _
      (sound_seen (λ s. note []) (λ s. (goal.Embedded-dyn g (s.boxed.vtable, s.boxed.value)).content
      s.boxed.value) c.args.self.now.runs h) c.run.ensures.taken));
}

pub returns-clause-safe : goal.returns-clause-safe
returns-clause-safe g c =
    ∥∥₁_map c.args.self.now.holds (λ h. safe_sound _
    (sound_told _ _ _
    (sound_seen (λ s. note []) (λ s. (goal.Embedded-dyn g (s.boxed.vtable, s.boxed.value)).content
    s.boxed.value) c.args.self.now.runs h) c.run.ensures.taken))
