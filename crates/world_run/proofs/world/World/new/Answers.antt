use Rattle.std.proofs.Common.{[], subst, sym}
use Rattle.object_core.specs.Content.{note}
use Rattle.world_model.specs.SafeStory.{SafeStory}
use Rattle.world_stories.specs.Holding.{Sound}
use Rattle.world_stories.proofs.SafeSound.{safe_sound}
use Rattle.world_stories.proofs.Sounding.{empty_sound}
use Rattle.world_run.proofs.Sounded.{sound_seen}
use Rattle.world_run.proofs.world.World.new.Goals as goal

pub invariant_of-result : goal.invariant_of-result
invariant_of-result g c =
    record {
      holds = ∣ sound_seen (λ s. (goal.Embedded-dyn g (s.boxed.vtable, s.boxed.value)).content s.boxed.value)
          (λ s. note []) c.new.result (subst Sound (sym c.new.ensures) (empty_sound _ _)) ∣₁;
    }

pub returns-clause-safe : goal.returns-clause-safe
returns-clause-safe g c = ∣ subst SafeStory (sym c.new.ensures) (safe_sound _ (empty_sound _ _)) ∣₁
