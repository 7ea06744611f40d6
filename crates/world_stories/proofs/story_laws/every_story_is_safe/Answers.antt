use Rattle.world_model.specs.Story.{empty_story}
use Rattle.world_stories.proofs.SafeSound.{safe_sound}
use Rattle.world_stories.proofs.Sounding.{empty_sound, sound_told}
use Rattle.world_stories.proofs.story_laws.every_story_is_safe.Goals as goal

pub returns : goal.returns
returns c = λ numbers stock moments s told. safe_sound s
    (sound_told (empty_story numbers stock) moments s (empty_sound numbers stock) told)
