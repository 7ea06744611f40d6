-- What moments tell from the story in which nothing has happened is safe; what is written in parts.
use Rattle.std.proofs.Common.{◌≡◌, ◌++◌, ℕ, List, Result, Ok, Err, OnOk, append_assoc, ap, ◌∙◌, subst}
use Rattle.object_core.specs.Kinds.{Kind}
use Rattle.world_model.specs.SafeStory.{SafeStory}
use Rattle.world_model.specs.Story.{Story, Tells, empty_story}
use Rattle.world_model.specs.declared.moment.Moment.{Moment}
use Rattle.world_stories.proofs.SafeSound.{safe_sound}
use Rattle.world_stories.proofs.Sounding.{empty_sound, sound_told}

pub safe_told : (numbers : ℕ) (stock : List Kind) (moments : List Moment) (start s : Story)
    → start ≡ empty_story numbers stock → Tells start moments s → SafeStory s
safe_told numbers stock moments start s new tells =
    let P : Story → Type 0 = λ r. Tells r moments s in
    safe_sound s (sound_told (empty_story numbers stock) moments s (empty_sound numbers stock) (subst P new tells))

-- what is written in three parts, where the last may be refused
pub told_whole : {A E : Type 0} (r : Result A E) (old answers told end a b d : List ℕ) → a ≡ old ++ answers
    → b ≡ a ++ told → OnOk r (d ≡ b ++ end) → OnOk r (d ≡ old ++ (answers ++ told ++ end))
told_whole (Ok x) old answers told end a b d first second third =
    third ∙ ap (λ t. t ++ end) (second ∙ ap (λ t. t ++ told) first ∙ append_assoc old answers told)
    ∙ append_assoc old (answers ++ told) end
told_whole (Err fault) old answers told end a b d first second third = tt
