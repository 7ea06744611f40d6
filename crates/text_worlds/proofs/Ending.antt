-- A story from the one in which nothing has happened, and what is written of it.
use Rattle.std.proofs.Common.{◌≡◌, ◌++◌, ℕ, zero, suc, List, [], ◌∷◌, Option, Some, None, length, take, drop, slice_get}
use Rattle.std.proofs.Common.{MatchOption, ap, ◌∙◌, subst, arith}
use Rattle.object_core.specs.Kinds.{Kind}
use Rattle.world_model.specs.declared.event.Stop.{Stop}
use Rattle.world_model.specs.SafeStory.{SafeStory}
use Rattle.world_model.specs.Story.{EndsAt, Story, Tells, empty_story}
use Rattle.world_model.specs.declared.moment.Moment.{Moment}
use Rattle.text_worlds.specs.Simulation.{EndsMoment, IsSimulated, world_text}

-- why a story that took so many of these moments ended as this one
abbrev Ended : Story → List Moment → ℕ → Option Stop → Type 0
Ended s moments taken stop = MatchOption stop (taken ≡ length moments)
    (λ t. (m : Moment) × (slice_get moments taken ≡ Some m) × EndsAt s m t)

ends-all : (s : Story) (moments : List Moment) (taken : ℕ) → taken ≡ length moments
    → EndsMoment s (drop taken moments) None
ends-all s [] zero all = tt
ends-all s [] (suc n) all = tt
ends-all s (m ∷ ms) zero all = absurd (omega arith)
ends-all s (m ∷ ms) (suc n) all = ends-all s ms n (omega arith)

ends-before : (s : Story) (moments : List Moment) (taken : ℕ) (stop : Stop) (m : Moment)
    → slice_get moments taken ≡ Some m → EndsAt s m stop → EndsMoment s (drop taken moments) (Some stop)
ends-before s [] taken stop m at stops = absurd (cc)
ends-before s (x ∷ xs) zero stop m at stops =
    let same : m ≡ x = cc in
    let P : Moment → Type 0 = λ y. EndsAt s y stop in
    subst P same stops
ends-before s (x ∷ xs) (suc n) stop m at stops = ends-before s xs n stop m at stops

ends : (s : Story) (moments : List Moment) (taken : ℕ) (stop : Option Stop) → Ended s moments taken stop
    → EndsMoment s (drop taken moments) stop
ends s moments taken None ended = ends-all s moments taken ended
ends s moments taken (Some stop) ended = ends-before s moments taken stop ended.0 ended.1 ended.2

pub simulated : (numbers : ℕ) (stock : List Kind) (moments : List Moment) (taken : ℕ) (stop : Option Stop)
    (start s : Story) (before out : List ℕ)
    → start ≡ empty_story numbers stock → Tells start (take taken moments) s → SafeStory s
    → Ended s moments taken stop
    → before ≡ [] → out ≡ before ++ world_text s.now taken stop → IsSimulated numbers stock moments stop out
simulated numbers stock moments taken stop start s before out new tells safe ended empty told =
    let P : Story → Type 0 = λ r. Tells r (take taken moments) s in
    record {
      taken = taken;
      s = s;
      tells = subst P new tells;
      safe = safe;
      ends = ends s moments taken stop ended;
      told = told ∙ ap (λ t. t ++ world_text s.now taken stop) empty;
    }
