-- What is printed of a story of moments, and when none is.
use Rattle.std.specs.Prelude.{◌≡◌, ◌+◌, ◌++◌, ℕ, List, [], ◌∷◌, take, drop, Option, Some, None, Ok, IsOk}
use Rattle.std.specs.Io.KnownBytes.{Appends}
use Rattle.object_core.specs.Kinds.{Kind}
use Rattle.world_model.specs.Report.{report}
use Rattle.world_model.specs.World.{World}
use Rattle.world_model.specs.declared.event.Stop.{Stop}
use Rattle.world_model.specs.SafeStory.{SafeStory}
use Rattle.world_model.specs.Story.{EndsAt, Story, Tells, empty_story}
use Rattle.world_model.specs.declared.moment.Moment.{Moment}
use Rattle.text_worlds.specs.Answers.{answer_lines, stop_line}
use Rattle.text_io.specs.Input.{MayRefuseInput}
use Rattle.text_worlds.specs.Moments.{RefusesMoments, moments_read}
use Rattle.text_worlds.specs.declared.fault.SimulateFault.{SimulateFault}
use Rattle.text_worlds.specs.declared.fault.SimulateFault.TheVariants as simulate

-- A story ends behind the last moment, or it stops before the next one.
abbrev pub EndsMoment : Story → List Moment → Option Stop → Type 0
EndsMoment s [] None = Unit {0}
EndsMoment s [] (Some stop) = ⊥
EndsMoment s (m ∷ ms) None = ⊥
EndsMoment s (m ∷ ms) (Some stop) = EndsAt s m stop

abbrev pub stop_text : ℕ → Option Stop → List ℕ
stop_text taken None = []
stop_text taken (Some stop) = stop_line (taken + 1) stop

-- A world in which so many moments were taken: the answers, the report, and where it stopped.
abbrev pub world_text : World → ℕ → Option Stop → List ℕ
world_text w taken stop = answer_lines 1 w.answers ++ report w ++ stop_text taken stop

-- The text of a story of moments, from the one in which nothing has happened. The story that they tell is safe, however
-- often the container stopped: in each run no call acted twice, and no save was counted twice; any file holds what a
-- run counted, or what a stop kept of a commit; and of servers of which no message was forged no two activations have
-- one frame's grant, and both sides counted one content.
pub record IsSimulated (numbers : ℕ) (stock : List Kind) (moments : List Moment) (stop : Option Stop)
    (out : List ℕ) : Type 0 where
  pub taken : ℕ
  pub s : Story
  pub tells : Tells (empty_story numbers stock) (take taken moments) s
  pub safe : SafeStory s
  pub ends : EndsMoment s (drop taken moments) stop
  pub told : out ≡ world_text s.now taken stop

-- Such a text was written of the moments that a text spells.
pub record Simulates (numbers : ℕ) (stock : List Kind) (text : List ℕ) (stop : Option Stop)
    (old new : Option (List ℕ)) : Type 0 where
  pub moments : List Moment
  pub read : moments_read text ≡ Ok moments
  pub out : List ℕ
  pub simulated : IsSimulated numbers stock moments stop out
  pub written : Appends old new out

-- When a text may be refused. What stands behind its reading can fail only where all its lines spell moments.
abbrev pub MayRefuseSimulate : List ℕ → SimulateFault → Type 0
MayRefuseSimulate text (simulate.Input fault) = MayRefuseInput text fault
MayRefuseSimulate text (simulate.Line n fault) = RefusesMoments text (n, fault)
MayRefuseSimulate text simulate.NoMemory = IsOk (moments_read text)
MayRefuseSimulate text simulate.Unwritable = IsOk (moments_read text)
