-- What moments make of a story.
use Rattle.std.specs.Prelude.{◌≡◌, ℕ, List, [], ◌∷◌, ◌++◌, Option, None, Ok, MatchOption, if◌then◌else◌, ◌==◌}
use Rattle.std.specs.Prelude.{slice_set}
use Rattle.message_values.specs.Found.{IsPlace, find}
use Rattle.world_model.specs.declared.event.Event.{Event}
use Rattle.world_model.specs.declared.event.Stop.{Stop}
use Rattle.world_model.specs.World.{Choice, MayChoose, StopsFor, World}
use Rattle.world_model.specs.declared.moment.Moment.{Moment}
use Rattle.world_model.specs.Story.{Chosen, Epoch, MayChooseAt, Story, as_of, epoch_of, is_session, pass}
use Rattle.world_model.specs.Story.{present, within}

-- a moment makes this of a story
abbrev pub Passes : Story → Moment → Story → Type 0
Passes s m after = (choice : Chosen) × MayChooseAt s choice m × (pass s choice m ≡ Ok after)

-- an event of the present run does, or stops the story
abbrev pub Follows : Story → Event → Story → Type 0
Follows s e after = (choice : Choice) × MayChoose s.now choice e × (within s (present s choice e) ≡ Ok after)

abbrev pub HoldsBack : Story → Event → Stop → Type 0
HoldsBack s e stop = (choice : Choice) → StopsFor (within s (present s choice e)) stop

-- what is left of a run, with a session of its own
abbrev pub left_at : ℕ → World → Epoch
left_at session w = record (epoch_of w) { session = session }

-- where the first run of a session stands, if there is one
abbrev pub IsFirstRun : List Epoch → ℕ → Option ℕ → Type 0
IsFirstRun es session place = MatchOption place (find (is_session session) es ≡ None) (IsPlace (is_session session) es)

-- the run that stands at i in the place of the present one
abbrev pub swapped : Story → Epoch → ℕ → Story
swapped s e i = record s { now = as_of s.now e; past = slice_set s.past i (left_at e.session s.now) }

-- a run that raised no session leaves nothing
abbrev pub past_with : Epoch → List Epoch → List Epoch
past_with e past = if e.session == 0 then past else past ++ e ∷ []
