-- What holds where a file is opened, and what it made.
use Rattle.std.specs.Prelude.{◌≡◌, ◌≤◌, ◌<◌, ◌+◌, ℕ, true, false, List, length, Ok}
use Rattle.ole_model.specs.Documents.{Doc}
use Rattle.container_model.specs.Record.{Record, Took, MOST_FRAMES, MOST_OBJECTS}
use Rattle.container_model.specs.Saves.{are_objects}
use Rattle.container_model.specs.Commands.{is_named, is_size}
use Rattle.container_model.specs.Opens.{Given, opened, opened_made}

pub record IsOpened (r : Record) (name : List ℕ) (w h : ℕ) (given : Given) (t : Took) : Type 0 where
  pub d : Doc
  pub holds : given ≡ Given.Holding d
  pub unnamed : is_named name r.frames ≡ false
  pub size : is_size w h ≡ true
  -- the document is within its limits
  pub most : length d.objects ≤ MOST_OBJECTS
  pub within : are_objects d.objects ≡ true
  pub few : length r.frames < MOST_FRAMES
  pub numbers : length r.frames < r.numbers
  pub objects : r.last_object + length d.objects ≤ r.numbers
  pub made : opened_made r name w h d ≡ t

-- Law: each file that is opened is opened so.
abbrev pub FilesAreOpenedSo : Type 0
FilesAreOpenedSo = (r : Record) (name : List ℕ) (w h : ℕ) (given : Given) (t : Took)
    → opened r name w h given ≡ Ok t → IsOpened r name w h given t
