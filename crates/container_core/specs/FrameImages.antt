-- The images of frames' files, by the frames' numbers from 1.
use Rattle.std.specs.Prelude.{ℕ, Bool, true, false, List, Option, Some, None, Result, Ok, Err}
use Rattle.message_values.specs.Found.{nth, set_nth}
use Rattle.container_core.specs.declared.frame_images.Images.{Images}
use Rattle.container_model.specs.declared.answer.Answer.{Answer}
use Rattle.container_model.specs.declared.fault.ContainerFault.{ContainerFault}

abbrev pub flat : Option (Option (List ℕ)) → Option (List ℕ)
flat None = None
flat (Some image) = image

-- the image of a frame, none also where there is no such frame
abbrev pub image_at : List (Option (List ℕ)) → ℕ → Option (List ℕ)
image_at images f = flat (nth images f)

-- A commit is counted: its image is the committed one, and where there is none, none is. One that is lost leaves the
-- committed image as it is.
abbrev pub counted : ℕ → Images → Images
counted f v = record { committed = set_nth v.committed f (image_at v.next f); next = set_nth v.next f None }

abbrev pub lost : ℕ → Images → Images
lost f v = record v { next = set_nth v.next f None }

abbrev pub resolved : ℕ → Bool → Images → Images
resolved f true v = counted f v
resolved f false v = lost f v

-- what the container doesn't take changes nothing
abbrev pub settled : ℕ → Bool → Result Answer ContainerFault → Images → Images
settled f is_kept (Ok a) v = resolved f is_kept v
settled f is_kept (Err fault) v = v

-- a file that is opened is the committed one of the frame that was made
abbrev pub started_at : Option ℕ → List ℕ → Images → Images
started_at None image v = v
started_at (Some f) image v = record { committed = set_nth v.committed f (Some image); next = set_nth v.next f None }

abbrev pub started : Result Answer ContainerFault → List ℕ → Images → Images
started (Ok a) image v = started_at a.frame image v
started (Err fault) image v = v
