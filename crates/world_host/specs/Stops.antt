-- What a host makes and leaves where its container stops.
use Rattle.std.specs.Prelude.{◌≡◌, ◌+◌, ◌&&◌, ℕ, Bool, true, false, not, List, [], ◌∷◌, Option, Some, None, is_some}
use Rattle.std.specs.Prelude.{Result, Ok, Err, if◌then◌else◌}
use Rattle.message_values.specs.Found.{nth}
use Rattle.container_model.specs.Record.{Record}
use Rattle.container_model.specs.Saves.{image}
use Rattle.container_model.specs.declared.record.Frame.{Frame}
use Rattle.world_model.specs.declared.event.Stop.{Stop}
use Rattle.world_model.specs.declared.event.Stop.TheVariants.{NotEnabled, OutOfStock, EventLimit, NoMemory}
use Rattle.world_model.specs.declared.logs.File.{File}
use Rattle.world_model.specs.World.{HoldsDocument, World, put_file}
use Rattle.world_model.specs.Story.{has_image, is_among, made_name}
use Rattle.world_host.specs.declared.host.Host.{Host}
use Rattle.world_host.specs.declared.stops.Left.{Left}

-- each of these numbers is a frame's
abbrev pub are_there : List Frame → List ℕ → Bool
are_there frames [] = true
are_there frames (f ∷ fs) = if is_some (nth frames f) then are_there frames fs else false

-- a frame is among these, and has no commit that the disk can have kept
abbrev pub lacks_image : Record → List ℕ → ℕ → Bool
lacks_image r fs f = is_among fs f && not (has_image (image r f))

-- the names of the files that are made of the frames among these, by rising number, the first of them of number f
abbrev pub made_names : List ℕ → ℕ → List Frame → List (List ℕ)
made_names fs f [] = []
made_names fs f (frame ∷ frames) = if is_among fs f then made_name frame ∷ made_names fs (f + 1) frames
    else made_names fs (f + 1) frames

-- the file that is made of a frame, none where it isn't among these
abbrev pub IsMade : World → List ℕ → ℕ → Frame → Option File → Type 0
IsMade w fs f frame None = is_among fs f ≡ false
IsMade w fs f frame (Some file) = (is_among fs f ≡ true) × (file.name ≡ made_name frame) × HoldsDocument w f file.bytes

-- the same of all frames, by rising number, the first of them of number f
abbrev pub AreMade : World → List ℕ → ℕ → List Frame → List (Option File) → Type 0
AreMade w fs f [] [] = Unit {0}
AreMade w fs f [] (x ∷ xs) = ⊥
AreMade w fs f (frame ∷ frames) [] = ⊥
AreMade w fs f (frame ∷ frames) (x ∷ xs) = IsMade w fs f frame x × AreMade w fs (f + 1) frames xs

-- the name of a file that is made
abbrev pub named : Option File → List (List ℕ)
named None = []
named (Some file) = file.name ∷ []

-- files after these are made, one after the other
abbrev pub put_made : Option File → List File → List File
put_made None files = files
put_made (Some file) files = put_file file.name file.bytes files

abbrev pub put_each : List (Option File) → List File → List File
put_each [] files = files
put_each (x ∷ xs) files = put_each xs (put_made x files)

-- what is given where a container is to stop, by whether it may, and whether no more is taken
abbrev pub MayGive : {A : Type 0} → Bool → Bool → Result A Stop → Type 0
MayGive may full (Ok left) = (may ≡ true) × (full ≡ false)
MayGive may full (Err NotEnabled) = may ≡ false
MayGive may full (Err OutOfStock) = ⊥
MayGive may full (Err EventLimit) = (may ≡ true) × (full ≡ true)
MayGive may full (Err NoMemory) = (may ≡ true) × (full ≡ false)

-- what is left of a run: its session, its logs, and the names of the files that are made
pub record IsLeft (l : Host) (made : List (List ℕ)) (left : Left) : Type 0 where
  pub session : left.session ≡ l.core.session
  pub owners : left.owners.items ≡ l.owners.items
  pub taken : left.taken.items ≡ l.taken.items
  pub container_done : left.container_done.items ≡ l.container_done.items
  pub server_done : left.server_done.items ≡ l.server_done.items
  pub counted : left.counted.items ≡ l.counted.items
  pub hostile : left.hostile.items ≡ l.hostile.items
  pub names : left.names.items ≡ made
