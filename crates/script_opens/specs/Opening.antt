-- What is told of a file that a command opens.
use Rattle.std.specs.Prelude.{◌≡◌, ◌<◌, ◌⊎◌, ℕ, List, [], ◌∷◌, length, Some, None, Result, Ok, Err}
use Rattle.store_model.specs.Store.{StandsFor}
use Rattle.store_model.specs.declared.disk.Disk.{Ghosts as Disks}
use Rattle.store_model.specs.declared.fault.StoreFault.{StoreFault}
use Rattle.container_model.specs.Opens.{Given, IsReadAs}
use Rattle.container_model.specs.declared.fault.ContainerFault.{ContainerFault}
use Rattle.container_model.specs.declared.fault.ContainerFault.TheVariants.{BadFile, NoSuch}
use Rattle.script_model.specs.Courses.{Course, Looked, Made, Opening, Read, Unasked}
use Rattle.script_model.specs.Events.{Event, Found}
use Rattle.script_model.specs.Saved.{IsReadOf}
use Rattle.script_model.specs.declared.answer.Told.{Told}
use Rattle.script_model.specs.declared.answer.Told.TheVariants as told

-- the most bytes of a document that is opened
abbrev pub MOST_OPENED : ℕ
MOST_OPENED = 134217728

-- A disk stood for more bytes than are opened.
abbrev pub HoldsMore : {D : Type 0} (disks : Disks D) → D → Type 0
HoldsMore disks found = (bytes : List ℕ) × StandsFor bytes (disks.reads found) × (MOST_OPENED < length bytes)

-- Why a file that was found isn't opened, and what is told. It has no bytes; it has bytes, and they hold no document;
-- it has more bytes than are opened: each is said where disks follow the model. Or the disk isn't read, for a fault of
-- the store.
pub data IsUnread {D : Type 0} (disks : Disks D) (found disk : D) (first : Told) : Type 0 where
  empty : first ≡ told.Fault NoSuch → (disks.follows_model → IsReadOf disks found [] disk)
      → IsUnread disks found disk first
  broken : (bytes : List ℕ) → first ≡ told.Fault BadFile → (disks.follows_model → IsReadOf disks found bytes disk)
      → IsReadAs (Some bytes) Given.Broken → IsUnread disks found disk first
  large : first ≡ told.Fault BadFile → (disks.follows_model → HoldsMore disks found) → IsUnread disks found disk first
  refused : (why : StoreFault) → first ≡ told.Unread why → IsUnread disks found disk first

-- The file of a name wasn't found: there is none, or a fault of the store is told.
abbrev pub IsUnfound : Told → Type 0
IsUnfound first = (first ≡ told.Fault NoSuch) ⊎ ((why : StoreFault) × (first ≡ told.Unread why))

-- What is told of a file that is to be opened under a name, as a frame of this size, by what was looked at first and
-- what was done.
abbrev pub IsOpenTold : {D : Type 0} (disks : Disks D) → Result (Unit {0}) ContainerFault → List ℕ → (w h : ℕ)
    → Opening D → Told → Type 0
IsOpenTold disks (Err fault) name w h Unasked first = first ≡ told.Fault fault
IsOpenTold disks (Err fault) name w h (Looked other found) first = ⊥
IsOpenTold disks (Err fault) name w h (Read other found disk) first = ⊥
IsOpenTold disks (Err fault) name w h (Made other x y t) first = ⊥
IsOpenTold disks (Ok u) name w h Unasked first = ⊥
IsOpenTold disks (Ok u) name w h (Looked other None) first = (other ≡ name) × IsUnfound first
IsOpenTold disks (Ok u) name w h (Looked other (Some found)) first = ⊥
IsOpenTold disks (Ok u) name w h (Read other found disk) first = (other ≡ name) × IsUnread disks found disk first
IsOpenTold disks (Ok u) name w h (Made other x y t) first = (other ≡ name) × (x ≡ w) × (y ≡ h) × (first ≡ t)

-- ---- what is done

-- The last call found this disk under this name.
abbrev pub IsJustFound : {D : Type 0} → List ℕ → D → List (Event D) → Type 0
IsJustFound {D = D} name disk es = (before : List (Event D)) × (es ≡ Found name (Some disk) ∷ before)

-- a name and a size that may be
abbrev pub looked : Result (Unit {0}) ContainerFault
looked = Ok tt

-- How a file that is there, and was read, is opened: as a frame; or its bytes hold no document, or it has none. Then
-- the course stays.
pub data IsOpenedBy {D : Type 0} (before after : Course D) (name : List ℕ) (w h : ℕ) (bytes : List ℕ)
    (first : Told) : Type 0 where
  made : after ≡ record before { opening = Made name w h first } → IsOpenedBy before after name w h bytes first
  void : after ≡ before → first ≡ told.Fault NoSuch → bytes ≡ [] → IsOpenedBy before after name w h bytes first
  bad : after ≡ before → first ≡ told.Fault BadFile → IsReadAs (Some bytes) Given.Broken
      → IsOpenedBy before after name w h bytes first
