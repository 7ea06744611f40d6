-- What an edit leaves of the disk that a document is on.
use Rattle.std.specs.Prelude.{◌≡◌, ◌<◌, ◌≤◌, ◌⊎◌, ℕ, Bool, true, false, List, length, Some, None, Result, Ok, Err}
use Rattle.store_images.specs.Changed.{changed_blocks}
use Rattle.store_model.specs.Crash.{Rose}
use Rattle.store_model.specs.Image.{Image}
use Rattle.store_model.specs.Journal.{restored}
use Rattle.store_model.specs.Store.{StandsAsOneOf, StandsFor}
use Rattle.store_model.specs.declared.limit.TheConstants.{MAX_DOCUMENT}
use Rattle.store_model.specs.declared.disk.Disk.{Ghosts as Disks}
use Rattle.store_model.specs.declared.fault.StoreFault.{StoreFault}
use Rattle.store_model.specs.declared.fault.StoreFault.TheVariants.{Device, NeedsReopen, TooBig, Damaged, NoMemory}
use Rattle.store_core.specs.declared.outcome.Outcome.{Outcome}
use Rattle.store_core.specs.declared.outcome.Outcome.TheVariants.{Kept, Lost}
use Rattle.tree_edits.specs.declared.change.Change.{Change}
use Rattle.store_edits.specs.declared.editing.Edited.{Edited}
use Rattle.store_edits.specs.declared.fault.EditFault.{EditFault}
use Rattle.store_edits.specs.declared.fault.EditFault.TheVariants.{Store, Read, Line, Write}
use Rattle.store_edits.specs.Edits.{IsEdit, MayRefuseUpdate}

-- the most bytes of a document that is read
abbrev pub most : ℕ
most = 134217728

-- These bytes are a disk's document: reads give it, and whatever a crash now leaves stands for it.
pub record Holds {D : Type 0} (disks : Disks D) (disk : D) (document : List ℕ) : Type 0 where
  pub reads : (disks.reads disk).document ≡ document
  pub durable : (c : Image) → disks.may_leave disk c → StandsFor document c

-- An edit of a document is a disk's, and this was told of it: how many bytes it has, and how many of its blocks differ,
-- which are those that a commit of it writes.
pub record IsEdited {D : Type 0} (disks : Disks D) (changes : List (ℕ × Change)) (document : List ℕ) (told : Edited)
    (disk : D) : Type 0 where
  pub bytes : List ℕ
  pub edit : IsEdit changes document bytes
  pub holds : Holds disks disk bytes
  pub counted : told.bytes ≡ length bytes
  pub blocks : told.blocks ≡ length (changed_blocks document bytes)

-- what is told of a commit of bytes, of which so many blocks differ
abbrev pub Tells : Outcome → List ℕ → ℕ → Result Edited EditFault → Type 0
Tells Kept bytes blocks (Ok told) = (told.bytes ≡ length bytes) × (told.blocks ≡ blocks)
Tells Kept bytes blocks (Err fault) = ⊥
Tells (Lost cause) bytes blocks (Ok told) = ⊥
Tells (Lost cause) bytes blocks (Err fault) = fault ≡ Store cause

-- the image stands for a document, or for an edit of it
abbrev pub IsBeforeOrEdit : List (ℕ × Change) → List ℕ → Image → Type 0
IsBeforeOrEdit changes document c = StandsFor document c
    ⊎ ((bytes : List ℕ) × IsEdit changes document bytes × StandsFor bytes c)

-- ---- of a disk as it was given

-- The image stands for what the disk, as it was given, might have stood for.
abbrev pub IsAsGiven : {D : Type 0} (disks : Disks D) → D → Image → Type 0
IsAsGiven disks given c = StandsAsOneOf (disks.may_leave given) c

-- The image stands for that, or for an edit of what the disk stood for.
abbrev pub IsAsGivenOrEdit : {D : Type 0} (disks : Disks D) → List (ℕ × Change) → D → Image → Type 0
IsAsGivenOrEdit disks changes given c =
    IsAsGiven disks given c ⊎ ((document : List ℕ) × StandsFor document (disks.reads given) × (bytes : List ℕ)
    × IsEdit changes document bytes × StandsFor bytes c)

-- The disk stood for a document, an edit of it is the disk's now, and this was told of it.
abbrev pub IsEditedOn : {D : Type 0} (disks : Disks D) → List (ℕ × Change) → (given : D) → Edited → D → Type 0
IsEditedOn disks changes given told disk = (document : List ℕ) × StandsFor document (disks.reads given)
    × IsEdited disks changes document told disk

-- The disk stood for a document, and this is its document still.
abbrev pub IsKeptOn : {D : Type 0} (disks : Disks D) → (given disk : D) → Type 0
IsKeptOn disks given disk = (document : List ℕ) × StandsFor document (disks.reads given) × Holds disks disk document

-- ---- refusals

-- A call of the disk failed since it was given: its count of calls that failed has risen since some moment from then
-- on.
abbrev pub HasFailed : {D : Type 0} (disks : Disks D) → (given disk : D) → Type 0
HasFailed {D = D} disks given disk = (mid : D) × (disks.follows_model → disks.moment given ≤ disks.moment mid)
    × Rose (disks.failed mid) (disks.failed disk)

-- When these bytes aren't committed. More than a store takes they never are where they were counted before.
abbrev pub MayRefuseCommit : {D : Type 0} (disks : Disks D) → List ℕ → (given disk : D) → EditFault → Type 0
MayRefuseCommit disks bytes given disk (Store Device) = HasFailed disks given disk
MayRefuseCommit disks bytes given disk (Store NeedsReopen) = ⊥
MayRefuseCommit disks bytes given disk (Store TooBig) = MAX_DOCUMENT < length bytes
MayRefuseCommit disks bytes given disk (Store Damaged) = disks.follows_model → ⊥
MayRefuseCommit disks bytes given disk (Store NoMemory) = ⊥
MayRefuseCommit disks bytes given disk (Read fault) = ⊥
MayRefuseCommit disks bytes given disk (Line n fault) = ⊥
MayRefuseCommit disks bytes given disk (Write fault) = ⊥

-- When an edit of a store's document is refused. Of bytes it is said where the disk follows the model.
abbrev pub MayRefuseStore : {D : Type 0} (disks : Disks D) → List (ℕ × Change) → List ℕ → (given disk : D)
    → StoreFault → Type 0
MayRefuseStore disks changes document given disk Device = HasFailed disks given disk
MayRefuseStore disks changes document given disk NeedsReopen = ⊥
MayRefuseStore disks changes document given disk TooBig = disks.follows_model → (most < length document)
    ⊎ MayRefuseUpdate changes document (Store TooBig)
MayRefuseStore disks changes document given disk Damaged = disks.follows_model → ⊥
MayRefuseStore disks changes document given disk NoMemory = Unit {0}

abbrev pub MayRefuseOver : {D : Type 0} (disks : Disks D) → List (ℕ × Change) → List ℕ → (given disk : D)
    → EditFault → Type 0
MayRefuseOver disks changes document given disk (Store fault) = MayRefuseStore disks changes document given disk fault
MayRefuseOver disks changes document given disk (Read fault) = disks.follows_model
    → MayRefuseUpdate changes document (Read fault)
MayRefuseOver disks changes document given disk (Line n fault) = disks.follows_model
    → MayRefuseUpdate changes document (Line n fault)
MayRefuseOver disks changes document given disk (Write fault) = disks.follows_model
    → MayRefuseUpdate changes document (Write fault)

-- When an edit of the document of a disk as it was given is.
abbrev pub MayRefuseOn : {D : Type 0} (disks : Disks D) → List (ℕ × Change) → (given disk : D) → EditFault → Type 0
MayRefuseOn disks changes given disk (Store Device) = HasFailed disks given disk
MayRefuseOn disks changes given disk (Store NeedsReopen) = ⊥
MayRefuseOn disks changes given disk (Store TooBig) =
    disks.follows_model → (document : List ℕ) × StandsFor document (disks.reads given)
    × ((most < length document) ⊎ MayRefuseUpdate changes document (Store TooBig))
MayRefuseOn disks changes given disk (Store Damaged) = disks.follows_model → restored (disks.reads given) ≡ None
MayRefuseOn disks changes given disk (Store NoMemory) = Unit {0}
MayRefuseOn disks changes given disk (Read fault) = disks.follows_model → (document : List ℕ)
    × StandsFor document (disks.reads given) × MayRefuseUpdate changes document (Read fault)
MayRefuseOn disks changes given disk (Line n fault) = disks.follows_model → (document : List ℕ)
    × StandsFor document (disks.reads given) × MayRefuseUpdate changes document (Line n fault)
MayRefuseOn disks changes given disk (Write fault) = disks.follows_model → (document : List ℕ)
    × StandsFor document (disks.reads given) × MayRefuseUpdate changes document (Write fault)
