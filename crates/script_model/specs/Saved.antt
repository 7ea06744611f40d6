-- What a history says of files: which disk stands behind each commit that the container counts, and behind each file
-- that is opened.
use Rattle.std.specs.Prelude.{◌≡◌, ◌<◌, ◌⊎◌, ◌||◌, ℕ, Bool, true, false, List, [], ◌∷◌, length, Option, Some, None, Ok}
use Rattle.std.specs.Prelude.{Err}
use Rattle.cfb_file.specs.Denotes.{Denotes}
use Rattle.write_zeros.specs.Zeroed.{IsZeroed}
use Rattle.ole_model.specs.DocOf.{DocOf}
use Rattle.ole_model.specs.Documents.{Doc}
use Rattle.store_model.specs.Crash.{Rose, StaysIn}
use Rattle.store_model.specs.Image.{Image}
use Rattle.store_model.specs.Store.{StandsAsOneOf, StandsFor}
use Rattle.store_model.specs.declared.limit.TheConstants.{MAX_DOCUMENT}
use Rattle.store_model.specs.declared.disk.Disk.{Ghosts as Disks}
use Rattle.message_values.specs.Found.{nth}
use Rattle.container_model.specs.declared.answer.FrameDocument.{FrameDocument}
use Rattle.container_model.specs.declared.record.Frame.{Frame}
use Rattle.container_model.specs.declared.record.Phase.{Phase}
use Rattle.container_model.specs.declared.record.Phase.TheVariants.{Idle, Saving, HandingOff, Committing, InDoubt}
use Rattle.container_model.specs.Opens.{Given, IsReadAs}
use Rattle.container_model.specs.Record.{Record}
use Rattle.container_model.specs.Saves.{document, document_tree, image}
use Rattle.container_model.specs.declared.fault.ContainerFault.TheVariants.{Full}
use Rattle.script_model.specs.declared.step.Step.{Step}
use Rattle.script_model.specs.declared.step.Step.TheVariants as step
use Rattle.script_model.specs.Containers.{record_of}
use Rattle.script_model.specs.Events.{Event, Started, Connected, Sent, Heard, Ended, Opened, Found, Shut, Stepped}

-- ---- disks

-- Whatever a crash leaves of a disk, a store that is opened on it has these bytes.
abbrev pub IsDurable : {D : Type 0} (disks : Disks D) → D → List ℕ → Type 0
IsDurable disks disk bytes = (c : Image) → disks.may_leave disk c → StandsFor bytes c

-- From the moment at which a disk was given on, up to now, a crash leaves images that have P.
abbrev pub IsSince : {D : Type 0} (disks : Disks D) → (given disk : D) → (Image → Type 0) → Type 0
IsSince disks given disk P = StaysIn disks.may_leave disks.moment disks.left_since given disk P

-- The image stands for what a disk, as it was given, might have stood for.
abbrev pub IsAsGiven : {D : Type 0} (disks : Disks D) → D → Image → Type 0
IsAsGiven disks given c = StandsAsOneOf (disks.may_leave given) c

-- The image stands for that, or for these bytes.
abbrev pub IsAsGivenOr : {D : Type 0} (disks : Disks D) → D → List ℕ → Image → Type 0
IsAsGivenOr disks given bytes c = IsAsGiven disks given c ⊎ StandsFor bytes c

-- These bytes were saved on a disk that was given: a crash since then leaves what stands for what the disk as it was
-- given might have stood for, or for these bytes, and a crash now leaves what stands for these bytes.
pub record IsSavedOn {D : Type 0} (disks : Disks D) (given : D) (bytes : List ℕ) (disk : D) : Type 0 where
  pub since : IsSince disks given disk (IsAsGivenOr disks given bytes)
  pub durable : IsDurable disks disk bytes

-- These bytes weren't saved on a disk that was given: a crash since then leaves what stands for what the disk as it was
-- given might have stood for, or for these bytes, and a crash now leaves what stands for the first alone.
pub record IsLostOn {D : Type 0} (disks : Disks D) (given : D) (bytes : List ℕ) (disk : D) : Type 0 where
  pub since : IsSince disks given disk (IsAsGivenOr disks given bytes)
  pub stays : (c : Image) → disks.may_leave disk c → IsAsGiven disks given c

-- A call of a disk failed since it was given: its count of calls that failed has risen.
abbrev pub HasFailed : {D : Type 0} (disks : Disks D) → (given disk : D) → Type 0
HasFailed disks given disk = Rose (disks.failed given) (disks.failed disk)

-- Why these bytes weren't saved on a disk that was given: they are more than a document may have, or a call of the disk
-- failed since then.
abbrev pub IsRefusedOn : {D : Type 0} (disks : Disks D) → (given : D) → List ℕ → (disk : D) → Type 0
IsRefusedOn disks given bytes disk = (MAX_DOCUMENT < length bytes) ⊎ HasFailed disks given disk

-- These bytes were read of a disk that was given: it stood for them then, a crash since then leaves what stands for
-- what the disk as it was given might have stood for, and a crash now leaves what stands for these bytes.
pub record IsReadOf {D : Type 0} (disks : Disks D) (given : D) (bytes : List ℕ) (disk : D) : Type 0 where
  pub read : StandsFor bytes (disks.reads given)
  pub since : IsSince disks given disk (IsAsGiven disks given)
  pub durable : IsDurable disks disk bytes

-- ---- saves

-- the name that a frame is saved under: the one that is asked for, else its own
abbrev pub asked_name : Option (List ℕ) → List ℕ → List ℕ
asked_name (Some asked) name = asked
asked_name None name = name

abbrev pub file_name : Frame → List ℕ
file_name frame = asked_name frame.asked frame.name

-- whether a frame's file is to be committed, or it isn't known whether it was
abbrev pub is_unsaved : Phase → Bool
is_unsaved Idle = false
is_unsaved Saving = false
is_unsaved HandingOff = false
is_unsaved Committing = true
is_unsaved InDoubt = true

-- whether the file of one of these frames is
abbrev pub is_any_unsaved : List Frame → Bool
is_any_unsaved [] = false
is_any_unsaved (frame ∷ frames) = is_unsaved frame.phase || is_any_unsaved frames

-- Bytes are the file of a frame whose commit is asked for: this is its name, they denote a tree, what this holds is the
-- document of its save, and what this takes none of is zero, so that nothing of an older document is left there.
pub record IsFileOf (r : Record) (f : ℕ) (name bytes : List ℕ) : Type 0 where
  pub frame : Frame
  pub found : nth r.frames f ≡ Some frame
  pub named : name ≡ file_name frame
  pub saved : FrameDocument
  pub counted : image r f ≡ Ok saved
  pub denotes : ∥ Denotes bytes (document_tree saved) ∥₁
  pub holds : DocOf (document_tree saved) (document saved)
  pub zeroed : IsZeroed bytes

-- The last call gave a disk back under this name, the call before it had given this disk under the same name, and in
-- between these bytes were saved on it.
pub record IsShutWith {D : Type 0} (disks : Disks D) (es : List (Event D)) (name bytes : List ℕ) : Type 0 where
  pub given : D
  pub disk : D
  pub before : List (Event D)
  pub last : es ≡ Shut name disk ∷ Opened name (Some given) ∷ before
  pub saved : IsSavedOn disks given bytes disk

-- The last call gave a disk back that holds the file of a frame.
pub record IsSaved {D : Type 0} (disks : Disks D) (es : List (Event D)) (f : ℕ) : Type 0 where
  pub name : List ℕ
  pub bytes : List ℕ
  pub shut : IsShutWith disks es name bytes
  pub file : IsFileOf (record_of es) f name bytes

-- The last call asked for the disk of this name, and it wasn't given.
abbrev pub IsMissing : {D : Type 0} → List ℕ → List (Event D) → Type 0
IsMissing {D = D} name es = (before : List (Event D)) × (es ≡ Opened name None ∷ before)

-- The last call gave a disk back under this name, the call before it had given this disk under the same name, and in
-- between these bytes were to be saved on it and weren't: they are too many, a call of the disk failed, or the disk
-- wasn't given when it was asked for the first time, in the call before these. That the disk holds what it held before
-- is said where it follows the model.
pub record IsShutWithout {D : Type 0} (disks : Disks D) (es : List (Event D)) (name bytes : List ℕ) : Type 0 where
  pub given : D
  pub disk : D
  pub before : List (Event D)
  pub last : es ≡ Shut name disk ∷ Opened name (Some given) ∷ before
  pub lost : disks.follows_model → IsLostOn disks given bytes disk
  pub cause : IsRefusedOn disks given bytes disk ⊎ IsMissing name before

-- The last call gave a disk back on which the file of a frame was to be saved and wasn't.
pub record IsLeft {D : Type 0} (disks : Disks D) (es : List (Event D)) (f : ℕ) : Type 0 where
  pub name : List ℕ
  pub bytes : List ℕ
  pub shut : IsShutWithout disks es name bytes
  pub file : IsFileOf (record_of es) f name bytes

-- The commit of a frame's file failed: no file can hold its document, or it wasn't saved, for a cause that the history
-- shows.
abbrev pub IsLost : {D : Type 0} (disks : Disks D) → List (Event D) → ℕ → Type 0
IsLost disks es f = (image (record_of es) f ≡ Err Full) ⊎ IsLeft disks es f

-- what a commit that is counted says of the disk, where this follows the model
abbrev pub IsSavedThere : {D : Type 0} (disks : Disks D) → List (Event D) → ℕ → Type 0
IsSavedThere disks es f = disks.follows_model → IsSaved disks es f

abbrev pub KeptIsSaved : {D : Type 0} (disks : Disks D) → Bool → List (Event D) → ℕ → Type 0
KeptIsSaved disks true es f = IsSavedThere disks es f
KeptIsSaved disks false es f = Unit {0}

-- a step that counts a commit, or tells that one failed, behind these calls
abbrev pub CountsSaved : {D : Type 0} (disks : Disks D) → Step → List (Event D) → Type 0
CountsSaved disks (step.Begins n) es = Unit {0}
CountsSaved disks (step.Command c) es = Unit {0}
CountsSaved disks (step.Message inc m) es = Unit {0}
CountsSaved disks (step.Reap inc) es = Unit {0}
CountsSaved disks (step.Committed f) es = IsSavedThere disks es f
CountsSaved disks (step.Failed f) es = IsLost disks es f
CountsSaved disks (step.Resolved f is_kept) es = KeptIsSaved disks is_kept es f
CountsSaved disks (step.Open name w h session objects) es = Unit {0}
CountsSaved disks step.NoMemory es = Unit {0}

-- ---- opened files

-- The last call gave a disk back under this name, the call before it had found this disk under the same name, and in
-- between these bytes were read of it.
pub record IsReadFrom {D : Type 0} (disks : Disks D) (es : List (Event D)) (name bytes : List ℕ) : Type 0 where
  pub found : D
  pub disk : D
  pub before : List (Event D)
  pub last : es ≡ Shut name disk ∷ Found name (Some found) ∷ before
  pub read : IsReadOf disks found bytes disk

-- Bytes were read of the disk of this name, they denote a tree, and what this holds is this document.
pub record IsOpened {D : Type 0} (disks : Disks D) (es : List (Event D)) (name : List ℕ) (document : Doc) : Type 0 where
  pub bytes : List ℕ
  pub read : IsReadFrom disks es name bytes
  pub holds : IsReadAs (Some bytes) (Given.Holding document)

-- a step that opens a file, behind these calls
abbrev pub OpensRead : {D : Type 0} (disks : Disks D) → Step → List (Event D) → Type 0
OpensRead disks (step.Begins n) es = Unit {0}
OpensRead disks (step.Command c) es = Unit {0}
OpensRead disks (step.Message inc m) es = Unit {0}
OpensRead disks (step.Reap inc) es = Unit {0}
OpensRead disks (step.Committed f) es = Unit {0}
OpensRead disks (step.Failed f) es = Unit {0}
OpensRead disks (step.Resolved f is_kept) es = Unit {0}
OpensRead disks (step.Open name w h session objects) es =
    IsOpened disks es name (record { session = session; objects = objects })
OpensRead disks step.NoMemory es = Unit {0}

-- ---- whole histories

-- Of each step this holds, behind the calls before it.
abbrev pub OfEachStep : {D : Type 0} (P : Step → List (Event D) → Type 0) → List (Event D) → Type 0
OfEachStep P [] = Unit {0}
OfEachStep P (Stepped step ∷ es) = P step es × OfEachStep P es
OfEachStep P (Started session inc ok ∷ es) = OfEachStep P es
OfEachStep P (Connected inc ok ∷ es) = OfEachStep P es
OfEachStep P (Sent inc bytes ok ∷ es) = OfEachStep P es
OfEachStep P (Heard inc bytes ok ∷ es) = OfEachStep P es
OfEachStep P (Ended inc ∷ es) = OfEachStep P es
OfEachStep P (Opened name disk ∷ es) = OfEachStep P es
OfEachStep P (Found name disk ∷ es) = OfEachStep P es
OfEachStep P (Shut name disk ∷ es) = OfEachStep P es

-- Where disks follow the model, each commit that the container counts stands directly behind the giving back of the
-- disk that the host gave under the frame's name directly before, and which then holds the frame's file, whatever a
-- crash leaves of it: this denotes the document that is saved, and all else in it is zero. Each that fails stands
-- directly behind the giving back of such a disk, for a cause: the file is too large, or a call of this disk failed, or
-- it wasn't given when it was asked for the first time; and where disks follow the model, it then holds what it held as
-- it was given, whatever a crash leaves of it. Or no file can hold its document.
abbrev pub AreSaved : {D : Type 0} (disks : Disks D) → List (Event D) → Type 0
AreSaved disks es = OfEachStep (CountsSaved disks) es

-- Each file that is opened has the session and the objects of the document that was read of the disk which the host
-- found under its name.
abbrev pub AreOpened : {D : Type 0} (disks : Disks D) → List (Event D) → Type 0
AreOpened disks es = OfEachStep (OpensRead disks) es
