-- What a history says of its script's container.
use Rattle.std.specs.Prelude.{◌≡◌, ◌≤◌, ℕ, List, ◌∷◌, Result, Ok, Err}
use Rattle.cfb_file.specs.Denotes.{Denotes}
use Rattle.write_zeros.specs.Zeroed.{IsZeroed}
use Rattle.ole_model.specs.DocOf.{DocOf}
use Rattle.container_model.specs.declared.answer.FrameDocument.{FrameDocument}
use Rattle.container_model.specs.Record.{Record}
use Rattle.container_model.specs.Saves.{document, document_tree, image}
use Rattle.container_model.specs.declared.fault.ContainerFault.{ContainerFault}
use Rattle.container_model.specs.declared.fault.ContainerFault.TheVariants.{NoMemory}
use Rattle.store_core.specs.declared.outcome.Outcome.{Outcome}
use Rattle.store_core.specs.declared.outcome.Outcome.TheVariants.{Kept, Lost}
use Rattle.store_model.specs.Store.{IsBeforeOrAfter}
use Rattle.store_model.specs.declared.disk.Disk.{Ghosts as Disks}
use Rattle.script_model.specs.declared.step.Step.TheVariants as step
use Rattle.script_model.specs.Bounds.{AreBounded}
use Rattle.script_model.specs.Containers.{AreStarted, record_of}
use Rattle.script_model.specs.Errors.{before_ends}
use Rattle.script_model.specs.Events.{Ended, Event, Stepped, running}
use Rattle.script_model.specs.Origins.{AreHeard}
use Rattle.script_model.specs.Saved.{AreOpened, AreSaved, IsDurable, IsSince}
use Rattle.script_model.specs.Turns.{AreTurns}

-- The container's record is that of the history, all that was sent were its turns, and no more was sent, made anew and
-- read than a command may. Each message that it was given came on a link of its server, each end of a server that it
-- was told stands behind this end, and no file was to be committed where a command began. No server runs twice. Each
-- commit that failed has a cause, and, where the disks follow the model, each that it counts is saved, and each file
-- that it opened was read. Each server is started in the container's session. The last call ended no server: the
-- container was told of each end.
pub record IsTold {D : Type 0} (disks : Disks D) (es : List (Event D)) (r : Record) : Type 0 where
  pub recorded : record_of es ≡ r
  pub sent : AreTurns es
  pub bounded : AreBounded es
  pub heard : AreHeard es
  pub single : (s : ℕ) → running s es ≤ 1
  pub saved : AreSaved disks es
  pub opened : disks.follows_model → AreOpened disks es
  pub started : AreStarted es
  pub reaped : before_ends es ≡ es

-- The last call ended this server, and the container isn't told of it.
abbrev pub IsEnded : {D : Type 0} (disks : Disks D) → ℕ → List (Event D) → Record → Type 0
IsEnded {D = D} disks inc es r = (before : List (Event D)) × (es ≡ Ended inc ∷ before) × IsTold disks before r

-- a history in which want of memory is noted
abbrev pub noted_of : {A D : Type 0} → Result A ContainerFault → List (Event D) → List (Event D)
noted_of (Err NoMemory) es = Stepped step.NoMemory ∷ es
noted_of told es = es

-- bytes are the image of a frame whose commit is asked for: they denote a tree that holds its document, and all else in
-- them is zero
abbrev pub IsImage : Record → ℕ → List ℕ → Type 0
IsImage r f bytes = (saved : FrameDocument) × (image r f ≡ Ok saved) × ∥ Denotes bytes (document_tree saved) ∥₁
    × DocOf (document_tree saved) (document saved) × IsZeroed bytes

-- what is said of a commit that was kept
abbrev pub IfKept : Outcome → Type 0 → Type 0
IfKept Kept fact = fact
IfKept (Lost fault) fact = Unit {0}

-- what is said of a commit that was lost
abbrev pub IfLost : Outcome → Type 0 → Type 0
IfLost Kept fact = Unit {0}
IfLost (Lost fault) fact = fact

-- These bytes took the place of a document on a disk: a crash since then leaves what stands for either, and a crash now
-- leaves what stands for these bytes.
abbrev pub IsReplacedOn : {D : Type 0} (disks : Disks D) → D → (document bytes : List ℕ) → D → Type 0
IsReplacedOn disks before document bytes disk = IsSince disks before disk (IsBeforeOrAfter document bytes)
    × IsDurable disks disk bytes

-- These bytes were to take the place of a document on a disk, and didn't: a crash since then leaves what stands for
-- either, and a crash now leaves what stands for the document.
abbrev pub IsLeftOn : {D : Type 0} (disks : Disks D) → D → (document bytes : List ℕ) → D → Type 0
IsLeftOn disks before document bytes disk = IsSince disks before disk (IsBeforeOrAfter document bytes)
    × IsDurable disks disk document
