-- What a history shows of the error that ended its script.
use Rattle.std.specs.Prelude.{◌≡◌, ◌≤◌, ◌⊎◌, ◌==◌, ◌&&◌, ◌||◌, ℕ, Bool, true, false, List, [], ◌∷◌, if◌then◌else◌}
use Rattle.std.specs.Prelude.{Option, Some, None, Ok, is_some}
use Rattle.store_model.specs.Image.{Image}
use Rattle.store_model.specs.Journal.{restored}
use Rattle.store_model.specs.declared.disk.Disk.{Ghosts as Disks}
use Rattle.store_model.specs.declared.fault.StoreFault.{StoreFault}
use Rattle.store_model.specs.declared.fault.StoreFault.TheVariants.{Device, NeedsReopen, TooBig, Damaged, NoMemory}
use Rattle.message_values.specs.Found.{nth}
use Rattle.container_model.specs.declared.answer.FrameDocument.{FrameDocument}
use Rattle.container_model.specs.declared.record.Frame.{Frame}
use Rattle.container_model.specs.declared.record.Link.{Link}
use Rattle.container_model.specs.declared.record.Object.{Object}
use Rattle.container_model.specs.Saves.{image}
use Rattle.script_model.specs.declared.command.ScriptCommand.{ScriptCommand}
use Rattle.script_model.specs.declared.command.ScriptCommand.TheVariants as script
use Rattle.script_model.specs.Bounds.{MOST_TURNS, pace}
use Rattle.script_model.specs.Containers.{record_of}
use Rattle.script_model.specs.Events.{Event, Started, Connected, Sent, Heard, Ended, Opened, Found, Shut, Stepped}
use Rattle.script_model.specs.Events.{running}
use Rattle.script_model.specs.Orders.{behind_commands, orders}
use Rattle.script_model.specs.Saved.{HasFailed, file_name, is_any_unsaved}

-- A history without the ends of servers that are its last calls: however a script ends, the servers that still run are
-- ended then.
abbrev pub before_ends : {D : Type 0} → List (Event D) → List (Event D)
before_ends [] = []
before_ends (Ended inc ∷ es) = before_ends es
before_ends (Started session inc ok ∷ es) = Started session inc ok ∷ es
before_ends (Connected inc ok ∷ es) = Connected inc ok ∷ es
before_ends (Sent inc bytes ok ∷ es) = Sent inc bytes ok ∷ es
before_ends (Heard inc bytes ok ∷ es) = Heard inc bytes ok ∷ es
before_ends (Opened name disk ∷ es) = Opened name disk ∷ es
before_ends (Found name disk ∷ es) = Found name disk ∷ es
before_ends (Shut name disk ∷ es) = Shut name disk ∷ es
before_ends (Stepped step ∷ es) = Stepped step ∷ es

-- ---- servers

-- The last call was to start a server, and it wasn't done.
abbrev pub IsUnstarted : {D : Type 0} → ℕ → List (Event D) → Type 0
IsUnstarted {D = D} inc es = (session : ℕ) × (before : List (Event D)) × (es ≡ Started session inc false ∷ before)

-- whether an activation has a call of a server that isn't answered
abbrev pub asks : ℕ → Option Link → Bool
asks s None = false
asks s (Some l) = is_some l.pending && (l.inc == s)

abbrev pub is_asked : ℕ → List Object → Bool
is_asked s [] = false
is_asked s (o ∷ os) = asks s o.link || is_asked s os

-- A server that runs was sent all turns that a command may send it, since the command began that began last, and a call
-- of it isn't answered.
pub record IsUnanswered {D : Type 0} (es : List (Event D)) : Type 0 where
  pub server : ℕ
  pub runs : 1 ≤ running server es
  pub turned : MOST_TURNS ≤ (pace server es).turns
  pub asked : is_asked server (record_of es).objects ≡ true

-- The file of a frame is to be committed, or in doubt.
abbrev pub HasUnsaved : {D : Type 0} → List (Event D) → Type 0
HasUnsaved es = is_any_unsaved (record_of es).frames ≡ true

-- What a command leads to isn't done.
abbrev pub IsUnsettled : {D : Type 0} → List (Event D) → Type 0
IsUnsettled es = IsUnanswered es ⊎ HasUnsaved es

-- whether what comes from a server is held behind a command
abbrev pub behind_hold : ScriptCommand → ℕ → Bool → Bool
behind_hold (script.Hold inc) s held = if inc == s then true else held
behind_hold (script.Release inc) s held = if inc == s then false else held
behind_hold (script.Container c) s held = held
behind_hold (script.Open name w h) s held = held
behind_hold (script.Cut inc) s held = held
behind_hold (script.Screen f) s held = held

-- whether a server is held, and not released again, by these commands
abbrev pub is_held : ℕ → List ScriptCommand → Bool → Bool
is_held s [] held = held
is_held s (c ∷ cs) held = is_held s cs (behind_hold c s held)

-- All these commands began, one after another, and a server runs that they hold and don't release again.
pub record IsLeftHeld {D : Type 0} (es : List (Event D)) (commands : List ScriptCommand) : Type 0 where
  pub ordered : orders es ≡ behind_commands 0 commands []
  pub server : ℕ
  pub runs : 1 ≤ running server es
  pub held : is_held server commands false ≡ true

-- ---- files

-- A crash might have left of a disk an image that stands for no document: the journal is damaged.
abbrev pub MayBeDamaged : {D : Type 0} (disks : Disks D) → D → Type 0
MayBeDamaged disks disk = (c : Image) × disks.may_leave disk c × (restored c ≡ None)

-- Why the document of a disk that was given can't be told, with each fault: a call of the disk failed since then, or
-- the disk is damaged, which is said where it follows the model.
abbrev pub IsUntoldFor : {D : Type 0} (disks : Disks D) → (given disk : D) → StoreFault → Type 0
IsUntoldFor disks given disk Device = HasFailed disks given disk
IsUntoldFor disks given disk NeedsReopen = ⊥
IsUntoldFor disks given disk TooBig = ⊥
IsUntoldFor disks given disk Damaged = disks.follows_model → MayBeDamaged disks given
IsUntoldFor disks given disk NoMemory = ⊥

-- The last call gave a disk back under this name, the call before it had given this disk under the same name, and its
-- document can't be told, for this fault.
pub record IsShutUntold {D : Type 0} (disks : Disks D) (es : List (Event D)) (name : List ℕ) (why : StoreFault) :
    Type 0 where
  pub given : D
  pub disk : D
  pub before : List (Event D)
  pub last : es ≡ Shut name disk ∷ Opened name (Some given) ∷ before
  pub cause : IsUntoldFor disks given disk why

-- The disk of this name wasn't given, though it was asked for twice, in the last two calls; or it was given and given
-- back in the last two, and its document can't be told. The container isn't told of it.
abbrev pub IsUnopened : {D : Type 0} (disks : Disks D) → List ℕ → StoreFault → List (Event D) → Type 0
IsUnopened {D = D} disks name why es =
    ((before : List (Event D)) × (es ≡ Opened name None ∷ Opened name None ∷ before))
    ⊎ IsShutUntold disks es name why

-- The commit of a frame's file is asked for, the disk of the file's name wasn't opened, and the container isn't told
-- what became of the commit.
pub record IsUnknown {D : Type 0} (disks : Disks D) (es : List (Event D)) (name : List ℕ) (why : StoreFault) : Type
    0 where
  pub f : ℕ
  pub frame : Frame
  pub found : nth (record_of es).frames f ≡ Some frame
  pub named : name ≡ file_name frame
  pub saved : FrameDocument
  pub counted : image (record_of es) f ≡ Ok saved
  pub last : IsUnopened disks name why es
