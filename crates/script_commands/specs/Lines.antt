-- What is printed of a command that ended, with what its history makes of it.
use Rattle.std.specs.Prelude.{◌≡◌, ◌≤◌, ◌++◌, ℕ, zero, suc, List, [], ◌∷◌, Option, Some, None, Result, Ok, Err}
use Rattle.std.specs.Io.KnownBytes.{Appends}
use Rattle.store_model.specs.declared.disk.Disk.{Ghosts as Disks}
use Rattle.container_core.specs.Opening.{looked_at}
use Rattle.container_model.specs.declared.fault.ContainerFault.{ContainerFault}
use Rattle.container_model.specs.declared.fault.ContainerFault.TheVariants.{NoSuch}
use Rattle.container_core.specs.Screen.{shown}
use Rattle.script_model.specs.Answers.{further, told_line}
use Rattle.script_model.specs.Bounds.{pace}
use Rattle.script_model.specs.Containers.{record_of}
use Rattle.script_model.specs.Courses.{Course, course}
use Rattle.script_model.specs.Events.{Event, Stepped, running}
use Rattle.script_model.specs.Notices.{Tells, notices}
use Rattle.script_model.specs.declared.answer.Told.{Told}
use Rattle.script_model.specs.declared.answer.Told.TheVariants as told
use Rattle.script_model.specs.declared.command.ScriptCommand.{ScriptCommand}
use Rattle.script_model.specs.declared.command.ScriptCommand.TheVariants as script
use Rattle.script_model.specs.declared.step.Step.TheVariants as step
use Rattle.script_opens.specs.Opening.{IsOpenTold}

-- what a frame shows, or why it isn't shown
abbrev pub IsShown : Result (List ℕ) ContainerFault → List ℕ → Told → Type 0
IsShown (Ok text) lines first = (lines ≡ text) × (first ≡ told.Done)
IsShown (Err fault) lines first = (lines ≡ []) × (first ≡ told.Fault fault)

-- what a command of a link tells, where so many servers of its number run
abbrev pub told_of_server : ℕ → Told
told_of_server zero = told.Fault NoSuch
told_of_server (suc n) = told.Done

-- The link of a server was made anew so often, where so many servers of its number ran: at least once, where one did.
abbrev pub IsCut : (ran links : ℕ) → Type 0
IsCut zero links = Unit {0}
IsCut (suc n) links = 1 ≤ links

-- What is printed of a command by itself: lines, and what is told first. The history before it is given, and its
-- course, and how often each server's link was made anew meanwhile.
abbrev pub IsFirstOf : {D : Type 0} (disks : Disks D) → ScriptCommand → List (Event D) → Course D → (ℕ → ℕ) → List ℕ
    → Told → Type 0
IsFirstOf disks (script.Container c) before k links lines first = (lines ≡ []) × (k.commanded ≡ Some first)
    × (k.unstarted ≡ [])
IsFirstOf disks (script.Open name w h) before k links lines first = (lines ≡ [])
    × IsOpenTold disks (looked_at (record_of before) name w h) name w h k.opening first
IsFirstOf disks (script.Screen f) before k links lines first = IsShown (shown (record_of before) f) lines first
IsFirstOf disks (script.Cut inc) before k links lines first = (lines ≡ [])
    × (first ≡ told_of_server (running inc before)) × IsCut (running inc before) (links inc)
IsFirstOf disks (script.Hold inc) before k links lines first = (lines ≡ [])
    × (first ≡ told_of_server (running inc before))
IsFirstOf disks (script.Release inc) before k links lines first = (lines ≡ [])
    × (first ≡ told_of_server (running inc before))

-- A command began, and this is so of the history before it.
abbrev pub IfBegun : {D : Type 0} → Option (ℕ × List (Event D)) → (List (Event D) → Type 0) → Type 0
IfBegun None P = ⊥
IfBegun (Some b) P = P b.1

abbrev pub IsFirst : {D : Type 0} (disks : Disks D) → ScriptCommand → Course D → (ℕ → ℕ) → List ℕ → Told → Type 0
IsFirst disks c k links lines first = IfBegun k.begun (λ before. IsFirstOf disks c before k links lines first)

-- What is printed of a command that ended, over the history at its end: its lines, and a line with what is told first
-- of it; or, where this is that it was done, with what was noticed first since it began.
pub record IsLine {D : Type 0} (disks : Disks D) (c : ScriptCommand) (es : List (Event D)) (text : List ℕ) : Type
    0 where
  pub lines : List ℕ
  pub first : Told
  pub noticed : Option Told
  pub told : IsFirst disks c (course es) (λ s. (pace s es).links) lines first
  pub seen : Tells (notices es) noticed
  pub spelled : text ≡ lines ++ told_line (further first noticed)

-- A writer got what is printed of a command.
pub record HasLine {D : Type 0} (disks : Disks D) (c : ScriptCommand) (es : List (Event D))
    (old new : Option (List ℕ)) : Type 0 where
  pub line : List ℕ
  pub written : Appends old new line
  pub printed : IsLine disks c es line

-- ---- the beginning of a command

-- A command begins now.
pub record IsBeginning {D : Type 0} (es : List (Event D)) : Type 0 where
  pub place : ℕ
  pub before : List (Event D)
  pub last : es ≡ Stepped (step.Begins place) ∷ before

-- Behind what was written before, the lines of a command, of which this is told first.
pub record IsBegunWith {D : Type 0} (disks : Disks D) (c : ScriptCommand) (es : List (Event D)) (old new : List ℕ)
    (first : Told) : Type 0 where
  pub lines : List ℕ
  pub added : new ≡ old ++ lines
  pub told : IsFirst disks c (course es) (λ s. (pace s es).links) lines first
