-- The course of a command: where it began, what the container was given of it, which file it opened, which servers it
-- is to start.
use Rattle.std.specs.Prelude.{◌==◌, ◌&&◌, ◌++◌, ℕ, Bool, true, false, List, [], ◌∷◌, Option, Some, None, Result, Ok}
use Rattle.std.specs.Prelude.{Err, if◌then◌else◌}
use Rattle.container_model.specs.Commands.{on_command}
use Rattle.container_model.specs.Opens.{Given as Holds, opened}
use Rattle.container_model.specs.Record.{Record, Took}
use Rattle.container_model.specs.declared.answer.Action.{Action}
use Rattle.container_model.specs.declared.answer.Action.TheVariants.{Send, Start, End, Commit}
use Rattle.container_model.specs.declared.command.Command.{Command}
use Rattle.container_model.specs.declared.command.Command.TheVariants as command
use Rattle.container_model.specs.declared.fault.ContainerFault.{ContainerFault}
use Rattle.script_model.specs.declared.answer.Told.{Told}
use Rattle.script_model.specs.declared.step.Step.{Step}
use Rattle.script_model.specs.declared.step.Step.TheVariants as step
use Rattle.script_model.specs.Answers.{told_by, told_opened}
use Rattle.script_model.specs.Containers.{record_of}
use Rattle.script_model.specs.Events.{Event, Started, Connected, Sent, Heard, Ended, Opened, Found, Shut, Stepped}
use Rattle.script_model.specs.Events.{running}

-- ---- files

-- What a command did to open a file: nothing; it looked for the disk of this name, and got it or none; it gave back the
-- disk that it had found under this name, which then was this one; it gave what the file holds to the container, under
-- this name, as a frame so many columns wide and so many lines high, of which this is told.
pub data Opening (D : Type 0) : Type 0 where
  Unasked : Opening D
  Looked : List ℕ → Option D → Opening D
  Read : List ℕ → (found disk : D) → Opening D
  Made : List ℕ → (w h : ℕ) → Told → Opening D

-- ---- servers

-- the servers that actions ask to start
abbrev pub with_start : Action → List ℕ → List ℕ
with_start (Start inc) incs = inc ∷ incs
with_start (Send m) incs = incs
with_start (End inc) incs = incs
with_start (Commit f) incs = incs

abbrev pub starts_in : List Action → List ℕ
starts_in [] = []
starts_in (action ∷ actions) = with_start action (starts_in actions)

abbrev pub starts_of : Result Took ContainerFault → List ℕ
starts_of (Ok took) = starts_in took.answer.actions
starts_of (Err fault) = []

-- those of them that don't run
abbrev pub not_running : {D : Type 0} → List (Event D) → List ℕ → List ℕ
not_running es [] = []
not_running es (inc ∷ incs) = if running inc es == 0 then inc ∷ not_running es incs else not_running es incs

abbrev pub without : ℕ → List ℕ → List ℕ
without inc [] = []
without inc (s ∷ incs) = if inc == s then without inc incs else s ∷ without inc incs

-- ---- commands

-- Where the command began that began last: its place, and the history before it. The beginnings of commands and each
-- command that the container was given, the newest first. And since that beginning: what is told of the last command
-- that the container was given, what was done to open a file, and the servers that its answers asked to start, that
-- didn't run, and that weren't tried to be started since.
pub record Course (D : Type 0) : Type 0 where
  pub asked : List Step
  pub begun : Option (ℕ × List (Event D))
  pub commanded : Option Told
  pub opening : Opening D
  pub unstarted : List ℕ

abbrev pub no_course : {D : Type 0} → Course D
no_course = record { asked = []; begun = None; commanded = None; opening = Unasked; unstarted = [] }

-- whether a command is a start that meets no session: then that is told of which the Session was told that was to raise
-- one
abbrev pub is_start : Command → Bool
is_start command.Start = true
is_start c = false

abbrev pub is_unraised : Record → Command → Bool
is_unraised r c = is_start c && (r.session == 0)

abbrev pub told_of : Record → Command → Option Told → Option Told
told_of r c before = if is_unraised r c then before else Some (told_by (on_command r c))

abbrev pub behind_course : {D : Type 0} → Step → List (Event D) → Course D → Course D
behind_course (step.Begins n) es k =
    record {
      asked = step.Begins n ∷ k.asked;
      begun = Some (n, es);
      commanded = None;
      opening = Unasked;
      unstarted = [];
    }
behind_course (step.Command c) es k = record k {
  asked = step.Command c ∷ k.asked;
  commanded = told_of (record_of es) c k.commanded;
  unstarted = not_running es (starts_of (on_command (record_of es) c)) ++ k.unstarted;
}
behind_course (step.Message inc m) es k = k
behind_course (step.Reap inc) es k = k
behind_course (step.Committed f) es k = k
behind_course (step.Failed f) es k = k
behind_course (step.Resolved f is_kept) es k = k
behind_course (step.Open name w h session objects) es k =
    record k {
      opening =
          Made name w h
          (told_opened (opened (record_of es) name w h
          (Holds.Holding (record { session = session; objects = objects }))));
    }
behind_course step.NoMemory es k = k

-- The disk that was found by the call before is given back. Other disks are given back by saves.
abbrev pub behind_shut : {D : Type 0} → D → List (Event D) → Course D → Course D
behind_shut disk [] k = k
behind_shut disk (Found name (Some found) ∷ es) k = record k { opening = Read name found disk }
behind_shut disk (Found name None ∷ es) k = k
behind_shut disk (Stepped step ∷ es) k = k
behind_shut disk (Started session inc ok ∷ es) k = k
behind_shut disk (Connected inc ok ∷ es) k = k
behind_shut disk (Sent inc bytes ok ∷ es) k = k
behind_shut disk (Heard inc bytes ok ∷ es) k = k
behind_shut disk (Ended inc ∷ es) k = k
behind_shut disk (Opened name given ∷ es) k = k
behind_shut disk (Shut name other ∷ es) k = k

abbrev pub course : {D : Type 0} → List (Event D) → Course D
course [] = no_course
course (Stepped step ∷ es) = behind_course step es (course es)
course (Started session inc ok ∷ es) = record (course es) { unstarted = without inc (course es).unstarted }
course (Found name found ∷ es) = record (course es) { opening = Looked name found }
course (Shut name disk ∷ es) = behind_shut disk es (course es)
course (Connected inc ok ∷ es) = course es
course (Sent inc bytes ok ∷ es) = course es
course (Heard inc bytes ok ∷ es) = course es
course (Ended inc ∷ es) = course es
course (Opened name disk ∷ es) = course es

-- a course but for the servers that are to be started, or for the file that is opened
abbrev pub but_starts : {D : Type 0} → Course D → Course D
but_starts k = record k { unstarted = [] }

abbrev pub but_opening : {D : Type 0} → Course D → Course D
but_opening k = record k { opening = Unasked }
