-- What is printed of a command.
use Rattle.std.specs.Prelude.{◌+◌, ◌++◌, ℕ, zero, suc, List, [], ◌∷◌, length, Option, Some, None, Result, Ok, Err}
use Rattle.std.specs.Prelude.{codes}
use Rattle.std.specs.Fmt.{decimal}
use Rattle.container_model.specs.FaultNames.{fault_name}
use Rattle.container_model.specs.Record.{Took}
use Rattle.container_model.specs.declared.answer.Answer.{Answer}
use Rattle.container_model.specs.declared.fault.ContainerFault.{ContainerFault}
use Rattle.store_model.specs.Fault.{name_of}
use Rattle.message_values.specs.Refusals.{code_of}
use Rattle.script_model.specs.declared.answer.Told.{Told}
use Rattle.script_model.specs.declared.answer.Told.TheVariants as told

-- so many objects, from this number on
abbrev pub objects_from : ℕ → ℕ → List ℕ
objects_from first zero = []
objects_from first (suc n) = objects_from first n ++ codes " object " ++ decimal (first + n)

abbrev pub told_text : Told → List ℕ
told_text (told.Frame f) = codes "frame " ++ decimal f
told_text (told.Object o) = codes "object " ++ decimal o
told_text (told.Server inc) = codes "server " ++ decimal inc
told_text (told.Refused refusal) = codes "refused " ++ decimal (code_of refusal)
told_text told.Done = codes "ok"
told_text (told.Fault fault) = fault_name fault
told_text (told.Lost fault) = name_of fault
told_text (told.Opened f first count) = codes "frame " ++ decimal f ++ objects_from first count
told_text (told.Unread fault) = name_of fault

-- a command's line
abbrev pub told_line : Told → List ℕ
told_line t = told_text t ++ 10 ∷ []

-- the lines of what a frame shows come before its answer
abbrev pub screen_text : List ℕ → List ℕ
screen_text shown = shown ++ told_line told.Done

-- what a step made, or that it was done
abbrev pub made_server : Option ℕ → Told
made_server (Some inc) = told.Server inc
made_server None = told.Done

abbrev pub made_object : List ℕ → Option ℕ → Told
made_object (o ∷ os) server = told.Object o
made_object [] server = made_server server

abbrev pub made_frame : Option ℕ → List ℕ → Option ℕ → Told
made_frame (Some f) objects server = told.Frame f
made_frame None objects server = made_object objects server

abbrev pub made_by : Answer → Told
made_by a = made_frame a.frame a.objects a.server

-- what was made of a file: its frame, and how many objects from which number on
abbrev pub first_of : List ℕ → ℕ
first_of [] = 0
first_of (o ∷ os) = o

abbrev pub opened_as : Option ℕ → List ℕ → Told
opened_as (Some f) objects = told.Opened f (first_of objects) (length objects)
opened_as None objects = told.Done

abbrev pub opened_by : Answer → Told
opened_by a = opened_as a.frame a.objects

abbrev pub told_by : Result Took ContainerFault → Told
told_by (Ok took) = made_by took.answer
told_by (Err fault) = told.Fault fault

-- what is told of a file that was given to the container
abbrev pub told_opened : Result Took ContainerFault → Told
told_opened (Ok took) = opened_by took.answer
told_opened (Err fault) = told.Fault fault

-- the first of what is told
abbrev pub first_told : Option Told → Option Told → Option Told
first_told (Some notice) next = Some notice
first_told None next = next

-- A command that made nothing tells what was noticed first meanwhile: that an object refused a call, or that a save was
-- lost.
abbrev pub noticed_by : Option Told → Told
noticed_by (Some notice) = notice
noticed_by None = told.Done

abbrev pub further : Told → Option Told → Told
further told.Done noticed = noticed_by noticed
further (told.Frame f) noticed = told.Frame f
further (told.Object o) noticed = told.Object o
further (told.Server inc) noticed = told.Server inc
further (told.Refused refusal) noticed = told.Refused refusal
further (told.Fault fault) noticed = told.Fault fault
further (told.Lost fault) noticed = told.Lost fault
further (told.Opened f first count) noticed = told.Opened f first count
further (told.Unread fault) noticed = told.Unread fault
