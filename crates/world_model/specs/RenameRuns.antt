-- Worked runs: a note that is saved under another name.
use Rattle.std.specs.Prelude.{◌≡◌, ◌++◌, ℕ, false, List, [], ◌∷◌, Some, Result, Ok, Err, codes}
use Rattle.container_model.specs.Opens.{Given}
use Rattle.container_model.specs.declared.command.Command.TheVariants.{Save, SaveAs}
use Rattle.container_model.specs.declared.fault.ContainerFault.TheVariants.{Busy, InDoubt, NoSuch, WrongState}
use Rattle.world_model.specs.declared.event.Event.{Event}
use Rattle.world_model.specs.declared.event.Event.TheVariants.{Command, Deliver, Crash, Reap, Done, Fail, Resolve}
use Rattle.world_model.specs.declared.event.Stop.TheVariants.{NotEnabled}
use Rattle.world_model.specs.declared.logs.EventAnswer.{EventAnswer}
use Rattle.world_model.specs.declared.logs.EventAnswer.TheVariants.{Took, Refused}
use Rattle.world_model.specs.World.{quiet_outcome}
use Rattle.world_model.specs.Runs.{answered, begun_answers, commit, completed, crashed_late, frame, frame_named}
use Rattle.world_model.specs.Runs.{from_start, lines, object, ok, ran, server, reported, sent}
use Rattle.world_model.specs.OpenRuns.{opens, stored_note}

abbrev pub renaming : Event
renaming = Command (SaveAs 1 (codes "b"))

-- the note is saved again, and gives its storage away
abbrev pub asked_away : List Event
asked_away = completed ++ renaming ∷ Deliver 9 ∷ Deliver 10 ∷ []

-- then the commit is asked for
abbrev pub handed_off : List Event
handed_off = asked_away ++ Deliver 11 ∷ Deliver 12 ∷ []

-- then the frame has the name, and the note a storage again
abbrev pub renamed : List Event
renamed = handed_off ++ Done 1 ∷ Deliver 13 ∷ Deliver 14 ∷ []

abbrev pub opened_again : EventAnswer
opened_again = Took (record quiet_outcome { frame = Some 2; objects = 2 ∷ [] })

abbrev pub renamed_answers : List EventAnswer
renamed_answers = begun_answers ++ object 1 ∷ server 1 ∷ sent 1 ∷ sent 2 ∷ ok ∷ sent 3 ∷ sent 4 ∷ ok ∷ sent 5
    ∷ sent 6 ∷ commit 1 ∷ sent 7 ∷ sent 8 ∷ ok ∷ sent 9 ∷ sent 10 ∷ sent 11 ∷ sent 12 ∷ commit 1 ∷ sent 13 ∷ sent 14
    ∷ ok ∷ []

pub record WorkedRename : Type 0 where
  pub answers : answered (from_start renamed) ≡ renamed_answers
  pub told : reported (from_start renamed) ≡ lines (
      codes "session 1"
      ∷ codes "frame 1 b Free k 3 stored"
      ∷ codes "object 1 frame 1 Note Running Normal act 1 s 3 Text=6162"
      ∷ codes "done container 1 2"
      ∷ codes "done container 1 3"
      ∷ codes "done server 1 2"
      ∷ codes "done server 1 3"
      ∷ [])
  pub away : reported (from_start handed_off) ≡ lines (
      codes "session 1"
      ∷ codes "frame 1 a Free k 3 stored"
      ∷ codes "object 1 frame 1 Note Running HandsOff act 1 s 2 Text=6162"
      ∷ codes "done container 1 2"
      ∷ codes "done server 1 2"
      ∷ [])

-- The name is borne then, and the old one free: its file is opened.
abbrev pub opened_as : List ℕ → Given → List EventAnswer
opened_as name given = answered (opens name 40 10 given (from_start renamed))

pub record WorkedReopen : Type 0 where
  pub borne : opened_as (codes "b") Given.Missing ≡ renamed_answers ++ Refused Busy ∷ []
  pub old : opened_as (codes "a") (Given.Holding (record { session = 0; objects = stored_note ∷ [] }))
      ≡ renamed_answers ++ opened_again ∷ []
  pub missing : opened_as (codes "c") Given.Missing ≡ renamed_answers ++ Refused NoSuch ∷ []
  pub undelivered : ran (from_start renamed) (Deliver 99 ∷ []) ≡ Err NotEnabled

-- A server that ends while storages are given away: what its note answered is saved, under the other name. So is a
-- frame whose objects are all passive, at once.
abbrev pub crashed_away : List Event
crashed_away = asked_away ++ Crash 1 1 ∷ Reap 1 ∷ Done 1 ∷ []

abbrev pub renamed_passive : List Event
renamed_passive = crashed_late ++ renaming ∷ Done 1 ∷ []

pub record WorkedPassiveRename : Type 0 where
  pub answers : answered (from_start crashed_away) ≡ answered (from_start asked_away) ++ ok ∷ commit 1 ∷ ok ∷ []
  pub told : reported (from_start crashed_away) ≡ lines (
      codes "session 1"
      ∷ codes "frame 1 b Free k 3 stored"
      ∷ codes "object 1 frame 1 Note Passive Text=6162"
      ∷ codes "done container 1 2"
      ∷ codes "done container 1 3"
      ∷ codes "done server 1 2"
      ∷ [])
  pub passive_answers : answered (from_start renamed_passive) ≡ answered (from_start crashed_late) ++ commit 1 ∷ ok ∷ []
  pub passive_told : reported (from_start renamed_passive) ≡ lines (
      codes "session 1"
      ∷ codes "frame 1 b Free k 3 stored"
      ∷ codes "object 1 frame 1 Note Passive Text=6162"
      ∷ codes "done container 1 2"
      ∷ codes "done container 1 3"
      ∷ [])

-- A commit under another name that fails and is lost: the frame keeps its name, and the note gets a storage.
abbrev pub unrenamed : List Event
unrenamed = handed_off ++ Fail 1 ∷ renaming ∷ Resolve 1 false ∷ Deliver 13 ∷ Deliver 14 ∷ []

pub record WorkedLostRename : Type 0 where
  pub answers : answered (from_start unrenamed) ≡ answered (from_start handed_off) ++ ok ∷ Refused InDoubt ∷ sent 13
      ∷ sent 14 ∷ ok ∷ []
  pub told : reported (from_start unrenamed) ≡ lines (
      codes "session 1"
      ∷ codes "frame 1 a Free k 3 stored"
      ∷ codes "object 1 frame 1 Note Running Normal act 1 s 3 Text=6162"
      ∷ codes "done container 1 2"
      ∷ codes "done server 1 2"
      ∷ [])

-- Names: another frame's, and one that another frame asked for, are busy; its own isn't another. While the frame is
-- saved under a name, neither is free.
abbrev pub named : List Event
named = completed ++ frame_named 99 ∷ Command (SaveAs 1 (codes "c")) ∷ Command (SaveAs 1 (codes "a"))
    ∷ Command (SaveAs 9 (codes "b")) ∷ []

abbrev pub named_away : List Event
named_away = asked_away ++ frame_named 98 ∷ frame_named 97 ∷ frame_named 99 ∷ Command (SaveAs 2 (codes "b"))
    ∷ Command (SaveAs 2 (codes "a")) ∷ renaming ∷ Command (Save 1) ∷ []

pub record WorkedNames : Type 0 where
  pub busy : answered (from_start named) ≡ answered (from_start completed) ++ frame 2 ∷ Refused Busy
      ∷ Refused WrongState ∷ Refused NoSuch ∷ []
  pub asked : answered (from_start named_away) ≡ answered (from_start asked_away) ++ Refused Busy ∷ Refused Busy
      ∷ frame 2 ∷ Refused Busy ∷ Refused Busy ∷ Refused Busy ∷ Refused Busy ∷ []

pub record WorkedRenames : Type 0 where
  pub rename : WorkedRename
  pub reopen : WorkedReopen
  pub passive_rename : WorkedPassiveRename
  pub lost_rename : WorkedLostRename
  pub names : WorkedNames
