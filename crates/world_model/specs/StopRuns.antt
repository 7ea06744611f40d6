-- Worked runs: a container that stops and starts again.
use Rattle.std.specs.Prelude.{◌≡◌, ◌++◌, ℕ, List, [], ◌∷◌, map, Some, Result, Ok, Err, codes}
use Rattle.object_core.specs.Kinds.{Note}
use Rattle.container_model.specs.Opens.{Given}
use Rattle.container_model.specs.declared.command.Command.TheVariants.{Run, Session, Start}
use Rattle.container_model.specs.declared.fault.ContainerFault.TheVariants.{Stale, WrongState}
use Rattle.world_model.specs.declared.event.Event.{Event}
use Rattle.world_model.specs.declared.event.Event.TheVariants.{Command, Deliver, Done, Open, Scribble}
use Rattle.world_model.specs.declared.event.Stop.{Stop}
use Rattle.world_model.specs.declared.logs.EventAnswer.{EventAnswer}
use Rattle.world_model.specs.declared.logs.EventAnswer.TheVariants.{Took, Refused}
use Rattle.world_model.specs.OpenRuns.{stored_note}
use Rattle.world_model.specs.Report.{report}
use Rattle.world_model.specs.Runs.{commit, edited, frame_named, lines, ok, saved, sent, server}
use Rattle.world_model.specs.StopNames.{stop_name}
use Rattle.world_model.specs.World.{giving, quiet_outcome}
use Rattle.world_model.specs.declared.moment.Moment.{Moment}
use Rattle.world_model.specs.declared.moment.Moment.TheVariants as moment
use Rattle.world_model.specs.Story.{Chosen, Story, empty_story, pass}

-- where each commit that is done, or that a stop has kept, makes no bytes the file, and a file that is opened gives
-- this
abbrev pub chosen : Given → Chosen
chosen given = record { here = giving given; images = λ f. [] }

abbrev pub told_by : Given → Result Story Stop → List Moment → Result Story Stop
told_by given told [] = told
told_by given (Err stop) (m ∷ ms) = Err stop
told_by given (Ok s) (m ∷ ms) = told_by given (pass s (chosen given) m) ms

abbrev pub happen : List Event → List Moment
happen es = map moment.Event es

abbrev pub from_empty : List Moment → Result Story Stop
from_empty ms = told_by Given.Missing (Ok (empty_story 1000 (Note ∷ Note ∷ []))) ms

abbrev pub answers_of : Result Story Stop → List EventAnswer
answers_of (Err stop) = []
answers_of (Ok s) = s.now.answers

abbrev pub report_of : Result Story Stop → List ℕ
report_of (Err stop) = stop_name stop
report_of (Ok s) = report s.now

-- the file of the first session's document, without objects and with the note that was saved
abbrev pub empty_file : Given
empty_file = Given.Holding (record { session = 1; objects = [] })

abbrev pub noted : Given
noted = Given.Holding (record { session = 1; objects = stored_note ∷ [] })

abbrev pub opens : Event
opens = Open (codes "a") 40 10

-- A note whose save is stopped once its commit is asked, and the disk has kept it. Its document is opened, and the next
-- session raised. What was sent in the one before is stale, its server acts on the call that it gets, and the numbers
-- begin anew.
abbrev pub stopped_kept : Result Story Stop
stopped_kept = told_by noted (from_empty (happen saved ++ moment.Stop (1 ∷ []) ∷ [])) (happen
    (opens ∷ Command Start ∷ Command Session ∷ Done 1 ∷ Command Start ∷ Deliver 6 ∷ Deliver 5 ∷ Command (Run 1 1)
    ∷ Deliver 8 ∷ Deliver 9 ∷ []))

abbrev pub kept_answers : List EventAnswer
kept_answers = ok
    ∷ Took (record quiet_outcome { frame = Some 1; objects = 1 ∷ [] })
    ∷ Refused WrongState ∷ commit 1 ∷ ok ∷ server 1 ∷ Refused Stale ∷ sent 7 ∷ sent 8 ∷ sent 9 ∷ ok ∷ []

pub record WorkedKeptStop : Type 0 where
  pub answers : answers_of stopped_kept ≡ answers_of (from_empty (happen saved)) ++ kept_answers
  pub told : report_of stopped_kept ≡ lines (
      codes "session 2"
      ∷ codes "frame 1 a Free k 1 stored"
      ∷ codes "object 1 frame 1 Note Running Normal act 1 s 1 Text=6162"
      ∷ codes "done container 1 1"
      ∷ [])

-- Where the disk hasn't kept it the document is the one before. Until it is opened no other frame is made, and none is
-- opened.
abbrev pub stopped_lost : List Moment → Result Story Stop
stopped_lost ms = told_by empty_file (from_empty (happen saved ++ moment.Stop [] ∷ [])) ms

-- the same, stopped before the save
abbrev pub stopped_early : List Event → Result Story Stop
stopped_early es = told_by empty_file (from_empty (happen edited ++ moment.Stop [] ∷ [])) (happen es)

pub record WorkedLostStop : Type 0 where
  pub told : report_of (stopped_lost (happen (opens ∷ [])))
      ≡ lines (codes "session 0" ∷ codes "frame 1 a Free k 0 stored" ∷ [])
  pub none_made : report_of (stopped_lost (happen (frame_named 98 ∷ []))) ≡ codes "NotEnabled"
  pub none_opened : report_of (stopped_lost (happen (Open (codes "b") 40 10 ∷ []))) ≡ codes "NotEnabled"
  -- a server of the run before writes still, and the container takes nothing of it
  pub goes_on : answers_of (stopped_early (opens ∷ Scribble 1 1 1 ∷ Deliver 5 ∷ []))
      ≡ answers_of (stopped_early (opens ∷ [])) ++ sent 5 ∷ Refused Stale ∷ []

-- A stop within the commit that raises the first session: kept, the next run raises one more; else there is no session
-- document.
abbrev pub raising : List Moment
raising = happen (frame_named 97 ∷ Command Session ∷ [])

pub record WorkedRaisingStop : Type 0 where
  pub kept : report_of (told_by empty_file (from_empty (raising ++ moment.Stop (1 ∷ []) ∷ []))
      (happen (opens ∷ Command Session ∷ Done 1 ∷ [])))
      ≡ lines (codes "session 2" ∷ codes "frame 1 a Free k 1 stored" ∷ [])
  pub lost : report_of
      (from_empty (raising ++ moment.Stop [] ∷ happen (frame_named 98 ∷ Command Session ∷ Done 1 ∷ [])))
      ≡ lines (codes "session 1" ∷ codes "frame 1 b Free k 1 stored" ∷ [])
  -- a frame without a commit isn't one that a disk could have kept
  pub unasked : report_of (from_empty (happen (frame_named 97 ∷ []) ++ moment.Stop (1 ∷ []) ∷ [])) ≡ codes "NotEnabled"

pub record WorkedStops : Type 0 where
  pub kept_stop : WorkedKeptStop
  pub lost_stop : WorkedLostStop
  pub raising_stop : WorkedRaisingStop
