-- Worked runs: files that are opened.
use Rattle.std.specs.Prelude.{◌≡◌, ◌++◌, ℕ, List, [], ◌∷◌, map, Some, Result, Ok, Err, codes}
use Rattle.std.specs.List.{range_with_len}
use Rattle.object_core.specs.Kinds.{Note, class_of, class_with}
use Rattle.tree_streams.specs.declared.stored.Stored.{Stored}
use Rattle.ole_model.specs.Documents.{no_objects}
use Rattle.ole_model.specs.declared.object.DocObject.{DocObject}
use Rattle.container_model.specs.Opens.{Given}
use Rattle.container_model.specs.declared.record.Frame.{Frame}
use Rattle.container_model.specs.declared.command.Command.TheVariants.{Run, Session}
use Rattle.container_model.specs.declared.fault.ContainerFault.TheVariants.{BadFile, Busy, Full, NoSuch, NumbersSpent}
use Rattle.container_model.specs.declared.fault.ContainerFault.TheVariants.{UnknownClass, WrongState}
use Rattle.world_model.specs.declared.event.Event.{Event}
use Rattle.world_model.specs.declared.event.Event.TheVariants.{Command, Deliver, Done, Open}
use Rattle.world_model.specs.declared.event.Stop.{Stop}
use Rattle.world_model.specs.declared.logs.EventAnswer.{EventAnswer}
use Rattle.world_model.specs.declared.logs.EventAnswer.TheVariants.{Took, Refused}
use Rattle.world_model.specs.World.{World, giving, quiet_outcome, step}
use Rattle.world_model.specs.Runs.{answered, edited, frame, frame_named, from_two, lines, new_note, numbered, object}
use Rattle.world_model.specs.Runs.{ok, ran, reported, sent, stream, whole}

-- a file of this name is opened, and gives this
abbrev pub opens : List ℕ → ℕ → ℕ → Given → Result World Stop → Result World Stop
opens name width height given (Err stop) = Err stop
opens name width height given (Ok w) = step w (giving given) (Open name width height)

abbrev pub stored_object : List ℕ → List ℕ → Stored → DocObject
stored_object class user_type stored = record { class = class; user_type = user_type; area = whole; stored = stored }

abbrev pub stored_note : DocObject
stored_note = stored_object (class_of Note) (codes "Note")
    (record { streams = stream (codes "Text") (codes "ab") ∷ []; picture = [] })

-- one of a class that no server has
abbrev pub stranger : DocObject
stranger = stored_object (class_with 9) (codes "Clock") (record { streams = []; picture = [] })

abbrev pub both : Given
both = Given.Holding (record { session = 7; objects = stored_note ∷ stranger ∷ [] })

abbrev pub nothing_held : Given
nothing_held = Given.Holding (no_objects 0)

-- Beside a note that runs, a file of session 7 with a note and an object of another class is opened as frame 2, which
-- holds the session: its objects are passive, with the next numbers. The note runs with what the file holds of it; the
-- other one doesn't. Objects that are made afterwards have the numbers behind.
abbrev pub opened_beside : Result World Stop
opened_beside = opens (codes "b") 40 10 both (from_two edited)

abbrev pub run_then : List Event
run_then = Command (Run 3 1) ∷ Command (Run 2 1) ∷ Deliver 5 ∷ Deliver 6 ∷ new_note ∷ []

-- the sessions that the frames hold
abbrev pub sessions : Result World Stop → List ℕ
sessions (Err stop) = []
sessions (Ok w) = map (λ (f : Frame). f.session) w.rec.frames

abbrev pub opened_answer : EventAnswer
opened_answer = Took (record quiet_outcome { frame = Some 2; objects = 2 ∷ 3 ∷ [] })

pub record WorkedOpenBeside : Type 0 where
  pub answers : answered opened_beside ≡ answered (from_two edited) ++ opened_answer ∷ []
  pub session : sessions opened_beside ≡ 1 ∷ 7 ∷ []
  pub told : reported opened_beside ≡ lines (
      codes "session 1"
      ∷ codes "frame 1 a Free k 1 stored"
      ∷ codes "frame 2 b Free k 0 stored"
      ∷ codes "object 1 frame 1 Note Running Normal act 1 s 1 -"
      ∷ codes "object 2 frame 2 Note Passive Text=6162"
      ∷ codes "object 3 frame 2 6f1d2a09-3c4b-4e5f-8a9b-0c1d2e3f4051 Passive -"
      ∷ [])
  pub run : answered (ran opened_beside run_then) ≡ answered opened_beside ++ Refused UnknownClass ∷ sent 5 ∷ sent 6
      ∷ ok ∷ object 4 ∷ []
  pub run_told : reported (ran opened_beside run_then) ≡ lines (
      codes "session 1"
      ∷ codes "frame 1 a Free k 1 stored"
      ∷ codes "frame 2 b Free k 0 stored"
      ∷ codes "object 1 frame 1 Note Running Normal act 1 s 1 -"
      ∷ codes "object 2 frame 2 Note Running Normal act 2 s 1 Text=6162"
      ∷ codes "object 3 frame 2 6f1d2a09-3c4b-4e5f-8a9b-0c1d2e3f4051 Passive -"
      ∷ codes "object 4 frame 1 Note Passive -"
      ∷ [])

-- What isn't opened: a name that a frame bears and a size that no frame has, before the file is looked at; no file, and
-- one without a document; a ninth frame; and where the numbers don't suffice, of frames or of objects. Each is an
-- answer.
abbrev pub refused_with : List EventAnswer → EventAnswer → Type 0
refused_with answers told = answers ≡ answered (from_two edited) ++ told ∷ []

abbrev pub opened_as : List ℕ → ℕ → Given → List EventAnswer
opened_as name width given = answered (opens name width 10 given (from_two edited))

pub record WorkedRefusedOpens : Type 0 where
  pub borne : refused_with (opened_as (codes "a") 0 Given.Missing) (Refused Busy)
  pub no_size : refused_with (opened_as (codes "b") 0 Given.Missing) (Refused WrongState)
  pub missing : refused_with (opened_as (codes "b") 40 Given.Missing) (Refused NoSuch)
  pub broken : refused_with (opened_as (codes "b") 40 Given.Broken) (Refused BadFile)
  pub too_many : refused_with
      (opened_as (codes "b") 40
      (Given.Holding (record { session = 0; objects = map (λ (i : ℕ). stranger) (range_with_len 1 65) })))
      (Refused BadFile)
  pub frames : answered (opens (codes "i") 40 10 nothing_held
      (ran (from_two []) (map frame_named (range_with_len 97 8)))) ≡ map frame (range_with_len 1 8) ++ Refused Full
      ∷ []
  pub two_frames : answered (opens (codes "b") 40 10 nothing_held (numbered 1 (frame_named 97 ∷ [])))
      ≡ frame 1 ∷ Refused NumbersSpent ∷ []
  pub three_objects : answered (opens (codes "b") 40 10 both (numbered 2 (frame_named 97 ∷ new_note ∷ [])))
      ≡ frame 1 ∷ object 1 ∷ Refused NumbersSpent ∷ []

-- A container whose first frame is that file gets the next session, unless no number is left.
abbrev pub opened_first : ℕ → Result World Stop
opened_first numbers = opens (codes "b") 40 10 both (numbered numbers [])

abbrev pub raised : Result World Stop
raised = ran (opened_first 8) (Command Session ∷ Done 1 ∷ [])

pub record WorkedFirstOpen : Type 0 where
  pub session : sessions raised ≡ 8 ∷ []
  pub told : reported raised ≡ lines (
      codes "session 8"
      ∷ codes "frame 1 b Free k 1 stored"
      ∷ codes "object 1 frame 1 Note Passive Text=6162"
      ∷ codes "object 2 frame 1 6f1d2a09-3c4b-4e5f-8a9b-0c1d2e3f4051 Passive -"
      ∷ codes "done container 1 1"
      ∷ codes "done container 2 1"
      ∷ [])
  pub spent : answered (ran (opened_first 7) (Command Session ∷ [])) ≡ answered (opened_first 7)
      ++ Refused NumbersSpent ∷ []

pub record WorkedOpens : Type 0 where
  pub open_beside : WorkedOpenBeside
  pub refused_opens : WorkedRefusedOpens
  pub first_open : WorkedFirstOpen
