-- Worked runs: a container gets its session; a note that is made, edited and saved, and what becomes of it where its
-- server crashes.
use Rattle.std.specs.Prelude.{◌≡◌, ◌++◌, ℕ, Bool, true, false, List, [], ◌∷◌, map, Some, None, Result, Ok, Err, codes}
use Rattle.std.specs.List.{flat_map, range_with_len}
use Rattle.object_state.specs.declared.operations.CloseOption.TheVariants.{SaveIfDirty}
use Rattle.server_model.specs.declared.fault.ServerFault.TheVariants.{Ignored}
use Rattle.object_core.specs.Kinds.{Note}
use Rattle.tree_streams.specs.declared.streams.NamedStream.{NamedStream}
use Rattle.object_state.specs.declared.grant_states.GrantState.TheVariants.{Granting}
use Rattle.tree_streams.specs.declared.area.Area.{Area}
use Rattle.container_model.specs.declared.record.Frame.{Frame}
use Rattle.container_model.specs.declared.record.Phase.TheVariants.{Idle, InDoubt}
use Rattle.container_model.specs.declared.command.Command.TheVariants.{New, Insert, Session, Start, Run, Edit, Save}
use Rattle.container_model.specs.declared.command.Command.TheVariants.{SaveAs, Delete, Kill, Close}
use Rattle.container_model.specs.declared.command.ObjectKind.TheVariants as chosen
use Rattle.container_model.specs.declared.fault.ContainerFault.TheVariants.{NoSuch, Busy, Full, InDoubt as Doubtful}
use Rattle.container_model.specs.declared.fault.ContainerFault.TheVariants.{NumbersSpent, Stale, WrongState}
use Rattle.world_model.specs.declared.event.Event.{Event}
use Rattle.world_model.specs.declared.event.Event.TheVariants.{Command, Deliver, Crash, Reap, Done, Fail, Resolve}
use Rattle.world_model.specs.declared.event.Event.TheVariants.{Scribble}
use Rattle.world_model.specs.declared.event.Stop.{Stop}
use Rattle.world_model.specs.declared.event.Stop.TheVariants.{NotEnabled, OutOfStock}
use Rattle.world_model.specs.declared.logs.EventAnswer.{EventAnswer}
use Rattle.message_values.specs.declared.refusal.Refusal.TheVariants.{BadEdit}
use Rattle.world_model.specs.declared.logs.EventAnswer.TheVariants.{Took, Refused, Dropped}
use Rattle.world_model.specs.StopNames.{stop_name}
use Rattle.world_model.specs.World.{World, empty_world, frame_file_in, quiet_outcome, step, no_choice}
use Rattle.world_model.specs.Report.{report, frame_line, content_text}

-- the world after these events, where each commit that is done makes no bytes the file
abbrev pub ran : Result World Stop → List Event → Result World Stop
ran told [] = told
ran (Err stop) (e ∷ es) = Err stop
ran (Ok w) (e ∷ es) = ran (step w no_choice e) es

abbrev pub reported : Result World Stop → List ℕ
reported (Err stop) = stop_name stop
reported (Ok w) = report w

abbrev pub answered : Result World Stop → List EventAnswer
answered (Err stop) = []
answered (Ok w) = w.answers

-- lines of text, each with its end
abbrev pub ended : List ℕ → List ℕ
ended text = text ++ 10 ∷ []

abbrev pub lines : List (List ℕ) → List ℕ
lines texts = flat_map ended texts

-- what an event led to
abbrev pub ok : EventAnswer
ok = Took quiet_outcome

abbrev pub frame : ℕ → EventAnswer
frame f = Took (record quiet_outcome { frame = Some f })

abbrev pub object : ℕ → EventAnswer
object o = Took (record quiet_outcome { objects = o ∷ [] })

abbrev pub server : ℕ → EventAnswer
server inc = Took (record quiet_outcome { server = Some inc })

abbrev pub sent : ℕ → EventAnswer
sent p = Took (record quiet_outcome { sent = p ∷ [] })

abbrev pub commit : ℕ → EventAnswer
commit f = Took (record quiet_outcome { commits = f ∷ [] })

-- a frame of 40 by 10 cells with a note of 20 by 5
abbrev pub whole : Area
whole = record { x = 0; y = 0; w = 20; h = 5 }

abbrev pub new_frame : Event
new_frame = Command (New (codes "a") 40 10)

abbrev pub new_note : Event
new_note = Command (Insert 1 chosen.Note whole)

abbrev pub typing : Event
typing = Command (Edit 1 (codes "i 0 ab"))

-- a frame is made, whose document gets the first session
abbrev pub begun : List Event
begun = new_frame ∷ Command Session ∷ Done 1 ∷ []

abbrev pub begun_answers : List EventAnswer
begun_answers = frame 1 ∷ commit 1 ∷ ok ∷ []

-- the note is made, started and edited
abbrev pub edited : List Event
edited = begun ++ new_note ∷ Command Start ∷ Command (Run 1 1) ∷ Deliver 1 ∷ Deliver 2 ∷ typing ∷ Deliver 3
    ∷ Deliver 4 ∷ []

-- then saved, up to its commit
abbrev pub saved : List Event
saved = edited ++ Command (Save 1) ∷ Deliver 5 ∷ Deliver 6 ∷ []

-- then committed, and told so
abbrev pub completed : List Event
completed = saved ++ Done 1 ∷ Deliver 7 ∷ Deliver 8 ∷ []

abbrev pub from_start : List Event → Result World Stop
from_start es = ran (Ok (empty_world 1000 (Note ∷ []))) es

-- What each event of the whole run is answered, and what is reported then.
pub record WorkedSave : Type 0 where
  pub answers : answered (from_start completed) ≡ begun_answers ++ object 1 ∷ server 1 ∷ sent 1 ∷ sent 2 ∷ ok
      ∷ sent 3 ∷ sent 4 ∷ ok ∷ sent 5 ∷ sent 6 ∷ commit 1 ∷ sent 7 ∷ sent 8 ∷ ok ∷ []
  pub told : reported (from_start completed) ≡ lines (
      codes "session 1"
      ∷ codes "frame 1 a Free k 2 stored"
      ∷ codes "object 1 frame 1 Note Running Normal act 1 s 2 Text=6162"
      ∷ codes "done container 1 2"
      ∷ codes "done server 1 2"
      ∷ [])

-- A server that crashes before the save: the note is as it was when it was made, and another server may start.
abbrev pub crashed_early : List Event
crashed_early = edited ++ Crash 1 1 ∷ Reap 1 ∷ Command Start ∷ []

pub record WorkedEarlyCrash : Type 0 where
  pub answers : answered (from_start crashed_early) ≡ answered (from_start edited) ++ ok ∷ ok ∷ server 2 ∷ []
  pub told : reported (from_start crashed_early) ≡ lines (
      codes "session 1"
      ∷ codes "frame 1 a Free k 1 stored"
      ∷ codes "object 1 frame 1 Note Passive -"
      ∷ [])

-- A server that crashes when the commit is asked: what it answered is saved.
abbrev pub crashed_late : List Event
crashed_late = saved ++ Crash 1 1 ∷ Reap 1 ∷ Done 1 ∷ []

pub record WorkedLateCrash : Type 0 where
  pub answers : answered (from_start crashed_late) ≡ answered (from_start saved) ++ ok ∷ ok ∷ ok ∷ []
  pub told : reported (from_start crashed_late) ≡ lines (
      codes "session 1"
      ∷ codes "frame 1 a Free k 2 stored"
      ∷ codes "object 1 frame 1 Note Passive Text=6162"
      ∷ codes "done container 1 2"
      ∷ [])

-- A commit that fails: its frame is in doubt, and takes no edit, until it is resolved. Kept, it is as one that was
-- done. Lost, nothing is counted, the note is as it was when it was made, and its server may write again.
abbrev pub typing_more : Event
typing_more = Command (Edit 1 (codes "i 0 x"))

abbrev pub resolved_as : Bool → List Event
resolved_as is_kept = saved ++ Fail 1 ∷ typing_more ∷ Resolve 1 is_kept ∷ Deliver 7 ∷ Deliver 8 ∷ []

abbrev pub resolved_answers : List EventAnswer
resolved_answers = answered (from_start saved) ++ ok ∷ Refused Doubtful ∷ sent 7 ∷ sent 8 ∷ ok ∷ []

pub record WorkedDoubt : Type 0 where
  pub kept_answers : answered (from_start (resolved_as true)) ≡ resolved_answers
  pub kept_told : reported (from_start (resolved_as true)) ≡ reported (from_start completed)
  pub lost_answers : answered (from_start (resolved_as false)) ≡ resolved_answers
  pub lost_told : reported (from_start (resolved_as false)) ≡ lines (
      codes "session 1"
      ∷ codes "frame 1 a Free k 2 stored"
      ∷ codes "object 1 frame 1 Note Running Normal act 1 s 2 -"
      ∷ [])
  pub in_doubt : reported (from_start (saved ++ Fail 1 ∷ [])) ≡ lines (
      codes "session 1"
      ∷ codes "frame 1 a Free k 2 doubt"
      ∷ codes "object 1 frame 1 Note Running NoScribble act 1 s 1 -"
      ∷ [])
  pub not_asked : from_start (edited ++ Fail 1 ∷ []) ≡ Err NotEnabled
  pub not_in_doubt : from_start (saved ++ Resolve 1 false ∷ []) ≡ Err NotEnabled
  pub not_done : from_start (saved ++ Fail 1 ∷ Done 1 ∷ []) ≡ Err NotEnabled

-- Messages that come again, in any order: the last call is answered again, and nothing is counted twice.
abbrev pub repeated : List Event
repeated = completed ++ Deliver 7 ∷ Deliver 9 ∷ Deliver 8 ∷ Deliver 6 ∷ []

pub record WorkedRepeats : Type 0 where
  pub answers : answered (from_start repeated) ≡ answered (from_start completed) ++ sent 9 ∷ Refused Stale
      ∷ Refused Stale ∷ Refused Stale ∷ []
  pub told : reported (from_start repeated) ≡ reported (from_start completed)

-- A saved note that lost its server is loaded by another one, with another object out of stock.
abbrev pub from_two : List Event → Result World Stop
from_two es = ran (Ok (empty_world 1000 (Note ∷ Note ∷ []))) es

abbrev pub reloaded : List Event
reloaded = crashed_late ++ Command Start ∷ Command (Run 1 2) ∷ Deliver 7 ∷ Deliver 8 ∷ []

pub record WorkedReload : Type 0 where
  pub answers : answered (from_two reloaded) ≡ answered (from_two crashed_late) ++ server 2 ∷ sent 7 ∷ sent 8 ∷ ok ∷ []
  pub told : reported (from_two reloaded) ≡ lines (
      codes "session 1"
      ∷ codes "frame 1 a Free k 2 stored"
      ∷ codes "object 1 frame 1 Note Running Normal act 2 s 1 Text=6162"
      ∷ codes "done container 1 2"
      ∷ [])
  pub out_of_stock : from_start reloaded ≡ Err OutOfStock

-- A note that is asked is busy until it has answered, and one that refuses an edit stays as it was.
abbrev pub misedited : List Event
misedited = begun ++ new_note ∷ Command Start ∷ Command (Run 1 1) ∷ typing ∷ Deliver 1 ∷ Deliver 2
    ∷ Command (Edit 1 (codes "ab")) ∷ Command (Save 1) ∷ Deliver 3 ∷ Deliver 4 ∷ []

abbrev pub refused : EventAnswer
refused = Took (record quiet_outcome { refused = Some BadEdit })

pub record WorkedBadEdit : Type 0 where
  pub answers : answered (from_start misedited) ≡ begun_answers ++ object 1 ∷ server 1 ∷ sent 1 ∷ Refused Busy
      ∷ sent 2 ∷ ok ∷ sent 3 ∷ Refused Busy ∷ sent 4 ∷ refused ∷ []
  pub told : reported (from_start misedited) ≡ lines (
      codes "session 1"
      ∷ codes "frame 1 a Free k 1 stored"
      ∷ codes "object 1 frame 1 Note Running Normal act 1 s 1 -"
      ∷ [])

-- Eight frames, 64 objects in a frame, eight servers that aren't reaped, and numbers up to the limit; and a message
-- that was never sent can't be delivered.
abbrev pub times : ℕ → Event → List Event
times n e = map (λ (i : ℕ). e) (range_with_len 1 n)

abbrev pub frame_named : ℕ → Event
frame_named letter = Command (New (letter ∷ []) 40 10)

abbrev pub numbered : ℕ → List Event → Result World Stop
numbered numbers es = ran (Ok (empty_world numbers [])) es

pub record WorkedLimits : Type 0 where
  pub frames : answered (from_start (map frame_named (range_with_len 97 9) ++ new_frame ∷ []))
      ≡ map frame (range_with_len 1 8) ++ Refused Full ∷ Refused Busy ∷ []
  pub objects : answered (from_start (new_frame ∷ times 65 new_note)) ≡ frame 1 ∷ map object (range_with_len 1 64)
      ++ Refused Full ∷ []
  pub servers : answered
      (from_start (begun ++ times 9 (Command Start) ++ Crash 1 1 ∷ Command Start ∷ Reap 1 ∷ Command Start ∷ []))
      ≡ begun_answers ++ map server (range_with_len 1 8) ++ Refused Full ∷ ok ∷ Refused Full ∷ ok ∷ server 9 ∷ []
  pub three_numbers : answered (numbered 3 (begun ++ times 4 (Command Start))) ≡ begun_answers ++ server 1
      ∷ server 2 ∷ server 3 ∷ Refused NumbersSpent ∷ []
  pub one_number : answered (numbered 1 (begun ++ frame_named 98 ∷ [])) ≡ begun_answers ++ Refused NumbersSpent ∷ []
  pub undelivered : from_start (edited ++ Deliver 99 ∷ []) ≡ Err NotEnabled

-- A server that is killed has ended at once, and is killed again until it is reaped. Its note is passive then, and is
-- deleted; a running one isn't.
abbrev pub deleted : List Event
deleted = edited ++ Command (Delete 1) ∷ Command (Kill 1) ∷ Deliver 3 ∷ Command (Kill 1) ∷ Reap 1 ∷ Command (Kill 1)
    ∷ Command (Delete 1) ∷ Command (Delete 1) ∷ new_note ∷ []

pub record WorkedDelete : Type 0 where
  pub answers : answered (from_start deleted) ≡ answered (from_start edited) ++ Refused WrongState ∷ ok ∷ ok ∷ ok
      ∷ ok ∷ Refused NoSuch ∷ ok ∷ Refused NoSuch ∷ object 2 ∷ []
  pub told : reported (from_start deleted) ≡ lines (
      codes "session 1"
      ∷ codes "frame 1 a Free k 1 stored"
      ∷ codes "object 2 frame 1 Note Passive -"
      ∷ [])

-- A write that comes while a save is asked is stale, and still is once the save is over, as the storage grant is
-- another one then; a write under the new grant is taken once.
abbrev pub taken : EventAnswer
taken = Took (record quiet_outcome { taken = true })

abbrev pub written : List Event
written = edited ++ Scribble 1 1 1 ∷ Command (Save 1) ∷ Deliver 6 ∷ Deliver 5 ∷ Deliver 7 ∷ Done 1 ∷ Deliver 8
    ∷ Deliver 9 ∷ Deliver 5 ∷ Scribble 1 1 1 ∷ Deliver 10 ∷ Deliver 10 ∷ []

pub record WorkedWrites : Type 0 where
  pub answers : answered (from_start written) ≡ answered (from_start edited) ++ sent 5 ∷ sent 6 ∷ sent 7
      ∷ Refused Stale ∷ commit 1 ∷ sent 8 ∷ sent 9 ∷ ok ∷ Refused Stale ∷ sent 10 ∷ taken ∷ Refused Stale ∷ []
  pub told : reported (from_start written) ≡ reported (from_start completed)

-- A note that is closed gives its content; its activation stays closed, whatever is delivered again, and it runs again
-- under another one.
abbrev pub closed : List Event
closed = edited ++ Command (Close 1 SaveIfDirty) ∷ Deliver 5 ∷ Deliver 6 ∷ Deliver 1 ∷ Deliver 5 ∷ Deliver 7
    ∷ Command (Run 1 1) ∷ Deliver 8 ∷ Deliver 9 ∷ []

pub record WorkedClose : Type 0 where
  pub answers : answered (from_two closed) ≡ answered (from_two edited) ++ sent 5 ∷ sent 6 ∷ taken ∷ Dropped Ignored
      ∷ sent 7 ∷ Refused Stale ∷ sent 8 ∷ sent 9 ∷ ok ∷ []
  pub told : reported (from_two closed) ≡ lines (
      codes "session 1"
      ∷ codes "frame 1 a Free k 1 stored"
      ∷ codes "object 1 frame 1 Note Running Normal act 2 s 1 Text=6162"
      ∷ [])

-- A session that is asked once more while its commit is, and while it is in doubt. Lost, it may be tried again, and
-- until one is counted no server starts and nothing else is saved. Once it is there it stays.
abbrev pub raised_late : List Event
raised_late = new_frame ∷ Command Session ∷ Command Session ∷ Fail 1 ∷ Command Session ∷ Command Start
    ∷ Resolve 1 false ∷ Command (Save 1) ∷ Command (SaveAs 1 (codes "b"))
    ∷ Command Session ∷ Done 1 ∷ Command Session ∷ Command Start ∷ []

-- a commit in doubt is resolved as kept: that counts the session too
abbrev pub raised_kept : List Event
raised_kept = new_frame ∷ Command Session ∷ Fail 1 ∷ Resolve 1 true ∷ Command Start ∷ []

-- without a frame no session is raised
abbrev pub frameless : List Event
frameless = Command Session ∷ Command Start ∷ Command (Save 1) ∷ Command (SaveAs 1 (codes "b")) ∷ []

-- a lost save has spent its number
abbrev pub raised_spent : List Event
raised_spent = new_frame ∷ Command Session ∷ Fail 1 ∷ Resolve 1 false ∷ Command Session ∷ []

pub record WorkedSession : Type 0 where
  pub answers : answered (from_start raised_late) ≡ frame 1 ∷ commit 1 ∷ Refused Busy ∷ ok ∷ Refused Doubtful
      ∷ Refused WrongState ∷ ok ∷ Refused WrongState ∷ Refused WrongState
      ∷ commit 1 ∷ ok ∷ Refused WrongState ∷ server 1 ∷ []
  pub told : reported (from_start raised_late) ≡ lines (codes "session 1" ∷ codes "frame 1 a Free k 2 stored" ∷ [])
  pub kept_answers : answered (from_start raised_kept) ≡ frame 1 ∷ commit 1 ∷ ok ∷ ok ∷ server 1 ∷ []
  pub kept_told : reported (from_start raised_kept) ≡ lines (codes "session 1" ∷ codes "frame 1 a Free k 1 stored" ∷ [])
  pub frameless_answers : answered (from_start frameless) ≡ Refused NoSuch ∷ Refused WrongState ∷ Refused NoSuch
      ∷ Refused NoSuch ∷ []
  pub frameless_told : reported (from_start frameless) ≡ lines (codes "session 0" ∷ [])
  pub spent_answers : answered (numbered 1 raised_spent) ≡ frame 1 ∷ commit 1 ∷ ok ∷ ok ∷ Refused NumbersSpent ∷ []
  pub spent_told : reported (numbered 1 raised_spent) ≡ lines (codes "session 0" ∷ codes "frame 1 a Free k 1 none" ∷ [])

-- What a report says of frames and contents that no run reaches yet: a frame in doubt, asked for its menus and border,
-- with a space in its name; streams with a hidden character in their name, without bytes, with bytes that are no
-- characters.
abbrev pub granting : Frame
granting = record {
  name = codes "b c";
  asked = None;
  k = 12;
  ui = record { width = 40; height = 10; state = Granting (record { object = 3; act = 1; g = 1 }) };
  stored = true;
  session = 0;
  raised = None;
  phase = InDoubt;
}

abbrev pub stream : List ℕ → List ℕ → NamedStream
stream name bytes = record { name = name; bytes = bytes }

pub record WorkedSpelling : Type 0 where
  pub in_doubt : frame_line 2 granting ≡ codes "frame 2 b" ++ 92 ∷ ended (codes "20c Granting 3 k 12 doubt")
  pub streams : content_text (stream (1 ∷ 65 ∷ []) [] ∷ stream (codes "Cells") (195 ∷ 191 ∷ 48 ∷ []) ∷ [])
      ≡ 92 ∷ codes "01A= Cells=c3bf30"
  pub empty : content_text [] ≡ codes "-"

-- A stored frame has its file, and none while it is in doubt whether its last commit was done.
abbrev pub filed : World
filed = record (empty_world 1 []) { files = record { name = codes "b c"; bytes = 7 ∷ [] } ∷ [] }

pub record WorkedFile : Type 0 where
  pub stored : frame_file_in filed (Some (record granting { phase = Idle })) ≡ Some (7 ∷ [])
  pub in_doubt : frame_file_in filed (Some granting) ≡ None

pub record WorkedRuns : Type 0 where
  pub save : WorkedSave
  pub early_crash : WorkedEarlyCrash
  pub late_crash : WorkedLateCrash
  pub doubt : WorkedDoubt
  pub repeats : WorkedRepeats
  pub reload : WorkedReload
  pub bad_edit : WorkedBadEdit
  pub limits : WorkedLimits
  pub delete : WorkedDelete
  pub writes : WorkedWrites
  pub close : WorkedClose
  pub session : WorkedSession
  pub spelling : WorkedSpelling
  pub file : WorkedFile
