-- A story: a container that stops and starts again. The world of its present run, and what is left of the runs before
-- it.
use Rattle.std.specs.Prelude.{◌≡◌, ◌++◌, ◌+◌, ℕ, Bool, true, false, List, [], ◌∷◌, length, Option, Some, None, is_some}
use Rattle.std.specs.Prelude.{Result, Ok, Err, if◌then◌else◌, nat_le, ◌==◌}
use Rattle.std.specs.Str.{bytes_eq}
use Rattle.message_values.specs.Found.{find, nth, put}
use Rattle.message_values.specs.declared.message.Message.{Message}
use Rattle.message_values.specs.declared.message.Said.{Said}
use Rattle.message_values.specs.declared.message.Said.TheVariants.{Call}
use Rattle.object_core.specs.Kinds.{Kind}
use Rattle.container_model.specs.Record.{Record, empty}
use Rattle.container_model.specs.Saves.{image, name_after}
use Rattle.container_model.specs.declared.answer.Done.{Done}
use Rattle.container_model.specs.declared.answer.FrameDocument.{FrameDocument}
use Rattle.container_model.specs.declared.command.Command.{Command}
use Rattle.container_model.specs.declared.command.Command.TheVariants as command
use Rattle.container_model.specs.declared.fault.ContainerFault.{ContainerFault}
use Rattle.container_model.specs.declared.record.Frame.{Frame}
use Rattle.world_model.specs.declared.event.Event.{Event}
use Rattle.world_model.specs.declared.event.Event.TheVariants as event
use Rattle.world_model.specs.declared.event.Stop.{Stop}
use Rattle.world_model.specs.declared.event.Stop.TheVariants.{EventLimit, NotEnabled}
use Rattle.world_model.specs.declared.logs.Document.{Document}
use Rattle.world_model.specs.declared.logs.EventAnswer.TheVariants as told
use Rattle.world_model.specs.declared.logs.File.{File}
use Rattle.world_model.specs.declared.logs.Sent.{Sent}
use Rattle.world_model.specs.declared.logs.ServerDone.{ServerDone}
use Rattle.world_model.specs.declared.logs.Taken.{Taken}
use Rattle.world_model.specs.World.{Choice, HoldsDocument, Instance, MOST_EVENTS, MayChoose, StopsFor, World, ask}
use Rattle.world_model.specs.World.{crash, deliver}
use Rattle.world_model.specs.World.{empty_world, happened, put_file, quiet_outcome, scribble}
use Rattle.world_model.specs.declared.moment.Moment.{Moment}
use Rattle.world_model.specs.declared.moment.Moment.TheVariants as moment

-- What is left of a run that is over: its session, its servers, which may go on, and what was logged of it. The
-- container's record is gone.
pub record Epoch : Type 0 where
  pub session : ℕ
  pub instances : List Instance
  pub owners : List ℕ
  pub taken : List Taken
  pub container_done : List Done
  pub server_done : List ServerDone
  pub counted : List (Option Document)
  pub hostile : List ℕ

-- A story. The world of the present run has the files, the stock, what was answered and all messages that were ever
-- sent. The runs before it that raised a session, the first of them first. The name of the session document, once there
-- is one; and the names of the files that a stop kept and nobody has counted since.
pub record Story : Type 0 where
  pub now : World
  pub past : List Epoch
  pub document : Option (List ℕ)
  pub kept : List (List ℕ)

abbrev pub empty_story : ℕ → List Kind → Story
empty_story numbers stock = record { now = empty_world numbers stock; past = []; document = None; kept = [] }

-- The present run as one of the runs, and all of them.
abbrev pub epoch_of : World → Epoch
epoch_of w = record {
  session = w.rec.session;
  instances = w.instances;
  owners = w.owners;
  taken = w.taken;
  container_done = w.container_done;
  server_done = w.server_done;
  counted = w.counted;
  hostile = w.hostile;
}

abbrev pub epochs : Story → List Epoch
epochs s = s.past ++ epoch_of s.now ∷ []

-- ---- events at servers of earlier runs

-- the session in which an event happens: that of the server that it names, or to which the message at its place is a
-- call; all others happen in the present one
abbrev pub session_of_call : ℕ → Message → Said → ℕ
session_of_call present m (Call inc act n op) = m.session
session_of_call present m _ = present

abbrev pub session_at : ℕ → Option Sent → ℕ
session_at present None = present
session_at present (Some x) = session_of_call present x.message x.message.said

abbrev pub session_of : World → Event → ℕ
session_of w (event.Deliver p) = session_at w.rec.session (nth w.sent p)
session_of w (event.Crash session inc) = session
session_of w (event.Scribble session inc act) = session
session_of w (event.Ask session inc act) = session
session_of w _ = w.rec.session

-- the world as an earlier run has it: with its servers and its logs
abbrev pub as_of : World → Epoch → World
as_of w e = record w {
  instances = e.instances;
  owners = e.owners;
  taken = e.taken;
  container_done = e.container_done;
  server_done = e.server_done;
  counted = e.counted;
  hostile = e.hostile;
}

-- and what stays of it there after an event: the messages, the stock and the answers are the story's
abbrev pub is_session : ℕ → Epoch → Bool
is_session session e = e.session == session

abbrev pub left_by : Story → Epoch → Result World Stop → Result Story Stop
left_by s e (Err stop) = Err stop
left_by s e (Ok v) = Ok (record s {
  now = record s.now { stock = v.stock; sent = v.sent; answers = v.answers };
  past = put (is_session e.session) (record (epoch_of v) { session = e.session }) s.past;
})

-- Servers of earlier runs act on calls, crash, write and ask; nothing else happens at them. What is delivered to one is
-- a call, as no other message is of an earlier session here.
abbrev pub goes_on : World → Event → Result World Stop
goes_on w (event.Deliver p) = deliver w p (nth w.sent p)
goes_on w (event.Crash session inc) = crash w inc (nth w.instances inc)
goes_on w (event.Scribble session inc act) = scribble w inc act (nth w.instances inc)
goes_on w (event.Ask session inc act) = ask w inc act (nth w.instances inc)
goes_on w _ = Err NotEnabled

abbrev pub earlier : Story → Event → Option Epoch → Result Story Stop
earlier s e None = Err NotEnabled
earlier s e (Some x) = left_by s x (goes_on (as_of s.now x) e)

-- ---- events of the present run

-- While a run has no frame 1, and there is a session document, it is opened before any other frame is made.
abbrev pub is_it : List ℕ → Option (List ℕ) → Bool
is_it name None = true
is_it name (Some document) = bytes_eq document name

abbrev pub may_open : Story → List ℕ → Bool
may_open s name = if is_some (nth s.now.rec.frames 1) then true else is_it name s.document

abbrev pub may_make : Story → Bool
may_make s = if is_some (nth s.now.rec.frames 1) then true else if is_some s.document then false else true

abbrev pub may_command : Story → Command → Bool
may_command s (command.New name width height) = may_make s
may_command s c = true

abbrev pub may_begin : Story → Event → Bool
may_begin s (event.Command c) = may_command s c
may_begin s (event.Open name width height) = may_open s name
may_begin s e = true

-- the name of the file that a commit of a frame makes
abbrev pub made_name : Frame → List ℕ
made_name frame = name_after frame.name frame.asked

-- Once a commit of frame 1 was counted, or a stop has kept it, its file is the session document.
abbrev pub document_by : ℕ → Option Frame → Option (List ℕ) → Option (List ℕ)
document_by f None document = document
document_by f (Some frame) document = if f == 1 then Some (made_name frame) else document

-- a file that is counted isn't one that only a stop has kept
abbrev pub without : List ℕ → List (List ℕ) → List (List ℕ)
without name [] = []
without name (x ∷ xs) = if bytes_eq x name then without name xs else x ∷ without name xs

abbrev pub kept_by : Option Frame → List (List ℕ) → List (List ℕ)
kept_by None kept = kept
kept_by (Some frame) kept = without (made_name frame) kept

abbrev pub committed_by : Story → ℕ → World → Story
committed_by s f next = record {
  now = next;
  past = s.past;
  document = document_by f (nth s.now.rec.frames f) s.document;
  kept = kept_by (nth s.now.rec.frames f) s.kept;
}

abbrev pub followed : Story → Event → World → Story
followed s (event.Done f) next = committed_by s f next
followed s (event.Resolve f true) next = committed_by s f next
followed s _ next = record s { now = next }

abbrev pub follow : Story → Event → Result World Stop → Result Story Stop
follow s e (Err stop) = Err stop
follow s e (Ok next) = Ok (followed s e next)

abbrev pub present : Story → Choice → Event → Result Story Stop
present s choice e = if may_begin s e then follow s e (happened s.now choice e) else Err NotEnabled

-- ---- a stop

-- a number in a list
abbrev pub is_among : List ℕ → ℕ → Bool
is_among [] f = false
is_among (x ∷ xs) f = if x == f then true else is_among xs f

-- each of these frames has a commit that is asked or in doubt, and it can be written
abbrev pub has_image : Result FrameDocument ContainerFault → Bool
has_image (Ok saved) = true
has_image (Err fault) = false

abbrev pub may_stop : Record → List ℕ → Bool
may_stop r [] = true
may_stop r (f ∷ fs) = if has_image (image r f) then may_stop r fs else false

-- the files of those frames, by rising number, the first of them f
abbrev pub put_kept : (ℕ → List ℕ) → List ℕ → ℕ → List Frame → List File → List File
put_kept images fs f [] files = files
put_kept images fs f (frame ∷ frames) files = put_kept images fs (f + 1) frames
    (if is_among fs f then put_file (made_name frame) (images f) files else files)

abbrev pub names_kept : List ℕ → ℕ → List Frame → List (List ℕ) → List (List ℕ)
names_kept fs f [] kept = kept
names_kept fs f (frame ∷ frames) kept = names_kept fs (f + 1) frames (if is_among fs f then made_name frame ∷ kept
    else kept)

abbrev pub document_kept : List ℕ → Option Frame → Option (List ℕ) → Option (List ℕ)
document_kept fs frame document = if is_among fs 1 then document_by 1 frame document else document

-- The record begins anew. The files, the stock, the messages and the answers stay.
abbrev pub begun : World → World
begun w = record w {
  rec = empty w.rec.numbers;
  instances = [];
  owners = [];
  taken = [];
  container_done = [];
  server_done = [];
  counted = [];
  hostile = [];
}

-- a run that raised no session started no server, and leaves nothing
abbrev pub past_by : World → List Epoch → List Epoch
past_by w past = if w.rec.session == 0 then past else past ++ epoch_of w ∷ []

-- and the kept commits are files
abbrev pub rested : World → (ℕ → List ℕ) → List ℕ → World
rested w images fs = record (begun w) {
  files = put_kept images fs 1 w.rec.frames w.files;
  answers = w.answers ++ told.Took quiet_outcome ∷ [];
}

abbrev pub stopped : Story → (ℕ → List ℕ) → List ℕ → Story
stopped s images fs = record {
  now = rested s.now images fs;
  past = past_by s.now s.past;
  document = document_kept fs (nth s.now.rec.frames 1) s.document;
  kept = names_kept fs 1 s.now.rec.frames s.kept;
}

-- ---- what happens

-- What the definitions leave open: of an event, and of a stop the bytes that it makes the file of each frame.
pub record Chosen : Type 0 where
  pub here : Choice
  pub images : ℕ → List ℕ

abbrev pub passed : Story → Chosen → Moment → Result Story Stop
passed s choice (moment.Event e) =
    if session_of s.now e == s.now.rec.session then present s choice.here e
    else earlier s e (find (is_session (session_of s.now e)) s.past)
passed s choice (moment.Stop fs) = if may_stop s.now.rec fs then Ok (stopped s choice.images fs) else Err NotEnabled

-- no more happens than in a world
abbrev pub within : Story → Result Story Stop → Result Story Stop
within s (Err stop) = Err stop
within s (Ok after) = if nat_le MOST_EVENTS (length s.now.answers) then Err EventLimit else Ok after

abbrev pub pass : Story → Chosen → Moment → Result Story Stop
pass s choice m = within s (passed s choice m)

-- What may be chosen: bytes that denote the document of each frame whose commit the disk has kept.
abbrev pub MayChooseAt : Story → Chosen → Moment → Type 0
MayChooseAt s choice (moment.Event e) = MayChoose s.now choice.here e
MayChooseAt s choice (moment.Stop fs) = (f : ℕ) → is_among fs f ≡ true → HoldsDocument s.now f (choice.images f)

-- The stories that these moments reach; they differ in the bytes of files alone.
abbrev pub Tells : Story → List Moment → Story → Type 0
Tells s [] after = after ≡ s
Tells s (m ∷ ms) after = (choice : Chosen) × (next : Story) × MayChooseAt s choice m × (pass s choice m ≡ Ok next)
    × Tells next ms after

-- A story stops before a moment that can't be taken, or for want of memory before one that could.
abbrev pub EndsAt : Story → Moment → Stop → Type 0
EndsAt s m stop = (choice : Chosen) → StopsFor (pass s choice m) stop
