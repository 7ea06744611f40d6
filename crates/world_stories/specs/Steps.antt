-- What a moment makes of a story's runs, each by itself. No reader has to believe it.
use Rattle.std.specs.Prelude.{◌≡◌, ◌≢◌, ◌⊎◌, ◌++◌, ℕ, true, false, List, [], Option, Some, None, Ok}
use Rattle.message_values.specs.Found.{nth, set_nth}
use Rattle.message_values.specs.declared.message.Message.{Message}
use Rattle.container_model.specs.Inputs.{Input, on_input}
use Rattle.container_model.specs.Record.{Record, Took}
use Rattle.container_model.specs.Saves.{commit_made, image_at}
use Rattle.container_model.specs.declared.answer.FrameDocument.{FrameDocument}
use Rattle.container_model.specs.declared.record.Frame.{Frame}
use Rattle.container_model.specs.declared.record.Phase.TheVariants.{Idle}
use Rattle.container_numbers.specs.Sessions.{IsOf}
use Rattle.world_model.specs.declared.event.Event.{Event}
use Rattle.world_model.specs.declared.event.Event.TheVariants as event
use Rattle.world_model.specs.declared.logs.Document.{Document}
use Rattle.world_model.specs.declared.logs.File.{File}
use Rattle.world_model.specs.declared.logs.Sent.{Sent}
use Rattle.world_model.specs.declared.logs.Taken.{Taken}
use Rattle.world_model.specs.Safe.{Among, IsHonest, messages}
use Rattle.world_model.specs.World.{Choice, World, put_file}
use Rattle.world_safety.specs.Holding.{Holds}
use Rattle.world_model.specs.SafeStory.{IsGrantedIn}
use Rattle.world_model.specs.Story.{Epoch, as_of, made_name}
use Rattle.world_stories.specs.Holding.{sent_in}

-- a world where nothing was taken and answered, and one with other files and messages
abbrev pub quieted : World → World
quieted w = record w { taken = []; answers = [] }

abbrev pub twin : World → List File → List Sent → World
twin w files sent = record w { files = files; sent = sent; taken = []; answers = [] }

-- the file that an event makes, among these
abbrev pub put_committed : List ℕ → Option Frame → List File → List File
put_committed bytes None files = files
put_committed bytes (Some frame) files = put_file (made_name frame) bytes files

abbrev pub made_by : World → Choice → Event → List File → List File
made_by w choice (event.Done f) files = put_committed choice.file (nth w.rec.frames f) files
made_by w choice (event.Resolve f true) files = put_committed choice.file (nth w.rec.frames f) files
made_by w choice (event.Resolve f false) files = files
made_by w choice (event.Command c) files = files
made_by w choice (event.Deliver p) files = files
made_by w choice (event.Forge inc m) files = files
made_by w choice (event.Crash session inc) files = files
made_by w choice (event.Reap inc) files = files
made_by w choice (event.Fail f) files = files
made_by w choice (event.Open name width height) files = files
made_by w choice (event.Scribble session inc act) files = files
made_by w choice (event.Ask session inc act) files = files

-- An event of the present run: what is sent is of its session, the run by itself holds, and what is taken was granted.
pub record Goes (w v : World) (mine : List File) (choice : Choice) (e : Event) : Type 0 where
  pub more : List Sent
  pub sent : v.sent ≡ w.sent ++ more
  pub of : (m : Message) → Among (messages more) m → IsOf w.rec.session m.session
  pub numbers : v.rec.numbers ≡ w.rec.numbers
  pub holds : Holds (twin v (made_by w choice e mine) (sent_in w.rec.session w.sent ++ more))
  pub granted : (t : Taken) → Among v.taken t → IsHonest v.hostile t.inc
      → (Among w.taken t × IsHonest w.hostile t.inc) ⊎ IsGrantedIn v w.rec.session t
  pub files : v.files ≡ made_by w choice e w.files

-- the input of the container that an event is
abbrev pub IsInputOf : Input → Choice → Event → Type 0
IsInputOf x choice (event.Command c) = x ≡ Input.Ordered c
IsInputOf x choice (event.Deliver p) = (link : _) × (m : Message) × (x ≡ Input.Told link m)
IsInputOf x choice (event.Forge inc m) = (link : _) × (x ≡ Input.Told link m)
IsInputOf x choice (event.Crash session inc) = ⊥
IsInputOf x choice (event.Reap inc) = x ≡ Input.Reaped inc
IsInputOf x choice (event.Done f) = x ≡ Input.Committed f
IsInputOf x choice (event.Fail f) = x ≡ Input.Failed f
IsInputOf x choice (event.Resolve f is_kept) = x ≡ Input.Resolved f is_kept
IsInputOf x choice (event.Open name width height) = x ≡ Input.Opened name width height choice.given
IsInputOf x choice (event.Scribble session inc act) = ⊥
IsInputOf x choice (event.Ask session inc act) = ⊥

-- A commit that is counted, of a frame that doesn't rest: what the container makes of it, and the document that is
-- counted.
pub record Counts (w v : World) (f : ℕ) : Type 0 where
  pub frame : Frame
  pub at : nth w.rec.frames f ≡ Some frame
  pub busy : frame.phase ≢ Idle
  pub rec : v.rec ≡ (commit_made w.rec f frame).rec
  pub saved : FrameDocument
  pub imaged : image_at w.rec f (Some frame) ≡ Ok saved
  pub document : Document
  pub bears : document.session ≡ saved.session
  pub more : List (Option Document)
  pub counted : v.counted ≡ set_nth w.counted f (Some document) ++ more

-- what is counted of frame 1 stays, unless the input is such a commit
abbrev pub KeepsFirst : World → World → Type 0
KeepsFirst w v = (d : Document) → nth w.counted 1 ≡ Some (Some d) → nth v.counted 1 ≡ Some (Some d)

abbrev pub CountsBy : World → World → Input → Type 0
CountsBy w v (Input.Committed f) = Counts w v f
CountsBy w v (Input.Resolved f true) = Counts w v f
CountsBy w v x = KeepsFirst w v

-- an event that counts no commit
abbrev pub CountsNone : Event → Type 0
CountsNone (event.Done f) = ⊥
CountsNone (event.Resolve f true) = ⊥
CountsNone e = Unit {0}

-- and what it makes of the record: nothing, or what a step of the container makes of it
pub data Steps (w v : World) (choice : Choice) (e : Event) : Type 0 where
  rec_stays : CountsNone e → v.rec ≡ w.rec → KeepsFirst w v → Steps w v choice e
  rec_steps : (x : Input) (t : Took) → IsInputOf x choice e → on_input w.rec x ≡ Ok t → v.rec ≡ t.rec
      → CountsBy w v x → Steps w v choice e

-- what goes on at a server leaves all else as it is
abbrev pub left_of : World → World → World
left_of w v = record w {
  instances = v.instances;
  stock = v.stock;
  sent = v.sent;
  answers = v.answers;
  server_done = v.server_done;
}

-- An event at a server of an earlier run, as that run has it: the record and the files are as they were.
pub record HasGoneOn (w : World) (e : Epoch) (v : World) (rec : Record) (files : List File) : Type 0 where
  pub more : List Sent
  pub sent : v.sent ≡ w.sent ++ more
  pub of : (m : Message) → Among (messages more) m → m.session ≡ e.session
  pub stays : left_of (as_of w e) v ≡ v
  pub holds : Holds (twin (record v { rec = rec }) files (sent_in e.session w.sent ++ more))
