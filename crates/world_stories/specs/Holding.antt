-- What every story keeps, so that it is safe. No reader has to believe it.
use Rattle.std.specs.Prelude.{◌≡◌, ◌≢◌, ◌⊎◌, ◌<◌, ◌≤◌, ◌==◌, ℕ, false, List, [], ◌∷◌, Option, Some, None, cond}
use Rattle.std.specs.Prelude.{if◌then◌else◌}
use Rattle.message_values.specs.Found.{find, nth}
use Rattle.message_values.specs.declared.message.Message.{Message}
use Rattle.container_frames.specs.Frames.{AreUnraised}
use Rattle.container_model.specs.Record.{Record}
use Rattle.container_model.specs.declared.answer.FrameDocument.{FrameDocument}
use Rattle.container_model.specs.declared.record.Frame.{Frame}
use Rattle.world_model.specs.declared.logs.Document.{Document}
use Rattle.world_model.specs.declared.logs.File.{File}
use Rattle.world_model.specs.declared.logs.Sent.{Sent}
use Rattle.world_model.specs.declared.logs.Taken.{Taken}
use Rattle.world_model.specs.Safe.{Among, IsHonest, WasSent}
use Rattle.world_model.specs.World.{World, file_of, is_file}
use Rattle.world_safety.specs.Holding.{Holds}
use Rattle.world_model.specs.SafeStory.{AreOf, AreRising, IsGrantedIn, is_kept}
use Rattle.world_model.specs.Story.{Epoch, Story, as_of, epochs}

-- what was sent in a session
abbrev pub sent_in : ℕ → List Sent → List Sent
sent_in session [] = []
sent_in session (x ∷ xs) = if x.message.session == session then x ∷ sent_in session xs else sent_in session xs

-- The present run by itself: a world of one session, with the files that were made in it.
abbrev pub mirror : World → List File → World
mirror w files = record w { files = files; sent = sent_in w.rec.session w.sent; taken = []; answers = [] }

-- An earlier run by itself, with the record and the files that it had when it was stopped.
abbrev pub mirror_of : World → Epoch → Record → List File → World
mirror_of w e rec files = record (as_of w e) {
  rec = rec;
  files = files;
  sent = sent_in e.session w.sent;
  taken = [];
  answers = [];
}

-- the last document that was counted for frame 1 is of this session
pub record CountsSession (counted : List (Option Document)) (session : ℕ) : Type 0 where
  pub document : Document
  pub first : nth counted 1 ≡ Some (Some document)
  pub bears : document.session ≡ session

pub record HoldsPast (w : World) (e : Epoch) (rec : Record) (files : List File) : Type 0 where
  pub session : rec.session ≡ e.session
  pub numbers : rec.numbers ≡ w.rec.numbers
  pub raised : e.session ≢ 0
  pub bears : CountsSession e.counted e.session
  pub holds : Holds (mirror_of w e rec files)

-- where a file is from: a commit of the present run, or of an earlier one
abbrev pub IsThere : List File → List ℕ → File → Type 0
IsThere files name file = find (is_file name) files ≡ Some file

abbrev pub IsOfRuns : List File → List Epoch → (ℕ → List File) → List ℕ → File → Type 0
IsOfRuns mine past archive name file = IsThere mine name file
    ⊎ ((e : Epoch) × Among past e × IsThere (archive e.session) name file)

abbrev pub IsSaved : File → Type 0
IsSaved file = (saved : FrameDocument) × AreOf file.bytes saved

abbrev pub IsFrom : Story → List File → (ℕ → List File) → List ℕ → File → Type 0
IsFrom s mine archive name file = cond (is_kept name s.kept) (IsSaved file) (IsOfRuns mine s.past archive name file)

-- The session document is at least of each session that was raised. Frame 1 bears its name, and has its session. Where
-- the present run has raised its own, that is the document's, and a commit that was counted bears it.
pub record HasDocument (s : Story) (name : List ℕ) : Type 0 where
  pub bytes : List ℕ
  pub file : file_of s.now name ≡ Some bytes
  pub saved : FrameDocument
  pub is : AreOf bytes saved
  pub above : (e : Epoch) → Among (epochs s) e → e.session ≤ saved.session
  pub framed : (frame : Frame) → nth s.now.rec.frames 1 ≡ Some frame → (frame.name ≡ name)
      × (frame.session ≡ saved.session)
  pub raised : s.now.rec.session ≢ 0 → (saved.session ≡ s.now.rec.session)
      × CountsSession s.now.counted s.now.rec.session

abbrev pub DocumentStands : Story → Option (List ℕ) → Type 0
DocumentStands s None = (s.past ≡ []) × (s.now.rec.session ≡ 0)
DocumentStands s (Some name) = HasDocument s name

-- each content that was taken of an honest server in a run was granted in it
abbrev pub AreGranted : World → Epoch → Type 0
AreGranted w e = (t : Taken) → Among e.taken t → IsHonest e.hostile t.inc → IsGrantedIn w e.session t

pub record Sound (s : Story) : Type 0 where
  -- the files that were made in the present run, and what an earlier one had when it was stopped
  pub mine : List File
  pub records : ℕ → Record
  pub archive : ℕ → List File
  pub now : Holds (mirror s.now mine)
  pub past : (e : Epoch) → Among s.past e → HoldsPast s.now e (records e.session) (archive e.session)
  pub rising : AreRising 0 s.past
  pub above : (e : Epoch) → Among s.past e → s.now.rec.session ≢ 0 → e.session < s.now.rec.session
  pub unraised : AreUnraised s.now.rec
  -- before a session is raised no file is made
  pub none_made : s.now.rec.session ≡ 0 → mine ≡ []
  -- each message is of a run that raised its session
  pub of_runs : (m : Message) → WasSent s.now m → (e : Epoch) × Among (epochs s) e × (m.session ≡ e.session)
      × (e.session ≢ 0)
  pub granted : (e : Epoch) → Among (epochs s) e → AreGranted s.now e
  -- the files, those that were made in this run among them
  pub mine_there : (name : List ℕ) (file : File) → IsThere mine name file → IsThere s.now.files name file
      × (is_kept name s.kept ≡ false)
  pub files : (name : List ℕ) (file : File) → IsThere s.now.files name file → IsFrom s mine archive name file
  pub document : DocumentStands s s.document
