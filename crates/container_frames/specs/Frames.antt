-- What a step of a container makes of its frames: their names, their documents' sessions, and which of them save.
use Rattle.std.specs.Prelude.{◌≡◌, ◌≢◌, ◌++◌, ℕ, true, List, [], ◌∷◌, length, Some, None, Ok}
use Rattle.message_values.specs.Found.{nth}
use Rattle.container_model.specs.Commands.{new_frame}
use Rattle.container_model.specs.Inputs.{Input, on_input}
use Rattle.container_model.specs.Opens.{Given, opened_frame}
use Rattle.container_model.specs.Record.{Record, Took}
use Rattle.container_model.specs.Saves.{commit_made}
use Rattle.container_model.specs.declared.command.Command.TheVariants as command
use Rattle.container_model.specs.declared.record.Frame.{Frame}
use Rattle.container_model.specs.declared.record.Phase.TheVariants.{Idle}

-- Where a container has no session, a frame saves only to raise it.
abbrev pub IsUnraised : ℕ → Frame → Type 0
IsUnraised session frame = session ≡ 0 → frame.raised ≡ None → frame.phase ≡ Idle

abbrev pub AreUnraised : Record → Type 0
AreUnraised r = (f : ℕ) (frame : Frame) → nth r.frames f ≡ Some frame → IsUnraised r.session frame

-- a frame that stays, with its name and its document's session
pub record FrameStays (session : ℕ) (old new : Frame) : Type 0 where
  pub name : new.name ≡ old.name
  pub session_same : new.session ≡ old.session
  pub unraised : IsUnraised session old → IsUnraised session new

pub record FramesStay (session : ℕ) (old new : List Frame) : Type 0 where
  pub many : length new ≡ length old
  pub from : (f : ℕ) (frame : Frame) → nth new f ≡ Some frame → (before : Frame) × (nth old f ≡ Some before)
      × FrameStays session before frame

-- the input that counts the commit of a frame
abbrev pub Commits : Input → ℕ → Type 0
Commits (Input.Committed g) f = g ≡ f
Commits (Input.Resolved g true) f = g ≡ f
Commits x f = ⊥

-- A step leaves the frames, makes one more, opens one more, or counts the commit of one. Only the last changes a
-- frame's name, the session of its document, and the container's.
pub data FramesGo (r : Record) (x : Input) (t : Took) : Type 0 where
  frames_stay : FramesStay r.session r.frames t.rec.frames → t.rec.session ≡ r.session → FramesGo r x t
  frame_made : (name : List ℕ) (w h : ℕ) → x ≡ Input.Ordered (command.New name w h)
      → t.rec.frames ≡ r.frames ++ new_frame name w h ∷ [] → t.rec.session ≡ r.session → FramesGo r x t
  frame_opened : (name : List ℕ) (w h : ℕ) (d : _) → x ≡ Input.Opened name w h (Given.Holding d)
      → t.rec.frames ≡ r.frames ++ opened_frame name w h d.session ∷ [] → t.rec.session ≡ r.session → FramesGo r x t
  frame_counted : (f : ℕ) (frame : Frame) → Commits x f → nth r.frames f ≡ Some frame → frame.phase ≢ Idle
      → commit_made r f frame ≡ t → FramesGo r x t

-- Law: each step that is taken is one of these.
abbrev pub StepsMoveFrames : Type 0
StepsMoveFrames = (r : Record) (x : Input) (t : Took) → on_input r x ≡ Ok t → FramesGo r x t
