-- Laws: all of a container is in its one session, and it has one before anything is in it.
use Rattle.std.specs.Prelude.{◌≡◌, ◌≢◌, ◌+◌, ℕ, true, [], Option, Some, None, Ok, ⊤}
use Rattle.std.specs.List.{AllByRecursion}
use Rattle.message_values.specs.Found.{nth}
use Rattle.container_model.specs.declared.answer.Action.{Action}
use Rattle.container_model.specs.declared.answer.Action.TheVariants.{Send, Start}
use Rattle.container_model.specs.declared.command.Command.{Command}
use Rattle.container_model.specs.declared.command.Command.TheVariants as command
use Rattle.container_model.specs.declared.record.Frame.{Frame}
use Rattle.container_model.specs.declared.record.Link.{Link}
use Rattle.container_model.specs.declared.record.Object.{Object}
use Rattle.container_model.specs.Commands.{on_command}
use Rattle.container_model.specs.Inputs.{Input, on_input}
use Rattle.container_model.specs.Record.{Record, Took, empty}
use Rattle.container_model.specs.Saves.{session_counted}

-- what bears this session is of it; nothing is of session 0, which is none
abbrev pub IsOf : ℕ → ℕ → Type 0
IsOf s session = (session ≡ s) × (s ≢ 0)

-- an activation is in a session; a passive object has none
abbrev pub IsInSession : ℕ → Option Link → Type 0
IsInSession s None = ⊤
IsInSession s (Some l) = IsOf s l.session

-- a save raises a document's session only where the container has none; it is the first frame's then, and the next one
abbrev pub MayRaise : ℕ → ℕ → Frame → Option ℕ → Type 0
MayRaise s f frame None = ⊤
MayRaise s f frame (Some raised) = (s ≡ 0) × (f ≡ 1) × (raised ≡ frame.session + 1)

-- Each activation of a record is in the record's session. Before it has one it started no server.
pub record InSession (r : Record) : Type 0 where
  pub links : AllByRecursion (λ (o : Object). IsInSession r.session o.link) r.objects
  pub servers : r.session ≡ 0 → r.servers ≡ []
  pub raising : (f : ℕ) (frame : Frame) → nth r.frames f ≡ Some frame → MayRaise r.session f frame frame.raised

-- what an action sends is in this session, and a server is started only where there is one
abbrev pub SendsIn : ℕ → Action → Type 0
SendsIn s (Send m) = IsOf s m.session
SendsIn s (Start inc) = s ≢ 0
SendsIn s action = ⊤

-- the session after a step: that of the document that it counted, if its save raised it
abbrev pub session_by : Record → Input → ℕ
session_by r (Input.Committed f) = session_counted r f
session_by r (Input.Resolved f true) = session_counted r f
session_by r x = r.session

-- A step leaves all in the session that is there after it, and sends in the one that was there before. A session that
-- there is stays, as long as the container runs.
pub record StaysInSession (r : Record) (x : Input) (t : Took) : Type 0 where
  pub same : t.rec.session ≡ session_by r x
  pub stays : r.session ≢ 0 → t.rec.session ≡ r.session
  pub holds : InSession t.rec
  pub sends : AllByRecursion (SendsIn r.session) t.answer.actions

abbrev pub InSessionFromTheStart : Type 0
InSessionFromTheStart = (numbers : ℕ) → InSession (empty numbers)

abbrev pub SessionsStay : Type 0
SessionsStay = (r : Record) (x : Input) (t : Took) → InSession r → on_input r x ≡ Ok t → StaysInSession r x t

-- the commands that want a session
abbrev pub WantsSession : Command → Type 0
WantsSession command.Start = ⊤
WantsSession (command.Run o inc) = ⊤
WantsSession (command.Save f) = ⊤
WantsSession (command.SaveAs f name) = ⊤
WantsSession c = ⊥

-- Law: they are taken only where there is one, and no command changes it.
abbrev pub CommandsWantSessions : Type 0
CommandsWantSessions = (r : Record) (c : Command) (t : Took) → InSession r → on_command r c ≡ Ok t
    → (t.rec.session ≡ r.session) × (WantsSession c → r.session ≢ 0)
