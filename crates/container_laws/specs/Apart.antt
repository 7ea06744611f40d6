-- What a message on the link of one server leaves of all that isn't that server's.
use Rattle.std.specs.Prelude.{◌≡◌, ◌++◌, ℕ, Bool, false, List, Option, Some, None, Ok}
use Rattle.message_values.specs.Found.{find, nth}
use Rattle.message_values.specs.declared.message.Message.{Message}
use Rattle.message_values.specs.declared.operation.Operation.{Operation}
use Rattle.object_state.specs.Grants.{who}
use Rattle.object_state.specs.declared.grant_states.Claim.{Claim}
use Rattle.container_model.specs.declared.record.Link.{Link}
use Rattle.container_model.specs.declared.server_link.ServerLink.{ServerLink}
use Rattle.container_model.specs.declared.record.Object.{Object}
use Rattle.container_model.specs.declared.record.Frame.{Frame}
use Rattle.container_model.specs.Grants.{is_hosted, is_hosted_object}
use Rattle.container_model.specs.Messages.{on_message}
use Rattle.container_model.specs.Record.{Record, Took, is_object}
use Rattle.container_queues.specs.Steady.{Steady}

-- An activation stays the same one, of the same server, in the same states of storage and window, with the same storage
-- grant, number of the last write and content of the present save. It may be asked more, behind what it was asked
-- before: a pending call stays the pending one, under its number, and what waits goes on waiting, in its order.
pub record KeepsActivation (l later : Link) : Type 0 where
  pub inc : later.inc ≡ l.inc
  pub act : later.act ≡ l.act
  pub states : later.states ≡ l.states
  pub s : later.s ≡ l.s
  pub w : later.w ≡ l.w
  pub saved : later.saved ≡ l.saved
  pub pending : (op : Operation) → l.pending ≡ Some op → (later.pending ≡ Some op) × (later.last ≡ l.last)
  pub waiting : (more : List Operation) × (later.waiting ≡ l.waiting ++ more)

abbrev pub KeepsLink : Option Link → Option Link → Type 0
KeepsLink None None = Unit {0}
KeepsLink (Some l) (Some later) = KeepsActivation l later
KeepsLink link later = ⊥

-- An object stays whole, its work content too, and its activation as above; without one it stays so.
pub record KeepsObject (o later : Object) : Type 0 where
  pub whole : later ≡ record o { link = later.link }
  pub link : KeepsLink o.link later.link

-- A frame stays whole, its menus and border space too, but for how far its save is.
abbrev pub KeepsFrame : Frame → Frame → Type 0
KeepsFrame frame later = later ≡ record frame { phase = later.phase }

-- whether an object of this server has a frame, is to get it, or is to give it up
abbrev pub is_of_server : ℕ → List Object → Option Claim → Bool
is_of_server inc os None = false
is_of_server inc os (Some holder) = is_hosted_object inc (find (is_object holder.object) os)

-- From one record to another, the objects stay that this server doesn't run, and the frames that none of its objects
-- has, is to get or is to give up.
pub record StaysApart (inc : ℕ) (r later : Record) : Type 0 where
  pub objects : (n : ℕ) (o : Object) → find (is_object n) r.objects ≡ Some o → is_hosted inc o.link ≡ false
      → (p : Object) × (find (is_object n) later.objects ≡ Some p) × KeepsObject o p
  pub frames : (f : ℕ) (frame : Frame) → nth r.frames f ≡ Some frame
      → is_of_server inc r.objects (who frame.ui.state) ≡ false → (g : Frame) × (nth later.frames f ≡ Some g)
      × KeepsFrame frame g

-- Whatever comes on the link of a server, true or forged, stays apart from what isn't that server's.
abbrev pub MessagesStayApart : Type 0
MessagesStayApart = (r : Record) (link : ServerLink) (m : Message) (t : Took) → Steady r
    → on_message r link m ≡ Ok t → StaysApart link.inc r t.rec
