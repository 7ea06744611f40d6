-- Laws above a container's steps on messages, and on the end of a server.
use Rattle.std.specs.Prelude.{◌≡◌, ◌≢◌, ◌⊎◌, ℕ, Bool, true, false, Option, Some, None, is_some, Ok, Err, slice_get}
use Rattle.message_values.specs.Found.{find, nth, put}
use Rattle.message_values.specs.declared.message.Message.{Message}
use Rattle.message_values.specs.declared.message.Said.{Said}
use Rattle.message_values.specs.declared.message.Said.TheVariants.{Call, Reply, Write, Ask}
use Rattle.message_values.specs.declared.answer.Answer.{Answer}
use Rattle.message_values.specs.declared.answer.Answer.TheVariants.{Done}
use Rattle.message_values.specs.declared.operation.Operation.TheVariants.{HandsOff, UiActivate, UiDeactivate}
use Rattle.object_state.specs.declared.grant_states.Claim.{Claim}
use Rattle.object_state.specs.Grants.{waiting, who}
use Rattle.object_state.specs.GrantLaws.{IsRevoking}
use Rattle.tree_streams.specs.Limits.{is_within}
use Rattle.tree_streams.specs.declared.stored.Stored.{Stored}
use Rattle.container_model.specs.declared.record.Link.{Link}
use Rattle.container_model.specs.declared.server_link.ServerLink.{ServerLink}
use Rattle.container_model.specs.declared.record.Object.{Object}
use Rattle.container_model.specs.declared.record.Frame.{Frame}
use Rattle.container_model.specs.declared.record.Phase.TheVariants.{Saving}
use Rattle.container_model.specs.declared.fault.ContainerFault.TheVariants.{Stale, WrongLink}
use Rattle.container_model.specs.Grants.{is_hosted}
use Rattle.container_model.specs.Record.{Record, Took, asked_link, is_alive, is_linked, is_object}
use Rattle.container_model.specs.Saves.{kept}
use Rattle.container_model.specs.Messages.{is_fit, is_held_by, is_on, is_open_to, on_message, on_reap}
use Rattle.container_queues.specs.Steady.{Steady}

-- the number of the call that an object is to answer, if it is to answer one
abbrev pub pending_in : Option Link → Option ℕ
pending_in None = None
pending_in (Some l) = elim l.pending [ None ↦ None | Some op ↦ Some l.last ]

abbrev pub pending_number : Option Object → Option ℕ
pending_number None = None
pending_number (Some o) = pending_in o.link

-- which server it says that it is from or for, and whether an object has its activation
abbrev pub server_of : Said → ℕ
server_of (Call inc act n op) = inc
server_of (Reply inc act n answer) = inc
server_of (Write inc act s w content) = inc
server_of (Ask inc act g) = inc

abbrev pub is_about : Said → Object → Bool
is_about (Call inc act n op) o = is_linked inc act o
is_about (Reply inc act n answer) o = is_linked inc act o
is_about (Write inc act s w content) o = is_linked inc act o
is_about (Ask inc act g) o = is_linked inc act o

-- whether an object takes this write: under the storage grant that is held open, later than each before
abbrev pub is_open_in : ℕ → ℕ → Option Link → Bool
is_open_in s w None = false
is_open_in s w (Some l) = is_open_to l s w

abbrev pub takes_write : ℕ → ℕ → Option Object → Bool
takes_write s w None = false
takes_write s w (Some o) = is_open_in s w o.link

-- whether an object holds its frame by this activation, under this grant
abbrev pub is_held_in : ℕ → ℕ → Option Frame → Bool
is_held_in act g None = false
is_held_in act g (Some frame) = is_held_by act g frame.ui.state

abbrev pub takes_ask : Record → ℕ → ℕ → Option Object → Bool
takes_ask r act g None = false
takes_ask r act g (Some o) = is_held_in act g (nth r.frames o.frame)

-- A message that is expected, on the link of its server, which isn't reaped: a reply to the pending call of the object
-- that has this activation, or a write under the grant that this object holds open; its content may be stored; or it
-- asks to be relieved of its frame, which it holds.
abbrev pub IsSaidAsExpected : Record → ℕ → Said → Type 0
IsSaidAsExpected r link (Reply inc act n answer) = (inc ≡ link) × (is_alive r inc ≡ true)
    × (pending_number (find (is_linked inc act) r.objects) ≡ Some n) × (is_fit answer ≡ true)
IsSaidAsExpected r link (Write inc act s w content) = (inc ≡ link) × (is_alive r inc ≡ true)
    × (takes_write s w (find (is_linked inc act) r.objects) ≡ true) × (is_within content ≡ true)
IsSaidAsExpected r link (Call inc act n op) = ⊥
IsSaidAsExpected r link (Ask inc act g) = (inc ≡ link) × (is_alive r inc ≡ true)
    × (takes_ask r act g (find (is_linked inc act) r.objects) ≡ true)

-- and it is of its link's session, which is the container's
pub record IsExpected (r : Record) (link : ServerLink) (m : Message) : Type 0 where
  pub session : m.session ≡ link.session
  pub present : link.session ≡ r.session
  pub said : IsSaidAsExpected r link.inc m.said

-- only the reply to a pending call, a write under the grant held open, or whoever holds a frame moves a record
abbrev pub OnlyExpectedMessages : Type 0
OnlyExpectedMessages = (r : Record) (link : ServerLink) (m : Message) (t : Took) → on_message r link m ≡ Ok t
    → IsExpected r link m

-- a reply to another call than the pending one is stale, in whichever session
abbrev pub OthersAreStale : Type 0
OthersAreStale = (r : Record) (session inc act n : ℕ) (answer : Answer)
    → pending_number (find (is_linked inc act) r.objects) ≢ Some n
    → on_message r (record { session = session; inc = inc })
    (record { session = session; said = Reply inc act n answer }) ≡ Err Stale

-- a write under a grant that isn't held open, or that isn't later than each before, is stale
abbrev pub OtherWritesAreStale : Type 0
OtherWritesAreStale = (r : Record) (session inc act s w : ℕ) (content : Stored)
    → takes_write s w (find (is_linked inc act) r.objects) ≡ false
    → on_message r (record { session = session; inc = inc })
    (record { session = session; said = Write inc act s w content }) ≡ Err Stale

-- whoever doesn't hold its frame, by this activation and under this grant, isn't relieved of it
abbrev pub OtherAsksAreStale : Type 0
OtherAsksAreStale = (r : Record) (session inc act g : ℕ) → takes_ask r act g (find (is_linked inc act) r.objects)
    ≡ false → on_message r (record { session = session; inc = inc })
    (record { session = session; said = Ask inc act g }) ≡ Err Stale

-- a write that is taken becomes the work content of the object that has this activation, and changes nothing else of it
-- but the number of its last write
abbrev pub WritesAreKept : Type 0
WritesAreKept = (r : Record) (link : ServerLink) (session inc act s w : ℕ) (content : Stored) (t : Took)
    → on_message r link (record { session = session; said = Write inc act s w content }) ≡ Ok t
    → (o : Object) × (l : Link) × (find (is_linked inc act) r.objects ≡ Some o) × (o.link ≡ Some l)
    × (t.rec ≡ record r {
      objects = put (is_linked inc act)
          (record o { work = content; link = Some (record l { w = w }) }) r.objects;
    })

-- a message of another server than its link's is refused: of another incarnation, or of another session
abbrev pub OtherServersAreRefused : Type 0
OtherServersAreRefused = (r : Record) (link : ServerLink) (m : Message) → (m.session ≢ link.session)
    ⊎ (server_of m.said ≢ link.inc) → on_message r link m ≡ Err WrongLink

-- on the link of a server of another session than the container's, whatever this server says is stale
abbrev pub EarlierSessionsAreStale : Type 0
EarlierSessionsAreStale = (r : Record) (link : ServerLink) (m : Message) → is_on link m ≡ true
    → link.session ≢ r.session → on_message r link m ≡ Err Stale

-- an object that waited for its frame is told of its grant
pub record IsGranted (r : Record) (o later : Object) : Type 0 where
  pub frame : Frame
  pub claim : Claim
  pub inside : nth r.frames o.frame ≡ Some frame
  pub waited : waiting frame.ui.state ≡ Some claim
  pub named : claim.object ≡ o.number
  pub told : later ≡ record o { link = asked_link (UiActivate claim.g) o.link }

abbrev pub StaysOrIsGranted : Record → Object → Object → Type 0
StaysOrIsGranted r o later = (later ≡ o) ⊎ IsGranted r o later

-- an object whose frame is saved under another name is asked for its storage, whether it was told of a grant before or
-- not
pub record IsHandedOff (r : Record) (o told later : Object) : Type 0 where
  pub frame : Frame
  pub inside : nth r.frames o.frame ≡ Some frame
  pub saving : frame.phase ≡ Saving
  pub named : is_some frame.asked ≡ true
  pub asked : later ≡ record told { link = asked_link HandsOff told.link }

abbrev pub StaysOrIsAsked : Record → Object → Object → Type 0
StaysOrIsAsked r o later = (told : Object) × StaysOrIsGranted r o told × ((later ≡ told) ⊎ IsHandedOff r o told later)

-- a message leaves the objects as they are that don't have its activation, but for one that waited for its frame (that
-- whoever waits for a frame stands in it, steadiness says), and those of a frame that hands off
abbrev pub MessagesKeepOthers : Type 0
MessagesKeepOthers = (r : Record) (link : ServerLink) (m : Message) (t : Took) → Steady r
    → on_message r link m ≡ Ok t → (i : ℕ) (o : Object) → slice_get r.objects i ≡ Some o → is_about m.said o ≡ false
    → (later : Object) × (slice_get t.rec.objects i ≡ Some later) × StaysOrIsAsked r o later

-- the end of a server leaves the objects of other servers as they are, but for those that waited for their frames, and
-- those of frames that hand off
abbrev pub ReapsKeepOthers : Type 0
ReapsKeepOthers = (r : Record) (inc : ℕ) (t : Took) → Steady r → on_reap r inc ≡ Ok t → (i : ℕ) (o : Object)
    → slice_get r.objects i ≡ Some o → is_hosted inc o.link ≡ false
    → (later : Object) × (slice_get t.rec.objects i ≡ Some later) × StaysOrIsAsked r o later

-- the objects of a server that has ended are passive, with the content that they answered in the present save, if any
abbrev pub ReapsEndTheirs : Type 0
ReapsEndTheirs = (r : Record) (inc : ℕ) (t : Took) → Steady r → on_reap r inc ≡ Ok t → (i : ℕ) (o : Object)
    → slice_get r.objects i ≡ Some o → is_hosted inc o.link ≡ true → slice_get t.rec.objects i
    ≡ Some (record o { work = kept o; link = None })

-- A frame is given up by its holder's own answer alone, once it was told to: no other message changes who has the frame
-- or is to get it.
pub record GivesUp (r : Record) (said : Said) (frame : Frame) (holder : Claim) : Type 0 where
  pub revoking : IsRevoking frame.ui.state
  pub inc : ℕ
  pub n : ℕ
  pub answered : said ≡ Reply inc holder.act n Done
  pub object : Object
  pub link : Link
  pub found : find (is_object holder.object) r.objects ≡ Some object
  pub linked : object.link ≡ Some link
  pub pending : link.pending ≡ Some UiDeactivate

abbrev pub FreedByHolders : Type 0
FreedByHolders = (r : Record) (link : ServerLink) (m : Message) (t : Took) (f : ℕ) (frame : Frame) (holder : Claim)
    → Steady r → on_message r link m ≡ Ok t → nth r.frames f ≡ Some frame → who frame.ui.state ≡ Some holder
    → ((later : Frame) × (nth t.rec.frames f ≡ Some later) × (who later.ui.state ≡ Some holder))
    ⊎ GivesUp r m.said frame holder
