-- What a container does with a message, and with the end of a server.
use Rattle.std.specs.Prelude.{◌+◌, ◌==◌, ◌&&◌, ◌||◌, ◌++◌, ℕ, Bool, true, false, not, nat_lt, List, [], ◌∷◌, map}
use Rattle.std.specs.Prelude.{Option, Some, None, is_some, Result, Ok, Err, if◌then◌else◌}
use Rattle.message_values.specs.Found.{find, put, nth, set_nth}
use Rattle.message_values.specs.Operations.{op_of}
use Rattle.message_values.specs.declared.message.Message.{Message}
use Rattle.message_values.specs.declared.message.Said.{Said}
use Rattle.message_values.specs.declared.message.Said.TheVariants.{Call, Reply, Write, Ask}
use Rattle.message_values.specs.declared.operation.Operation.{Operation}
use Rattle.message_values.specs.declared.operation.Operation.TheVariants.{InitNew, Load, InPlace, UiActivate}
use Rattle.message_values.specs.declared.operation.Operation.TheVariants.{UiDeactivate, InPlaceDeactivate, OpenWindow}
use Rattle.message_values.specs.declared.operation.Operation.TheVariants.{Edit, Save, HandsOff, SaveCompleted}
use Rattle.message_values.specs.declared.operation.Operation.TheVariants.{SaveDropped, Close}
use Rattle.message_values.specs.declared.answer.Answer.{Answer}
use Rattle.message_values.specs.declared.answer.Answer.TheVariants as told
use Rattle.message_values.specs.declared.refusal.Refusal.{Refusal}
use Rattle.object_state.specs.Both as both
use Rattle.object_state.specs.Persists.{may_write}
use Rattle.object_state.specs.declared.operations.CloseOption.{CloseOption}
use Rattle.object_state.specs.declared.operations.CloseOption.TheVariants.{SaveIfDirty, NoSave}
use Rattle.tree_streams.specs.Limits.{is_within}
use Rattle.object_state.specs.declared.both_states.States.{States}
use Rattle.object_state.specs.declared.faults.StateFault.{StateFault}
use Rattle.tree_streams.specs.declared.stored.Stored.{Stored}
use Rattle.object_state.specs.declared.grant_states.GrantState.{GrantState}
use Rattle.object_state.specs.declared.grant_states.GrantState.TheVariants.{Held}
use Rattle.object_state.specs.Grants as grant
use Rattle.container_model.specs.declared.record.Link.{Link}
use Rattle.container_model.specs.declared.server_link.ServerLink.{ServerLink}
use Rattle.container_model.specs.declared.record.Object.{Object}
use Rattle.container_model.specs.declared.record.Frame.{Frame}
use Rattle.container_model.specs.declared.fault.ContainerFault.{ContainerFault}
use Rattle.container_model.specs.declared.fault.ContainerFault.TheVariants.{NoSuch, WrongLink, Stale, BadAnswer}
use Rattle.container_model.specs.Record.{Record, Took, counts_none, quiet_answer, acts, call, sends, is_linked}
use Rattle.container_model.specs.Record.{is_alive, unless, with_frame}
use Rattle.container_model.specs.declared.grants.Tells.{Tells}
use Rattle.container_model.specs.declared.grants.Tells.TheVariants.{Gets, GivesUp}
use Rattle.container_model.specs.Grants.{Regranted, Requested, free_grants, moved, regranted, request}
use Rattle.container_model.specs.Saves.{settle, settle_actions, kept, kept_in}
use Rattle.container_model.specs.HandOffs.{hand_off, hand_off_in, is_answered, unasked}

-- A link after an answer, the content that is the object's work content from now on, if any, why the object refused,
-- and what is told of the frame's grant.
pub record Replied : Type 0 where
  pub link : Option Link
  pub taken : Option Stored
  pub refused : Option Refusal
  pub grant : Option Tells

-- the link of an operation that was done: its states by the tables, its grant from 1 on and one higher after each save
abbrev pub next_s : Operation → ℕ → ℕ
next_s (InitNew class) s = 1
next_s (Load class content) s = 1
next_s (SaveCompleted k storage) s = s + 1
next_s (SaveDropped k) s = s + 1
next_s op s = s

abbrev pub done_link : Link → ℕ → Result States StateFault → Result Replied ContainerFault
done_link l s (Err fault) = Err BadAnswer
done_link l s (Ok v) =
    Ok (record {
      link = Some (record l { pending = None; states = v; s = s });
      taken = None;
      refused = None;
      grant = None;
    })

abbrev pub done : Link → Operation → Result Replied ContainerFault
done l op = done_link l (next_s op l.s) (both.step l.states (op_of op))

abbrev pub saved_link : Stored → Result Replied ContainerFault → Result Replied ContainerFault
saved_link content (Err fault) = Err fault
saved_link content (Ok replied) =
    Ok
    (record replied {
      link = elim replied.link [
        | None ↦ None
        | Some l ↦
            Some (record l { saved = Some content })
      ];
    })

-- the object is passive again
abbrev pub lost : Refusal → Result Replied ContainerFault
lost why = Ok (record { link = None; taken = None; refused = Some why; grant = None })

-- the refusal is noted, and all else stays
abbrev pub noted : Link → Refusal → Result Replied ContainerFault
noted l why = Ok (record { link = Some (record l { pending = None }); taken = None; refused = Some why; grant = None })

-- the object is passive again, with the content that it was closed with, if any
abbrev pub closed_with : Option Stored → Result States StateFault → Result Replied ContainerFault
closed_with content (Err fault) = Err BadAnswer
closed_with content (Ok v) = Ok (record { link = None; taken = content; refused = None; grant = None })

abbrev pub closed : Link → CloseOption → Option Stored → Result Replied ContainerFault
closed l option content = closed_with content (both.step l.states (op_of (Close option)))

-- the object has its frame, or has given it up
abbrev pub granted_link : Tells → Result Replied ContainerFault → Result Replied ContainerFault
granted_link told (Err fault) = Err fault
granted_link told (Ok replied) = Ok (record replied { grant = Some told })

-- What an answer makes of a link whose pending operation it answers.
abbrev pub replied : Link → Operation → Answer → Result Replied ContainerFault
replied l (InitNew class) told.Done = done l (InitNew class)
replied l (InitNew class) (told.Refused why) = lost why
replied l (Load class content) told.Done = done l (Load class content)
replied l (Load class content) (told.Refused why) = lost why
replied l InPlace told.Done = done l InPlace
replied l (UiActivate g) (told.Tools menus border) =
    granted_link (Gets g (record { menus = menus; border = border })) (done l (UiActivate g))
replied l UiDeactivate told.Done = granted_link (GivesUp l.act) (done l UiDeactivate)
replied l InPlaceDeactivate told.Done = done l InPlaceDeactivate
replied l OpenWindow told.Done = done l OpenWindow
replied l (Edit bytes) told.Done = done l (Edit bytes)
replied l (Edit bytes) (told.Refused why) = noted l why
replied l (Save k) (told.Content content) = saved_link content (done l (Save k))
replied l HandsOff told.Done = done l HandsOff
replied l (SaveCompleted k storage) told.Done = done l (SaveCompleted k storage)
replied l (SaveDropped k) told.Done = done l (SaveDropped k)
replied l (Close SaveIfDirty) (told.Content content) = closed l SaveIfDirty (Some content)
replied l (Close NoSave) told.Done = closed l NoSave None
replied l op answer = Err BadAnswer

-- an answer whose content is past what may be stored fits no call
abbrev pub is_fit : Answer → Bool
is_fit told.Done = true
is_fit (told.Refused why) = true
is_fit (told.Content content) = is_within content
is_fit (told.Tools menus border) = true

abbrev pub replied_fitting : Link → Operation → Answer → Result Replied ContainerFault
replied_fitting l op answer = if is_fit answer then replied l op answer else Err BadAnswer

-- the first operation that waits is sent
pub record Sent : Type 0 where
  pub link : Link
  pub sent : List Message

abbrev pub next_at : Link → List Operation → Sent
next_at l [] = record { link = l; sent = [] }
next_at l (op ∷ ops) = record {
  link = record l { last = l.last + 1; pending = Some op; waiting = ops };
  sent = call l (l.last + 1) op ∷ [];
}

abbrev pub next_link : Option Link → Option Link
next_link None = None
next_link (Some l) = Some (next_at l l.waiting).link

abbrev pub next_sent : Option Link → List Message
next_sent None = []
next_sent (Some l) = (next_at l l.waiting).sent

-- the record after an object's link was replied to: what waits is sent, then its frame's grant moves, then saves go on
abbrev pub replied_object : Object → Replied → Object
replied_object o replied = record o { work = kept_in o.work replied.taken; link = next_link replied.link }

abbrev pub replied_record : Record → ℕ → ℕ → Object → Replied → Record
replied_record r inc act o replied = record r { objects = put (is_linked inc act) (replied_object o replied) r.objects }

-- and the frame may pass to whoever waits for it
abbrev pub replied_grant : Record → ℕ → ℕ → Object → Replied → Regranted
replied_grant r inc act o replied = regranted (replied_record r inc act o replied) o.frame replied.grant

-- and a content may be the last that its frame's save under another name waits for
abbrev pub replied_saving : Record → ℕ → ℕ → Object → Replied → Requested
replied_saving r inc act o replied =
    if is_answered o.link replied.link then hand_off_in (replied_grant r inc act o replied).rec o.frame
    else unasked (replied_grant r inc act o replied).rec

abbrev pub reply_made : Record → ℕ → ℕ → Object → Replied → Took
reply_made r inc act o replied = record {
  rec = settle (replied_saving r inc act o replied).rec;
  answer = record quiet_answer {
    taken = is_some replied.taken;
    refused = replied.refused;
    no_tools = (replied_grant r inc act o replied).no_tools;
    actions = sends (next_sent replied.link ++ (replied_grant r inc act o replied).sent
        ++ (replied_saving r inc act o replied).sent) ++ settle_actions (replied_saving r inc act o replied).rec;
  };
  counted = [];
}

abbrev pub reply_taken : Record → ℕ → ℕ → Object → Result Replied ContainerFault → Result Took ContainerFault
reply_taken r inc act o (Err fault) = Err fault
reply_taken r inc act o (Ok replied) = Ok (reply_made r inc act o replied)

-- the answer to call n, which is to be the pending one
abbrev pub reply_pending : Link → ℕ → Answer → Option Operation → Result Replied ContainerFault
reply_pending l n answer None = Err Stale
reply_pending l n answer (Some op) = if n == l.last then replied_fitting l op answer else Err Stale

abbrev pub reply_link : ℕ → Answer → Option Link → Result Replied ContainerFault
reply_link n answer None = Err Stale
reply_link n answer (Some l) = reply_pending l n answer l.pending

abbrev pub reply_found : Record → ℕ → ℕ → ℕ → Answer → Option Object → Result Took ContainerFault
reply_found r inc act n answer None = Err Stale
reply_found r inc act n answer (Some o) = reply_taken r inc act o (reply_link n answer o.link)

-- a reply of a server that isn't reaped, to the object that has this activation
abbrev pub on_reply : Record → ℕ → ℕ → ℕ → Answer → Result Took ContainerFault
on_reply r inc act n answer = if is_alive r inc then reply_found r inc act n answer
    (find (is_linked inc act) r.objects) else Err Stale

-- a save is pending or waits
abbrev pub is_save : Operation → Bool
is_save (Save k) = true
is_save op = false

abbrev pub has_save : List Operation → Bool
has_save [] = false
has_save (op ∷ ops) = is_save op || has_save ops

abbrev pub is_save_pending : Option Operation → Bool
is_save_pending None = false
is_save_pending (Some op) = is_save op

abbrev pub awaits_save : Link → Bool
awaits_save l = is_save_pending l.pending || has_save l.waiting

-- A write is taken under the storage grant that the record holds open: of its number, for reading and writing, while no
-- save is asked, and later than each that was taken before.
abbrev pub is_open_to : Link → ℕ → ℕ → Bool
is_open_to l s w = (l.s == s) && may_write l.states.persist.state && not (awaits_save l) && nat_lt l.w w

abbrev pub written_object : Object → Link → ℕ → Stored → Object
written_object o l w content = record o { work = content; link = Some (record l { w = w }) }

abbrev pub write_made : Record → ℕ → ℕ → Object → Link → ℕ → Stored → Took
write_made r inc act o l w content =
    counts_none (record r { objects = put (is_linked inc act) (written_object o l w content) r.objects })
    (record quiet_answer { taken = true })

abbrev pub write_link : Record → ℕ → ℕ → ℕ → ℕ → Stored → Object → Option Link → Result Took ContainerFault
write_link r inc act s w content o None = Err Stale
write_link r inc act s w content o (Some l) =
    if is_open_to l s w then (if is_within content then Ok (write_made r inc act o l w content) else Err BadAnswer)
    else Err Stale

abbrev pub write_found : Record → ℕ → ℕ → ℕ → ℕ → Stored → Option Object → Result Took ContainerFault
write_found r inc act s w content None = Err Stale
write_found r inc act s w content (Some o) = write_link r inc act s w content o o.link

-- a write of a server that isn't reaped, to the object that has this activation
abbrev pub on_write : Record → ℕ → ℕ → ℕ → ℕ → Stored → Result Took ContainerFault
on_write r inc act s w content = if is_alive r inc then write_found r inc act s w content
    (find (is_linked inc act) r.objects) else Err Stale

-- An object that holds its frame, under this grant, asks to be relieved of it: it is to give the frame up, and nobody
-- waits.
abbrev pub is_held_by : ℕ → ℕ → GrantState → Bool
is_held_by act g (Held holder tools) = holder.act == act && holder.g == g
is_held_by act g state = false

abbrev pub relieved : Record → Object → ℕ → ℕ → Frame → Requested
relieved r o act g frame =
    request (with_frame r o.frame (moved frame (grant.Ask (record { object = o.number; act = act; g = g }))))
    o.number UiDeactivate

abbrev pub ask_framed : Record → Object → ℕ → ℕ → Option Frame → Result Took ContainerFault
ask_framed r o act g None = Err Stale
ask_framed r o act g (Some frame) =
    if is_held_by act g frame.ui.state
    then Ok (counts_none (relieved r o act g frame).rec (acts (sends (relieved r o act g frame).sent)))
    else Err Stale

abbrev pub ask_found : Record → ℕ → ℕ → Option Object → Result Took ContainerFault
ask_found r act g None = Err Stale
ask_found r act g (Some o) = ask_framed r o act g (nth r.frames o.frame)

-- of a server that isn't reaped, from the object that has this activation
abbrev pub on_ask : Record → ℕ → ℕ → ℕ → Result Took ContainerFault
on_ask r inc act g = if is_alive r inc then ask_found r act g (find (is_linked inc act) r.objects) else Err Stale

-- what a server says: a call is the container's
abbrev pub said_to : Record → Said → Result Took ContainerFault
said_to r (Call inc act n op) = Err WrongLink
said_to r (Reply inc act n answer) = on_reply r inc act n answer
said_to r (Write inc act s w content) = on_write r inc act s w content
said_to r (Ask inc act g) = on_ask r inc act g

-- whether a server of this incarnation may say it: a call is never a server's
abbrev pub is_said_by : ℕ → Said → Bool
is_said_by link (Call inc act n op) = false
is_said_by link (Reply inc act n answer) = inc == link
is_said_by link (Write inc act s w content) = inc == link
is_said_by link (Ask inc act g) = inc == link

-- a message is of the server whose link it is on, by session and incarnation
abbrev pub is_on : ServerLink → Message → Bool
is_on link m = (m.session == link.session) && is_said_by link.inc m.said

-- A message on the link of a server. One of another session than the container's changes nothing, whatever it says.
abbrev pub on_message : Record → ServerLink → Message → Result Took ContainerFault
on_message r link m = unless (not (is_on link m)) WrongLink
    (unless (not (link.session == r.session)) Stale (said_to r m.said))

-- The end of a server: its objects are passive, each with the content that it answered in the present save, if any.
-- Then their frames are freed, and granted to whoever waits on. Then saves go on.
abbrev pub reaped_object : ℕ → Object → Option Link → Object
reaped_object inc o None = o
reaped_object inc o (Some l) = if l.inc == inc then record o { work = kept o; link = None } else o

abbrev pub reaped : Record → ℕ → Record
reaped r inc = record r {
  objects = map (λ o. reaped_object inc o o.link) r.objects;
  servers = set_nth r.servers inc true;
}

abbrev pub reaped_grants : Record → ℕ → Requested
reaped_grants r inc = free_grants inc r.objects (reaped r inc)

abbrev pub reaped_saving : Record → ℕ → Requested
reaped_saving r inc = hand_off (reaped_grants r inc).rec

abbrev pub reap_made : Record → ℕ → Took
reap_made r inc = counts_none (settle (reaped_saving r inc).rec)
    (acts (sends ((reaped_grants r inc).sent ++ (reaped_saving r inc).sent)
    ++ settle_actions (reaped_saving r inc).rec))

abbrev pub on_reap : Record → ℕ → Result Took ContainerFault
on_reap r inc = if is_alive r inc then Ok (reap_made r inc) else Err NoSuch
