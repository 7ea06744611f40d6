-- How saves go on, and what they count.
use Rattle.std.specs.Prelude.{◌+◌, ◌==◌, ◌&&◌, ℕ, Bool, true, false, not, List, [], ◌∷◌, ◌++◌, map, Option, Some, None}
use Rattle.std.specs.Prelude.{Result, Ok, Err, if◌then◌else◌, length, nat_le}
use Rattle.message_values.specs.Found.{nth, set_nth}
use Rattle.message_values.specs.declared.operation.Operation.{Operation}
use Rattle.message_values.specs.declared.operation.Operation.TheVariants.{SaveCompleted, SaveDropped}
use Rattle.object_state.specs.declared.persist_states.PersistState.{PersistState}
use Rattle.object_state.specs.declared.persist_states.PersistState.TheVariants as state
use Rattle.tree_streams.specs.declared.stored.Stored.{Stored}
use Rattle.cfb_entries.specs.Tree as tree
use Rattle.ole_model.specs.declared.object.DocObject.{DocObject}
use Rattle.ole_model.specs.Documents.{Doc}
use Rattle.ole_model.specs.DocOf.{is_object}
use Rattle.ole_model.specs.DocTree.{doc_tree}
use Rattle.ole_model.specs.Layouts.{MOST_OBJECTS}
use Rattle.cfb_file.specs.Refusals.{writable}
use Rattle.cfb_file.specs.declared.fault.WriteFault.{WriteFault}
use Rattle.container_model.specs.declared.record.Link.{Link}
use Rattle.container_model.specs.declared.record.Object.{Object}
use Rattle.container_model.specs.declared.record.Frame.{Frame}
use Rattle.container_model.specs.declared.record.Phase.{Phase}
use Rattle.container_model.specs.declared.record.Phase.TheVariants.{Idle, Saving, HandingOff, Committing, InDoubt}
use Rattle.container_model.specs.declared.answer.Action.{Action}
use Rattle.container_model.specs.declared.answer.Action.TheVariants.{Commit}
use Rattle.container_model.specs.declared.answer.Done.{Done}
use Rattle.container_model.specs.declared.answer.FrameDocument.{FrameDocument}
use Rattle.container_model.specs.declared.answer.Part.{Part}
use Rattle.container_model.specs.declared.fault.ContainerFault.{ContainerFault}
use Rattle.container_model.specs.declared.fault.ContainerFault.TheVariants.{NoSuch, WrongState, Full}
use Rattle.container_model.specs.Record.{Record, Took, acts, counts_none, is_doubtful, quiet_answer, sends}
use Rattle.container_model.specs.Record.{asked_object, asked_all, with_frame}

-- An object is waited for until it has answered its content in the present save, or is passive.
abbrev pub is_awaited_link : Option Link → Bool
is_awaited_link None = false
is_awaited_link (Some l) = elim l.saved [ None ↦ true | Some content ↦ false ]

abbrev pub awaits : ℕ → List Object → Bool
awaits f [] = false
awaits f (o ∷ os) = if o.frame == f then (if is_awaited_link o.link then true else awaits f os) else awaits f os

-- and where a frame hands off, until it has given its storage away, or is passive
abbrev pub is_away : PersistState → Bool
is_away state.HandsOff = true
is_away s = false

abbrev pub is_keeping_link : Option Link → Bool
is_keeping_link None = false
is_keeping_link (Some l) = not (is_away l.states.persist.state)

abbrev pub keeps : ℕ → List Object → Bool
keeps f [] = false
keeps f (o ∷ os) = if o.frame == f then (if is_keeping_link o.link then true else keeps f os) else keeps f os

-- a frame that is saving under its name goes on to its commit once each content is there, one that hands off once each
-- storage was given away
abbrev pub is_ready_at : Phase → Option (List ℕ) → Bool → Bool → Bool
is_ready_at Saving None waits keeping = not waits
is_ready_at HandingOff asked waits keeping = not keeping
is_ready_at phase asked waits keeping = false

abbrev pub is_ready : ℕ → List Object → Frame → Bool
is_ready f os frame = is_ready_at frame.phase frame.asked (awaits f os) (keeps f os)

abbrev pub settled_frame : ℕ → List Object → Frame → Frame
settled_frame f os frame = if is_ready f os frame then record frame { phase = Committing } else frame

abbrev pub settled_action : ℕ → List Object → Frame → List Action
settled_action f os frame = if is_ready f os frame then Commit f ∷ [] else []

-- all frames, the first of them of number f
abbrev pub settled_frames : ℕ → List Object → List Frame → List Frame
settled_frames f os [] = []
settled_frames f os (frame ∷ frames) = settled_frame f os frame ∷ settled_frames (f + 1) os frames

abbrev pub settled_actions : ℕ → List Object → List Frame → List Action
settled_actions f os [] = []
settled_actions f os (frame ∷ frames) = settled_action f os frame ++ settled_actions (f + 1) os frames

-- after objects changed, saves go on, by rising frame
abbrev pub settle : Record → Record
settle r = record r { frames = settled_frames 1 r.objects r.frames }

abbrev pub settle_actions : Record → List Action
settle_actions r = settled_actions 1 r.objects r.frames

-- The content that a save counts: that answered in this save, or the work content of a passive object.
abbrev pub kept_in : Stored → Option Stored → Stored
kept_in work None = work
kept_in work (Some content) = content

abbrev pub kept_by : Stored → Option Link → Stored
kept_by work None = work
kept_by work (Some l) = kept_in work l.saved

abbrev pub kept : Object → Stored
kept o = kept_by o.work o.link

-- the objects of a frame in order, each with the content that is counted
abbrev pub part_of : Object → Part
part_of o = record { object = o.number; class = o.class; user_type = o.user_type; area = o.area; content = kept o }

abbrev pub parts_in : ℕ → List Object → List Part
parts_in f [] = []
parts_in f (o ∷ os) = if o.frame == f then part_of o ∷ parts_in f os else parts_in f os

-- what the save of number k counts of an object
abbrev pub done_entry : ℕ → Part → Done
done_entry k part = record { object = part.object; k = k; content = part.content }

-- what a document holds of it
abbrev pub held_part : Part → DocObject
held_part p = record { class = p.class; user_type = p.user_type; area = p.area; stored = p.content }

abbrev pub held_parts : List Part → List DocObject
held_parts parts = map held_part parts

-- the session that the present save raises it to, or the one that was
abbrev pub session_after : ℕ → Option ℕ → ℕ
session_after session None = session
session_after session (Some raised) = raised

-- a frame's document, of the frame's session or of the one that its save raises it to
abbrev pub frame_document : Frame → List Part → FrameDocument
frame_document frame parts = record { session = session_after frame.session frame.raised; parts = parts }

-- the document that its file holds
abbrev pub document : FrameDocument → Doc
document d = record { session = d.session; objects = held_parts d.parts }

abbrev pub document_tree : FrameDocument → tree.Tree
document_tree d = doc_tree (document d)

-- what a document takes: no more objects than it may have, each of them within its limits
abbrev pub are_objects : List DocObject → Bool
are_objects [] = true
are_objects (o ∷ os) = is_object o && are_objects os

abbrev pub is_document : List DocObject → Bool
is_document objects = nat_le (length objects) MOST_OBJECTS && are_objects objects

-- a document that fits into a file
abbrev pub fitting_in : FrameDocument → Result (Unit {0}) WriteFault → Result FrameDocument ContainerFault
fitting_in d (Ok told) = Ok d
fitting_in d (Err fault) = Err Full

abbrev pub fitting : FrameDocument → Result FrameDocument ContainerFault
fitting d = if is_document (held_parts d.parts) then fitting_in d (writable (document_tree d)) else Err Full

-- The document whose file is to be committed, in a frame whose commit is asked or in doubt.
abbrev pub has_image : Phase → Bool
has_image Committing = true
has_image InDoubt = true
has_image phase = false

abbrev pub image_at : Record → ℕ → Option Frame → Result FrameDocument ContainerFault
image_at r f None = Err NoSuch
image_at r f (Some frame) = if has_image frame.phase then fitting (frame_document frame (parts_in f r.objects))
    else Err WrongState

abbrev pub image : Record → ℕ → Result FrameDocument ContainerFault
image r f = image_at r f (nth r.frames f)

-- A commit that is done: the contents are work contents, the asked name is the name, the raised session is the frame's
-- and the container's. Each object that isn't passive is told that the save is counted, with a storage where it gave
-- its own away.
abbrev pub name_after : List ℕ → Option (List ℕ) → List ℕ
name_after name None = name
name_after name (Some asked) = asked

abbrev pub is_some_name : Option (List ℕ) → Bool
is_some_name None = false
is_some_name (Some asked) = true

abbrev pub committed_frame : Frame → Frame
committed_frame frame = record frame {
  name = name_after frame.name frame.asked;
  asked = None;
  stored = true;
  session = session_after frame.session frame.raised;
  raised = None;
  phase = Idle;
}

abbrev pub cleared : Option Link → Option Link
cleared None = None
cleared (Some l) = Some (record l { saved = None })

abbrev pub counted_object : ℕ → Object → Object
counted_object f o = if o.frame == f then record o { work = kept o; link = cleared o.link } else o

abbrev pub completion : Frame → Operation
completion frame = SaveCompleted frame.k (is_some_name frame.asked)

abbrev pub completed : ℕ → Frame → Object → Object
completed f frame o = asked_object f (completion frame) (counted_object f o)

-- the container's session once the commit of a frame is counted
abbrev pub counted_session : ℕ → Option Frame → ℕ
counted_session session None = session
counted_session session (Some frame) = session_after session frame.raised

abbrev pub session_counted : Record → ℕ → ℕ
session_counted r f = counted_session r.session (nth r.frames f)

abbrev pub commit_made : Record → ℕ → Frame → Took
commit_made r f frame = record {
  rec = record r {
    session = session_after r.session frame.raised;
    frames = set_nth r.frames f (committed_frame frame);
    objects = map (completed f frame) r.objects;
  };
  answer = acts (sends (asked_all f (completion frame) r.objects));
  counted = map (done_entry frame.k) (parts_in f r.objects);
}

abbrev pub is_committing : Phase → Bool
is_committing Committing = true
is_committing phase = false

abbrev pub commit_fitting : Record → ℕ → Frame → Result FrameDocument ContainerFault → Result Took ContainerFault
commit_fitting r f frame (Err fault) = Err fault
commit_fitting r f frame (Ok d) = Ok (commit_made r f frame)

abbrev pub commit_at : Record → ℕ → Option Frame → Result Took ContainerFault
commit_at r f None = Err NoSuch
commit_at r f (Some frame) = if is_committing frame.phase then commit_fitting r f frame (image r f) else Err WrongState

abbrev pub commit_done : Record → ℕ → Result Took ContainerFault
commit_done r f = commit_at r f (nth r.frames f)

-- A commit that failed: it isn't known whether the file is the new one, until that is resolved.
abbrev pub doubted_frame : Frame → Frame
doubted_frame frame = record frame { phase = InDoubt }

abbrev pub commit_doubted : Record → ℕ → Frame → Took
commit_doubted r f frame = counts_none (with_frame r f (doubted_frame frame)) quiet_answer

abbrev pub failed_at : Record → ℕ → Option Frame → Result Took ContainerFault
failed_at r f None = Err NoSuch
failed_at r f (Some frame) = if is_committing frame.phase then Ok (commit_doubted r f frame) else Err WrongState

abbrev pub commit_failed : Record → ℕ → Result Took ContainerFault
commit_failed r f = failed_at r f (nth r.frames f)

-- A commit in doubt is resolved. Kept, it is done. Lost, its save is dropped: the work contents, the name and the
-- session stay, and each object that isn't passive is told so.
abbrev pub dropped_frame : Frame → Frame
dropped_frame frame = record frame { asked = None; raised = None; phase = Idle }

abbrev pub forgotten_object : ℕ → Object → Object
forgotten_object f o = if o.frame == f then record o { link = cleared o.link } else o

abbrev pub dropped_object : ℕ → Frame → Object → Object
dropped_object f frame o = asked_object f (SaveDropped frame.k) (forgotten_object f o)

abbrev pub save_dropped : Record → ℕ → Frame → Took
save_dropped r f frame = record {
  rec = record r {
    frames = set_nth r.frames f (dropped_frame frame);
    objects = map (dropped_object f frame) r.objects;
  };
  answer = acts (sends (asked_all f (SaveDropped frame.k) r.objects));
  counted = [];
}

abbrev pub resolved_as : Record → ℕ → Frame → Bool → Result Took ContainerFault
resolved_as r f frame true = commit_fitting r f frame (image r f)
resolved_as r f frame false = Ok (save_dropped r f frame)

abbrev pub resolved_at : Record → ℕ → Bool → Option Frame → Result Took ContainerFault
resolved_at r f is_kept None = Err NoSuch
resolved_at r f is_kept (Some frame) = if is_doubtful frame.phase then resolved_as r f frame is_kept else Err WrongState

abbrev pub resolve : Record → ℕ → Bool → Result Took ContainerFault
resolve r f is_kept = resolved_at r f is_kept (nth r.frames f)

-- what a commit of the frame counts: the contents of its document, under the number of its save
abbrev pub counted_at : Record → ℕ → Option Frame → List Done
counted_at r f None = []
counted_at r f (Some frame) = map (done_entry frame.k) (parts_in f r.objects)

abbrev pub counted_of : Record → ℕ → List Done
counted_of r f = counted_at r f (nth r.frames f)
