-- The report of a world, as bytes: a line for the container's session, for each frame, for each object, for each
-- activation that has a frame's grant, and for each content that was counted.
use Rattle.std.specs.Prelude.{◌+◌, ◌++◌, ℕ, List, [], ◌∷◌, map, Option, Some, None, if◌then◌else◌, codes}
use Rattle.std.specs.List.{flat_map}
use Rattle.std.specs.Fmt.{decimal}
use Rattle.std.specs.Str.{bytes_eq}
use Rattle.object_state.specs.declared.object_states.ObjectState.{ObjectState}
use Rattle.object_state.specs.declared.object_states.ObjectState.TheVariants.{Passive, Loaded, Running, InPlaceActive}
use Rattle.object_state.specs.declared.object_states.ObjectState.TheVariants.{UiActive, Open}
use Rattle.object_state.specs.declared.persist_states.PersistState.{PersistState}
use Rattle.object_state.specs.declared.persist_states.PersistState.TheVariants.{Unset, Normal, NoScribble, HandsOff}
use Rattle.object_state.specs.declared.grant_states.GrantState.{GrantState}
use Rattle.object_state.specs.declared.grant_states.GrantState.TheVariants.{Free, Granting, Held, Revoking}
use Rattle.object_core.specs.Kinds.{Note, Table, Drawing, class_of}
use Rattle.tree_streams.specs.declared.streams.NamedStream.{NamedStream}
use Rattle.container_model.specs.Record.{is_doubtful}
use Rattle.container_model.specs.Commands.{user_type}
use Rattle.container_model.specs.declared.record.Frame.{Frame}
use Rattle.container_model.specs.declared.record.Object.{Object}
use Rattle.container_model.specs.declared.record.Link.{Link}
use Rattle.container_model.specs.declared.answer.Done.{Done}
use Rattle.world_model.specs.declared.logs.ServerDone.{ServerDone}
use Rattle.text_words.specs.Spelled.{line, hex, name_text, class_text}
use Rattle.server_model.specs.Server.{Activation, holds_of}
use Rattle.server_model.specs.declared.hold.Hold.{Hold}
use Rattle.world_model.specs.declared.life.Life.{Life}
use Rattle.world_model.specs.declared.life.Life.TheVariants as life
use Rattle.world_model.specs.World.{Instance, World}

-- The session, 0 before one is counted.
unfoldable pub session_line : ℕ → List ℕ
session_line s = line (codes "session" ∷ decimal s ∷ [])

-- Frames, by their numbers: who has the frame or is to get it, the number of the last save, and whether there is a
-- file.
abbrev pub grant_text : GrantState → List ℕ
grant_text Free = codes "Free"
grant_text (Granting claim) = codes "Granting " ++ decimal claim.object
grant_text (Held holder tools) = codes "Held " ++ decimal holder.object
grant_text (Revoking holder next) = codes "Revoking " ++ decimal holder.object

abbrev pub file_word : Frame → List ℕ
file_word frame = if is_doubtful frame.phase then codes "doubt" else if frame.stored then codes "stored"
    else codes "none"

unfoldable pub frame_line : ℕ → Frame → List ℕ
frame_line f frame = line (codes "frame" ∷ decimal f ∷ name_text frame.name ∷ grant_text frame.ui.state ∷ codes "k"
    ∷ decimal frame.k ∷ file_word frame ∷ [])

-- the first of them has number f
abbrev pub frame_lines : ℕ → List Frame → List ℕ
frame_lines f [] = []
frame_lines f (frame ∷ frames) = frame_line f frame ++ frame_lines (f + 1) frames

-- Objects: the kind, or the class id where it is none of the three; the states as far as calls were answered, the
-- activation and its storage grant.
abbrev pub type_text : List ℕ → List ℕ
type_text class =
    if bytes_eq class (class_of Note) then user_type Note else if bytes_eq class (class_of Table)
    then user_type Table else if bytes_eq class (class_of Drawing) then user_type Drawing else class_text class

abbrev pub object_state_name : ObjectState → List ℕ
object_state_name Passive = codes "Passive"
object_state_name Loaded = codes "Loaded"
object_state_name Running = codes "Running"
object_state_name InPlaceActive = codes "InPlaceActive"
object_state_name UiActive = codes "UiActive"
object_state_name Open = codes "Open"

abbrev pub persist_state_name : PersistState → List ℕ
persist_state_name Unset = codes "Unset"
persist_state_name Normal = codes "Normal"
persist_state_name NoScribble = codes "NoScribble"
persist_state_name HandsOff = codes "HandsOff"

abbrev pub linked_text : Link → List ℕ
linked_text l = object_state_name l.states.object ++ 32 ∷ persist_state_name l.states.persist.state ++ codes " act "
    ++ decimal l.act ++ codes " s " ++ decimal l.s

abbrev pub state_text : Option Link → List ℕ
state_text None = codes "Passive"
state_text (Some l) = linked_text l

-- the streams of a content, parted by one space, or `-` where there are none
abbrev pub stream_text : NamedStream → List ℕ
stream_text s = name_text s.name ++ 61 ∷ hex s.bytes

abbrev pub further_text : NamedStream → List ℕ
further_text s = 32 ∷ stream_text s

abbrev pub content_text : List NamedStream → List ℕ
content_text [] = codes "-"
content_text (s ∷ ss) = stream_text s ++ flat_map further_text ss

unfoldable pub object_line : Object → List ℕ
object_line o = line (codes "object" ∷ decimal o.number ∷ codes "frame" ∷ decimal o.frame ∷ type_text o.class
    ∷ state_text o.link ∷ content_text o.work.streams ∷ [])

-- What was counted: the object and the number of the save.
unfoldable pub done_line : List ℕ → ℕ → ℕ → List ℕ
done_line side object k = line (codes "done" ∷ side ∷ decimal object ∷ decimal k ∷ [])

abbrev pub container_line : Done → List ℕ
container_line d = done_line (codes "container") d.object d.k

abbrev pub server_line : ServerDone → List ℕ
server_line d = done_line (codes "server") d.object d.k

-- Who holds a frame's menus and border: the activations of servers that run which have a grant, by server, then by
-- number.
unfoldable pub hold_line : ℕ → Hold → List ℕ
hold_line inc h = line (codes "holds" ∷ codes "server" ∷ decimal inc ∷ codes "act" ∷ decimal h.act ∷ codes "grant"
    ∷ decimal h.g ∷ [])

abbrev pub holds_while : Life → List Activation → List Hold
holds_while life.Running acts = holds_of acts
holds_while life.Ended acts = []
holds_while life.Reaped acts = []

abbrev pub held_by : Instance → List Hold
held_by i = holds_while i.life i.core.acts

-- the first of them has incarnation inc
abbrev pub hold_lines : ℕ → List (List Hold) → List ℕ
hold_lines inc [] = []
hold_lines inc (holds ∷ rest) = flat_map (hold_line inc) holds ++ hold_lines (inc + 1) rest

-- the report of a container's session, frames and objects, of who holds frames, by server, and of both logs
abbrev pub report_of : ℕ → List Frame → List Object → List (List Hold) → List Done → List ServerDone → List ℕ
report_of session frames objects holds container_done server_done =
    session_line session ++ frame_lines 1 frames ++ flat_map object_line objects ++ hold_lines 1 holds
    ++ flat_map container_line container_done ++ flat_map server_line server_done

abbrev pub report : World → List ℕ
report w = report_of w.rec.session w.rec.frames w.rec.objects (map held_by w.instances) w.container_done w.server_done
