-- Steps of the container that leave files and what was counted alone.
use Rattle.std.proofs.Common.{◌≡◌, ◌≢◌, ◌==◌, ℕ, ◌+◌, Bool, true, false, List, map, Option, Some, None, Result, Ok, Err}
use Rattle.std.proofs.Common.{refl, sym, ap, ◌∙◌, subst, if◌then◌else◌}
use Rattle.message_values.specs.Found.{find, nth, put}
use Rattle.message_values.specs.declared.message.Message.{Message}
use Rattle.message_values.specs.declared.message.Said.TheVariants.{Call, Reply, Write}
use Rattle.message_values.specs.declared.message.Said.TheVariants as message
use Rattle.message_values.specs.declared.operation.Operation.TheVariants.{Save, SaveDropped, UiDeactivate}
use Rattle.message_values.specs.declared.answer.Answer.{Answer}
use Rattle.tree_streams.specs.Limits.{is_within}
use Rattle.object_state.specs.Grants.{Ask}
use Rattle.object_state.specs.Grants as grant
use Rattle.object_state.specs.declared.verbs.Step.{Step}
use Rattle.tree_streams.specs.declared.stored.Stored.{Stored}
use Rattle.container_model.specs.declared.record.Link.{Link}
use Rattle.container_model.specs.declared.record.Object.{Object}
use Rattle.container_model.specs.declared.record.Frame.{Frame}
use Rattle.container_model.specs.declared.fault.ContainerFault.{ContainerFault}
use Rattle.container_model.specs.declared.record.Phase.TheVariants.{Idle}
use Rattle.container_model.specs.declared.fault.ContainerFault.TheVariants.{WrongLink, Stale, BadAnswer, NoSuch}
use Rattle.container_model.specs.Record.{Record, Took, counts_none, acts, sends, with_frame, is_object, is_linked}
use Rattle.container_model.specs.Record.{is_alive, asked_object}
use Rattle.container_model.specs.Saves.{commit_doubted, doubted_frame, dropped_frame, dropped_object, forgotten_object}
use Rattle.container_model.specs.Saves.{save_dropped, cleared, kept}
use Rattle.container_model.specs.Grants.{grant_of, moved, request}
use Rattle.container_model.specs.Verbs.{claim_of, gives_up, left, stepped_link, leaving_made, holder_of, revoked_at}
use Rattle.container_model.specs.Verbs.{claimed, revoked, steps_now, taking_made}
use Rattle.container_model.specs.Messages.{Replied, reply_link, reply_found, reply_taken, reply_made, replied_object}
use Rattle.container_model.specs.Messages.{replied_record, replied_grant, replied_saving, on_reply, is_held_by}
use Rattle.container_model.specs.Messages.{relieved, ask_framed, ask_found, on_ask, is_open_to, written_object}
use Rattle.container_model.specs.Messages.{write_made, write_link, write_found, on_write, on_message, on_reap, reaped}
use Rattle.container_model.specs.Messages.{reaped_object, reaped_grants, reaped_saving, reap_made}
use Rattle.container_model.specs.Commands.{save_made, saving, saving_frame, saving_on}
use Rattle.container_model.specs.HandOffs.{is_answered}
use Rattle.world_files.specs.Files.{id_of, AreSameFrames}
use Rattle.world_facts.proofs.Lookups.{map_put, map_map_same}
use Rattle.world_files.proofs.Moving.{IsMoved, unmoved, moved_after, moved_settled, frame_moved, all_handed_moved}
use Rattle.world_files.proofs.Moving.{handed_moved, handed_moved_if, id_asked, ids_linked, object_moved, request_moved}
use Rattle.world_files.proofs.Moving.{regranted_moved, freed_moved}
use Rattle.world_files.proofs.Frames.{again_same, doubted_same, dropped_same, same_frames, saving_same, set_same}
use Rattle.message_values.specs.declared.message.Said.{Said}
use Rattle.container_model.specs.declared.server_link.ServerLink.{ServerLink}
use Rattle.container_model.proofs.SaidOn.{is_said_on, said_on}

pub record IsQuiet (r : Record) (t : Took) : Type 0 where
  pub frames : AreSameFrames r.frames t.rec.frames
  pub ids : map id_of t.rec.objects ≡ map id_of r.objects
  pub last : t.rec.last_object ≡ r.last_object
  pub frame : t.answer.frame ≡ None

-- a step that moves grants and asks objects
moved_quiet : (r : Record) (t : Took) → IsMoved r t.rec → t.answer.frame ≡ None → IsQuiet r t
moved_quiet r t h e = record { frames = h.frames; ids = h.ids; last = h.last; frame = e }

-- a save of a frame that asks for no name; one under another name is one of a frame that had asked for it already
saving_quiet : (r w : Record) (f : ℕ) (frame : Frame) (raised : Option ℕ) (name : Option (List ℕ))
    → AreSameFrames w.frames (saving r f frame raised name).frames → w.objects ≡ r.objects
    → w.last_object ≡ r.last_object → IsQuiet w (save_made r f frame raised name)
saving_quiet r w f frame raised name same os last =
    let v = saving r f frame raised name in
    let u = (saving_on r f frame raised name).rec in
    let begun : IsMoved w v = record {
      frames = same;
      ids = map_map_same id_of (asked_object f (Save (frame.k + 1))) r.objects (id_asked f (Save (frame.k + 1)))
          ∙ ap (map id_of) (sym os);
      last = sym last;
    } in
    moved_quiet w (save_made r f frame raised name) (moved_settled w u (moved_after w v u begun (handed_moved v f)))
    refl

pub save_quiet : (r : Record) (f : ℕ) (frame : Frame) (raised : Option ℕ) → nth r.frames f ≡ Some frame
    → IsQuiet r (save_made r f frame raised None)
save_quiet r f frame raised at = saving_quiet r r f frame raised None
    (set_same r.frames f frame (saving_frame raised None frame) at (saving_same frame raised None (λ name h. cc)))
    refl refl

-- the record in which a frame asked for a name
abbrev pub named_frame : List ℕ → Frame → Frame
named_frame name frame = record frame { asked = Some name }

abbrev pub named : Record → ℕ → Frame → List ℕ → Record
named r f frame name = with_frame r f (named_frame name frame)

pub renaming_quiet : (r : Record) (f : ℕ) (frame : Frame) (raised : Option ℕ) (name : List ℕ)
    → nth r.frames f ≡ Some frame → IsQuiet (named r f frame name) (save_made r f frame raised (Some name))
renaming_quiet r f frame raised name at = saving_quiet r (named r f frame name) f frame raised (Some name)
    (again_same r.frames f frame (named_frame name frame) (saving_frame raised (Some name) frame) at
    (saving_same (named_frame name frame) raised (Some name) (λ n h. h))) refl refl

-- a commit that failed, and a save that is dropped
pub doubt_quiet : (r : Record) (f : ℕ) (frame : Frame) → nth r.frames f ≡ Some frame → frame.phase ≢ Idle
    → IsQuiet r (commit_doubted r f frame)
doubt_quiet r f frame at busy =
    record {
      frames = set_same r.frames f frame (doubted_frame frame) at (doubted_same frame busy);
      ids = refl;
      last = refl;
      frame = refl;
    }

id_forgotten : (f : ℕ) (o : Object) → id_of (forgotten_object f o) ≡ id_of o
id_forgotten f o = elim (o.frame == f) as (λ b. id_of (if b then record o { link = cleared o.link } else o)
    ≡ id_of o) [ true ↦ refl | false ↦ refl ]

pub drop_quiet : (r : Record) (f : ℕ) (frame : Frame) → nth r.frames f ≡ Some frame → IsQuiet r (save_dropped r f frame)
drop_quiet r f frame at = record {
  frames = set_same r.frames f frame (dropped_frame frame) at (dropped_same frame);
  ids = map_map_same id_of (dropped_object f frame) r.objects
      (λ o. id_asked f (SaveDropped frame.k) (forgotten_object f o) ∙ id_forgotten f o);
  last = refl;
  frame = refl;
}

if_ok : {A : Type 0} (b : Bool) (next : Result A ContainerFault) (fault : ContainerFault) (t : A)
    → (if b then next else Err fault) ≡ Ok t → next ≡ Ok t
if_ok true next fault t e = e
if_ok false next fault t e = cc

ok_took : (x y : Took) → ◌≡◌ {A = Result Took ContainerFault} (Ok x) (Ok y) → x ≡ y
ok_took x y e = cc

-- steps of an object
left_moved : (r : Record) (frame : Frame) (o : Object) (l : Link) (ss : List Step)
    → nth r.frames o.frame ≡ Some frame → IsMoved r (left r frame o l ss)
left_moved r frame o l ss at =
    let e = Ask (claim_of o l (grant_of frame.ui.state)) in
    elim (gives_up ss) as (λ b. IsMoved r (if b then with_frame r o.frame (moved frame e) else r)) [
      | true ↦
          frame_moved r o.frame frame e at
      | false ↦ unmoved r
    ]

pub leaving_quiet : (r : Record) (n : ℕ) (frame : Frame) (o : Object) (l : Link) (ss : List Step)
    → find (is_object n) r.objects ≡ Some o → nth r.frames o.frame ≡ Some frame
    → IsQuiet r (leaving_made r frame o l ss)
leaving_quiet r n frame o l ss f at = moved_quiet r (leaving_made r frame o l ss)
    (object_moved r (left r frame o l ss) n o (record o { link = Some (stepped_link 0 l ss).link })
    (left_moved r frame o l ss at) f refl) refl

revoked_moved : (r : Record) (frame : Frame) (o : Object) (l : Link) (holder : Option ℕ)
    → nth r.frames o.frame ≡ Some frame → IsMoved r (revoked_at (claimed r frame o l) holder).rec
revoked_moved r frame o l holder at =
    let c = claimed r frame o l in
    let m = frame_moved r o.frame frame (Ask (claim_of o l (r.last_g + 1))) at in
    let h : IsMoved r c = record { frames = m.frames; ids = m.ids; last = m.last } in
    elim holder as (λ x. IsMoved r (revoked_at c x).rec) [
      | None ↦ h
      | Some k ↦ moved_after r c (request c k UiDeactivate).rec h (request_moved c k UiDeactivate)
    ]

pub taking_quiet : (r : Record) (n : ℕ) (frame : Frame) (o : Object) (l : Link) (ss : List Step)
    → find (is_object n) r.objects ≡ Some o → nth r.frames o.frame ≡ Some frame
    → IsQuiet r (taking_made r frame o l ss)
taking_quiet r n frame o l ss f at = moved_quiet r (taking_made r frame o l ss)
    (object_moved r (revoked r frame o l).rec n o
    (record o { link = Some (stepped_link (r.last_g + 1) l (steps_now frame.ui.state ss)).link })
    (revoked_moved r frame o l (holder_of frame.ui.state) at) f refl) refl

-- frames, and what objects are called, stay as they were
pub same_quiet : (r : Record) (t : Took) → t.rec.frames ≡ r.frames → map id_of t.rec.objects ≡ map id_of r.objects
    → t.rec.last_object ≡ r.last_object → t.answer.frame ≡ None → IsQuiet r t
same_quiet r t frames ids last frame =
    record {
      frames = subst (AreSameFrames r.frames) (sym frames) (same_frames r.frames);
      ids = ids;
      last = last;
      frame = frame;
    }

-- one object has another link
pub linked_quiet : (r : Record) (t : Took) (n : ℕ) (o : Object) (link : Option Link)
    → find (is_object n) r.objects ≡ Some o → t.rec.frames ≡ r.frames
    → t.rec.objects ≡ put (is_object o.number) (record o { link = link }) r.objects
    → t.rec.last_object ≡ r.last_object → t.answer.frame ≡ None → IsQuiet r t
linked_quiet r t n o link f frames objects last frame =
    same_quiet r t frames (ap (map id_of) objects ∙ ids_linked r n o (record o { link = link }) f refl) last frame

-- a reply
reply_quiet_taken : (r : Record) (inc act : ℕ) (x : Object) (p : Result Replied ContainerFault) (t : Took)
    → find (is_linked inc act) r.objects ≡ Some x → reply_taken r inc act x p ≡ Ok t → IsQuiet r t
reply_quiet_taken r inc act x (Err fault) t f e = cc
reply_quiet_taken r inc act x (Ok p) t f e =
    let u = replied_record r inc act x p in
    let v = (replied_grant r inc act x p).rec in
    let w = (replied_saving r inc act x p).rec in
    let ids : map id_of u.objects ≡ map id_of r.objects = map_put id_of (is_linked inc act) (replied_object x p) x
    r.objects f refl in
    let h : IsMoved r u = record { frames = same_frames r.frames; ids = ids; last = refl } in
    subst (IsQuiet r) (ok_took (reply_made r inc act x p) t e)
    (moved_quiet r (reply_made r inc act x p)
    (moved_settled r w (moved_after r v w (moved_after r u v h (regranted_moved u x.frame p.grant))
    (handed_moved_if (is_answered x.link p.link) v x.frame))) refl)

reply_quiet_found : (r : Record) (inc act n : ℕ) (answer : Answer) (x : Option Object) (t : Took)
    → find (is_linked inc act) r.objects ≡ x → reply_found r inc act n answer x ≡ Ok t → IsQuiet r t
reply_quiet_found r inc act n answer None t f e = cc
reply_quiet_found r inc act n answer (Some x) t f e = reply_quiet_taken r inc act x (reply_link n answer x.link) t f e

-- a write
write_quiet_linked : (r : Record) (inc act s w : ℕ) (content : Stored) (x : Object) (l : Option Link) (t : Took)
    → find (is_linked inc act) r.objects ≡ Some x → write_link r inc act s w content x l ≡ Ok t → IsQuiet r t
write_quiet_linked r inc act s w content x None t f e = cc
write_quiet_linked r inc act s w content x (Some l) t f e =
    let a = if_ok (is_open_to l s w) (if is_within content then Ok (write_made r inc act x l w content)
    else Err BadAnswer) Stale t e in
    let b : Ok (write_made r inc act x l w content) ≡ Ok t =
    if_ok (is_within content) (Ok (write_made r inc act x l w content)) BadAnswer t a in
    let at : write_made r inc act x l w content ≡ t = cc in
    subst (IsQuiet r) at
    (record {
      frames = same_frames r.frames;
      ids = map_put id_of (is_linked inc act)
          (written_object x l w content) x r.objects f refl;
      last = refl;
      frame = refl;
    })

write_quiet_found : (r : Record) (inc act s w : ℕ) (content : Stored) (x : Option Object) (t : Took)
    → find (is_linked inc act) r.objects ≡ x → write_found r inc act s w content x ≡ Ok t → IsQuiet r t
write_quiet_found r inc act s w content None t f e = cc
write_quiet_found r inc act s w content (Some x) t f e = write_quiet_linked r inc act s w content x x.link t f e

-- an object asks to be relieved of its frame
ask_quiet_framed : (r : Record) (o : Object) (act g : ℕ) (frame : Option Frame) (t : Took)
    → nth r.frames o.frame ≡ frame → ask_framed r o act g frame ≡ Ok t → IsQuiet r t
ask_quiet_framed r o act g None t at e = cc
ask_quiet_framed r o act g (Some frame) t at e =
    let event = grant.Ask (record { object = o.number; act = act; g = g }) in
    let v = with_frame r o.frame (moved frame event) in
    let u = relieved r o act g frame in
    let made = counts_none u.rec (acts (sends u.sent)) in
    let a = if_ok (is_held_by act g frame.ui.state) (Ok made) Stale t e in
    subst (IsQuiet r) (ok_took made t a)
    (moved_quiet r made (moved_after r v u.rec (frame_moved r o.frame frame event at)
    (request_moved v o.number UiDeactivate)) refl)

ask_quiet_found : (r : Record) (act g : ℕ) (o : Option Object) (t : Took) → ask_found r act g o ≡ Ok t → IsQuiet r t
ask_quiet_found r act g None t e = cc
ask_quiet_found r act g (Some o) t e = ask_quiet_framed r o act g (nth r.frames o.frame) t refl e

said_quiet : (r : Record) (link : ℕ) (m : Said) (t : Took) → said_on r link m ≡ Ok t → IsQuiet r t
said_quiet r link (Call inc act n op) t e = cc
said_quiet r link (Reply inc act n answer) t e =
    let a = if_ok (inc == link) (on_reply r inc act n answer) WrongLink t e in
    let b = if_ok (is_alive r inc) (reply_found r inc act n answer (find (is_linked inc act) r.objects)) Stale t a in
    reply_quiet_found r inc act n answer (find (is_linked inc act) r.objects) t refl b
said_quiet r link (Write inc act s w content) t e =
    let a = if_ok (inc == link) (on_write r inc act s w content) WrongLink t e in
    let b = if_ok (is_alive r inc) (write_found r inc act s w content (find (is_linked inc act) r.objects)) Stale t a in
    write_quiet_found r inc act s w content (find (is_linked inc act) r.objects) t refl b
said_quiet r link (message.Ask inc act g) t e =
    let a = if_ok (inc == link) (on_ask r inc act g) WrongLink t e in
    let b = if_ok (is_alive r inc) (ask_found r act g (find (is_linked inc act) r.objects)) Stale t a in
    ask_quiet_found r act g (find (is_linked inc act) r.objects) t b

pub message_quiet : (r : Record) (link : ServerLink) (m : Message) (t : Took) → on_message r link m ≡ Ok t → IsQuiet r t
message_quiet r link m t e = said_quiet r link.inc m.said t (is_said_on r link m t e).said

-- a reap
id_reaped : (inc : ℕ) (o : Object) (l : Option Link) → id_of (reaped_object inc o l) ≡ id_of o
id_reaped inc o None = refl
id_reaped inc o (Some l) =
    elim (l.inc == inc) as (λ b. id_of (if b then record o { work = kept o; link = None } else o)
    ≡ id_of o) [ true ↦ refl | false ↦ refl ]

pub reap_quiet : (r : Record) (inc : ℕ) (t : Took) → on_reap r inc ≡ Ok t → IsQuiet r t
reap_quiet r inc t e =
    let u = reaped r inc in
    let v = (reaped_grants r inc).rec in
    let w = (reaped_saving r inc).rec in
    let made = reap_made r inc in
    let a : Ok made ≡ Ok t = if_ok (is_alive r inc) (Ok made) NoSuch t e in
    let h : IsMoved r u = record {
      frames = same_frames r.frames;
      ids = map_map_same id_of (λ o. reaped_object inc o o.link) r.objects (λ o. id_reaped inc o o.link);
      last = refl;
    } in
    subst (IsQuiet r) (ok_took made t a)
    (moved_quiet r made
    (moved_settled r w (moved_after r v w (moved_after r u v h (freed_moved inc r.objects u))
    (all_handed_moved v))) refl)
