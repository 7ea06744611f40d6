-- What a message that the container takes, and the end of a server, make of roles.
use Rattle.std.proofs.Common.{◌≡◌, ◌==◌, ℕ, Bool, true, false, List, [], ◌∷◌, Option, Some, None, refl, sym, ap, ◌∙◌}
use Rattle.std.proofs.Common.{inl, inr, subst, if◌then◌else◌}
use Rattle.std.proofs.lemmas.Bool.{eqb-true}
use Rattle.message_values.specs.Found.{find, nth, set_nth}
use Rattle.message_values.specs.declared.message.Said.{Said}
use Rattle.message_values.specs.declared.message.Said.TheVariants.{Reply}
use Rattle.message_values.specs.declared.operation.Operation.{Operation}
use Rattle.message_values.specs.declared.operation.Operation.TheVariants.{UiActivate, UiDeactivate}
use Rattle.message_values.specs.declared.answer.Answer.{Answer}
use Rattle.message_values.specs.declared.answer.Answer.TheVariants as told
use Rattle.object_state.specs.declared.grant_states.Claim.{Claim}
use Rattle.object_state.specs.declared.grant_states.Tools.{Tools}
use Rattle.object_state.specs.declared.grant_states.GrantState.TheVariants.{Granting, Revoking}
use Rattle.object_state.specs.Grants.{Event, Granted, Revoked, who}
use Rattle.container_model.specs.declared.grants.Tells.{Tells}
use Rattle.container_model.specs.declared.grants.Tells.TheVariants.{Gets, GivesUp}
use Rattle.container_model.specs.declared.record.Link.{Link}
use Rattle.container_model.specs.declared.record.Object.{Object}
use Rattle.container_model.specs.declared.record.Frame.{Frame}
use Rattle.container_model.specs.Record.{Record, Took, is_object, is_linked, with_frame}
use Rattle.container_model.specs.Saves.{settle}
use Rattle.container_model.specs.Grants.{moved, regrant, regranted, regranted_by, regranted_in, event_of, grant_of}
use Rattle.container_model.specs.Grants.{is_by, passed_to}
use Rattle.container_model.specs.HandOffs.{is_answered}
use Rattle.container_model.specs.Messages.{replied_object, replied_record, replied_grant, replied_saving}
use Rattle.container_queues.specs.Roles.{Role, Other, Getting, Holding, Giving, Waiting, Plays, waits_as, role_in}
use Rattle.container_queues.specs.Roles.{queue_of}
use Rattle.container_queues.specs.Steady.{SteadyLink, Steady}
use Rattle.container_steady.proofs.SteadyFinds.{found_by_number}
use Rattle.container_steady.proofs.SteadyRecords.{if_at}
use Rattle.world_model.specs.Safe.{Among, link_at, links_of}
use Rattle.world_facts.specs.Words.{Links}
use Rattle.world_grants.specs.Grants.{Roles, RolesMove, IsReadyFor, NoClaim, NoTools, roles_of}
use Rattle.world_grants.proofs.States.{granted, revoked, IsGetting, IsGiving}
use Rattle.world_grants.proofs.Handing.{handed_on_if}
use Rattle.world_grants.proofs.Objects.{Keeps, AreKept, all_kept, kept_further, put_kept, grants_kept, grants_frames}
use Rattle.world_grants.proofs.Objects.{Stay, kept_stay}
use Rattle.world_grants.proofs.Frames.{AllMove, none_move, one_moves, settled_move}
use Rattle.world_grants.proofs.Moving.{in_frame, linked_there, named_by, held_by, plain_move, holders_linked}
use Rattle.world_grants.proofs.Replies.{Told, tells_none, tells_gets, tells_gives, IsReply}

-- what is pending tells the role
plays_getting : (role : Role) (g : ℕ) (ops : List Operation) → Plays role (UiActivate g ∷ ops) → role ≡ Getting g
plays_getting Other g ops h = absurd h.0
plays_getting (Getting k) g ops h = ap Getting (sym h.0)
plays_getting (Holding k tools) g ops h = absurd h.0
plays_getting (Giving k) g ops h = absurd h.0
plays_getting (Waiting k) g ops h = absurd h.0

plays_giving : (role : Role) (ops : List Operation) → Plays role (UiDeactivate ∷ ops) → (g : ℕ) × (role ≡ Giving g)
plays_giving Other ops h = absurd h.0
plays_giving (Getting k) ops h = absurd h.0
plays_giving (Holding k tools) ops h = absurd h.0
plays_giving (Giving k) ops h = (k, refl)
plays_giving (Waiting k) ops h = absurd h.0

-- whose claim it is
getting_is : (c : Claim) (n g : ℕ) → role_in (Granting c) n ≡ Getting g → c.object ≡ n
getting_is c n g e = at (c.object == n) refl e
  where
    at : (b : Bool) → (c.object == n) ≡ b → (if b then Getting c.g else Other) ≡ Getting g → c.object ≡ n
    at true q k = eqb-true c.object n q
    at false q k = cc

giving_is : (c : Claim) (next : Option Claim) (n g : ℕ) → role_in (Revoking c next) n ≡ Giving g → c.object ≡ n
giving_is c next n g e = at (c.object == n) refl e
  where
    waits_not : (x : Option Claim) → waits_as n x ≡ Giving g → ⊥
    waits_not None k = cc
    waits_not (Some x) k =
        (elim (x.object == n) as (λ b. (if b then Waiting x.g else Other) ≡ Giving g
        → ⊥) [ true ↦ (λ z. cc) | false ↦ (λ z. cc) ]) k

    at : (b : Bool) → (c.object == n) ≡ b → (if b then Giving c.g else waits_as n next) ≡ Giving g → c.object ≡ n
    at true q k = eqb-true c.object n q
    at false q k = absurd (waits_not next k)

-- a linked object of a steady record
record IsPlayed (r : Record) (n : ℕ) (l : Link) : Type 0 where
  frame : Frame
  object : Object
  found : find (is_object n) r.objects ≡ Some object
  inside : nth r.frames object.frame ≡ Some frame
  role : roles_of r n ≡ role_in frame.ui.state n
  plays : Plays (role_in frame.ui.state n) (queue_of l.pending l.waiting)

number_of_found : (n : ℕ) (os : List Object) (x : Object) → find (is_object n) os ≡ Some x → x.number ≡ n
number_of_found n [] x e = cc
number_of_found n (y ∷ ys) x e = elim (y.number == n) as (λ b. (y.number == n) ≡ b
    → (if b then Some y else find (is_object n) ys) ≡ Some x → x.number ≡ n) [
      | true ↦ (λ q g. let yx : y ≡ x = cc in ap (λ (z : Object). z.number) (sym yx) ∙ eqb-true y.number n q)
      | false ↦ (λ q g. number_of_found n ys x g)
    ] refl e

played : (r : Record) (n : ℕ) (l : Link) → Steady r → links_of r.objects n ≡ Some l → IsPlayed r n l
played r n l s e =
    let x = linked_there r.objects n l e in
    let i = in_frame r n x.0 s x.1 in
    let sameo : x.0 ≡ i.object = (let z : Some x.0 ≡ Some i.object = sym x.1 ∙ i.found in cc) in
    let number : i.object.number ≡ n = number_of_found n r.objects i.object i.found in
    let held : SteadyLink r.servers r.last_act i.frame.phase i.frame.asked i.frame.k
    (role_in i.frame.ui.state i.object.number) l =
    if_at (SteadyLink r.servers r.last_act i.frame.phase i.frame.asked i.frame.k
    (role_in i.frame.ui.state i.object.number)) i.object.link l (ap (λ (z : Object). z.link) (sym sameo) ∙ x.2)
    i.linked in
    record {
      frame = i.frame;
      object = i.object;
      found = i.found;
      inside = i.inside;
      role = i.role;
      plays = subst (λ k. Plays (role_in i.frame.ui.state k) (queue_of l.pending l.waiting)) number held.plays;
    }

pub ready_for : (r : Record) → Steady r → IsReadyFor (links_of r.objects) (roles_of r)
ready_for r s = record {
  getting = λ o g l e p. (let h = played r o l s e in
      h.role ∙ plays_getting (role_in h.frame.ui.state o) g l.waiting
      (subst (λ q. Plays (role_in h.frame.ui.state o) (queue_of q l.waiting)) p h.plays));
  linked = λ o g tools e. holders_linked r o g tools s e;
}

-- a step that takes a message may say so
pub move_more : (links after : Links) (roles now : Roles) (taken : List Said) → RolesMove links after roles now []
    → RolesMove links after roles now taken
move_more links after roles now taken h = record {
  named = λ o g m e n. elim (h.named o g m e n) [ inl k ↦ inl k | inr z ↦ absurd z.answered ];
  held = λ o g tools m e n. elim (h.held o g tools m e n) [ inl k ↦ inl k | inr z ↦ absurd z.answered ];
}

-- a frame's grant moves, and whoever waits may be told of it
regrant_kept : (u : Record) (f : ℕ) (frame : Frame) (e : Event) → AreKept u.objects (regrant u f frame e).rec.objects
regrant_kept u f frame e = grants_kept (with_frame u f (moved frame e))
    (passed_to frame.ui.state (moved frame e).ui.state)

regrant_frames : (u : Record) (f : ℕ) (frame : Frame) (e : Event) → (regrant u f frame e).rec.frames
    ≡ set_nth u.frames f (moved frame e)
regrant_frames u f frame e = grants_frames (with_frame u f (moved frame e))
    (passed_to frame.ui.state (moved frame e).ui.state)

regranted_kept : (u : Record) (f : ℕ) (told : Option Tells) → AreKept u.objects (regranted u f told).rec.objects
regranted_kept u f None = all_kept u.objects
regranted_kept u f (Some told) = at (nth u.frames f)
  where
    at : (frame : Option Frame) → AreKept u.objects (regranted_in u f told frame).rec.objects
    at None = all_kept u.objects
    at (Some frame) = by_event frame (event_of frame.ui.state told)
      where
        by_event : (frame : Frame) (e : Option Event) → AreKept u.objects (regranted_by u f frame e).rec.objects
        by_event frame None = all_kept u.objects
        by_event frame (Some e) = regrant_kept u f frame e

module _ (r : Record) (s : Steady r) (inc act n : ℕ) (answer : Answer) (t : Took)
    (h : IsReply r inc act n answer t) where
  abbrev x : Object
  x = h.object

  -- the object by its number
  by_number : find (is_object x.number) r.objects ≡ Some x
  by_number = found_by_number (is_linked inc act) r.objects x s.order h.found

  at_x : links_of r.objects x.number ≡ Some h.link
  at_x = ap link_at by_number ∙ h.linked

  it : IsPlayed r x.number h.link
  it = played r x.number h.link s at_x

  inside : nth r.frames x.frame ≡ Some it.frame
  inside = ap (λ (z : Object). nth r.frames z.frame) (let z : Some x ≡ Some it.object = sym by_number ∙ it.found in
      let q : x ≡ it.object = cc in q) ∙ it.inside

  abbrev middle : Record
  middle = replied_record r inc act x h.replied

  replied_kept : AreKept r.objects middle.objects
  replied_kept = put_kept (is_linked inc act) (replied_object x h.replied) r.objects
      (λ y e. (let q : x ≡ y = (let z : Some x ≡ Some y = sym h.found ∙ e in cc) in
      subst (λ z. Keeps z (replied_object x h.replied)) q (record { number = refl; frame = refl })))

  abbrev end : Record
  end = (replied_grant r inc act x h.replied).rec

  -- and the record once its frame's save went on
  abbrev on : Record
  on = (replied_saving r inc act x h.replied).rec

  on_stays : Stay r.objects on.objects
  on_stays = kept_stay r.objects on.objects
      (kept_further r.objects end.objects on.objects
      (kept_further r.objects middle.objects end.objects replied_kept
      (regranted_kept middle x.frame h.replied.grant))
      (handed_on_if NoClaim NoTools (is_answered x.link h.replied.link) end x.frame).objects)

  -- frames that moved before the save went on, moved so after it
  on_frames : (Gone : Claim → Type 0) (New : Claim → Tools → Type 0) → AllMove Gone New r.frames end.frames
      → AllMove Gone New r.frames (settle on).frames
  on_frames Gone New k = settled_move Gone New on.objects r.frames on.frames
      ((handed_on_if Gone New (is_answered x.link h.replied.link) end x.frame).frames r.frames k)

  -- its frame's grant moves so
  event_frames : (told : Tells) → h.replied.grant ≡ Some told
      → end.frames ≡ (regranted_by middle x.frame it.frame (event_of it.frame.ui.state told)).rec.frames
  event_frames told e = ap (λ g. (regranted middle x.frame g).rec.frames) e
      ∙ ap (λ f. (regranted_in middle x.frame told f).rec.frames) inside

  frames_by : (told : Tells) (event : Event) → h.replied.grant ≡ Some told
      → event_of it.frame.ui.state told ≡ Some event → end.frames ≡ set_nth r.frames x.frame (moved it.frame event)
  frames_by told event e is = event_frames told e
      ∙ (ap (λ v. (regranted_by middle x.frame it.frame v).rec.frames) is
      ∙ regrant_frames middle x.frame it.frame event)

  made_is : (settle on ≡ t.rec)
  made_is = ap (λ (v : Took). v.rec) h.made

  abbrev Moved : Record → Type 0
  Moved u = RolesMove (links_of r.objects) (links_of u.objects) (roles_of r) (roles_of u) (Reply inc act n answer ∷ [])

  -- the message is the answer to what is pending
  answered_by : (told : Answer) → answer ≡ told → Among (Reply inc act n answer ∷ [])
      (Reply h.link.inc h.link.act h.link.last told)
  answered_by told e = inl (ap (λ i. Reply i h.link.act h.link.last told) h.inc_is
      ∙ (ap (λ a. Reply inc a h.link.last told) h.act_is
      ∙ (ap (λ k. Reply inc act k told) (sym h.number) ∙ ap (Reply inc act n) (sym e))))

  quiet_moves : h.replied.grant ≡ None → Moved (settle on)
  quiet_moves e = move_more (links_of r.objects) (links_of on.objects) (roles_of r) (roles_of (settle on))
      (Reply inc act n answer ∷ []) (plain_move r (settle on) s on_stays
      (on_frames NoClaim NoTools
      (subst (λ g. AllMove NoClaim NoTools r.frames (regranted middle x.frame g).rec.frames) (sym e)
      (none_move NoClaim NoTools r.frames))))

  gets_moves : (g : ℕ) (tools : Tools) → h.op ≡ UiActivate g → answer ≡ told.Tools tools.menus tools.border
      → h.replied.grant ≡ Some (Gets g tools) → Moved (settle on)
  gets_moves g tools eo ea e =
      let state = it.frame.ui.state in
      let New : Claim → Tools → Type 0 = IsGetting state g tools in
      let getting : role_in state x.number ≡ Getting g = sym it.role ∙ (ready_for r s).getting x.number g h.link
      at_x (h.pending ∙ ap Some eo) in
      let moves : AllMove NoClaim (IsGetting state g tools) r.frames (settle on).frames =
      on_frames NoClaim (IsGetting state g tools)
      (subst (AllMove NoClaim (IsGetting state g tools) r.frames)
      (sym (frames_by (Gets g tools) (Granted g tools) e refl))
      (one_moves NoClaim (IsGetting state g tools) r.frames x.frame it.frame (moved it.frame (Granted g tools))
      inside (granted state g tools))) in
      record {
        named = λ o k m em nm. elim (named_by r (settle on) NoClaim (IsGetting state g tools) s on_stays moves o k m
            em nm) [ inl y ↦ inl y | inr z ↦ absurd z.3 ];
        held = λ o k ts m em hd. elim (held_by r (settle on) NoClaim (IsGetting state g tools) s on_stays moves o k
            ts m em hd) [
              | inl y ↦ inl y
              | inr z ↦ (let new = z.3 in
                  let mine : z.0.object ≡ x.number = getting_is z.0 x.number g
                  (ap (λ q. role_in q x.number) (sym new.0) ∙ getting) in
                  let gk : g ≡ k = sym new.1 ∙ z.2 in
                  inr (record {
                    link = h.link;
                    linked = ap (links_of r.objects) (sym z.1 ∙ mine) ∙ at_x;
                    pending = h.pending ∙ (ap Some eo ∙ ap (λ q. Some (UiActivate q)) gk);
                    answered = answered_by (told.Tools ts.menus ts.border)
                        (ea ∙ ap (λ (q : Tools). told.Tools q.menus q.border) (sym new.2));
                  }))
            ];
      }

  -- an activation that doesn't have the frame leaves it to whoever has it
  given_moves : (act : ℕ) (b : Bool) → is_by act (who it.frame.ui.state) ≡ b → h.replied.grant ≡ Some (GivesUp act)
      → AllMove (IsGiving it.frame.ui.state) NoTools r.frames end.frames
  given_moves act true by e =
      let state = it.frame.ui.state in
      subst (AllMove (IsGiving state) NoTools r.frames)
      (sym (frames_by (GivesUp act) (Revoked (grant_of state)) e
      (ap (λ b. if b then Some (Revoked (grant_of state)) else None) by)))
      (one_moves (IsGiving state) NoTools r.frames x.frame it.frame (moved it.frame (Revoked (grant_of state)))
      inside (revoked state (grant_of state)))
  given_moves act false by e =
      let state = it.frame.ui.state in
      let stays : end.frames ≡ r.frames = event_frames (GivesUp act) e
      ∙ ap
      (λ b. (regranted_by middle x.frame it.frame (if b then Some (Revoked (grant_of state))
      else None)).rec.frames) by in
      subst (AllMove (IsGiving state) NoTools r.frames) (sym stays) (none_move (IsGiving state) NoTools r.frames)

  gives_moves : (act : ℕ) → h.op ≡ UiDeactivate → answer ≡ told.Done → h.replied.grant ≡ Some (GivesUp act)
      → Moved (settle on)
  gives_moves act eo ea e =
      let state = it.frame.ui.state in
      let giving = plays_giving (role_in state x.number) h.link.waiting
      (subst (λ q. Plays (role_in state x.number) (queue_of q h.link.waiting)) (h.pending ∙ ap Some eo)
      it.plays) in
      let moves : AllMove (IsGiving state) NoTools r.frames (settle on).frames =
      on_frames (IsGiving state) NoTools (given_moves act (is_by act (who state)) refl e) in
      record {
        named = λ o k m em nm. elim (named_by r (settle on) (IsGiving state) NoTools s on_stays moves o k m em nm) [
          | inl y ↦ inl y
          | inr z ↦ (let gone = z.3 in
              let mine : z.0.object ≡ x.number = giving_is z.0 gone.0 x.number giving.0
              (ap (λ q. role_in q x.number) (sym gone.1) ∙ giving.1) in
              inr (record {
                link = h.link;
                linked = ap (links_of r.objects) (sym z.1 ∙ mine) ∙ at_x;
                pending = h.pending ∙ ap Some eo;
                answered = answered_by told.Done ea;
              }))
        ];
        held = λ o k ts m em hd. elim (held_by r (settle on) (IsGiving state) NoTools s on_stays moves o k ts m em
            hd) [ inl y ↦ inl y | inr z ↦ absurd z.3 ];
      }

  told_moves : Told h.op answer h.replied → Moved (settle on)
  told_moves (tells_none e) = quiet_moves e
  told_moves (tells_gets g tools eo ea e) = gets_moves g tools eo ea e
  told_moves (tells_gives act eo ea e) = gives_moves act eo ea e

  pub reply_moves : RolesMove (links_of r.objects) (links_of t.rec.objects) (roles_of r) (roles_of t.rec)
      (Reply inc act n answer ∷ [])
  reply_moves = subst Moved made_is (told_moves h.told)
