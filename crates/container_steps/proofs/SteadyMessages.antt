-- Messages keep a record steady.
use Rattle.std.proofs.Common.{◌≡◌, ◌⊎◌, inl, inr, ℕ, Bool, true, List, [], ◌∷◌, Option, Some, None, Result, Ok, Err}
use Rattle.std.proofs.Common.{refl, sym, ap, ◌∙◌, arith, subst, ◌==◌, if◌then◌else◌, eq-eqb}
use Rattle.std.proofs.lemmas.Bool.{eqb-true, ne_eqb}
use Rattle.std.specs.Prelude.{IfSome, IsOk, ◌&&◌}
use Rattle.message_values.specs.Found.{find, nth, put, set_nth}
use Rattle.message_values.specs.declared.operation.Operation.{Operation}
use Rattle.message_values.specs.declared.operation.Operation.TheVariants.{UiActivate, UiDeactivate}
use Rattle.message_values.specs.declared.answer.Answer.{Answer}
use Rattle.message_values.specs.declared.message.Message.{Message}
use Rattle.message_values.specs.declared.message.Said.{Said}
use Rattle.message_values.specs.declared.message.Said.TheVariants.{Call, Reply, Write, Ask}
use Rattle.tree_streams.specs.Limits.{is_within}
use Rattle.tree_streams.specs.declared.stored.Stored.{Stored}
use Rattle.object_state.specs.Frames.{Ui, after, kept}
use Rattle.object_state.specs.Grants as grant
use Rattle.object_state.specs.Grants.{Event, Granted, Revoked, passed_on, table, who}
use Rattle.object_state.specs.declared.grant_states.Claim.{Claim}
use Rattle.object_state.specs.declared.grant_states.Tools.{Tools}
use Rattle.object_state.specs.declared.grant_states.GrantState.{GrantState}
use Rattle.object_state.specs.declared.grant_states.GrantState.TheVariants as state
use Rattle.container_model.proofs.SaidOn.{is_said_on, said_on}
use Rattle.container_model.specs.declared.server_link.ServerLink.{ServerLink}
use Rattle.container_model.specs.declared.grants.Tells.{Tells}
use Rattle.container_model.specs.declared.grants.Tells.TheVariants.{Gets, GivesUp}
use Rattle.container_model.specs.declared.record.Link.{Link}
use Rattle.container_model.specs.declared.record.Object.{Object}
use Rattle.container_model.specs.declared.record.Frame.{Frame}
use Rattle.container_model.specs.declared.record.Phase.{Phase}
use Rattle.container_model.specs.declared.fault.ContainerFault.{ContainerFault}
use Rattle.container_model.specs.declared.fault.ContainerFault.TheVariants.{WrongLink, Stale, BadAnswer}
use Rattle.container_model.specs.HandOffs.{hand_off_in, is_answered, unasked}
use Rattle.container_model.specs.Grants.{Requested, event_of, grant_each, grant_of, is_by, moved, passed_to, regranted}
use Rattle.container_model.specs.Grants.{regranted_by, regranted_in, requested}
use Rattle.container_model.specs.Record.{Record, Took, asked_link, is_alive, is_link, is_linked, is_object, is_unreaped}
use Rattle.container_model.specs.Record.{with_object}
use Rattle.container_model.specs.Saves.{settle}
use Rattle.container_model.specs.Messages.{Replied, ask_found, ask_framed, is_held_by, is_open_to, next_link, on_ask}
use Rattle.container_model.specs.Messages.{on_write, relieved, replied, replied_fitting, replied_grant, replied_saving}
use Rattle.container_model.specs.Messages.{replied_object, write_found, write_link, write_made, written_object}
use Rattle.container_model.specs.Messages.{replied_record, reply_pending, reply_link, reply_taken, reply_found}
use Rattle.container_model.specs.Messages.{on_reply, on_message, is_said_by, said_to}
use Rattle.container_queues.specs.Roles.{IsClaim, Getting, Giving, Holding, Other, Role, SteadyGrant, Waiting, role_in}
use Rattle.container_queues.specs.Steady.{SteadyLink, SteadyObject, Steady}
use Rattle.container_steps.specs.Steps.{FittingAnswersTaken}
use Rattle.container_steps.proofs.SteadyAnswers.{GivesItsOwn, Keeps, OwnGiven, fit_replied, next_follows, next_stays}
use Rattle.container_steps.proofs.SteadyAnswers.{replied_keeps, replied_own}
use Rattle.container_steady.proofs.SteadyClaims.{LinkStays}
use Rattle.container_steady.proofs.SteadyFinds.{acts_differ, find-put_other, found_by_number, put_by_number}
use Rattle.container_steady.proofs.SteadyHolders.{asked_state, held_by, linked_by}
use Rattle.container_queues.proofs.SteadyLinks.{end_asked, grant_asked}
use Rattle.container_queues.proofs.SteadyLookups.{each_found}
use Rattle.container_steady.proofs.SteadyMoves.{But, SteadyBut, all_steady, gets_it, gives_it, has_it, move_but}
use Rattle.container_steady.proofs.SteadyMoves.{moved_to, parts_freed, parts_got, parts_passed, put_but, set_object}
use Rattle.container_steady.proofs.SteadyMoves.{waits_for_it}
use Rattle.container_steady.proofs.SteadyRecords.{if_told, some_and, and_some, if_at, Held, IsOut, kept_within, Follows}
use Rattle.container_steady.proofs.SteadyRecords.{TookPlace, put_steady, settle_steady}
use Rattle.container_commands.proofs.SteadyHandOffs.{hand_off_in_steady}
use Rattle.container_steps.proofs.SteadyReplies.{EndsOther, IsToldBy, Stays, fits_is_fit, fitting_taken, replied_goes}
use Rattle.container_steps.proofs.SteadyReplies.{role_after}
use Rattle.container_queues.proofs.SteadyRoles.{AtGranting, AtRevoking, getting_at, giving_at}
use Rattle.container_commands.proofs.SteadyTaking.{asked_object_steady}
use Rattle.container_steady.proofs.SteadyTells.{and_both, ok_rec}
use Rattle.container_steady.proofs.SteadyTests.{asked_follows, find_passes, found_numbered, link_asked}
use Rattle.container_commands.proofs.SteadyVerbs.{ended_grant, ended_parts}

-- an answer that is taken
module _ (r : Record) (frame : Frame) (n : ℕ) where
  abbrev role : Role
  role = role_in frame.ui.state n

  pub record AnswersSteadily (before : Option Link) (re : Replied) : Type 0 where
    pub stays : Stays r.servers r.last_act frame.phase frame.asked frame.k role re
    pub follows : Follows re.link before
    pub own : IfSome before (λ (l : Link). GivesItsOwn l re.grant)

  pending_goes : (l : Link) (number : ℕ) (answer : Answer) (p : Option Operation) (re : Replied)
      → SteadyLink r.servers r.last_act frame.phase frame.asked frame.k role l → l.pending ≡ p
      → reply_pending l number answer p ≡ Ok re → AnswersSteadily (Some l) re
  pending_goes l number answer None re h e g = cc
  pending_goes l number answer (Some op) re h e g =
      if_told (λ (z : Result Replied ContainerFault). z ≡ Ok re → AnswersSteadily (Some l) re) (number == l.last)
      (replied_fitting l op answer) (Err Stale)
      (λ t q. let f = fit_replied l op answer re q in
      record {
        stays = replied_goes r.servers r.last_act frame.phase frame.asked frame.k role l h op answer re e f.0
            f.1;
        follows = subst (Keeps l) f.1 (replied_keeps l op answer);
        own = subst (OwnGiven l) f.1 (replied_own l op answer);
      })
      (λ t q. cc) g

  pub link_goes : (number : ℕ) (answer : Answer) (link : Option Link) (re : Replied) → Held r n link frame
      → reply_link number answer link ≡ Ok re → AnswersSteadily link re
  link_goes number answer None re h g = cc
  link_goes number answer (Some l) re h g = pending_goes l number answer l.pending re h refl g

-- whoever has no activation any more has no part in the grant
out_at : (r : Record) (o : Object) (frame : Frame) → nth r.frames o.frame ≡ Some frame
    → role_in frame.ui.state o.number ≡ Other → IsOut r o
out_at r o frame at e x here = (let both = sym at ∙ here in let same : frame ≡ x = cc in
    subst (λ (z : Frame). role_in z.ui.state o.number ≡ Other) same e)

stays_or_out : (r : Record) (o : Object) (frame : Frame) (link : Option Link) → nth r.frames o.frame ≡ Some frame
    → Follows link o.link → EndsOther link (role_in frame.ui.state o.number) → LinkStays o.link (next_link link)
    ⊎ IsOut r o
stays_or_out r o frame None at f e = inr (out_at r o frame at e)
stays_or_out r o frame (Some m) at f e = inl (next_stays (Some m) o.link f m refl)

-- a link that told of the grant is there
told_stays : (o : Object) (re : Replied) (part : Role) (link : Option Link) → Follows link o.link
    → EndsOther link part → (part ≡ Other → ⊥) → LinkStays o.link (next_link link)
told_stays o re part None f e ne = absurd (ne e)
told_stays o re part (Some m) f e ne = next_stays (Some m) o.link f m refl

got_state : (s : GrantState) (c : Claim) (g : ℕ) (tools : Tools) → s ≡ state.Granting c → c.g ≡ g
    → kept s (table s (Granted g tools)) ≡ state.Held c tools
got_state s c g tools e q = rw (e, eq-eqb g c.g (sym q)) refl

freed_state : (s : GrantState) (c : Claim) (next : Option Claim) → s ≡ state.Revoking c next
    → kept s (table s (Revoked (grant_of s))) ≡ passed_on next
freed_state s c next e = rw (e, eq-eqb c.g c.g refl) refl

got_parts : (s t : GrantState) (c : Claim) (tools : Tools) (n : ℕ) → s ≡ state.Granting c → t ≡ state.Held c tools
    → c.object ≡ n → (o : Object) → But (n ∷ []) (λ (x : Object). role_in t x.number ≡ role_in s x.number) o
got_parts s t c tools n e q named o =
    rw (e, q)
    (subst (λ (m : ℕ). But (m ∷ []) (λ (x : Object). role_in (state.Held c tools) x.number
    ≡ role_in (state.Granting c) x.number) o) named (parts_got c tools o))

freed_parts : (s t : GrantState) (c : Claim) (n : ℕ) → s ≡ state.Revoking c None → t ≡ state.Free → c.object ≡ n
    → (o : Object) → But (n ∷ []) (λ (x : Object). role_in t x.number ≡ role_in s x.number) o
freed_parts s t c n e q named o =
    rw (e, q)
    (subst (λ (m : ℕ). But (m ∷ []) (λ (x : Object). role_in state.Free x.number
    ≡ role_in (state.Revoking c None) x.number) o) named (parts_freed c o))

passed_parts : (s t : GrantState) (c d : Claim) (n m : ℕ) → s ≡ state.Revoking c (Some d) → t ≡ state.Granting d
    → c.object ≡ n → d.object ≡ m → (o : Object)
    → But (n ∷ m ∷ []) (λ (x : Object). role_in t x.number ≡ role_in s x.number) o
passed_parts s t c d n m e q one two o =
    rw (e, q)
    (subst (λ (i : ℕ). But (i ∷ m ∷ []) (λ (x : Object). role_in (state.Granting d) x.number
    ≡ role_in (state.Revoking c (Some d)) x.number) o) one
    (subst (λ (i : ℕ). But (c.object ∷ i ∷ []) (λ (x : Object). role_in (state.Granting d) x.number
    ≡ role_in (state.Revoking c (Some d)) x.number) o) two (parts_passed c d o)))

-- An answer that is taken.
module _ (r : Record) (inc act : ℕ) (o : Object) (re : Replied) (frame : Frame) (s : Steady r)
    (found : find (is_linked inc act) r.objects ≡ Some o) (at : nth r.frames o.frame ≡ Some frame)
    (goes : AnswersSteadily r frame o.number o.link re) where
  was : SteadyObject r o
  was = each_found (SteadyObject r) (is_linked inc act) r.objects o s.objects found

  there : find (is_object o.number) r.objects ≡ Some o
  there = found_by_number (is_linked inc act) r.objects o s.order found

  abbrev pub x : Object
  x = replied_object o re

  pub took : TookPlace x o
  took = record { number = refl; frame = refl; link = next_follows re.link o.link goes.follows }

  within : is_within x.work ≡ true
  within = kept_within o.work re.taken was.within goes.stays.within

  unmoved : re.grant ≡ None → Steady (replied_record r inc act o re)
  unmoved e = put_steady r (is_linked inc act) o x s found took
      (stays_or_out r o frame re.link at goes.follows goes.stays.lost)
      (record {
        drawn = was.drawn;
        within = within;
        user_type = was.user_type;
        linked = and_some (Held r x.number x.link) (nth r.frames o.frame) frame at
            (subst (λ (g : Option Tells). IfSome (next_link re.link)
            (SteadyLink r.servers r.last_act frame.phase frame.asked frame.k
            (role_after g (role_in frame.ui.state o.number)))) e goes.stays.held);
      })

  -- the object takes its place under the part that it has now
  module _ (ui : Ui) (told : Tells) (tells : re.grant ≡ Some told) (ns : List ℕ)
      (part : (role_in frame.ui.state o.number) ≡ Other → ⊥)
      (now : role_in ui.state o.number ≡ role_after (Some told) (role_in frame.ui.state o.number))
      (but : SteadyBut (o.number ∷ ns) (moved_to r o.frame frame ui r.last_g)) where
    abbrev u : Record
    u = moved_to r o.frame frame ui r.last_g

    abbrev v : Record
    v = record u { objects = put (is_object o.number) x r.objects }

    moved_steady : SteadyBut ns v
    moved_steady = put_but u ns o x but there took
        (told_stays o re (role_in frame.ui.state o.number) re.link goes.follows goes.stays.lost part)
        (set_object r u o.frame frame (record frame { ui = ui }) o x at refl refl refl refl refl within refl was
        (λ q. subst (λ (z : Role). IfSome (next_link re.link)
        (SteadyLink r.servers r.last_act frame.phase frame.asked frame.k z)) (sym now)
        (subst (λ (g : Option Tells). IfSome (next_link re.link)
        (SteadyLink r.servers r.last_act frame.phase frame.asked frame.k
        (role_after g (role_in frame.ui.state o.number)))) tells goes.stays.held)))

  abbrev later : Event → List Claim → Record
  later e cs =
      (grant_each (record r {
        frames = set_nth r.frames o.frame (moved frame e);
        objects = put (is_linked inc act) x r.objects;
      }) cs).rec

  by_number : (e : Event) (cs : List Claim)
      → Steady
      (grant_each (record r {
        frames = set_nth r.frames o.frame (moved frame e);
        objects = put (is_object o.number) x r.objects;
      }) cs).rec → Steady (later e cs)
  by_number e cs h =
      subst (λ (os : List Object). Steady
      (grant_each (record r { frames = set_nth r.frames o.frame (moved frame e); objects = os }) cs).rec)
      (sym (put_by_number (is_linked inc act) x o r.objects s.order found)) h

  has_got : (g : ℕ) (tools : Tools) → re.grant ≡ Some (Gets g tools) → AtGranting frame.ui.state o.number g
      → Steady (later (Granted g tools) (passed_to frame.ui.state (after frame.ui (Granted g tools)).state))
  has_got g tools e h =
      let ui = after frame.ui (Granted g tools) in
      let to : ui.state ≡ state.Held h.claim tools = got_state frame.ui.state h.claim g tools h.is h.granted in
      let claims : SteadyGrant r o.frame (state.Granting h.claim) =
      subst (SteadyGrant r o.frame) h.is (s.grants o.frame frame at) in
      let grant : SteadyGrant r o.frame ui.state = subst (SteadyGrant r o.frame) (sym to)
      (record { apart = tt; holder = claims.holder; next = tt }) in
      let but = move_but r o.frame frame ui r.last_g (o.number ∷ []) s at (omega arith) grant
      (got_parts frame.ui.state ui.state h.claim tools o.number h.is to h.named) in
      let was_part : role_in frame.ui.state o.number ≡ Getting h.claim.g =
      ap (λ (z : GrantState). role_in z o.number) h.is ∙ gets_it h.claim o.number h.named in
      let now : role_in ui.state o.number ≡ Holding g tools = ap (λ (z : GrantState). role_in z o.number) to
      ∙ (has_it h.claim tools o.number h.named ∙ ap (λ (n : ℕ). Holding n tools) h.granted) in
      let made = all_steady _ (moved_steady ui (Gets g tools) e [] (λ q. let no = sym was_part ∙ q in cc) now but) in
      subst (λ (z : GrantState). Steady (later (Granted g tools) (passed_to z ui.state))) (sym h.is)
      (by_number (Granted g tools) [] made)

  -- whoever gives the frame up has it
  holder_gives : (given : ℕ) (h : AtRevoking frame.ui.state o.number) → re.grant ≡ Some (GivesUp given)
      → event_of frame.ui.state (GivesUp given) ≡ Some (Revoked (grant_of frame.ui.state))
  holder_gives given h told =
      let claims : SteadyGrant r o.frame (state.Revoking h.holder h.next) =
      subst (SteadyGrant r o.frame) h.is (s.grants o.frame frame at) in
      let both = sym claims.holder.found ∙ (ap (λ (n : ℕ). find (is_object n) r.objects) h.named ∙ there) in
      let same : claims.holder.object ≡ o = cc in
      let linked : o.link ≡ Some claims.holder.link = ap (λ (z : Object). z.link) (sym same) ∙ claims.holder.linked in
      let own : GivesItsOwn claims.holder.link re.grant = if_at (λ (l : Link). GivesItsOwn l re.grant) o.link
      claims.holder.link linked goes.own in
      let mine : given ≡ claims.holder.link.act = subst (GivesItsOwn claims.holder.link) told own in
      let by : is_by given (who frame.ui.state) ≡ true = ap (λ (z : GrantState). is_by given (who z)) h.is
      ∙ eq-eqb h.holder.act given (sym (mine ∙ claims.holder.act)) in
      ap (λ (b : Bool). if b then Some (Revoked (grant_of frame.ui.state)) else None) by

  has_given : (act : ℕ) (h : AtRevoking frame.ui.state o.number) (next : Option Claim) → h.next ≡ next
      → re.grant ≡ Some (GivesUp act)
      → Steady (later (Revoked (grant_of frame.ui.state))
      (passed_to frame.ui.state (after frame.ui (Revoked (grant_of frame.ui.state))).state))
  has_given act h None e told =
      let event = Revoked (grant_of frame.ui.state) in
      let ui = after frame.ui event in
      let is : frame.ui.state ≡ state.Revoking h.holder None = h.is ∙ ap (state.Revoking h.holder) e in
      let to : ui.state ≡ state.Free = freed_state frame.ui.state h.holder None is in
      let grant : SteadyGrant r o.frame ui.state = subst (SteadyGrant r o.frame) (sym to)
      (record { apart = tt; holder = tt; next = tt }) in
      let but = move_but r o.frame frame ui r.last_g (o.number ∷ []) s at (omega arith) grant
      (freed_parts frame.ui.state ui.state h.holder o.number is to h.named) in
      let was_part : role_in frame.ui.state o.number ≡ Giving h.holder.g =
      ap (λ (z : GrantState). role_in z o.number) is ∙ gives_it h.holder None o.number h.named in
      let now : role_in ui.state o.number ≡ Other = ap (λ (z : GrantState). role_in z o.number) to in
      let made = all_steady _ (moved_steady ui (GivesUp act) told [] (λ q. let no = sym was_part ∙ q in cc) now but) in
      subst (λ (z : GrantState). Steady (later event (passed_to z ui.state))) (sym is) (by_number event [] made)
  has_given act h (Some c) e told =
      let event = Revoked (grant_of frame.ui.state) in
      let ui = after frame.ui event in
      let is : frame.ui.state ≡ state.Revoking h.holder (Some c) = h.is ∙ ap (state.Revoking h.holder) e in
      let to : ui.state ≡ state.Granting c = freed_state frame.ui.state h.holder (Some c) is in
      let claims : SteadyGrant r o.frame (state.Revoking h.holder (Some c)) =
      subst (SteadyGrant r o.frame) is (s.grants o.frame frame at) in
      let grant : SteadyGrant r o.frame ui.state = subst (SteadyGrant r o.frame) (sym to)
      (record { apart = tt; holder = claims.next; next = tt }) in
      let y = claims.next.object in
      let named : c.object ≡ y.number =
      sym (eqb-true y.number c.object (find_passes (is_object c.object) r.objects y claims.next.found)) in
      let apart : o.number ≡ c.object → ⊥ = λ q. claims.apart.0 (sym (h.named ∙ q)) in
      let but = move_but r o.frame frame ui r.last_g (o.number ∷ y.number ∷ []) s at (omega arith) grant
      (passed_parts frame.ui.state ui.state h.holder c o.number y.number is to h.named named) in
      let was_part : role_in frame.ui.state o.number ≡ Giving h.holder.g =
      ap (λ (z : GrantState). role_in z o.number) is ∙ gives_it h.holder (Some c) o.number h.named in
      let now : role_in ui.state o.number ≡ Other = ap (λ (z : GrantState). role_in z o.number) to
      ∙ rw (ne_eqb c.object o.number (λ q. apart (sym q))) refl in
      let v : Record = record (moved_to r o.frame frame ui r.last_g) {
        objects =
            put (is_object o.number) x r.objects;
      } in
      let less : SteadyBut (y.number ∷ []) v = moved_steady ui (GivesUp act) told (y.number ∷ [])
      (λ q. let no = sym was_part ∙ q in cc) now but in
      let asked : Object = record y { link = asked_link (UiActivate c.g) y.link } in
      let waits : role_in frame.ui.state y.number ≡ Waiting c.g = ap (λ (z : GrantState). role_in z y.number) is
      ∙ waits_for_it h.holder c y.number named (λ q. claims.apart.0 (named ∙ sym q)) in
      let gets : role_in ui.state y.number ≡ Getting c.g = ap (λ (z : GrantState). role_in z y.number) to
      ∙ gets_it c y.number named in
      let first = found_numbered c.object r.objects y claims.next.found in
      let steady : SteadyObject v asked = asked_object_steady r v o.frame frame (record frame { ui = ui }) y
      (Waiting c.g) (Getting c.g) (UiActivate c.g) at refl claims.next.inside refl refl refl refl refl refl
      waits gets
      (grant_asked r.servers r.last_act frame.phase frame.asked frame.k c.g)
      (each_found (SteadyObject r) (is_object y.number) r.objects y s.objects first) in
      let moved_there : find (is_object y.number) v.objects ≡ Some y =
      find-put_other o.number y.number x r.objects refl (λ q. apart (q ∙ sym named)) ∙ first in
      let made : Steady (with_object v asked) = all_steady (with_object v asked)
      (put_but v [] y asked less moved_there
      (record { number = refl; frame = refl; link = asked_follows (UiActivate c.g) y.link })
      (link_asked (UiActivate c.g) y.link) steady) in
      let by_claim : find (is_object c.object) v.objects ≡ Some y =
      ap (λ (n : ℕ). find (is_object n) v.objects) named ∙ moved_there in
      let told : Steady (grant_each v (c ∷ [])).rec =
      subst (λ (z : Option Object). Steady (requested v (UiActivate c.g) z).rec) (sym by_claim) made in
      subst (λ (z : GrantState). Steady (later event (passed_to z ui.state))) (sym is)
      (subst (λ (z : GrantState). Steady (later event (passed_to (state.Revoking h.holder (Some c)) z))) (sym to)
      (by_number event (c ∷ []) told))

  told_by : (g : Option Tells) → re.grant ≡ g → Steady (regranted (replied_record r inc act o re) o.frame g).rec
  told_by None e = unmoved e
  told_by (Some (Gets g tools)) e =
      let tells : role_in frame.ui.state o.number ≡ Getting g =
      subst (λ (z : Option Tells). IsToldBy z (role_in frame.ui.state o.number)) e goes.stays.tells in
      subst (λ (z : Option Frame). Steady (regranted_in (replied_record r inc act o re) o.frame (Gets g tools)
      z).rec) (sym at) (has_got g tools e (getting_at frame.ui.state o.number g tells))
  told_by (Some (GivesUp given)) e =
      let tells = subst (λ (z : Option Tells). IsToldBy z (role_in frame.ui.state o.number)) e goes.stays.tells in
      let h = giving_at frame.ui.state o.number tells.0 tells.1 in
      subst (λ (z : Option Frame). Steady (regranted_in (replied_record r inc act o re) o.frame (GivesUp given)
      z).rec) (sym at)
      (subst (λ (z : Option Event). Steady (regranted_by (replied_record r inc act o re) o.frame frame z).rec)
      (sym (holder_gives given h e)) (has_given given h h.next refl e))

taken_keeps : (r : Record) (inc act n : ℕ) (answer : Answer) (o : Object) (res : Result Replied ContainerFault)
    (t : Took) → Steady r → find (is_linked inc act) r.objects ≡ Some o → reply_link n answer o.link ≡ res
    → reply_taken r inc act o res ≡ Ok t → Steady t.rec
taken_keeps r inc act n answer o (Err fault) t s found g e = cc
taken_keeps r inc act n answer o (Ok re) t s found g e =
    let h = each_found (SteadyObject r) (is_linked inc act) r.objects o s.objects found in
    let at = some_and (Held r o.number o.link) (nth r.frames o.frame) h.linked in
    let goes = link_goes r at.0 o.number n answer o.link re at.2 g in
    let same : settle (replied_saving r inc act o re).rec ≡ t.rec = ok_rec _ t e in
    let told = told_by r inc act o re at.0 s found at.1 goes re.grant refl in
    subst Steady same (settle_steady (replied_saving r inc act o re).rec
    (if_told (λ (z : Requested). Steady z.rec) (is_answered o.link re.link)
    (hand_off_in (replied_grant r inc act o re).rec o.frame) (unasked (replied_grant r inc act o re).rec)
    (λ b. hand_off_in_steady (replied_grant r inc act o re).rec o.frame told)
    (λ b. told)))

found_keeps : (r : Record) (inc act n : ℕ) (answer : Answer) (o : Option Object) (t : Took) → Steady r
    → find (is_linked inc act) r.objects ≡ o → reply_found r inc act n answer o ≡ Ok t → Steady t.rec
found_keeps r inc act n answer None t s found e = cc
found_keeps r inc act n answer (Some o) t s found e = taken_keeps r inc act n answer o (reply_link n answer o.link)
    t s found refl e

reply_keeps : (r : Record) (inc act n : ℕ) (answer : Answer) (t : Took) → Steady r
    → on_reply r inc act n answer ≡ Ok t → Steady t.rec
reply_keeps r inc act n answer t s e = if_told (λ (z : Result Took ContainerFault). z ≡ Ok t → Steady t.rec)
    (is_alive r inc) (reply_found r inc act n answer (find (is_linked inc act) r.objects)) (Err Stale)
    (λ a g. found_keeps r inc act n answer (find (is_linked inc act) r.objects) t s refl g)
    (λ a g. cc) e

-- a write that is taken
written_link : (servers : List Bool) (last_act : ℕ) (phase : Phase) (asked : Option (List ℕ)) (k w : ℕ)
    (part : Role) (l : Link) → SteadyLink servers last_act phase asked k part l
    → SteadyLink servers last_act phase asked k part (record l { w = w })
written_link servers last_act phase asked k w part l h = record {
  acts_drawn = h.acts_drawn;
  servers_told = h.servers_told;
  first_call = elim h.first_call [
    | inl first ↦ inl (record {
      states = first.states;
      last = first.last;
      alone = first.alone;
      pending = first.pending;
    })
    | inr past ↦ inr past
  ];
  waits_behind = h.waits_behind;
  queue_runs = h.queue_runs;
  save_in_queue = h.save_in_queue;
  saved_known = h.saved_known;
  saved_within = h.saved_within;
  shown = h.shown;
  plays = h.plays;
}

written_steady : (r : Record) (inc act w : ℕ) (content : Stored) (o : Object) (l : Link) → Steady r
    → find (is_linked inc act) r.objects ≡ Some o → o.link ≡ Some l → is_within content ≡ true
    → Steady (write_made r inc act o l w content).rec
written_steady r inc act w content o l s found is within =
    let h = each_found (SteadyObject r) (is_linked inc act) r.objects o s.objects found in
    let at = some_and (Held r o.number o.link) (nth r.frames o.frame) h.linked in
    let held = if_at (SteadyLink r.servers r.last_act at.0.phase at.0.asked at.0.k (role_in at.0.ui.state o.number))
    o.link l is at.2 in
    let x : Object = written_object o l w content in
    put_steady r (is_linked inc act) o x s found
    (record {
      number = refl;
      frame = refl;
      link = λ m e. let same : record l { w = w } ≡ m = cc in
          (l, is, sym (ap (λ (z : Link). z.act) same));
    })
    (inl (λ m e. (let both = sym is ∙ e in let same : l ≡ m = cc in
    (record l { w = w }, refl, ap (λ (z : Link). z.act) same))))
    (record {
      drawn = h.drawn;
      within = within;
      user_type = h.user_type;
      linked = and_some (Held r x.number x.link) (nth r.frames o.frame) at.0 at.1
          (written_link r.servers r.last_act at.0.phase at.0.asked at.0.k w (role_in at.0.ui.state o.number) l
          held);
    })

write_linked_keeps : (r : Record) (inc act n w : ℕ) (content : Stored) (o : Object) (link : Option Link) (t : Took)
    → Steady r → find (is_linked inc act) r.objects ≡ Some o → o.link ≡ link
    → write_link r inc act n w content o link ≡ Ok t → Steady t.rec
write_linked_keeps r inc act n w content o None t s found is e = cc
write_linked_keeps r inc act n w content o (Some l) t s found is e =
    if_told (λ (z : Result Took ContainerFault). z ≡ Ok t → Steady t.rec) (is_open_to l n w)
    (if is_within content then Ok (write_made r inc act o l w content) else Err BadAnswer) (Err Stale)
    (λ a g. if_told (λ (z : Result Took ContainerFault). z ≡ Ok t → Steady t.rec) (is_within content)
    (Ok (write_made r inc act o l w content)) (Err BadAnswer)
    (λ b q. subst Steady (ok_rec (write_made r inc act o l w content) t q)
    (written_steady r inc act w content o l s found is b))
    (λ b q. cc) g)
    (λ a g. cc) e

write_found_keeps : (r : Record) (inc act n w : ℕ) (content : Stored) (o : Option Object) (t : Took) → Steady r
    → find (is_linked inc act) r.objects ≡ o → write_found r inc act n w content o ≡ Ok t → Steady t.rec
write_found_keeps r inc act n w content None t s found e = cc
write_found_keeps r inc act n w content (Some o) t s found e = write_linked_keeps r inc act n w content o o.link t s
    found refl e

write_keeps : (r : Record) (inc act n w : ℕ) (content : Stored) (t : Took) → Steady r
    → on_write r inc act n w content ≡ Ok t → Steady t.rec
write_keeps r inc act n w content t s e = if_told (λ (z : Result Took ContainerFault). z ≡ Ok t → Steady t.rec)
    (is_alive r inc) (write_found r inc act n w content (find (is_linked inc act) r.objects)) (Err Stale)
    (λ a g. write_found_keeps r inc act n w content (find (is_linked inc act) r.objects) t s refl g)
    (λ a g. cc) e

-- an ask that is taken
ask_held : (r : Record) (inc act g : ℕ) (o : Object) (frame : Frame) → Steady r
    → find (is_linked inc act) r.objects ≡ Some o → nth r.frames o.frame ≡ Some frame
    → is_held_by act g frame.ui.state ≡ true → Steady (relieved r o act g frame).rec
ask_held r inc act g o frame s found at e =
    let h = held_by act g frame.ui.state e in
    let holder = h.0 in
    let tools = h.1 in
    let l = linked_by inc act o.link (find_passes (is_linked inc act) r.objects o found) in
    let there = found_by_number (is_linked inc act) r.objects o s.order found in
    let claim : IsClaim r o.frame holder = (subst (SteadyGrant r o.frame) h.2 (s.grants o.frame frame at)).holder in
    let named : holder.object ≡ o.number = acts_differ r.objects holder.object o.number claim.object o claim.link
    l.0 s.order claim.found there claim.linked l.1 (claim.act ∙ (h.3 ∙ sym l.3)) in
    let ui = after frame.ui (grant.Ask (record { object = o.number; act = act; g = g })) in
    let to : ui.state ≡ state.Revoking holder None = asked_state frame.ui.state holder tools o.number act g h.2 h.3
    h.4 in
    let u = moved_to r o.frame frame ui r.last_g in
    let but : SteadyBut (o.number ∷ []) u = move_but r o.frame frame ui r.last_g (o.number ∷ []) s at (omega arith)
    (ended_grant r o.frame frame.ui.state ui.state holder tools h.2 to (s.grants o.frame frame at))
    (ended_parts frame.ui.state ui.state holder tools o.number h.2 to named) in
    let asked : Object = record o { link = asked_link UiDeactivate o.link } in
    let has : role_in frame.ui.state o.number ≡ Holding holder.g tools =
    ap (λ (z : GrantState). role_in z o.number) h.2 ∙ has_it holder tools o.number named in
    let gives : role_in ui.state o.number ≡ Giving holder.g = ap (λ (z : GrantState). role_in z o.number) to
    ∙ gives_it holder None o.number named in
    let steady : SteadyObject u asked = asked_object_steady r u o.frame frame (record frame { ui = ui }) o
    (Holding holder.g tools) (Giving holder.g) UiDeactivate at refl refl refl refl refl refl refl refl has gives
    (end_asked r.servers r.last_act frame.phase frame.asked frame.k holder.g tools)
    (each_found (SteadyObject r) (is_linked inc act) r.objects o s.objects found) in
    let made : Steady (with_object u asked) = all_steady (with_object u asked)
    (put_but u [] o asked but there
    (record { number = refl; frame = refl; link = asked_follows UiDeactivate o.link })
    (link_asked UiDeactivate o.link) steady) in
    subst (λ (z : Option Object). Steady (requested u UiDeactivate z).rec) (sym there) made

ask_framed_keeps : (r : Record) (inc act g : ℕ) (o : Object) (f : Option Frame) (t : Took) → Steady r
    → find (is_linked inc act) r.objects ≡ Some o → nth r.frames o.frame ≡ f → ask_framed r o act g f ≡ Ok t
    → Steady t.rec
ask_framed_keeps r inc act g o None t s found at e = cc
ask_framed_keeps r inc act g o (Some frame) t s found at e =
    if_told (λ (z : Result Took ContainerFault). z ≡ Ok t → Steady t.rec) (is_held_by act g frame.ui.state) _
    (Err Stale)
    (λ a q. let same = ok_rec _ t q in subst Steady same (ask_held r inc act g o frame s found at a))
    (λ a q. cc) e

ask_found_keeps : (r : Record) (inc act g : ℕ) (o : Option Object) (t : Took) → Steady r
    → find (is_linked inc act) r.objects ≡ o → ask_found r act g o ≡ Ok t → Steady t.rec
ask_found_keeps r inc act g None t s found e = cc
ask_found_keeps r inc act g (Some o) t s found e = ask_framed_keeps r inc act g o (nth r.frames o.frame) t s found
    refl e

ask_keeps : (r : Record) (inc act g : ℕ) (t : Took) → Steady r → on_ask r inc act g ≡ Ok t → Steady t.rec
ask_keeps r inc act g t s e = if_told (λ (z : Result Took ContainerFault). z ≡ Ok t → Steady t.rec) (is_alive r inc)
    (ask_found r act g (find (is_linked inc act) r.objects)) (Err Stale)
    (λ a q. ask_found_keeps r inc act g (find (is_linked inc act) r.objects) t s refl q)
    (λ a q. cc) e

-- whatever is said keeps a record steady
said_keeps : (r : Record) (link : ℕ) (m : Said) (t : Took) → Steady r → said_on r link m ≡ Ok t → Steady t.rec
said_keeps r link (Call inc act n op) t s e = cc
said_keeps r link (Reply inc act n answer) t s e =
    if_told (λ (z : Result Took ContainerFault). z ≡ Ok t → Steady t.rec) (inc == link)
    (on_reply r inc act n answer) (Err WrongLink)
    (λ a g. reply_keeps r inc act n answer t s g)
    (λ a g. cc) e
said_keeps r link (Write inc act n w content) t s e =
    if_told (λ (z : Result Took ContainerFault). z ≡ Ok t → Steady t.rec) (inc == link)
    (on_write r inc act n w content) (Err WrongLink)
    (λ a g. write_keeps r inc act n w content t s g)
    (λ a g. cc) e
said_keeps r link (Ask inc act g) t s e = if_told (λ (z : Result Took ContainerFault). z ≡ Ok t → Steady t.rec)
    (inc == link) (on_ask r inc act g) (Err WrongLink)
    (λ a q. ask_keeps r inc act g t s q)
    (λ a q. cc) e

-- each message keeps a record steady
pub on_message_keeps : (r : Record) (link : ServerLink) (m : Message) (t : Took) → Steady r
    → on_message r link m ≡ Ok t → Steady t.rec
on_message_keeps r link m t s e = said_keeps r link.inc m.said t s (is_said_on r link m t e).said

-- answers that fit are taken
taken_ok : (r : Record) (inc act : ℕ) (o : Object) (res : Result Replied ContainerFault) → IsOk res
    → IsOk (reply_taken r inc act o res)
taken_ok r inc act o (Ok re) h = refl
taken_ok r inc act o (Err fault) h = absurd (cc)

linked_inc : (inc act : ℕ) (o : Object) (l : Link) → o.link ≡ Some l → is_linked inc act o ≡ true → l.inc ≡ inc
linked_inc inc act o l e h =
    let t : (l.inc == inc) && (l.act == act) ≡ true = sym (ap (is_link inc act) e) ∙ h in
    eqb-true l.inc inc (and_both (l.inc == inc) (l.act == act) t).0

-- what a server says on its own link, in the record's session
own_taken : (r : Record) (inc : ℕ) (said : Said) → is_said_by inc said ≡ true → IsOk (said_to r said)
    → IsOk (on_message r (record { session = r.session; inc = inc }) (record { session = r.session; said = said }))
own_taken r inc said own h = (let same : (r.session == r.session) ≡ true = eq-eqb r.session r.session refl in
    rw (same, own) h)

pub fitting_answers_taken : FittingAnswersTaken
fitting_answers_taken r inc act answer o l op s found is pending fits =
    let h = each_found (SteadyObject r) (is_linked inc act) r.objects o s.objects found in
    let at = some_and (Held r o.number o.link) (nth r.frames o.frame) h.linked in
    let held = if_at (SteadyLink r.servers r.last_act at.0.phase at.0.asked at.0.k (role_in at.0.ui.state o.number))
    o.link l is at.2 in
    let replies = fitting_taken r.servers r.last_act at.0.phase at.0.asked at.0.k (role_in at.0.ui.state o.number) l
    held op answer pending fits in
    let taken : IsOk (replied_fitting l op answer) =
    subst (λ (b : Bool). IsOk (if b then replied l op answer else Err BadAnswer))
    (sym (fits_is_fit op answer fits)) replies in
    let same_inc = linked_inc inc act o l is (find_passes (is_linked inc act) r.objects o found) in
    let alive : is_alive r inc ≡ true = ap (λ (n : ℕ). is_unreaped (nth r.servers n)) (sym same_inc)
    ∙ held.servers_told in
    let same_last : (l.last == l.last) ≡ true = eq-eqb l.last l.last refl in
    let called : IsOk (reply_pending l l.last answer (Some op)) =
    subst (λ (b : Bool). IsOk (if b then replied_fitting l op answer else Err Stale)) (sym same_last) taken in
    let linked : IsOk (reply_link l.last answer (Some l)) =
    subst (λ (p : Option Operation). IsOk (reply_pending l l.last answer p)) (sym pending) called in
    let answered : IsOk (reply_link l.last answer o.link) =
    subst (λ (z : Option Link). IsOk (reply_link l.last answer z)) (sym is) linked in
    let here : IsOk (reply_found r inc act l.last answer (find (is_linked inc act) r.objects)) =
    subst (λ (z : Option Object). IsOk (reply_found r inc act l.last answer z)) (sym found)
    (taken_ok r inc act o (reply_link l.last answer o.link) answered) in
    let living : IsOk (on_reply r inc act l.last answer) =
    subst
    (λ (b : Bool). IsOk (if b then reply_found r inc act l.last answer (find (is_linked inc act) r.objects)
    else Err Stale)) (sym alive) here in
    own_taken r inc (Reply inc act l.last answer) (eq-eqb inc inc refl) living
