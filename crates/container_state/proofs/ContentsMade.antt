-- The record after a content that a save awaited.
use Rattle.std.proofs.Common.{◌≡◌, ◌≤◌, ◌⊎◌, inl, inr, ◌<◌, ◌+◌, ◌==◌, ◌||◌, ◌++◌, ℕ, zero, suc, Bool, true, false}
use Rattle.std.proofs.Common.{List, [], ◌∷◌, length, map, drop, take, set, Option, Some, None, Result, Ok, Err, refl}
use Rattle.std.proofs.Common.{ap, slice_get, subst, sym, ◌∙◌, arith, if◌then◌else◌, eq-eqb}
use Rattle.std.proofs.lemmas.List.{map-append}
use Rattle.message_values.specs.Found.{find, nth, put, set_nth}
use Rattle.message_values.specs.declared.answer.Answer.{Answer}
use Rattle.message_values.specs.declared.message.Message.{Message}
use Rattle.message_values.specs.declared.operation.Operation.TheVariants.{HandsOff}
use Rattle.container_links.specs.Asking.{prepared}
use Rattle.container_links.specs.declared.asking.Prepared.{Prepared}
use Rattle.container_links.specs.Handing.{answers, awaits_but, next_prepared}
use Rattle.container_links.proofs.Handings.{IsContent, content_is_kept, kept_prepared, kept_unawaited}
use Rattle.container_model.specs.declared.answer.Action.{Action}
use Rattle.container_model.specs.declared.answer.Action.TheVariants.{Send}
use Rattle.container_model.specs.declared.answer.Answer as told_answer
use Rattle.container_model.specs.declared.fault.ContainerFault.{ContainerFault}
use Rattle.container_model.specs.declared.record.Frame.{Frame}
use Rattle.container_model.specs.declared.record.Link.{Link}
use Rattle.container_model.specs.declared.record.Object.{Object}
use Rattle.container_model.specs.HandOffs.{hand_off_at, handed_off, handing_frame, hands_off, hands_off_at, unasked}
use Rattle.container_model.specs.Messages.{Replied, next_sent, replied_object, replied_record, reply_found, reply_link}
use Rattle.container_model.specs.Record.{Record, asked_all, asked_object, is_linked, quiet_answer, sends}
use Rattle.container_model.specs.Saves.{awaits, is_awaited_link, settle, settle_actions, settled_actions}
use Rattle.container_model.specs.Saves.{settled_frames}
use Rattle.std.specs.List.{AllByRecursion}
use Rattle.container_model.specs.Room.{IsSound}
use Rattle.container_queues.specs.Steady.{EachPair, InOrder, Steady, SteadyObject}
use Rattle.container_queues.proofs.SteadyLookups.{each_both, each_weaker}
use Rattle.container_objects.specs.Told.{ToldObject, told_of}

-- an object that isn't waited for takes another's place
or_first : (b : Bool) → (b || false) ≡ b
or_first true = refl
or_first false = refl

skipped : (b : Bool) (rest : Bool) → (if b then (if false then true else rest) else rest) ≡ rest
skipped true rest = refl
skipped false rest = refl

passed : (b t rest more : Bool) → ((if b then (if t then true else rest) else rest) || more)
    ≡ (if b then (if t then true else (rest || more)) else (rest || more))
passed true true rest more = refl
passed true false rest more = refl
passed false t rest more = refl

awaits_at : (f : ℕ) (os : List Object) (i : ℕ) (x : Object) → i < length os → is_awaited_link x.link ≡ false
    → awaits f (set os i x) ≡ (awaits f (take i os) || awaits f (drop (suc i) os))
awaits_at f [] i x lt e = absurd (omega arith)
awaits_at f (o ∷ os) zero x lt e = ap (λ t. if x.frame == f then (if t then true else awaits f os) else awaits f os)
    e ∙ skipped (x.frame == f) (awaits f os)
awaits_at f (o ∷ os) (suc i) x lt e =
    ap (λ t. if o.frame == f then (if is_awaited_link o.link then true else t) else t)
    (awaits_at f os i x (omega arith) e)
    ∙ sym (passed (o.frame == f) (is_awaited_link o.link) (awaits f (take i os)) (awaits f (drop (suc i) os)))

pub awaits_set : (f : ℕ) (os : List Object) (i : ℕ) (x : Object) → i < length os → is_awaited_link x.link ≡ false
    → awaits f (set os i x) ≡ awaits_but f i os
awaits_set f os i x lt e = (let next : suc i ≡ i + 1 = omega arith in
    awaits_at f os i x lt e ∙ ap (λ n. awaits f (take i os) || awaits f (drop n os)) next)

-- what was prepared for each
pub prepared_set : (f : ℕ) (os : List Object) (i : ℕ) (p : Prepared) (x : Object) → prepared f HandsOff x ≡ p
    → set (map (prepared f HandsOff) os) i p ≡ map (prepared f HandsOff) (set os i x)
prepared_set f [] i p x e = refl
prepared_set f (o ∷ os) zero p x e = ap (λ (q : Prepared). q ∷ map (prepared f HandsOff) os) (sym e)
prepared_set f (o ∷ os) (suc i) p x e = ap (λ (qs : List Prepared). prepared f HandsOff o ∷ qs)
    (prepared_set f os i p x e)

ok_told : (a b : ToldObject) → ◌≡◌ {A = Result ToldObject ContainerFault} (Ok a) (Ok b) → a ≡ b
ok_told a b e = cc

no_more : (ms : List Message) → ms ++ [] ≡ ms
no_more [] = refl
no_more (m ∷ ms) = ap (λ (xs : List Message). m ∷ xs) (no_more ms)

linked_by : (l : Link) (R : Result Replied ContainerFault) → answers (Some l) R ≡ true → (k : Link)
    × (◌≡◌ {A = Option Link} (Some l) (Some k)) × (re : Replied) × (R ≡ Ok re)
linked_by l (Ok re) e = (l, refl, re, refl)
linked_by l (Err fault) e = absurd (cc)

-- what a content makes of the record
module _ (r : Record) (inc act n : ℕ) (answer : Answer) (o : Object) (l : Link) (x : Frame) (re : Replied)
    (found : find (is_linked inc act) r.objects ≡ Some o) (linked : o.link ≡ Some l)
    (at : nth r.frames o.frame ≡ Some x)
    (is : reply_link n answer o.link ≡ Ok re) (content : answers o.link (reply_link n answer o.link) ≡ true) where
  kept : IsContent l re
  kept = content_is_kept l n answer re (ap (reply_link n answer) (sym linked) ∙ is)
      (subst (λ (z : Option Link). answers z (Ok re) ≡ true) linked
      (subst (λ (R : Result Replied ContainerFault). answers o.link R ≡ true) is content))

  answered_is : answers o.link (Ok re) ≡ true
  answered_is = subst (λ (R : Result Replied ContainerFault). answers o.link R ≡ true) is content

  abbrev u : Record
  u = replied_record r inc act o re

  pub content_found : reply_found r inc act n answer (find (is_linked inc act) r.objects) ≡ Ok (record {
    rec = settle (hand_off_at u o.frame (Some x)).rec;
    answer = record quiet_answer {
      taken = false;
      refused = None;
      no_tools = false;
      actions = sends (next_sent re.link ++ (hand_off_at u o.frame (Some x)).sent)
          ++ settle_actions (hand_off_at u o.frame (Some x)).rec;
    };
    counted = [];
  })
  content_found = rw (found, is, kept.grant, kept.taken, kept.refused, answered_is, at, no_more (next_sent re.link))
      refl

  -- where it was the last
  pub unawaited : is_awaited_link (replied_object o re).link ≡ false
  unawaited = kept_unawaited l re kept

  pub takes_are : (f : ℕ) → o.frame ≡ f → prepared f HandsOff (replied_object o re) ≡ next_prepared l
  takes_are f e = rw (eq-eqb o.frame f e) (kept_prepared l re kept)

  -- what the code makes of it
  module _ (t : ToldObject) (told : told_of o (reply_link n answer o.link) ≡ Ok t) (i : ℕ)
      (fits : i < length r.objects) (puts : put (is_linked inc act) t.object r.objects
      ≡ set r.objects i t.object) where
    whole : record {
      object = replied_object o re;
      taken = false;
      refused = None;
      grant = None;
      actions = sends (next_sent re.link);
    } ≡ t
    whole =
        let all : told_of o (Ok re) ≡ Ok t = ap (told_of o) (sym is) ∙ told in
        let known : told_of o (Ok re)
        ≡ Ok (record {
          object = replied_object o re;
          taken = false;
          refused = None;
          grant = None;
          actions = sends (next_sent re.link);
        }) = rw (kept.grant, kept.taken, kept.refused) refl in
        ok_told _ t (sym known ∙ all)

    object_is : t.object ≡ replied_object o re
    object_is = sym (ap (λ (z : ToldObject). z.object) whole)

    objects_are : u.objects ≡ set r.objects i t.object
    objects_are = ap (λ (z : Object). put (is_linked inc act) z r.objects) (sym object_is) ∙ puts

    waits_is : awaits o.frame u.objects ≡ awaits_but o.frame i r.objects
    waits_is = ap (awaits o.frame) objects_are ∙ awaits_set o.frame r.objects i t.object fits
        (ap (λ (z : Object). is_awaited_link z.link) object_is ∙ unawaited)

    hands_is : hands_off o.frame u.objects x ≡ hands_off_at x.phase x.asked (awaits_but o.frame i r.objects)
    hands_is = ap (hands_off_at x.phase x.asked) waits_is

    pub prepared_there : set (map (prepared o.frame HandsOff) r.objects) i (next_prepared l)
        ≡ map (prepared o.frame HandsOff) (set r.objects i t.object)
    prepared_there = prepared_set o.frame r.objects i (next_prepared l) t.object
        (ap (prepared o.frame HandsOff) object_is ∙ takes_are o.frame refl)

    pub last_is : (fs last : List Frame) (os objs : List Object) (takes : List Prepared) (actions all : List Action)
        (reply : told_answer.Answer)
        → hands_off_at x.phase x.asked (awaits_but o.frame i r.objects) ≡ true
        → takes ≡ set (map (prepared o.frame HandsOff) r.objects) i (next_prepared l)
        → os ≡ set r.objects i t.object
        → (takes ≡ map (prepared o.frame HandsOff) os → objs ≡ map (asked_object o.frame HandsOff) os)
        → (takes ≡ map (prepared o.frame HandsOff) os → actions ≡ t.actions ++ sends (asked_all o.frame HandsOff os))
        → fs ≡ set_nth r.frames o.frame (handing_frame x)
        → last ≡ settled_frames 1 objs fs
        → all ≡ actions ++ settled_actions 1 objs fs
        → reply ≡ record quiet_answer { taken = t.taken; refused = t.refused; no_tools = false; actions = all }
        → reply_found r inc act n answer (find (is_linked inc act) r.objects)
        ≡ Ok (record { rec = record r { frames = last; objects = objs }; answer = reply; counted = [] })
    last_is fs last os objs takes actions all reply hands ready objects asked sent frames settled more answered =
        let fit : takes ≡ map (prepared o.frame HandsOff) os = ready
        ∙ (prepared_there ∙ ap (map (prepared o.frame HandsOff)) (sym objects)) in
        let here : os ≡ u.objects = objects ∙ sym objects_are in
        let asks : sends (next_sent re.link) ≡ t.actions = ap (λ (z : ToldObject). z.actions) whole in
        let moved : objs ≡ map (asked_object o.frame HandsOff) u.objects = asked fit
        ∙ ap (map (asked_object o.frame HandsOff)) here in
        let calls : actions ≡ sends (next_sent re.link ++ asked_all o.frame HandsOff u.objects) =
        sent fit ∙ (ap (λ (zs : List Object). t.actions ++ sends (asked_all o.frame HandsOff zs)) here
        ∙ (ap (λ (zs : List Action). zs ++ sends (asked_all o.frame HandsOff u.objects)) (sym asks)
        ∙ sym (map-append Send (next_sent re.link) (asked_all o.frame HandsOff u.objects)))) in
        let handed : hand_off_at u o.frame (Some x) ≡ handed_off u o.frame x = rw (hands_is ∙ hands) refl in
        let tells : (false ≡ t.taken) × (None ≡ t.refused) =
        (ap (λ (z : ToldObject). z.taken) whole, ap (λ (z : ToldObject). z.refused) whole) in
        content_found ∙ rw (handed, answered, more, settled, calls, moved, frames, sym tells.0, sym tells.1) refl

    pub other_is : (last : List Frame) (os : List Object) (all : List Action) (reply : told_answer.Answer)
        → hands_off_at x.phase x.asked (awaits_but o.frame i r.objects) ≡ false
        → os ≡ set r.objects i t.object
        → last ≡ settled_frames 1 os r.frames
        → all ≡ t.actions ++ settled_actions 1 os r.frames
        → reply ≡ record quiet_answer { taken = t.taken; refused = t.refused; no_tools = false; actions = all }
        → reply_found r inc act n answer (find (is_linked inc act) r.objects)
        ≡ Ok (record { rec = record r { frames = last; objects = os }; answer = reply; counted = [] })
    other_is last os all reply hands objects settled more answered =
        let here : os ≡ u.objects = objects ∙ sym objects_are in
        let asks : t.actions ≡ sends (next_sent re.link ++ []) = sym (ap (λ (z : ToldObject). z.actions) whole)
        ∙ ap sends (sym (no_more (next_sent re.link))) in
        let stays : hand_off_at u o.frame (Some x) ≡ unasked u = rw (hands_is ∙ hands) refl in
        let tells : (false ≡ t.taken) × (None ≡ t.refused) =
        (ap (λ (z : ToldObject). z.taken) whole, ap (λ (z : ToldObject). z.refused) whole) in
        content_found ∙ rw (stays, answered, more, settled, asks, here, sym tells.0, sym tells.1) refl

-- objects are as few as their numbers
few_from : (k most : ℕ) (os : List Object) → EachPair InOrder os
    → AllByRecursion (λ (o : Object). (k ≤ o.number) × (o.number ≤ most)) os → length os + k ≤ most + 1 ⊎ (os ≡ [])
few_from k most [] h b = inr refl
few_from k most (o ∷ []) h b = inl (let low = b.0.0 in let high = b.0.1 in omega arith)
few_from k most (o ∷ (p ∷ os)) h b =
    elim (few_from (k + 1) most (p ∷ os) h.1
    (each_weaker (λ (q : Object). InOrder o q × ((k ≤ q.number) × (q.number ≤ most)))
    (λ (q : Object). (k + 1 ≤ q.number) × (q.number ≤ most)) (p ∷ os)
    (λ q w. (let up = w.0.rising in let low = b.0.0 in omega arith, w.1.1))
    (each_both (InOrder o) (λ (q : Object). (k ≤ q.number) × (q.number ≤ most)) (p ∷ os) h.0 b.1))) [
      | inl few ↦ inl (omega arith)
      | inr none ↦ inl (let no = none in cc)
    ]

pub few_objects : (r : Record) → Steady r → length r.objects ≤ r.last_object + 1
few_objects r s =
    elim (few_from 0 r.last_object r.objects s.order
    (each_weaker (SteadyObject r) (λ (o : Object). (0 ≤ o.number) × (o.number ≤ r.last_object)) r.objects
    (λ o h. (omega arith, h.drawn)) s.objects)) [
      | inl few ↦ omega arith
      | inr none ↦ (let n : length r.objects ≡ 0 = ap length none in omega arith)
    ]

pub few_all : (r : Record) → Steady r → IsSound r → length r.frames + length r.objects ≤ 2000001
few_all r s h = (let objects = few_objects r s in let frames = h.frames in let last = h.objects in
    let most = h.limit in omega arith)

-- whoever answered one has an activation
pub content_linked : (link : Option Link) (n : ℕ) (answer : Answer) → answers link (reply_link n answer link) ≡ true
    → (l : Link) × (link ≡ Some l) × (re : Replied) × (reply_link n answer link ≡ Ok re)
content_linked None n answer e = absurd (cc)
content_linked (Some l) n answer e = linked_by l (reply_link n answer (Some l)) e

-- what stands there
pub frame_at : (frames : List Frame) (i : ℕ) → i < length frames → (x : Frame) × (slice_get frames i ≡ Some x)
frame_at [] i lt = absurd (omega arith)
frame_at (x ∷ xs) zero lt = (x, refl)
frame_at (x ∷ xs) (suc i) lt = frame_at xs i (omega arith)
