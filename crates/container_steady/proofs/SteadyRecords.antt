-- Records: what keeps each object steady.
use Rattle.std.proofs.Common.{◌≡◌, ◌≤◌, ◌<◌, ◌⊎◌, inl, inr, ap, ℕ, Bool, true, false, List, [], ◌∷◌, Option, Some, None}
use Rattle.std.proofs.Common.{refl, sym, ◌∙◌, arith, subst}
use Rattle.std.specs.Prelude.{IfSome, is_some, not}
use Rattle.std.specs.List.{AllByRecursion}
use Rattle.message_values.specs.Found.{find, put, nth}
use Rattle.tree_streams.specs.Limits.{is_within}
use Rattle.object_state.specs.declared.persist_states.PersistState.{PersistState}
use Rattle.object_state.specs.declared.persist_states.PersistState.TheVariants as state
use Rattle.tree_streams.specs.declared.stored.Stored.{Stored}
use Rattle.object_state.specs.Frames.{Ui}
use Rattle.object_state.specs.declared.grant_states.Claim.{Claim}
use Rattle.container_model.specs.declared.record.Link.{Link}
use Rattle.container_model.specs.declared.record.Object.{Object}
use Rattle.container_model.specs.declared.record.Frame.{Frame}
use Rattle.container_model.specs.declared.record.Phase.{Phase}
use Rattle.container_model.specs.declared.record.Phase.TheVariants.{Idle, Saving, HandingOff, Committing, InDoubt}
use Rattle.container_model.specs.Record.{Record, MOST_OBJECTS, is_object}
use Rattle.container_model.specs.Saves.{kept, kept_by, kept_in, awaits, is_awaited_link, is_away, is_keeping_link}
use Rattle.container_model.specs.Saves.{is_ready, is_ready_at, keeps, settled_frame, settled_frames, settle}
use Rattle.container_queues.specs.Roles.{IsClaim, Other, SteadyGrant, role_in}
use Rattle.container_queues.specs.Steady.{IsAskedIn, MayBeStored, SteadyLink, SteadyObject, SteadyFrame, InOrder}
use Rattle.container_queues.specs.Steady.{Steady, SteadyFromTheStart}
use Rattle.container_queues.proofs.SteadyLookups.{each_weaker, each_both, each_put, pairs_put, nth-settled, each_nth}
use Rattle.container_queues.proofs.SteadyLookups.{each_settled, none_awaited, none_keeping}
use Rattle.container_steady.proofs.SteadyCounts.{count_put}
use Rattle.container_queues.proofs.SteadyLinks.{now_away, now_committing}
use Rattle.container_steady.proofs.SteadyClaims.{Names, KeepsLink, LinkStays, claim_kept, grant_kept, keeps_put}
use Rattle.container_steady.proofs.SteadyClaims.{keeps_put_other, keeps_refl, named_part, none_there, settled_back}
use Rattle.container_steady.proofs.SteadyFinds.{found_by_number, put_by_number}
pub use Rattle.container_steady.proofs.SteadyTells.{if_told, unless_ok, or_false, some_and, and_some, at_some}
pub use Rattle.container_steady.proofs.SteadyTells.{if_weaker, if_at}

-- from the start
pub empty_steady : SteadyFromTheStart
empty_steady numbers = record {
  frames = tt;
  objects = tt;
  order = tt;
  count = λ f. omega arith;
  grants = λ f frame e. absurd (none_there f frame e);
}

-- an object's link in its frame
abbrev pub Held : Record → ℕ → Option Link → Frame → Type 0
Held r number link frame =
    IfSome link (SteadyLink r.servers r.last_act frame.phase frame.asked frame.k (role_in frame.ui.state number))

-- the content that is kept of an object may be stored
pub kept_within : (work : Stored) (saved : Option Stored) → is_within work ≡ true → MayBeStored saved
    → is_within (kept_in work saved) ≡ true
kept_within work None w m = w
kept_within work (Some content) w m = m

kept_link_within : (r : Record) (work : Stored) (number : ℕ) (link : Option Link) (frame : Frame)
    → is_within work ≡ true → Held r number link frame → is_within (kept_by work link) ≡ true
kept_link_within r work number None frame w h = w
kept_link_within r work number (Some l) frame w h = kept_within work l.saved w h.saved_within

pub kept_object_within : (r : Record) (o : Object) (frame : Frame) → is_within o.work ≡ true
    → Held r o.number o.link frame → is_within (kept o) ≡ true
kept_object_within r o frame w h = kept_link_within r o.work o.number o.link frame w h

-- a link that is none, or of the same activation as before
abbrev pub Follows : Option Link → Option Link → Type 0
Follows link before = (l : Link) → link ≡ Some l → (m : Link) × (before ≡ Some m) × (l.act ≡ m.act)

abbrev pub Apart : Option Link → Option Link → Type 0
Apart a b = IfSome a (λ (l : Link). IfSome b (λ (m : Link). l.act ≡ m.act → ⊥))

pub apart_none : (a : Option Link) → Apart a None
apart_none None = tt
apart_none (Some l) = tt

pub apart_right : (a b c : Option Link) → Follows c b → Apart a b → Apart a c
apart_right None b c f h = tt
apart_right (Some l) b None f h = tt
apart_right (Some l) b (Some m) f h =
    (let g = f m refl in let k = if_at (λ (n : Link). l.act ≡ n.act → ⊥) b g.0 g.1 h in λ e. k (e ∙ g.2))

pub apart_left : (a b c : Option Link) → Follows c a → Apart a b → Apart c b
apart_left a None c f h = apart_none c
apart_left a (Some l) None f h = tt
apart_left a (Some l) (Some m) f h =
    (let g = f m refl in let k = if_at (λ (n : Link). n.act ≡ l.act → ⊥) a g.0 g.1 h in λ e. k (sym g.2 ∙ e))

-- an object that took another's place
pub record TookPlace (o before : Object) : Type 0 where
  pub number : o.number ≡ before.number
  pub frame : o.frame ≡ before.frame
  pub link : Follows o.link before.link

pub order_right : (y x a : Object) → TookPlace a x → InOrder y x → InOrder y a
order_right y x a t h = record {
  rising = subst (λ (n : ℕ). y.number < n) (sym t.number) h.rising;
  apart = apart_right y.link x.link a.link t.link h.apart;
}

pub order_left : (y x a : Object) → TookPlace a x → InOrder x y → InOrder a y
order_left y x a t h = record {
  rising = subst (λ (n : ℕ). n < y.number) (sym t.number) h.rising;
  apart = apart_left x.link y.link a.link t.link h.apart;
}

pub order_both : (g : Object → Object) → ((x : Object) → TookPlace (g x) x) → (x y : Object) → InOrder x y
    → InOrder (g x) (g y)
order_both g t x y h = order_right (g x) y (g y) (t y) (order_left y x (g x) (t x) h)

-- an object that has no part in its frame's grant
abbrev pub IsOut : Record → Object → Type 0
IsOut r x = (frame : Frame) → nth r.frames x.frame ≡ Some frame → role_in frame.ui.state x.number ≡ Other

-- whoever is named is somebody else then
pub named_other : (r : Record) (f : ℕ) (frame : Frame) (c : Claim) (x : Object) → nth r.frames f ≡ Some frame
    → Names frame.ui.state c → IsClaim r f c → find (is_object x.number) r.objects ≡ Some x → IsOut r x
    → x.number ≡ c.object → ⊥
named_other r f frame c x at names h found out e =
    let same = sym (ap (λ (n : ℕ). find (is_object n) r.objects) e ∙ h.found) ∙ found in
    let is : h.object ≡ x = cc in
    let here : nth r.frames x.frame ≡ Some frame = ap (λ (z : Object). nth r.frames z.frame) (sym is)
    ∙ (ap (nth r.frames) h.inside ∙ at) in
    named_part frame.ui.state c x.number names (sym e) (out frame here)

-- One object takes another's place, under the same part in the frame's grant: with the activation that it had, or,
-- where it has no part, with any.
pub put_steady : (r : Record) (test : Object → Bool) (x a : Object) → Steady r → find test r.objects ≡ Some x
    → TookPlace a x → LinkStays x.link a.link ⊎ IsOut r x → SteadyObject r a
    → Steady (record r { objects = put test a r.objects })
put_steady r test x a h e t keeps s =
    let after : Record = record r { objects = put test a r.objects } in
    let found = found_by_number test r.objects x h.order e in
    let same = put_by_number test a x r.objects h.order e in
    record {
      frames = h.frames;
      objects = each_weaker (SteadyObject r) (SteadyObject after) (put test a r.objects)
          (λ o k. record { drawn = k.drawn; within = k.within; user_type = k.user_type; linked = k.linked })
          (each_put (SteadyObject r) test a r.objects h.objects s);
      order = pairs_put InOrder (SteadyObject r) test a x r.objects (λ y p k. order_right y x a t k)
          (λ y p k. order_left y x a t k) h.order h.objects e;
      count = λ f. subst (λ (n : ℕ). n ≤ MOST_OBJECTS) (sym (count_put f test a x r.objects e t.frame)) (h.count f);
      grants = λ f frame at. grant_kept r after f frame.ui.state (λ c names k. claim_kept r after f c
          (subst (λ (os : List Object). KeepsLink r.objects os c.object) (sym same) (elim keeps [
            | inl stays ↦ keeps_put r.objects x.number c.object x a found t.number t.frame stays
            | inr out ↦ keeps_put_other r.objects x.number c.object a t.number
                (named_other r f frame c x at names k found out)
          ])) (omega arith) k) (h.grants f frame at);
    }

-- saves go on: one under the frame's name once all contents are there, one under another name once all storages are
pub ready_at : (phase : Phase) (asked : Option (List ℕ)) (waits keeping : Bool)
    → is_ready_at phase asked waits keeping ≡ true → ((phase ≡ Saving) × (asked ≡ None) × (waits ≡ false))
    ⊎ ((phase ≡ HandingOff) × (keeping ≡ false))
ready_at Saving None false keeping e = inl (refl, refl, refl)
ready_at Saving None true keeping e = cc
ready_at Saving (Some name) waits keeping e = cc
ready_at HandingOff asked waits false e = inr (refl, refl)
ready_at HandingOff asked waits true e = cc
ready_at Idle asked waits keeping e = cc
ready_at Committing asked waits keeping e = cc
ready_at InDoubt asked waits keeping e = cc

settled_steady : (f : ℕ) (os : List Object) (frame : Frame) → SteadyFrame frame → SteadyFrame (settled_frame f os frame)
settled_steady f os frame h = if_told SteadyFrame (is_ready f os frame) (record frame { phase = Committing }) frame
    (λ e. record { asked = tt }) (λ e. h)

pub answered_link : (l : Link) → is_awaited_link (Some l) ≡ false → is_some l.saved ≡ true
answered_link l e = elim l.saved as (λ s. elim s [ None ↦ true | Some content ↦ false ] ≡ false
    → is_some s ≡ true) [ None ↦ (λ g. absurd (cc)) | Some content ↦ (λ g. refl) ] e

away_by : (s : PersistState) → not (is_away s) ≡ false → s ≡ state.HandsOff
away_by state.HandsOff e = refl
away_by _ e = absurd (cc)

settled_link : (r : Record) (n : ℕ) (link : Option Link) (frame : Frame) → frame.phase ≡ Saving → frame.asked ≡ None
    → is_awaited_link link ≡ false → Held r n link frame → Held r n link (record frame { phase = Committing })
settled_link r n None frame p a e h = tt
settled_link r n (Some l) frame p a e h =
    let saving = subst (λ (z : Option (List ℕ)). SteadyLink r.servers r.last_act Saving z frame.k
    (role_in frame.ui.state n) l) a
    (subst (λ (q : Phase). SteadyLink r.servers r.last_act q frame.asked frame.k (role_in frame.ui.state n) l) p
    h) in
    subst (λ (z : Option (List ℕ)). SteadyLink r.servers r.last_act Committing z frame.k (role_in frame.ui.state n)
    l) (sym a) (now_committing r.servers r.last_act frame.k (role_in frame.ui.state n) l saving
    (answered_link l e))

asked_away : (phase : Phase) (asked : Option (List ℕ)) → phase ≡ HandingOff → IsAskedIn phase asked
    → is_some asked ≡ true
asked_away HandingOff asked e h = h
asked_away Idle asked e h = cc
asked_away Saving asked e h = cc
asked_away Committing asked e h = cc
asked_away InDoubt asked e h = cc

away_link : (r : Record) (n : ℕ) (link : Option Link) (frame : Frame) → frame.phase ≡ HandingOff
    → is_some frame.asked ≡ true → is_keeping_link link ≡ false → Held r n link frame
    → Held r n link (record frame { phase = Committing })
away_link r n None frame p a e h = tt
away_link r n (Some l) frame p a e h = now_away r.servers r.last_act frame.asked frame.k (role_in frame.ui.state n)
    l (subst (λ (q : Phase). SteadyLink r.servers r.last_act q frame.asked frame.k (role_in frame.ui.state n) l) p
    h) a (away_by l.states.persist.state e)

each_forall : {A I : Type 0} (C : I → Type 0) (R : I → A → Type 0) (xs : List A)
    → ((i : I) → C i → AllByRecursion (R i) xs) → AllByRecursion (λ x. (i : I) → C i → R i x) xs
each_forall C R [] k = tt
each_forall C R (x ∷ xs) k = (λ i c. (k i c).0, each_forall C R xs (λ i c. (k i c).1))

-- an object of a frame that waits for nothing has answered, or has given its storage away
abbrev pub Answered : List Object → Object → Type 0
Answered os o = (f : ℕ) → awaits f os ≡ false → o.frame ≡ f → is_awaited_link o.link ≡ false

abbrev Away : List Object → Object → Type 0
Away os o = (f : ℕ) → keeps f os ≡ false → o.frame ≡ f → is_keeping_link o.link ≡ false

pub all_answered : (os : List Object) → AllByRecursion (Answered os) os
all_answered os = each_forall (λ f. awaits f os ≡ false) (λ f (o : Object). o.frame ≡ f
    → is_awaited_link o.link ≡ false) os (λ f e. none_awaited f os e)

all_given : (os : List Object) → AllByRecursion (Away os) os
all_given os = each_forall (λ f. keeps f os ≡ false) (λ f (o : Object). o.frame ≡ f
    → is_keeping_link o.link ≡ false) os (λ f e. none_keeping f os e)

settled_object : (r : Record) (o : Object) → AllByRecursion SteadyFrame r.frames → SteadyObject r o
    → Answered r.objects o → Away r.objects o → SteadyObject (settle r) o
settled_object r o frames h a away =
    let s = some_and (Held r o.number o.link) (nth r.frames o.frame) h.linked in
    record {
      drawn = h.drawn;
      within = h.within;
      user_type = h.user_type;
      linked = and_some (Held r o.number o.link) (nth (settled_frames 1 r.objects r.frames) o.frame)
          (settled_frame o.frame r.objects s.0) (nth-settled r.objects r.frames o.frame s.0 s.1)
          (if_told (Held r o.number o.link) (is_ready o.frame r.objects s.0) (record s.0 { phase = Committing }) s.0
          (λ e. elim (ready_at s.0.phase s.0.asked (awaits o.frame r.objects) (keeps o.frame r.objects) e) [
            | inl named ↦ settled_link r o.number o.link s.0 named.0 named.1 (a o.frame named.2 refl) s.2
            | inr handed ↦ away_link r o.number o.link s.0 handed.0
                (asked_away s.0.phase s.0.asked handed.0
                (each_nth SteadyFrame r.frames o.frame s.0 frames s.1).asked) (away o.frame handed.1 refl) s.2
          ])
          (λ e. s.2));
    }

pub settle_steady : (r : Record) → Steady r → Steady (settle r)
settle_steady r h = record {
  frames = each_settled SteadyFrame 1 r.objects r.frames (λ n x k. settled_steady n r.objects x k) h.frames;
  objects = each_weaker (λ o. SteadyObject r o × (Answered r.objects o × Away r.objects o))
      (SteadyObject (settle r)) r.objects (λ o k. settled_object r o h.frames k.0 k.1.0 k.1.1)
      (each_both (SteadyObject r) (λ o. Answered r.objects o × Away r.objects o) r.objects h.objects
      (each_both (Answered r.objects) (Away r.objects) r.objects (all_answered r.objects)
      (all_given r.objects)));
  order = h.order;
  count = h.count;
  grants = λ f frame e. (let y = settled_back r.objects r.frames f frame e in
      subst (λ (u : Ui). SteadyGrant (settle r) f u.state) (sym y.2)
      (grant_kept r (settle r) f y.0.ui.state
      (λ c names k. claim_kept r (settle r) f c (keeps_refl r.objects c.object) (omega arith) k)
      (h.grants f y.0 y.1)));
}
