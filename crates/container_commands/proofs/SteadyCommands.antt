-- Commands keep a record steady.
use Rattle.std.proofs.Common.{◌≡◌, ◌≤◌, ◌<◌, inl, inr, ℕ, zero, suc, ◌+◌, Bool, true, false, List, [], ◌∷◌, ◌++◌}
use Rattle.std.proofs.Common.{length, Option, Some, None, Ok, refl, sym, ap, ◌∙◌, arith, subst, ◌==◌}
use Rattle.std.proofs.lemmas.Bool.{eqb-true, eqb-false, ne_eqb}
use Rattle.std.specs.Prelude.{IfSome, IsOkAnd, nat_lt, slice_get}
use Rattle.message_values.specs.Found.{find, put, nth}
use Rattle.message_values.specs.declared.operation.Operation.{Operation}
use Rattle.message_values.specs.declared.operation.Operation.TheVariants.{InitNew, Load, Save}
use Rattle.object_state.specs.declared.grant_states.GrantState.{GrantState}
use Rattle.object_state.specs.declared.grant_states.GrantState.TheVariants.{Free, Granting, Held, Revoking}
use Rattle.object_state.specs.declared.grant_states.Claim.{Claim}
use Rattle.object_state.specs.Both as both
use Rattle.tree_streams.specs.declared.streams.NamedStream.{NamedStream}
use Rattle.object_core.specs.Kinds.{Kind, Note, Table, Drawing}
use Rattle.tree_streams.specs.Limits.{is_within}
use Rattle.ole_model.specs.CompObjs.{PAST_USER_TYPE}
use Rattle.container_model.specs.declared.record.Link.{Link}
use Rattle.container_model.specs.declared.record.Object.{Object}
use Rattle.container_model.specs.declared.record.Frame.{Frame}
use Rattle.container_model.specs.declared.record.Phase.{Phase}
use Rattle.container_model.specs.declared.record.Phase.TheVariants.{Idle, Saving}
use Rattle.container_model.specs.declared.command.Command.{Command}
use Rattle.container_model.specs.Record.{Record, Took, MOST_OBJECTS, is_object, is_alive, is_asked, is_busy, is_claim}
use Rattle.container_model.specs.Record.{count_objects, is_unreaped, without_first, asked_link, asked_object}
use Rattle.object_state.specs.Grants.{waiting}
use Rattle.container_model.specs.Commands
use Rattle.container_queues.specs.Roles.{IsClaim, IsPlain, Other, Role, SteadyGrant, role_in}
use Rattle.container_queues.specs.Steady.{SteadyLink, SteadyObject, SteadyFrame, InOrder, Steady, IsBeginning, IsTimely}
use Rattle.container_queues.specs.Steady.{EndsWell, ended}
use Rattle.container_queues.proofs.SteadyLookups.{each_found, each_weaker, each_both, each_put, each_map, each_append}
use Rattle.container_queues.proofs.SteadyLookups.{each_set, pairs_put, pairs_map, pairs_append, nth_append, none_busy}
use Rattle.container_steady.proofs.SteadyCounts.{count_put, count_map, count_more, count_without, each_without}
use Rattle.container_steady.proofs.SteadyCounts.{pairs_without}
use Rattle.container_queues.proofs.SteadyLinks.{link_moved, save_asked}
use Rattle.container_steady.proofs.SteadyRecords.{if_told, or_false, some_and, and_some, if_weaker, Held as HeldIn}
use Rattle.container_steady.proofs.SteadyRecords.{Apart, apart_none, IsOut, order_both, settle_steady}
use Rattle.container_steady.proofs.SteadyTests.{none_of}
use Rattle.container_steady.proofs.SteadyMoves.{set_object, unset_object}
use Rattle.container_steady.proofs.SteadyClaims.{KeepsLink, append_back, claim_kept, grant_kept, keeps_append}
use Rattle.container_steady.proofs.SteadyClaims.{keeps_map, keeps_put, keeps_refl, keeps_without, set_back}
use Rattle.container_steady.specs.Made.{IsMade, makes_activation, makes_edit, makes_end, makes_fewer, makes_frame}
use Rattle.container_steady.specs.Made.{makes_nothing, makes_object, makes_save, makes_server, makes_steps}
use Rattle.container_steady.specs.Made.{makes_taking, run_by}
use Rattle.container_steady.proofs.Taken.{command_made}
use Rattle.container_commands.proofs.SteadyAsks.{edit_keeps}
use Rattle.container_commands.proofs.SteadyHandOffs.{asked_stays, asked_took, hand_off_in_steady}
use Rattle.container_commands.proofs.SteadyVerbs.{claiming_keeps, row_keeps}

-- a new frame
framed : (r : Record) (frame : Frame) (o : Object) → SteadyObject r o
    → SteadyObject (record r { frames = r.frames ++ frame ∷ [] }) o
framed r frame o h = record {
  drawn = h.drawn;
  within = h.within;
  user_type = h.user_type;
  linked = nth_append (HeldIn r o.number o.link) r.frames frame o.frame h.linked;
}

-- no frame that is free is claimed
free_grant : (r : Record) (f : ℕ) (s : GrantState) → s ≡ Free → SteadyGrant r f s
free_grant r f s e = subst (SteadyGrant r f) (sym e) (record { apart = tt; holder = tt; next = tt })

-- where the objects stay
same_grants : (r u : Record) (f : ℕ) (s : GrantState) → u.objects ≡ r.objects → r.last_g ≤ u.last_g
    → SteadyGrant r f s → SteadyGrant u f s
same_grants r u f s e le h = grant_kept r u f s
    (λ c names k. claim_kept r u f c (subst (λ (os : List Object). KeepsLink r.objects os c.object) (sym e)
    (keeps_refl r.objects c.object)) le k) h

pub frame_steady : (r : Record) (frame : Frame) → Steady r → SteadyFrame frame → frame.ui.state ≡ Free
    → Steady (record r { frames = r.frames ++ frame ∷ [] })
frame_steady r frame h f free = record {
  frames = each_append SteadyFrame r.frames frame h.frames f;
  objects = each_weaker (SteadyObject r) (SteadyObject (record r { frames = r.frames ++ frame ∷ [] })) r.objects
      (framed r frame) h.objects;
  order = h.order;
  count = h.count;
  grants = λ i x e. elim (append_back r.frames frame x i e) [
    | inl old ↦ same_grants r (record r { frames = r.frames ++ frame ∷ [] }) i x.ui.state refl (omega arith)
        (h.grants i x old)
    | inr new ↦ free_grant (record r { frames = r.frames ++ frame ∷ [] }) i x.ui.state
        (ap (λ (y : Frame). y.ui.state) (sym new) ∙ free)
  ];
}

-- a new object
drawn_more : (r : Record) (o a : Object) → SteadyObject r o
    → SteadyObject (record r { objects = r.objects ++ a ∷ []; last_object = r.last_object + 1 }) o
drawn_more r o a h = record {
  drawn = (let d = h.drawn in omega arith);
  within = h.within;
  user_type = h.user_type;
  linked = h.linked;
}

pub object_steady : (r : Record) (a : Object) (frame : Frame) → Steady r → a.number ≡ r.last_object + 1
    → a.link ≡ None → nth r.frames a.frame ≡ Some frame
    → is_within a.work ≡ true → nat_lt (length a.user_type) PAST_USER_TYPE ≡ true
    → count_objects a.frame r.objects < MOST_OBJECTS
    → Steady (record r { objects = r.objects ++ a ∷ []; last_object = r.last_object + 1 })
object_steady r a frame s n l f w u room =
    let after : Record = record r { objects = r.objects ++ a ∷ []; last_object = r.last_object + 1 } in
    record {
      frames = s.frames;
      objects = each_append (SteadyObject after) r.objects a
          (each_weaker (SteadyObject r) (SteadyObject after) r.objects (λ o h. drawn_more r o a h) s.objects)
          (record {
            drawn = omega arith;
            within = w;
            user_type = u;
            linked = and_some (HeldIn r a.number a.link) (nth r.frames a.frame) frame f
                (subst (λ (z : Option Link). HeldIn r a.number z frame) (sym l) tt);
          });
      order = pairs_append InOrder r.objects a s.order
          (each_weaker (SteadyObject r) (λ (o : Object). InOrder o a) r.objects
          (λ o h. record {
            rising = (let d = h.drawn in omega arith);
            apart = subst (λ (z : Option Link). Apart o.link z) (sym l) (apart_none o.link);
          }) s.objects);
      count = λ g. count_more MOST_OBJECTS g a r.objects (s.count g) room;
      grants = λ f x e. grant_kept r after f x.ui.state
          (λ c names k. claim_kept r after f c (keeps_append r.objects c.object a) (omega arith) k)
          (s.grants f x e);
    }

user_type_fits : (kind : Kind) → nat_lt (length (Commands.user_type kind)) PAST_USER_TYPE ≡ true
user_type_fits Note = refl
user_type_fits Table = refl
user_type_fits Drawing = refl

-- a new server
get_unreaped : (servers : List Bool) (i : ℕ) → is_unreaped (slice_get servers i) ≡ true
    → is_unreaped (slice_get (servers ++ false ∷ []) i) ≡ true
get_unreaped [] i e = absurd (cc)
get_unreaped (b ∷ bs) zero e = e
get_unreaped (b ∷ bs) (suc i) e = get_unreaped bs i e

still_unreaped : (servers : List Bool) (inc : ℕ) → is_unreaped (nth servers inc) ≡ true
    → is_unreaped (nth (servers ++ false ∷ []) inc) ≡ true
still_unreaped servers zero e = absurd (cc)
still_unreaped servers (suc i) e = get_unreaped servers i e

started_link : (r : Record) (n : ℕ) (link : Option Link) (frame : Frame) → HeldIn r n link frame
    → HeldIn (record r { servers = r.servers ++ false ∷ [] }) n link frame
started_link r n link frame h =
    if_weaker (SteadyLink r.servers r.last_act frame.phase frame.asked frame.k (role_in frame.ui.state n))
    (SteadyLink (r.servers ++ false ∷ []) r.last_act frame.phase frame.asked frame.k (role_in frame.ui.state n))
    link
    (λ l k. link_moved r.servers (r.servers ++ false ∷ []) r.last_act r.last_act frame.phase frame.asked frame.k
    (role_in frame.ui.state n) l k.acts_drawn (still_unreaped r.servers l.inc k.servers_told) k) h

-- objects whose links were moved
pub moved_object : (r u : Record) (o : Object) → u.frames ≡ r.frames → r.last_object ≤ u.last_object
    → ((frame : Frame) → HeldIn r o.number o.link frame → HeldIn u o.number o.link frame) → SteadyObject r o
    → SteadyObject u o
moved_object r u o ef le k h =
    let s = some_and (HeldIn r o.number o.link) (nth r.frames o.frame) h.linked in
    record {
      drawn = (let d = h.drawn in omega arith);
      within = h.within;
      user_type = h.user_type;
      linked = and_some (HeldIn u o.number o.link) (nth u.frames o.frame) s.0
          (ap (λ (fs : List Frame). nth fs o.frame) ef ∙ s.1) (k s.0 s.2);
    }

start_steady : (r : Record) → Steady r → Steady (record r { servers = r.servers ++ false ∷ [] })
start_steady r s =
    let after : Record = record r { servers = r.servers ++ false ∷ [] } in
    record {
      frames = s.frames;
      objects = each_weaker (SteadyObject r) (SteadyObject after) r.objects
          (λ o h. moved_object r after o refl (omega arith) (started_link r o.number o.link) h) s.objects;
      order = s.order;
      count = s.count;
      grants = λ f x e. same_grants r after f x.ui.state refl (omega arith) (s.grants f x e);
    }

-- a passive object has no part in its frame's grant
unclaimed : (r : Record) (f : ℕ) (c : Claim) (x : Object) → IsClaim r f c
    → find (is_object x.number) r.objects ≡ Some x → x.link ≡ None → c.object ≡ x.number → ⊥
unclaimed r f c x h found none e =
    let same = sym (ap (λ (n : ℕ). find (is_object n) r.objects) e) ∙ h.found in
    let both = sym found ∙ same in
    let is : x ≡ h.object = cc in
    let linked : None ≡ Some h.link = sym none ∙ (ap (λ (z : Object). z.link) is ∙ h.linked) in
    cc

out_of : (r : Record) (f : ℕ) (s : GrantState) (x : Object) → SteadyGrant r f s
    → find (is_object x.number) r.objects ≡ Some x → x.link ≡ None → role_in s x.number ≡ Other
out_of r f Free x h found none = refl
out_of r f (Granting c) x h found none = rw (ne_eqb c.object x.number (unclaimed r f c x h.holder found none)) refl
out_of r f (Held c tools) x h found none = rw (ne_eqb c.object x.number (unclaimed r f c x h.holder found none)) refl
out_of r f (Revoking c None) x h found none = rw (ne_eqb c.object x.number (unclaimed r f c x h.holder found none)) refl
out_of r f (Revoking c (Some d)) x h found none =
    rw (
      ne_eqb c.object x.number (unclaimed r f c x h.holder found none),
      ne_eqb d.object x.number
          (unclaimed r f d x h.next found none),
    ) refl

pub passive_out : (r : Record) (x : Object) → Steady r → find (is_object x.number) r.objects ≡ Some x
    → x.link ≡ None → IsOut r x
passive_out r x s found none frame at = out_of r x.frame frame.ui.state x (s.grants x.frame frame at) found none

-- a passive object begins
begun_by : (servers : List Bool) (last_act : ℕ) (asked : Option (List ℕ)) (k session inc act : ℕ) (op : Operation)
    → act ≤ last_act → is_unreaped (nth servers inc) ≡ true → IsBeginning op
    → IsOkAnd (ended (Ok both.loaded) (op ∷ [])) (EndsWell Idle asked k Other) → IsTimely Idle None op → IsPlain op
    → SteadyLink servers last_act Idle asked k Other (Commands.begun_link session inc act op)
begun_by servers last_act asked k session inc act op a s b runs timely plain = record {
  acts_drawn = a;
  servers_told = s;
  first_call = inl (record { states = refl; last = refl; alone = refl; pending = b });
  waits_behind = tt;
  queue_runs = runs;
  save_in_queue = (timely, tt);
  saved_known = refl;
  saved_within = tt;
  shown = λ e. cc;
  plays = (plain, tt);
}

begun_steady : (servers : List Bool) (last_act : ℕ) (asked : Option (List ℕ)) (k session inc act : ℕ)
    (op : Operation) → act ≤ last_act → is_unreaped (nth servers inc) ≡ true → IsBeginning op
    → SteadyLink servers last_act Idle asked k Other (Commands.begun_link session inc act op)
begun_steady servers last_act asked k session inc act (InitNew class) a s b =
    begun_by servers last_act asked k session inc act (InitNew class) a s b
    (record { storage = refl; last_save = tt; running = tt; waits = tt }) tt tt
begun_steady servers last_act asked k session inc act (Load class content) a s b =
    begun_by servers last_act asked k session inc act (Load class content) a s b
    (record { storage = refl; last_save = tt; running = tt; waits = tt }) tt tt
begun_steady servers last_act asked k session inc act _ a s b = absurd b

pub first_begins : (o : Object) (streams : List NamedStream) → IsBeginning (Commands.first_operation o streams)
first_begins o [] = tt
first_begins o (s ∷ ss) = tt

old_act : (r : Record) (o : Object) → SteadyObject r o → IfSome o.link (λ (l : Link). l.act ≤ r.last_act)
old_act r o h =
    let s = some_and (HeldIn r o.number o.link) (nth r.frames o.frame) h.linked in
    if_weaker (SteadyLink r.servers r.last_act s.0.phase s.0.asked s.0.k (role_in s.0.ui.state o.number))
    (λ (l : Link). l.act ≤ r.last_act) o.link (λ l k. k.acts_drawn) s.2

module _ (r : Record) (o : Object) (inc : ℕ) (op : Operation) (frame : Frame) (s : Steady r)
    (found : find (is_object o.number) r.objects ≡ Some o) (alive : is_alive r inc ≡ true) (begins : IsBeginning op)
    (at : nth r.frames o.frame ≡ Some frame) (idle : frame.phase ≡ Idle) (passive : o.link ≡ None) where
  abbrev begun : Object
  begun = record o { link = Some (Commands.begun_link r.session inc (r.last_act + 1) op) }

  abbrev after : Record
  after = record r { objects = put (is_object o.number) begun r.objects; last_act = r.last_act + 1 }

  raised : (x : Object) → SteadyObject r x → SteadyObject after x
  raised x h = moved_object r after x refl (omega arith)
      (λ f held. if_weaker (SteadyLink r.servers r.last_act f.phase f.asked f.k (role_in f.ui.state x.number))
      (SteadyLink r.servers (r.last_act + 1) f.phase f.asked f.k (role_in f.ui.state x.number)) x.link
      (λ l k. link_moved r.servers r.servers r.last_act (r.last_act + 1) f.phase f.asked f.k
      (role_in f.ui.state x.number) l (let a = k.acts_drawn in omega arith) k.servers_told k) held) h

  here : SteadyObject after begun
  here =
      let was = each_found (SteadyObject r) (is_object o.number) r.objects o s.objects found in
      record {
        drawn = was.drawn;
        within = was.within;
        user_type = was.user_type;
        linked = and_some (HeldIn after begun.number begun.link) (nth r.frames o.frame) frame at
            (subst (λ (p : Phase). SteadyLink r.servers (r.last_act + 1) p frame.asked frame.k
            (role_in frame.ui.state o.number) (Commands.begun_link r.session inc (r.last_act + 1) op))
            (sym idle)
            (subst (λ (role : Role). SteadyLink r.servers (r.last_act + 1) Idle frame.asked frame.k role
            (Commands.begun_link r.session inc (r.last_act + 1) op))
            (sym (passive_out r o s found passive frame at))
            (begun_steady r.servers (r.last_act + 1) frame.asked frame.k r.session inc (r.last_act + 1) op
            (omega arith) alive begins)));
      }

  pub run_steady : Steady after
  run_steady = record {
    frames = s.frames;
    objects = each_put (SteadyObject after) (is_object o.number) begun r.objects
        (each_weaker (SteadyObject r) (SteadyObject after) r.objects raised s.objects) here;
    order = pairs_put InOrder (SteadyObject r) (is_object o.number) begun o r.objects
        (λ y p k. record {
          rising = k.rising;
          apart = if_weaker (λ (l : Link). l.act ≤ r.last_act)
              (λ (l : Link). l.act ≡ r.last_act + 1 → ⊥) y.link (λ l a e. absurd (omega arith)) (old_act r y p);
        })
        (λ y p k. record {
          rising = k.rising;
          apart = if_weaker (λ (l : Link). l.act ≤ r.last_act)
              (λ (l : Link). r.last_act + 1 ≡ l.act → ⊥) y.link (λ l a e. absurd (omega arith)) (old_act r y p);
        })
        s.order s.objects found;
    count = λ f. subst (λ (n : ℕ). n ≤ MOST_OBJECTS)
        (sym (count_put f (is_object o.number) begun o r.objects found refl)) (s.count f);
    grants = λ f x e. grant_kept r after f x.ui.state
        (λ c names k. claim_kept r after f c (keeps_put r.objects o.number c.object o begun found refl refl
        (λ l q. (let was : None ≡ Some l = sym passive ∙ q in cc))) (omega arith) k) (s.grants f x e);
  }

-- a save begins
save_held : (servers : List Bool) (last_act : ℕ) (asked name : Option (List ℕ)) (k j : ℕ) (role : Role)
    (phase : Phase) (link : Option Link) → phase ≡ Idle → is_asked link ≡ false
    → IfSome link (SteadyLink servers last_act phase asked k role)
    → IfSome (asked_link (Save j) link) (SteadyLink servers last_act Saving name j role)
save_held servers last_act asked name k j role phase None p q h = tt
save_held servers last_act asked name k j role phase (Some l) p q h =
    save_asked servers last_act asked k role l
    (subst (λ (z : Phase). SteadyLink servers last_act z asked k role l) p h) (none_of l.pending q) name j

module _ (r : Record) (f : ℕ) (frame : Frame) (s : Steady r) (at : nth r.frames f ≡ Some frame)
    (idle : frame.phase ≡ Idle) (raised : Option ℕ) (name : Option (List ℕ)) (state : GrantState)
    (quiet : Commands.any_busy f state r.objects ≡ false) where
  abbrev saving_now : Record
  saving_now = Commands.saving r f frame raised name

  saved_object : (o : Object) → SteadyObject r o → (o.frame ≡ f → is_busy state o ≡ false)
      → SteadyObject saving_now (asked_object f (Save (frame.k + 1)) o)
  saved_object o h q = if_told (SteadyObject saving_now) (o.frame == f)
      (record o { link = asked_link (Save (frame.k + 1)) o.link }) o
      (λ e. let here = eqb-true o.frame f e in
      let still = or_false (is_asked o.link) (is_claim o.number (waiting state)) (q here) in
      set_object r saving_now f frame (Commands.saving_frame raised name frame) o
      (record o { link = asked_link (Save (frame.k + 1)) o.link }) at refl here refl refl refl h.within refl h
      (save_held r.servers r.last_act frame.asked name frame.k (frame.k + 1) (role_in frame.ui.state o.number)
      frame.phase o.link idle still.0))
      (λ e. unset_object r saving_now f (Commands.saving_frame raised name frame) o refl (eqb-false o.frame f e)
      refl refl refl h)

  grants_stay : (i : ℕ) (x : GrantState) → SteadyGrant r i x → SteadyGrant saving_now i x
  grants_stay i x h = grant_kept r saving_now i x (λ c names k. claim_kept r saving_now i c
      (keeps_map r.objects c.object (asked_object f (Save (frame.k + 1)))
      (λ y. (asked_took f (Save (frame.k + 1)) y).number) (λ y. (asked_took f (Save (frame.k + 1)) y).frame)
      (λ y found. asked_stays f (Save (frame.k + 1)) y)) (omega arith) k) h

  pub saving_steady : Steady saving_now
  saving_steady = record {
    frames = each_set SteadyFrame r.frames f (Commands.saving_frame raised name frame) s.frames (record { asked = tt });
    objects = each_map (λ o. SteadyObject r o × (o.frame ≡ f → is_busy state o ≡ false)) (SteadyObject saving_now)
        (asked_object f (Save (frame.k + 1))) r.objects (λ o k. saved_object o k.0 k.1)
        (each_both (SteadyObject r) (λ (o : Object). o.frame ≡ f → is_busy state o ≡ false) r.objects s.objects
        (none_busy f state r.objects quiet));
    order = pairs_map InOrder (asked_object f (Save (frame.k + 1))) r.objects
        (order_both (asked_object f (Save (frame.k + 1))) (asked_took f (Save (frame.k + 1)))) s.order;
    count = λ g. subst (λ (n : ℕ). n ≤ MOST_OBJECTS)
        (sym (count_map g (asked_object f (Save (frame.k + 1))) r.objects
        (λ o. (asked_took f (Save (frame.k + 1)) o).frame))) (s.count g);
    grants = λ i x e. elim (set_back r.frames f i frame (Commands.saving_frame raised name frame) x at e) [
      | inl same ↦ subst (λ (y : Frame). SteadyGrant saving_now i y.ui.state) same.1
          (subst (λ (n : ℕ). SteadyGrant saving_now n frame.ui.state) same.0
          (grants_stay f frame.ui.state (s.grants f frame at)))
      | inr other ↦ grants_stay i x.ui.state (s.grants i x other)
    ];
  }

-- a passive object goes
deleted_steady : (r : Record) (o : Object) → Steady r → find (is_object o.number) r.objects ≡ Some o → o.link ≡ None
    → Steady (record r { objects = without_first (is_object o.number) r.objects })
deleted_steady r o s found passive =
    let after : Record = record r { objects = without_first (is_object o.number) r.objects } in
    record {
      frames = s.frames;
      objects = each_weaker (SteadyObject r) (SteadyObject after) after.objects
          (λ x h. moved_object r after x refl (omega arith) (λ frame held. held) h)
          (each_without (SteadyObject r) (is_object o.number) r.objects s.objects);
      order = pairs_without InOrder (is_object o.number) r.objects s.order;
      count = λ f. (let fewer : count_objects f after.objects ≤ count_objects f r.objects =
          count_without f (is_object o.number) r.objects in let most : count_objects f r.objects ≤ MOST_OBJECTS =
          s.count f in omega (arith, fewer, most));
      grants = λ f x e. grant_kept r after f x.ui.state
          (λ c names k. claim_kept r after f c
          (keeps_without r.objects o.number c.object (λ q. unclaimed r f c o k found passive (sym q))) (omega arith)
          k) (s.grants f x e);
    }

-- whatever a command makes of it keeps a record steady
made_keeps : (r : Record) (ns : List ℕ) (t : Took) → Steady r → IsMade r t ns → Steady t.rec
made_keeps r _ t s (makes_nothing made) = subst (λ (z : Took). Steady z.rec) made s
made_keeps r _ t s (makes_frame name w h new made) = subst (λ (z : Took). Steady z.rec) made
    (frame_steady r (Commands.new_frame name w h) s (record { asked = refl }) refl)
made_keeps r _ t s (makes_object f kind area at made) = subst (λ (z : Took). Steady z.rec) made
    (object_steady r (Commands.new_object (r.last_object + 1) f (Commands.kind_of kind) area) at.frame s refl refl
    at.there refl (user_type_fits (Commands.kind_of kind)) at.few)
made_keeps r _ t s (makes_fewer n at passive made) = subst (λ (z : Took). Steady z.rec) made
    (deleted_steady r at.object s at.own passive)
made_keeps r _ t s (makes_server started made) = subst (λ (z : Took). Steady z.rec) made (start_steady r s)
made_keeps r _ t s (makes_end inc alive made) = subst (λ (z : Took). Steady z.rec) made s
made_keeps r _ t s (makes_activation n inc at run made) = subst (λ (z : Took). Steady z.rec) made
    (run_steady r at.object inc (Commands.first_operation at.object at.object.work.streams) at.frame s at.own
    run.alive (first_begins at.object at.object.work.streams) at.inside at.idle run.passive)
made_keeps r _ t s (makes_edit n bytes go small has made) = subst (λ (z : Took). Steady z.rec) made
    (edit_keeps r go.at.object go.at.frame go.link s go.at.own go.at.inside go.at.idle go.at.quiet go.linked bytes)
made_keeps r _ t s (makes_save f raised name at raising other made) = subst (λ (z : Took). Steady z.rec) made
    (settle_steady (Commands.saving_on r f at.frame raised name).rec
    (hand_off_in_steady (Commands.saving r f at.frame raised name) f
    (saving_steady r f at.frame s at.there at.idle raised name at.frame.ui.state at.quiet)))
made_keeps r _ t s (makes_steps n go ts has row made) = subst (λ (z : Took). Steady z.rec) made
    (row_keeps r go.at.object go.at.frame go.link s go.at.own go.at.inside go.at.idle go.at.quiet go.linked
    go.at.unclaimed ts row)
made_keeps r _ t s (makes_taking n go ts taking made) = subst (λ (z : Took). Steady z.rec) made
    (claiming_keeps r go.at.object go.at.frame go.link s go.at.own go.at.inside go.at.idle go.at.quiet go.linked
    go.at.unclaimed ts taking)

pub on_command_keeps : (r : Record) (c : Command) (t : Took) → Steady r → Commands.on_command r c ≡ Ok t → Steady t.rec
on_command_keeps r c t s e = made_keeps r (run_by c) t s (command_made r c t e)
