-- The end of a server keeps a record steady.
use Rattle.std.proofs.Common.{◌≡◌, ◌≤◌, ◌⊎◌, inl, inr, ℕ, zero, suc, ◌+◌, Bool, true, false, List, [], ◌∷◌, ◌++◌, map}
use Rattle.std.proofs.Common.{Option, Some, None, Result, Ok, Err, refl, sym, ap, ◌∙◌, arith, subst, ◌==◌}
use Rattle.std.proofs.Common.{if◌then◌else◌}
use Rattle.std.proofs.lemmas.Bool.{eqb-true, eqb-false}
use Rattle.std.specs.Prelude.{IfSome, option_map, slice_get}
use Rattle.std.specs.List.{AllByRecursion}
use Rattle.message_values.specs.Found.{find, nth, set_nth}
use Rattle.message_values.specs.declared.operation.Operation.TheVariants.{UiActivate}
use Rattle.object_state.specs.declared.grant_states.Claim.{Claim}
use Rattle.object_state.specs.declared.grant_states.GrantState.{GrantState}
use Rattle.object_state.specs.declared.grant_states.GrantState.TheVariants as state
use Rattle.container_model.specs.declared.record.Link.{Link}
use Rattle.container_model.specs.declared.record.Object.{Object}
use Rattle.container_model.specs.declared.record.Frame.{Frame}
use Rattle.container_model.specs.declared.fault.ContainerFault.{ContainerFault}
use Rattle.container_model.specs.declared.fault.ContainerFault.TheVariants.{NoSuch}
use Rattle.container_model.specs.Grants.{freed, freed_claims, freed_frame, grant_each, is_hosted, is_hosted_object}
use Rattle.container_model.specs.Grants.{passed_to, requested, unwaited}
use Rattle.container_model.specs.Record.{Record, Took, MOST_OBJECTS, asked_link, is_alive, is_object, is_unreaped}
use Rattle.container_model.specs.Record.{with_object}
use Rattle.container_model.specs.Saves.{kept}
use Rattle.container_model.specs.Messages.{on_reap, reaped, reaped_grants, reaped_saving, reaped_object}
use Rattle.container_queues.specs.Roles.{IsClaim, Getting, Role, SteadyGrant, Waiting, role_in}
use Rattle.container_queues.specs.Steady.{SteadyFrame, SteadyLink, SteadyObject, InOrder, EachPair, Steady}
use Rattle.container_commands.proofs.SteadyHandOffs.{hand_off_steady}
use Rattle.container_steps.proofs.SteadyAnswers.{none_follows}
use Rattle.container_steady.proofs.SteadyClaims.{claim_kept, keeps_map}
use Rattle.container_steady.proofs.SteadyCounts.{count_map}
use Rattle.container_steps.proofs.SteadyFates.{Fate, stays, ends, unwaits, passes, Hosted, keeps_part, granted_part}
use Rattle.container_steps.proofs.SteadyFates.{fate, grant_after, part_after}
use Rattle.container_steady.proofs.SteadyFinds.{find-map, find-put_other, here, number_apart}
use Rattle.container_queues.proofs.SteadyLinks.{grant_asked, link_moved}
use Rattle.container_queues.proofs.SteadyLookups.{each_both, each_found, each_map, each_weaker, nth-set_other}
use Rattle.container_queues.proofs.SteadyLookups.{pairs_map}
use Rattle.container_steady.proofs.SteadyMoves.{But, SteadyBut, all_steady, but_all, gets_it, put_but, waits_for_it}
use Rattle.container_steady.proofs.SteadyRecords.{if_told, some_and, and_some, at_some, Held, kept_object_within}
use Rattle.container_steady.proofs.SteadyRecords.{TookPlace, order_both, settle_steady}
use Rattle.container_steady.proofs.SteadyShapes.{Among}
use Rattle.container_commands.proofs.SteadyTaking.{asked_part}
use Rattle.container_steady.proofs.SteadyTells.{ok_rec}
use Rattle.container_steady.proofs.SteadyTests.{asked_follows, find_passes, link_asked}

-- lists under a function
get_map : {A B : Type 0} (g : A → B) (xs : List A) (i : ℕ) (x : A) → slice_get xs i ≡ Some x
    → slice_get (map g xs) i ≡ Some (g x)
get_map g [] i x e = cc
get_map g (y ∷ ys) zero x e = (let same : y ≡ x = cc in ap (λ z. Some (g z)) same)
get_map g (y ∷ ys) (suc i) x e = get_map g ys i x e

nth-map : {A B : Type 0} (g : A → B) (xs : List A) (n : ℕ) (x : A) → nth xs n ≡ Some x → nth (map g xs) n ≡ Some (g x)
nth-map g xs zero x e = cc
nth-map g xs (suc i) x e = get_map g xs i x e

get_back : {A B : Type 0} (g : A → B) (xs : List A) (i : ℕ) (y : B) → slice_get (map g xs) i ≡ Some y
    → (x : A) × (slice_get xs i ≡ Some x) × (y ≡ g x)
get_back g [] i y e = cc
get_back g (x ∷ xs) zero y e = (let same : g x ≡ y = cc in (x, refl, sym same))
get_back g (x ∷ xs) (suc i) y e = get_back g xs i y e

map_back : {A B : Type 0} (g : A → B) (xs : List A) (n : ℕ) (y : B) → nth (map g xs) n ≡ Some y
    → (x : A) × (nth xs n ≡ Some x) × (y ≡ g x)
map_back g xs zero y e = cc
map_back g xs (suc i) y e = get_back g xs i y e

-- each object is found by its number
pub each_own : (os : List Object) → EachPair InOrder os
    → AllByRecursion (λ (o : Object). find (is_object o.number) os ≡ Some o) os
each_own [] h = tt
each_own (y ∷ ys) h = (
  here y.number y ys refl,
  each_weaker (λ (o : Object). InOrder y o × (find (is_object o.number) ys ≡ Some o))
      (λ (o : Object). find (is_object o.number) (y ∷ ys) ≡ Some o) ys
      (λ o k. subst (λ (b : Bool). (if b then Some y else find (is_object o.number) ys) ≡ Some o)
      (sym (number_apart y o k.0)) k.1)
      (each_both (InOrder y) (λ (o : Object). find (is_object o.number) ys ≡ Some o) ys h.0 (each_own ys h.1)),
)

-- claims that are granted, by rising frame
abbrev pub name_of : Claim → ℕ
name_of c = c.object

but_among : (ns : List ℕ) (P : Object → Type 0) (o : Object) → Among ns o.number → But ns P o
but_among [] P o h = absurd h
but_among (n ∷ ns) P o (inl e) = λ ne. absurd (ne e)
but_among (n ∷ ns) P o (inr h) = λ ne. but_among ns P o h

pub passed_few : (s t : GrantState) → (passed_to s t ≡ []) ⊎ ((c : Claim) × (passed_to s t ≡ c ∷ []))
passed_few state.Free t = inl refl
passed_few (state.Granting c) t = inl refl
passed_few (state.Held c tools) t = inl refl
passed_few (state.Revoking c None) t = inl refl
passed_few (state.Revoking c (Some next)) state.Free = inl refl
passed_few (state.Revoking c (Some next)) (state.Granting d) = inr (d, refl)
passed_few (state.Revoking c (Some next)) (state.Held d tools) = inl refl
passed_few (state.Revoking c (Some next)) (state.Revoking d other) = inl refl

module _ (inc : ℕ) (os : List Object) where
  abbrev pub passed : Frame → List Claim
  passed frame = passed_to (unwaited inc os frame.ui).state (freed inc os frame.ui).state

  pub freed_all : (P : Claim → Type 0) (frames : List Frame)
      → ((i : ℕ) (frame : Frame) (c : Claim) → slice_get frames i ≡ Some frame → passed frame ≡ c ∷ [] → P c)
      → AllByRecursion P (freed_claims inc os frames)
  freed_all P [] k = tt
  freed_all P (y ∷ ys) k =
      let rest = freed_all P ys (λ i frame c at e. k (suc i) frame c at e) in
      elim (passed_few (unwaited inc os y.ui).state (freed inc os y.ui).state) [
        | inl none ↦ subst (λ (cs : List Claim). AllByRecursion P (cs ++ freed_claims inc os ys)) (sym none) rest
        | inr one ↦ subst (λ (cs : List Claim). AllByRecursion P (cs ++ freed_claims inc os ys)) (sym one.1)
            (k zero y one.0 refl one.1, rest)
      ]

  among_behind : (cs ds : List Claim) (n : ℕ) → Among (map name_of ds) n → Among (map name_of (cs ++ ds)) n
  among_behind [] ds n h = h
  among_behind (c ∷ cs) ds n h = inr (among_behind cs ds n h)

  freed_among : (frames : List Frame) (i : ℕ) (frame : Frame) (c : Claim) → slice_get frames i ≡ Some frame
      → passed frame ≡ c ∷ [] → Among (map name_of (freed_claims inc os frames)) c.object
  freed_among [] i frame c at e = cc
  freed_among (y ∷ ys) zero frame c at e =
      let same : y ≡ frame = cc in
      subst (λ (cs : List Claim). Among (map name_of (cs ++ freed_claims inc os ys)) c.object)
      (sym (ap passed same ∙ e)) (inl refl)
  freed_among (y ∷ ys) (suc i) frame c at e = among_behind (passed y) (freed_claims inc os ys) c.object
      (freed_among ys i frame c at e)

-- claims of different frames are of different objects
abbrev pub ClaimsApart : Claim → Claim → Type 0
ClaimsApart c d = c.object ≡ d.object → ⊥

pub claims_apart : (r : Record) (f g : ℕ) (c d : Claim) → IsClaim r f c → IsClaim r g d → (f ≡ g → ⊥) → ClaimsApart c d
claims_apart r f g c d h k ne e =
    let both = sym h.found ∙ (ap (λ (n : ℕ). find (is_object n) r.objects) e ∙ k.found) in
    let same : h.object ≡ k.object = cc in
    ne (sym h.inside ∙ (ap (λ (z : Object). z.frame) same ∙ k.inside))

pub freed_pairs : (r : Record) (inc f : ℕ) (os : List Object) (frames : List Frame)
    → ((i : ℕ) (frame : Frame) (c : Claim) → slice_get frames i ≡ Some frame → passed inc os frame ≡ c ∷ []
    → IsClaim r (f + i) c) → EachPair ClaimsApart (freed_claims inc os frames)
freed_pairs r inc f os [] k = tt
freed_pairs r inc f os (y ∷ ys) k =
    let rest = freed_pairs r inc (f + 1) os ys
    (λ i frame c at e. (let same : f + suc i ≡ (f + 1) + i = omega arith in
    subst (λ (n : ℕ). IsClaim r n c) same (k (suc i) frame c at e))) in
    elim (passed_few (unwaited inc os y.ui).state (freed inc os y.ui).state) [
      | inl none ↦ subst (λ (cs : List Claim). EachPair ClaimsApart (cs ++ freed_claims inc os ys)) (sym none) rest
      | inr one ↦ subst (λ (cs : List Claim). EachPair ClaimsApart (cs ++ freed_claims inc os ys)) (sym one.1) (
        freed_all inc os (ClaimsApart one.0) ys
            (λ i frame d at e. claims_apart r (f + 0) (f + suc i) one.0 d (k zero y one.0 refl one.1)
            (k (suc i) frame d at e) (λ q. absurd (omega arith))),
        rest,
      )
    ]

-- they are granted one after the other
record IsReady (v : Record) (c : Claim) : Type 0 where
  object : Object
  found : find (is_object c.object) v.objects ≡ Some object
  steady : SteadyObject v (record object { link = asked_link (UiActivate c.g) object.link })

granted_steady : (cs : List Claim) (v : Record) → SteadyBut (map name_of cs) v → EachPair ClaimsApart cs
    → AllByRecursion (IsReady v) cs → Steady (grant_each v cs).rec
granted_steady [] v h p k = all_steady v h
granted_steady (c ∷ cs) v h p k =
    let y = k.0.object in
    let asked : Object = record y { link = asked_link (UiActivate c.g) y.link } in
    let named : c.object ≡ y.number =
    sym (eqb-true y.number c.object (find_passes (is_object c.object) v.objects y k.0.found)) in
    let there : find (is_object y.number) v.objects ≡ Some y = ap (λ (n : ℕ). find (is_object n) v.objects)
    (sym named) ∙ k.0.found in
    let next : SteadyBut (map name_of cs) (with_object v asked) =
    put_but v (map name_of cs) y asked (subst (λ (n : ℕ). SteadyBut (n ∷ map name_of cs) v) named h) there
    (record { number = refl; frame = refl; link = asked_follows (UiActivate c.g) y.link })
    (link_asked (UiActivate c.g) y.link) k.0.steady in
    let ready : AllByRecursion (IsReady (with_object v asked)) cs =
    each_weaker (λ (d : Claim). ClaimsApart c d × IsReady v d) (IsReady (with_object v asked)) cs
    (λ d q. record {
      object = q.1.object;
      found = find-put_other y.number d.object asked v.objects refl (λ e. q.0 (named ∙ e)) ∙ q.1.found;
      steady = (let was = q.1.steady in record {
        drawn = was.drawn;
        within = was.within;
        user_type = was.user_type;
        linked = was.linked;
      });
    })
    (each_both (ClaimsApart c) (IsReady v) cs p.0 k.1) in
    subst (λ (z : Option Object). Steady (grant_each (requested v (UiActivate c.g) z).rec cs).rec) (sym k.0.found)
    (granted_steady cs (with_object v asked) next p.1 ready)

-- the objects of the server are passive
pub stays_object : (inc : ℕ) (o : Object) (link : Option Link) → is_hosted inc link ≡ false
    → reaped_object inc o link ≡ o
stays_object inc o None h = refl
stays_object inc o (Some l) h = rw h refl

pub gone_link : (inc : ℕ) (o : Object) (link : Option Link) → is_hosted inc link ≡ true
    → reaped_object inc o link ≡ record o { work = kept o; link = None }
gone_link inc o None h = cc
gone_link inc o (Some l) h = rw h refl

pub reaped_took : (inc : ℕ) (o : Object) (link : Option Link) → o.link ≡ link → TookPlace (reaped_object inc o link) o
reaped_took inc o None e = record { number = refl; frame = refl; link = λ l g. (l, g, refl) }
reaped_took inc o (Some l) e = if_told (λ (z : Object). TookPlace z o) (l.inc == inc)
    (record o { work = kept o; link = None }) o
    (λ t. record { number = refl; frame = refl; link = none_follows o.link })
    (λ t. record { number = refl; frame = refl; link = λ m g. (m, g, refl) })

module _ (r : Record) (inc : ℕ) (s : Steady r) where
  abbrev pub claims : List Claim
  claims = freed_claims inc r.objects r.frames

  abbrev pub gone : Record
  gone = record (reaped r inc) { frames = map (freed_frame inc r.objects) r.frames }

  others_told : (link : Option Link) (l : Link) → link ≡ Some l → is_hosted inc link ≡ false
      → is_unreaped (nth r.servers l.inc) ≡ true → is_unreaped (nth (set_nth r.servers inc true) l.inc) ≡ true
  others_told link l e h u =
      let ne : (l.inc == inc) ≡ false = sym (ap (is_hosted inc) e) ∙ h in
      ap (λ (b : Option Bool). is_unreaped b)
      (nth-set_other r.servers inc l.inc true (λ q. eqb-false l.inc inc ne (sym q))) ∙ u

  held_after : (n : ℕ) (link : Option Link) (frame : Frame) → is_hosted inc link ≡ false → Held r n link frame
      → IfSome link (SteadyLink (set_nth r.servers inc true) r.last_act frame.phase frame.asked frame.k
      (role_in frame.ui.state n))
  held_after n None frame h k = tt
  held_after n (Some l) frame h k = link_moved r.servers (set_nth r.servers inc true) r.last_act r.last_act
      frame.phase frame.asked frame.k (role_in frame.ui.state n) l k.acts_drawn
      (others_told (Some l) l refl h k.servers_told) k

  fate_of : (f : ℕ) (frame : Frame) → nth r.frames f ≡ Some frame
      → Fate inc r.objects frame.ui.state (freed inc r.objects frame.ui).state (passed inc r.objects frame)
  fate_of f frame at = fate inc r.objects frame.ui (s.grants f frame at).apart

  passed_named : (f : ℕ) (frame : Frame) (c : Claim) → nth r.frames f ≡ Some frame
      → passed inc r.objects frame ≡ c ∷ [] → Among (map name_of claims) c.object
  passed_named zero frame c at e = cc
  passed_named (suc i) frame c at e = freed_among inc r.objects r.frames i frame c at e

  -- an object of another server keeps its part, or is granted the frame
  still_but : (o : Object) → find (is_object o.number) r.objects ≡ Some o → is_hosted inc o.link ≡ false
      → SteadyObject r o → But (map name_of claims) (SteadyObject gone) o
  still_but o found still h =
      let at = some_and (Held r o.number o.link) (nth r.frames o.frame) h.linked in
      let now = freed_frame inc r.objects at.0 in
      elim (part_after inc r.objects at.0.ui.state now.ui.state (passed inc r.objects at.0) o
      (fate_of o.frame at.0 at.1) found still) [
        | keeps_part e ↦ but_all (map name_of claims) (SteadyObject gone) o (record {
          drawn = h.drawn;
          within = h.within;
          user_type = h.user_type;
          linked = and_some (Held gone o.number o.link) (nth gone.frames o.frame) now
              (nth-map (freed_frame inc r.objects) r.frames o.frame at.0 at.1)
              (subst (λ (role : Role). IfSome o.link
              (SteadyLink (set_nth r.servers inc true) r.last_act at.0.phase at.0.asked at.0.k role)) (sym e)
              (held_after o.number o.link at.0 still at.2));
        })
        | granted_part w e named ↦ but_among (map name_of claims) (SteadyObject gone) o
            (subst (Among (map name_of claims)) named (passed_named o.frame at.0 w at.1 e))
      ]

  gone_object : (o : Object) → SteadyObject r o → SteadyObject gone (record o { work = kept o; link = None })
  gone_object o h =
      let at = some_and (Held r o.number o.link) (nth r.frames o.frame) h.linked in
      record {
        drawn = h.drawn;
        within = kept_object_within r o at.0 h.within at.2;
        user_type = h.user_type;
        linked = and_some (Held gone o.number None) (nth gone.frames o.frame) (freed_frame inc r.objects at.0)
            (nth-map (freed_frame inc r.objects) r.frames o.frame at.0 at.1) tt;
      }

  object_but : (o : Object) → SteadyObject r o → find (is_object o.number) r.objects ≡ Some o
      → But (map name_of claims) (SteadyObject gone) (reaped_object inc o o.link)
  object_but o h found = elim (is_hosted inc o.link) as (λ b. is_hosted inc o.link ≡ b
      → But (map name_of claims) (SteadyObject gone) (reaped_object inc o o.link)) [
        | true ↦ (λ t. subst (But (map name_of claims) (SteadyObject gone)) (sym (gone_link inc o o.link t))
            (but_all (map name_of claims) (SteadyObject gone) (record o { work = kept o; link = None })
            (gone_object o h)))
        | false ↦ (λ t. subst (But (map name_of claims) (SteadyObject gone)) (sym (stays_object inc o o.link t))
            (still_but o found t h))
      ] refl

  -- claims of objects that stay
  pub unhosted : (c : Claim) (x : Object) → Hosted inc r.objects c ≡ false
      → find (is_object c.object) r.objects ≡ Some x → is_hosted inc x.link ≡ false
  unhosted c x h found = subst (λ (z : Option Object). is_hosted_object inc z ≡ false) found h

  claim_stays : (f : ℕ) (c : Claim) → Hosted inc r.objects c ≡ false → IsClaim r f c → IsClaim gone f c
  claim_stays f c h k = claim_kept r gone f c
      (keeps_map r.objects c.object (λ o. reaped_object inc o o.link) (λ o. (reaped_took inc o o.link refl).number)
      (λ o. (reaped_took inc o o.link refl).frame)
      (λ x found l is. (
        l,
        ap (λ (z : Object). z.link) (stays_object inc x x.link (unhosted c x h found))
            ∙ is,
        refl,
      ))) (omega arith) k

  pub gone_but : SteadyBut (map name_of claims) gone
  gone_but = record {
    frames = each_map SteadyFrame SteadyFrame (freed_frame inc r.objects) r.frames
        (λ frame h. record { asked = h.asked }) s.frames;
    objects = each_map (λ (o : Object). SteadyObject r o × (find (is_object o.number) r.objects ≡ Some o))
        (But (map name_of claims) (SteadyObject gone)) (λ o. reaped_object inc o o.link) r.objects
        (λ o k. object_but o k.0 k.1)
        (each_both (SteadyObject r) (λ (o : Object). find (is_object o.number) r.objects ≡ Some o) r.objects
        s.objects (each_own r.objects s.order));
    order = pairs_map InOrder (λ o. reaped_object inc o o.link) r.objects
        (order_both (λ o. reaped_object inc o o.link) (λ o. reaped_took inc o o.link refl)) s.order;
    count = λ f. subst (λ (n : ℕ). n ≤ MOST_OBJECTS)
        (sym (count_map f (λ o. reaped_object inc o o.link) r.objects (λ o. (reaped_took inc o o.link refl).frame)))
        (s.count f);
    grants = λ f x e. (let y = map_back (freed_frame inc r.objects) r.frames f x e in
        subst (λ (z : Frame). SteadyGrant gone f z.ui.state) (sym y.2)
        (grant_after r gone f inc y.0.ui.state (freed inc r.objects y.0.ui).state (passed inc r.objects y.0)
        (fate_of f y.0 y.1) (claim_stays f) (s.grants f y.0 y.1)));
  }

  -- whoever is granted a frame waited for it
  pub record Passing (f : ℕ) (frame : Frame) (c : Claim) : Type 0 where
    pub holder : Claim
    pub was : frame.ui.state ≡ state.Revoking holder (Some c)
    pub now : (freed inc r.objects frame.ui).state ≡ state.Granting c
    pub still : Hosted inc r.objects c ≡ false

  passing_at : (f : ℕ) (frame : Frame) (t : GrantState) (cs : List Claim) (c : Claim) (a : GrantState)
      → frame.ui.state ≡ a → (freed inc r.objects frame.ui).state ≡ t → Fate inc r.objects a t cs → cs ≡ c ∷ []
      → Passing f frame c
  passing_at f frame t cs c a ea et (stays h w) e = cc
  passing_at f frame t cs c a ea et (ends h w) e = cc
  passing_at f frame t cs c a ea et (unwaits h w) e = cc
  passing_at f frame t cs c a ea et (passes {h = one} {w = two} h w) e =
      let same : two ≡ c = cc in
      record {
        holder = one;
        was = ea ∙ ap (λ (z : Claim). state.Revoking one (Some z)) same;
        now = et ∙ ap state.Granting same;
        still = subst (λ (z : Claim). Hosted inc r.objects z ≡ false) same w;
      }

  pub passing : (f : ℕ) (frame : Frame) (c : Claim) → nth r.frames f ≡ Some frame
      → passed inc r.objects frame ≡ c ∷ [] → Passing f frame c
  passing f frame c at e = passing_at f frame (freed inc r.objects frame.ui).state (passed inc r.objects frame) c
      frame.ui.state refl refl (fate_of f frame at) e

  pub waits_claim : (f : ℕ) (frame : Frame) (c : Claim) → nth r.frames f ≡ Some frame → Passing f frame c
      → IsClaim r f c
  waits_claim f frame c at p = (subst (SteadyGrant r f) p.was (s.grants f frame at)).next

  ready : (f : ℕ) (frame : Frame) (c : Claim) → nth r.frames f ≡ Some frame → passed inc r.objects frame ≡ c ∷ []
      → IsReady gone c
  ready f frame c at e =
      let p = passing f frame c at e in
      let k = waits_claim f frame c at p in
      let y = k.object in
      let apart = (subst (SteadyGrant r f) p.was (s.grants f frame at)).apart in
      let still = unhosted c y p.still k.found in
      let named : c.object ≡ y.number =
      sym (eqb-true y.number c.object (find_passes (is_object c.object) r.objects y k.found)) in
      let h = each_found (SteadyObject r) (is_object c.object) r.objects y s.objects k.found in
      let was_at : nth r.frames y.frame ≡ Some frame = ap (nth r.frames) k.inside ∙ at in
      let held = held_after y.number y.link frame still
      (at_some (Held r y.number y.link) (nth r.frames y.frame) frame was_at h.linked) in
      let waits : role_in frame.ui.state y.number ≡ Waiting c.g = ap (λ (z : GrantState). role_in z y.number) p.was
      ∙ waits_for_it p.holder c y.number named (λ q. apart.0 (named ∙ sym q)) in
      let gets : role_in (freed inc r.objects frame.ui).state y.number ≡ Getting c.g =
      ap (λ (z : GrantState). role_in z y.number) p.now ∙ gets_it c y.number named in
      let servers = set_nth r.servers inc true in
      let asked : IfSome (asked_link (UiActivate c.g) y.link)
      (SteadyLink servers r.last_act frame.phase frame.asked frame.k (Getting c.g)) =
      asked_part servers r.last_act frame.phase frame.asked frame.k (Waiting c.g) (Getting c.g) (UiActivate c.g)
      y.link (grant_asked servers r.last_act frame.phase frame.asked frame.k c.g)
      (subst (λ (role : Role). IfSome y.link (SteadyLink servers r.last_act frame.phase frame.asked frame.k role))
      waits held) in
      record {
        object = y;
        found = find-map c.object (λ o. reaped_object inc o o.link) r.objects
            (λ o. (reaped_took inc o o.link refl).number)
            ∙ (ap (option_map (λ (o : Object). reaped_object inc o o.link)) k.found
            ∙ ap Some (stays_object inc y y.link still));
        steady = record {
          drawn = h.drawn;
          within = h.within;
          user_type = h.user_type;
          linked = and_some (Held gone y.number (asked_link (UiActivate c.g) y.link)) (nth gone.frames y.frame)
              (freed_frame inc r.objects frame) (nth-map (freed_frame inc r.objects) r.frames y.frame frame was_at)
              (subst (λ (role : Role). IfSome (asked_link (UiActivate c.g) y.link)
              (SteadyLink servers r.last_act frame.phase frame.asked frame.k role)) (sym gets) asked);
        };
      }

  pub server_gone : Steady (reaped_grants r inc).rec
  server_gone = granted_steady claims gone gone_but
      (freed_pairs r inc 1 r.objects r.frames
      (λ i frame c at e. (let same : suc i ≡ 1 + i = omega arith in
      subst (λ (n : ℕ). IsClaim r n c) same (waits_claim (suc i) frame c at (passing (suc i) frame c at e)))))
      (freed_all inc r.objects (IsReady gone) r.frames (λ i frame c at e. ready (suc i) frame c at e))

pub on_reap_keeps : (r : Record) (inc : ℕ) (t : Took) → Steady r → on_reap r inc ≡ Ok t → Steady t.rec
on_reap_keeps r inc t s e = if_told (λ (z : Result Took ContainerFault). z ≡ Ok t → Steady t.rec) (is_alive r inc) _
    (Err NoSuch)
    (λ a g. let same = ok_rec _ t g in
    subst Steady same (settle_steady (reaped_saving r inc).rec
    (hand_off_steady (reaped_grants r inc).rec (server_gone r inc s))))
    (λ a g. cc) e
