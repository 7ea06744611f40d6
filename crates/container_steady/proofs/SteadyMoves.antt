-- A frame's grant moves: the record is steady but for the objects whose part changes, until these are asked.
use Rattle.std.proofs.Common.{◌≡◌, ◌≤◌, inl, inr, ℕ, Bool, true, false, List, [], ◌∷◌, length, Option, Some, None, refl}
use Rattle.std.proofs.Common.{sym, ap, ◌∙◌, arith, subst, ◌==◌, if◌then◌else◌, eq-eqb}
use Rattle.std.proofs.lemmas.Bool.{eqb-true, eqb-false, ne_eqb}
use Rattle.std.specs.Prelude.{IfSome, nat_lt}
use Rattle.std.specs.List.{AllByRecursion}
use Rattle.message_values.specs.Found.{find, put, nth, set_nth}
use Rattle.tree_streams.specs.Limits.{is_within}
use Rattle.ole_model.specs.CompObjs.{PAST_USER_TYPE}
use Rattle.object_state.specs.Frames.{Ui}
use Rattle.object_state.specs.declared.grant_states.Claim.{Claim}
use Rattle.object_state.specs.declared.grant_states.Tools.{Tools}
use Rattle.object_state.specs.declared.grant_states.GrantState.TheVariants as state
use Rattle.container_model.specs.declared.record.Object.{Object}
use Rattle.container_model.specs.declared.record.Frame.{Frame}
use Rattle.container_model.specs.Record.{Record, MOST_OBJECTS, count_objects, is_object, with_frame}
use Rattle.container_queues.specs.Roles.{Role, Getting, Holding, Giving, Waiting, SteadyGrant, role_in}
use Rattle.container_queues.specs.Steady.{SteadyLink, SteadyObject, SteadyFrame, InOrder, EachPair, Steady}
use Rattle.container_steady.proofs.SteadyClaims.{LinkStays, claim_kept, grant_kept, keeps_put, keeps_refl, set_back}
use Rattle.container_steady.proofs.SteadyCounts.{count_put}
use Rattle.container_queues.proofs.SteadyLookups.{each_nth, each_set, each_weaker, nth-set_same, nth-set_other}
use Rattle.container_queues.proofs.SteadyLookups.{pairs_put}
use Rattle.container_steady.proofs.SteadyRecords.{Held, TookPlace, and_some, at_some, order_left, order_right, some_and}

-- what holds of each object but those of these numbers
abbrev pub But : List ℕ → (Object → Type 0) → Object → Type 0
But [] P o = P o
But (n ∷ ns) P o = (o.number ≡ n → ⊥) → But ns P o

pub but_all : (ns : List ℕ) (P : Object → Type 0) (o : Object) → P o → But ns P o
but_all [] P o p = p
but_all (n ∷ ns) P o p = λ ne. but_all ns P o p

pub but_weaker : (ns : List ℕ) (P Q : Object → Type 0) (o : Object) → (P o → Q o) → But ns P o → But ns Q o
but_weaker [] P Q o k p = k p
but_weaker (n ∷ ns) P Q o k p = λ ne. but_weaker ns P Q o k (p ne)

-- one of them takes its place
behind_apart : (y : Object) (n : ℕ) (Q : Object → Type 0) (os : List Object) → y.number ≡ n
    → AllByRecursion (InOrder y) os → AllByRecursion (λ (z : Object). (z.number ≡ n → ⊥) → Q z) os
    → AllByRecursion Q os
behind_apart y n Q [] e h k = tt
behind_apart y n Q (z ∷ zs) e h k =
    (k.0 (λ q. let up = h.0.rising in absurd (omega arith)), behind_apart y n Q zs e h.1 k.1)

pub each_put_but : (Q : Object → Type 0) (n : ℕ) (a x : Object) (os : List Object) → EachPair InOrder os
    → find (is_object n) os ≡ Some x → AllByRecursion (λ (z : Object). (z.number ≡ n → ⊥) → Q z) os → Q a
    → AllByRecursion Q (put (is_object n) a os)
each_put_but Q n a x [] h e k q = cc
each_put_but Q n a x (y ∷ ys) h e k q = elim (y.number == n) as (λ b. (y.number == n) ≡ b
    → (if b then Some y else find (is_object n) ys) ≡ Some x
    → AllByRecursion Q (if b then a ∷ ys else y ∷ put (is_object n) a ys)) [
      | true ↦ (λ t g. (q, behind_apart y n Q ys (eqb-true y.number n t) h.0 k.1))
      | false ↦ (λ t g. (k.0 (eqb-false y.number n t), each_put_but Q n a x ys h.1 g k.1 q))
    ] refl e

pub each_unit : (os : List Object) → AllByRecursion (λ (o : Object). Unit {0}) os
each_unit [] = tt
each_unit (o ∷ os) = (tt, each_unit os)

pub record SteadyBut (ns : List ℕ) (r : Record) : Type 0 where
  pub frames : AllByRecursion SteadyFrame r.frames
  pub objects : AllByRecursion (But ns (SteadyObject r)) r.objects
  pub order : EachPair InOrder r.objects
  pub count : (f : ℕ) → count_objects f r.objects ≤ MOST_OBJECTS
  pub grants : (f : ℕ) (frame : Frame) → nth r.frames f ≡ Some frame → SteadyGrant r f frame.ui.state

pub all_steady : (r : Record) → SteadyBut [] r → Steady r
all_steady r h = record { frames = h.frames; objects = h.objects; order = h.order; count = h.count; grants = h.grants }

pub put_but : (r : Record) (ns : List ℕ) (x a : Object) → SteadyBut (x.number ∷ ns) r
    → find (is_object x.number) r.objects ≡ Some x → TookPlace a x → LinkStays x.link a.link → SteadyObject r a
    → SteadyBut ns (record r { objects = put (is_object x.number) a r.objects })
put_but r ns x a h e t stays s =
    let after : Record = record r { objects = put (is_object x.number) a r.objects } in
    let moves : (o : Object) → SteadyObject r o → SteadyObject after o =
    λ o k. record { drawn = k.drawn; within = k.within; user_type = k.user_type; linked = k.linked } in
    record {
      frames = h.frames;
      objects = each_put_but (But ns (SteadyObject after)) x.number a x r.objects h.order e
          (each_weaker (But (x.number ∷ ns) (SteadyObject r)) (But (x.number ∷ ns) (SteadyObject after)) r.objects
          (λ o k. but_weaker (x.number ∷ ns) (SteadyObject r) (SteadyObject after) o (moves o) k) h.objects)
          (but_all ns (SteadyObject after) a (moves a s));
      order = pairs_put InOrder (λ (o : Object). Unit {0}) (is_object x.number) a x r.objects
          (λ y p k. order_right y x a t k) (λ y p k. order_left y x a t k) h.order (each_unit r.objects) e;
      count = λ f. subst (λ (n : ℕ). n ≤ MOST_OBJECTS)
          (sym (count_put f (is_object x.number) a x r.objects e t.frame)) (h.count f);
      grants = λ f frame at. grant_kept r after f frame.ui.state
          (λ c names k. claim_kept r after f c (keeps_put r.objects x.number c.object x a e t.number t.frame stays)
          (omega arith) k) (h.grants f frame at);
    }

-- where one frame changes, with its objects
pub set_object : (r u : Record) (f : ℕ) (frame frame' : Frame) (o a : Object) → nth r.frames f ≡ Some frame
    → u.frames ≡ set_nth r.frames f frame' → o.frame ≡ f → a.frame ≡ o.frame → a.number ≡ o.number
    → u.last_object ≡ r.last_object
    → is_within a.work ≡ true → a.user_type ≡ o.user_type → SteadyObject r o
    → (Held r o.number o.link frame → Held u a.number a.link frame') → SteadyObject u a
set_object r u f frame frame' o a at changed here same number last within typed h k =
    let was : nth r.frames o.frame ≡ Some frame = ap (nth r.frames) here ∙ at in
    let now : nth u.frames a.frame ≡ Some frame' = ap (λ (fs : List Frame). nth fs a.frame) changed
    ∙ (ap (nth (set_nth r.frames f frame')) (same ∙ here) ∙ nth-set_same r.frames f frame frame' at) in
    record {
      drawn = (let d = h.drawn in omega arith);
      within = within;
      user_type = subst (λ (bytes : List ℕ). nat_lt (length bytes) PAST_USER_TYPE ≡ true) (sym typed) h.user_type;
      linked = and_some (Held u a.number a.link) (nth u.frames a.frame) frame' now
          (k (at_some (Held r o.number o.link) (nth r.frames o.frame) frame was h.linked));
    }

pub unset_object : (r u : Record) (f : ℕ) (frame' : Frame) (o : Object) → u.frames ≡ set_nth r.frames f frame'
    → (o.frame ≡ f → ⊥) → u.last_object ≡ r.last_object → u.servers ≡ r.servers → u.last_act ≡ r.last_act
    → SteadyObject r o → SteadyObject u o
unset_object r u f frame' o changed other last servers act h =
    let s = some_and (Held r o.number o.link) (nth r.frames o.frame) h.linked in
    record {
      drawn = (let d = h.drawn in omega arith);
      within = h.within;
      user_type = h.user_type;
      linked = and_some (Held u o.number o.link) (nth u.frames o.frame) s.0
          (ap (λ (fs : List Frame). nth fs o.frame) changed
          ∙ (nth-set_other r.frames f o.frame frame' (λ e. other (sym e)) ∙ s.1))
          (subst (λ (ss : List Bool). IfSome o.link
          (SteadyLink ss u.last_act s.0.phase s.0.asked s.0.k (role_in s.0.ui.state o.number))) (sym servers)
          (subst (λ (n : ℕ). IfSome o.link (SteadyLink r.servers n s.0.phase s.0.asked s.0.k
          (role_in s.0.ui.state o.number))) (sym act) s.2));
    }

-- The grant of one frame moves. Each of its objects keeps its part, but for those of these numbers.
abbrev pub moved_to : Record → ℕ → Frame → Ui → ℕ → Record
moved_to r f frame ui g = record (with_frame r f (record frame { ui = ui })) { last_g = g }

module _ (r : Record) (f : ℕ) (frame : Frame) (ui : Ui) (g : ℕ) (ns : List ℕ) (s : Steady r)
    (at : nth r.frames f ≡ Some frame) (le : r.last_g ≤ g)
    (grant : SteadyGrant (record r { last_g = g }) f ui.state) where
  abbrev after : Record
  after = moved_to r f frame ui g

  same_part : (o : Object) → SteadyObject r o → o.frame ≡ f → role_in ui.state o.number
      ≡ role_in frame.ui.state o.number → SteadyObject after o
  same_part o h here e = set_object r after f frame (record frame { ui = ui }) o o at refl here refl refl refl
      h.within refl h
      (λ held. subst (λ (role : Role). IfSome o.link
      (SteadyLink r.servers r.last_act frame.phase frame.asked frame.k role)) (sym e) held)

  object_moved : (o : Object) → SteadyObject r o
      → But ns (λ (x : Object). role_in ui.state x.number ≡ role_in frame.ui.state x.number) o
      → But ns (SteadyObject after) o
  object_moved o h same = elim (o.frame == f) as (λ b. (o.frame == f) ≡ b → But ns (SteadyObject after) o) [
    | true ↦ (λ t. but_weaker ns (λ (x : Object). role_in ui.state x.number ≡ role_in frame.ui.state x.number)
        (SteadyObject after) o (same_part o h (eqb-true o.frame f t)) same)
    | false ↦
        (λ t. but_all ns (SteadyObject after) o
        (unset_object r after f (record frame { ui = ui }) o refl (eqb-false o.frame f t) refl refl refl h))
  ] refl

  pub move_but : ((o : Object)
      → But ns (λ (x : Object). role_in ui.state x.number ≡ role_in frame.ui.state x.number) o) → SteadyBut ns after
  move_but same = record {
    frames = each_set SteadyFrame r.frames f (record frame { ui = ui }) s.frames
        (let was = each_nth SteadyFrame r.frames f frame s.frames at in record { asked = was.asked });
    objects = each_weaker (SteadyObject r) (But ns (SteadyObject after)) r.objects
        (λ o h. object_moved o h (same o)) s.objects;
    order = s.order;
    count = s.count;
    grants = λ i x e. elim (set_back r.frames f i frame (record frame { ui = ui }) x at e) [
      | inl here ↦ (
          let there : SteadyGrant after f ui.state = grant_kept (record r { last_g = g }) after f ui.state
          (λ c names k. claim_kept (record r { last_g = g }) after f c (keeps_refl r.objects c.object)
          (omega arith) k) grant in
          subst (λ (y : Frame). SteadyGrant after i y.ui.state) here.1
          (subst (λ (n : ℕ). SteadyGrant after n ui.state) here.0 there))
      | inr other ↦ grant_kept r after i x.ui.state
          (λ c names k. claim_kept r after i c (keeps_refl r.objects c.object) le k) (s.grants i x other)
    ];
  }

-- which parts change as a grant moves
pub parts_asked : (c : Claim) (o : Object)
    → But (c.object ∷ []) (λ (x : Object). role_in (state.Granting c) x.number ≡ role_in state.Free x.number) o
parts_asked c o ne = rw (ne_eqb c.object o.number (λ e. ne (sym e))) refl

pub parts_got : (c : Claim) (tools : Tools) (o : Object)
    → But (c.object ∷ []) (λ (x : Object). role_in (state.Held c tools) x.number
    ≡ role_in (state.Granting c) x.number) o
parts_got c tools o ne = rw (ne_eqb c.object o.number (λ e. ne (sym e))) refl

pub parts_ended : (c : Claim) (tools : Tools) (o : Object)
    → But (c.object ∷ []) (λ (x : Object). role_in (state.Revoking c None) x.number
    ≡ role_in (state.Held c tools) x.number) o
parts_ended c tools o ne = rw (ne_eqb c.object o.number (λ e. ne (sym e))) refl

pub parts_freed : (c : Claim) (o : Object)
    → But (c.object ∷ []) (λ (x : Object). role_in state.Free x.number ≡ role_in (state.Revoking c None) x.number) o
parts_freed c o ne = rw (ne_eqb c.object o.number (λ e. ne (sym e))) refl

pub parts_passed : (c next : Claim) (o : Object)
    → But (c.object ∷ next.object ∷ []) (λ (x : Object). role_in (state.Granting next) x.number
    ≡ role_in (state.Revoking c (Some next)) x.number) o
parts_passed c next o ne ne' =
    rw (ne_eqb c.object o.number (λ e. ne (sym e)), ne_eqb next.object o.number (λ e. ne' (sym e))) refl

pub parts_waited : (c next : Claim) (tools : Tools) (o : Object)
    → But (c.object ∷ next.object ∷ []) (λ (x : Object). role_in (state.Revoking c (Some next)) x.number
    ≡ role_in (state.Held c tools) x.number) o
parts_waited c next tools o ne ne' =
    rw (ne_eqb c.object o.number (λ e. ne (sym e)), ne_eqb next.object o.number (λ e. ne' (sym e))) refl

-- and whose they are
pub gets_it : (c : Claim) (n : ℕ) → c.object ≡ n → role_in (state.Granting c) n ≡ Getting c.g
gets_it c n e = rw (eq-eqb c.object n e) refl

pub has_it : (c : Claim) (tools : Tools) (n : ℕ) → c.object ≡ n → role_in (state.Held c tools) n ≡ Holding c.g tools
has_it c tools n e = rw (eq-eqb c.object n e) refl

pub gives_it : (c : Claim) (next : Option Claim) (n : ℕ) → c.object ≡ n → role_in (state.Revoking c next) n ≡ Giving c.g
gives_it c next n e = rw (eq-eqb c.object n e) refl

pub waits_for_it : (c next : Claim) (n : ℕ) → next.object ≡ n → (c.object ≡ n → ⊥)
    → role_in (state.Revoking c (Some next)) n ≡ Waiting next.g
waits_for_it c next n e ne = rw (ne_eqb c.object n ne, eq-eqb next.object n e) refl
