-- Claims of a frame after a change of the objects, and frames found after a change.
use Rattle.std.proofs.Common.{◌≡◌, ◌≤◌, ◌⊎◌, inl, inr, ℕ, zero, suc, ◌+◌, true, false, List, [], ◌∷◌, ◌++◌, map, Option}
use Rattle.std.proofs.Common.{Some, None, refl, sym, ap, ◌∙◌, arith, subst, ◌==◌, if◌then◌else◌, eq-eqb}
use Rattle.std.proofs.lemmas.Bool.{eqb-true, eqb-false}
use Rattle.std.specs.Prelude.{option_map, slice_get}
use Rattle.message_values.specs.Found.{find, put, nth, set_nth}
use Rattle.object_state.specs.Grants.{waiting, who}
use Rattle.object_state.specs.declared.grant_states.Claim.{Claim}
use Rattle.object_state.specs.declared.grant_states.GrantState.{GrantState}
use Rattle.object_state.specs.declared.grant_states.GrantState.TheVariants as state
use Rattle.container_model.specs.declared.record.Link.{Link}
use Rattle.container_model.specs.declared.record.Object.{Object}
use Rattle.container_model.specs.declared.record.Frame.{Frame}
use Rattle.container_model.specs.declared.record.Phase.TheVariants.{Committing}
use Rattle.container_model.specs.Record.{Record, is_object, without_first}
use Rattle.container_model.specs.Saves.{is_ready, settled_frame, settled_frames}
use Rattle.container_queues.specs.Roles.{IsClaim, Giving, Other, SteadyGrant, role_in, waits_as}
use Rattle.container_steady.proofs.SteadyFinds.{find-map, find-put_other, find-put_same, find-without_other}
use Rattle.container_queues.proofs.SteadyLookups.{nth-set_same, nth-set_other}
use Rattle.container_steady.proofs.SteadyTells.{if_told, if_each}

-- an activation that stays, under its number
abbrev pub LinkStays : Option Link → Option Link → Type 0
LinkStays before link = (l : Link) → before ≡ Some l → (m : Link) × (link ≡ Some m) × (m.act ≡ l.act)

pub record Kept (os : List Object) (n : ℕ) (x : Object) (l : Link) : Type 0 where
  pub object : Object
  pub link : Link
  pub found : find (is_object n) os ≡ Some object
  pub frame : object.frame ≡ x.frame
  pub linked : object.link ≡ Some link
  pub act : link.act ≡ l.act

-- the object of a number keeps its activation
abbrev pub KeepsLink : List Object → List Object → ℕ → Type 0
KeepsLink os ps n = (x : Object) (l : Link) → find (is_object n) os ≡ Some x → x.link ≡ Some l → Kept ps n x l

pub keeps_refl : (os : List Object) (n : ℕ) → KeepsLink os os n
keeps_refl os n x l e is = record { object = x; link = l; found = e; frame = refl; linked = is; act = refl }

pub keeps_trans : (os ps qs : List Object) (n : ℕ) → KeepsLink os ps n → KeepsLink ps qs n → KeepsLink os qs n
keeps_trans os ps qs n a b x l e is =
    let y = a x l e is in
    let z = b y.object y.link y.found y.linked in
    record {
      object = z.object;
      link = z.link;
      found = z.found;
      frame = z.frame ∙ y.frame;
      linked = z.linked;
      act = z.act ∙ y.act;
    }

pub keeps_put_other : (os : List Object) (n m : ℕ) (a : Object) → a.number ≡ n → (n ≡ m → ⊥)
    → KeepsLink os (put (is_object n) a os) m
keeps_put_other os n m a t ne x l e is = record {
  object = x;
  link = l;
  found = find-put_other n m a os t ne ∙ e;
  frame = refl;
  linked = is;
  act = refl;
}

keeps_put_same : (os : List Object) (n : ℕ) (y a : Object) → find (is_object n) os ≡ Some y → a.number ≡ n
    → a.frame ≡ y.frame → LinkStays y.link a.link → KeepsLink os (put (is_object n) a os) n
keeps_put_same os n y a found t f s x l e is =
    let both = sym found ∙ e in
    let same : y ≡ x = cc in
    let k = s l (ap (λ (z : Object). z.link) same ∙ is) in
    record {
      object = a;
      link = k.0;
      found = find-put_same n a y os found t;
      frame = f ∙ ap (λ (z : Object). z.frame) same;
      linked = k.1;
      act = k.2;
    }

pub keeps_put : (os : List Object) (n m : ℕ) (y a : Object) → find (is_object n) os ≡ Some y → a.number ≡ n
    → a.frame ≡ y.frame → LinkStays y.link a.link → KeepsLink os (put (is_object n) a os) m
keeps_put os n m y a found t f s = elim (n == m) as (λ b. (n == m) ≡ b → KeepsLink os (put (is_object n) a os) m) [
  | true ↦ (λ e. subst (KeepsLink os (put (is_object n) a os)) (eqb-true n m e) (keeps_put_same os n y a found t f s))
  | false ↦ (λ e. keeps_put_other os n m a t (eqb-false n m e))
] refl

pub keeps_map : (os : List Object) (m : ℕ) (g : Object → Object) → ((x : Object) → (g x).number ≡ x.number)
    → ((x : Object) → (g x).frame ≡ x.frame)
    → ((x : Object) → find (is_object m) os ≡ Some x → LinkStays x.link (g x).link) → KeepsLink os (map g os) m
keeps_map os m g n f s x l e is =
    let k = s x e l is in
    record {
      object = g x;
      link = k.0;
      found = find-map m g os n ∙ ap (option_map g) e;
      frame = f x;
      linked = k.1;
      act = k.2;
    }

found_append : (n : ℕ) (os : List Object) (a x : Object) → find (is_object n) os ≡ Some x
    → find (is_object n) (os ++ a ∷ []) ≡ Some x
found_append n [] a x e = cc
found_append n (y ∷ ys) a x e = elim (y.number == n) as (λ b. (if b then Some y else find (is_object n) ys) ≡ Some x
    → (if b then Some y else find (is_object n) (ys ++ a ∷ [])) ≡ Some x) [
      | true ↦ (λ g. g)
      | false ↦ (λ g. found_append n ys a x g)
    ] e

pub keeps_append : (os : List Object) (m : ℕ) (a : Object) → KeepsLink os (os ++ a ∷ []) m
keeps_append os m a x l e is = record {
  object = x;
  link = l;
  found = found_append m os a x e;
  frame = refl;
  linked = is;
  act = refl;
}

pub keeps_without : (os : List Object) (n m : ℕ) → (n ≡ m → ⊥) → KeepsLink os (without_first (is_object n) os) m
keeps_without os n m ne x l e is = record {
  object = x;
  link = l;
  found = find-without_other n m os ne ∙ e;
  frame = refl;
  linked = is;
  act = refl;
}

-- who is named by a grant
abbrev pub Names : GrantState → Claim → Type 0
Names s c = (who s ≡ Some c) ⊎ (waiting s ≡ Some c)

pub claim_kept : (r u : Record) (f : ℕ) (c : Claim) → KeepsLink r.objects u.objects c.object → r.last_g ≤ u.last_g
    → IsClaim r f c → IsClaim u f c
claim_kept r u f c k le h =
    let x = k h.object h.link h.found h.linked in
    record {
      object = x.object;
      link = x.link;
      found = x.found;
      inside = x.frame ∙ h.inside;
      linked = x.linked;
      act = x.act ∙ h.act;
      drawn = (let d = h.drawn in omega arith);
    }

pub grant_kept : (r u : Record) (f : ℕ) (s : GrantState) → ((c : Claim) → Names s c → IsClaim r f c → IsClaim u f c)
    → SteadyGrant r f s → SteadyGrant u f s
grant_kept r u f s k h = record {
  apart = h.apart;
  holder = if_each (IsClaim r f) (IsClaim u f) (who s) (λ c e. k c (inl e)) h.holder;
  next = if_each (IsClaim r f) (IsClaim u f) (waiting s) (λ c e. k c (inr e)) h.next;
}

-- whoever is named has a part
pub named_part : (s : GrantState) (c : Claim) (n : ℕ) → Names s c → c.object ≡ n → role_in s n ≡ Other → ⊥
named_part state.Free c n (inl e) t o = cc
named_part state.Free c n (inr e) t o = cc
named_part (state.Granting claim) c n (inl e) t o =
    (let same : claim ≡ c = cc in let at = rw (eq-eqb claim.object n (ap (λ (z : Claim). z.object) same ∙ t)) at
    o in cc)
named_part (state.Granting claim) c n (inr e) t o = cc
named_part (state.Held holder tools) c n (inl e) t o =
    (let same : holder ≡ c = cc in let at = rw (eq-eqb holder.object n (ap (λ (z : Claim). z.object) same ∙ t)) at
    o in cc)
named_part (state.Held holder tools) c n (inr e) t o = cc
named_part (state.Revoking holder next) c n (inl e) t o =
    (let same : holder ≡ c = cc in let at = rw (eq-eqb holder.object n (ap (λ (z : Claim). z.object) same ∙ t)) at
    o in cc)
named_part (state.Revoking holder None) c n (inr e) t o = cc
named_part (state.Revoking holder (Some claim)) c n (inr e) t o =
    let same : claim ≡ c = cc in
    let is : waits_as n (Some claim) ≡ Other =
    elim (holder.object == n) as (λ b. (if b then Giving holder.g else waits_as n (Some claim)) ≡ Other
    → waits_as n (Some claim) ≡ Other) [ true ↦ (λ q. cc) | false ↦ (λ q. q) ] o in
    let at = rw (eq-eqb claim.object n (ap (λ (z : Claim). z.object) same ∙ t)) at is in
    cc

-- frames after one was set
pub set_back : {A : Type 0} (xs : List A) (n m : ℕ) (x a y : A) → nth xs n ≡ Some x
    → nth (set_nth xs n a) m ≡ Some y → ((n ≡ m) × (a ≡ y)) ⊎ (nth xs m ≡ Some y)
set_back xs n m x a y e g = elim (n == m) as (λ b. (n == m) ≡ b → ((n ≡ m) × (a ≡ y)) ⊎ (nth xs m ≡ Some y)) [
  | true ↦ (λ t. let same = eqb-true n m t in let at = sym (nth-set_same xs n x a e)
      ∙ (ap (nth (set_nth xs n a)) same ∙ g) in let is : a ≡ y = cc in inl (same, is))
  | false ↦ (λ t. inr (sym (nth-set_other xs n m a (eqb-false n m t)) ∙ g))
] refl

-- and after one was added
get_back : {A : Type 0} (xs : List A) (a y : A) (i : ℕ) → slice_get (xs ++ a ∷ []) i ≡ Some y
    → (slice_get xs i ≡ Some y) ⊎ (a ≡ y)
get_back [] a y zero e = (let is : a ≡ y = cc in inr is)
get_back [] a y (suc i) e = cc
get_back (x ∷ xs) a y zero e = inl e
get_back (x ∷ xs) a y (suc i) e = get_back xs a y i e

pub append_back : {A : Type 0} (xs : List A) (a y : A) (n : ℕ) → nth (xs ++ a ∷ []) n ≡ Some y
    → (nth xs n ≡ Some y) ⊎ (a ≡ y)
append_back xs a y zero e = cc
append_back xs a y (suc i) e = get_back xs a y i e

pub none_there : {A : Type 0} (n : ℕ) (y : A) → nth [] n ≡ Some y → ⊥
none_there zero y e = cc
none_there (suc i) y e = cc

-- and after saves went on
pub settled_ui : (f : ℕ) (os : List Object) (frame : Frame) → (settled_frame f os frame).ui ≡ frame.ui
settled_ui f os frame = if_told (λ (z : Frame). z.ui ≡ frame.ui) (is_ready f os frame)
    (record frame { phase = Committing }) frame (λ e. refl) (λ e. refl)

settled_get : (f : ℕ) (os : List Object) (frames : List Frame) (i : ℕ) (x : Frame)
    → slice_get (settled_frames f os frames) i ≡ Some x → (y : Frame) × (slice_get frames i ≡ Some y)
    × (x.ui ≡ y.ui)
settled_get f os [] i x e = cc
settled_get f os (y ∷ ys) zero x e = (let same : settled_frame f os y ≡ x = cc in
    (y, refl, sym (ap (λ (z : Frame). z.ui) same) ∙ settled_ui f os y))
settled_get f os (y ∷ ys) (suc i) x e = settled_get (f + 1) os ys i x e

pub settled_back : (os : List Object) (frames : List Frame) (n : ℕ) (x : Frame)
    → nth (settled_frames 1 os frames) n ≡ Some x → (y : Frame) × (nth frames n ≡ Some y) × (x.ui ≡ y.ui)
settled_back os frames zero x e = cc
settled_back os frames (suc i) x e = settled_get 1 os frames i x e
