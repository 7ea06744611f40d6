-- What a step of the container makes of roles, by what it makes of objects and of frames.
use Rattle.std.proofs.Common.{◌≡◌, ◌⊎◌, ℕ, List, [], Option, Some, None, refl, sym, ap, ◌∙◌, inl, inr, subst}
use Rattle.std.specs.Prelude.{IfSome}
use Rattle.message_values.specs.Found.{find, nth}
use Rattle.object_state.specs.declared.grant_states.Claim.{Claim}
use Rattle.object_state.specs.declared.grant_states.Tools.{Tools}
use Rattle.object_state.specs.declared.grant_states.GrantState.{GrantState}
use Rattle.object_state.specs.declared.grant_states.GrantState.TheVariants.{Held}
use Rattle.object_state.specs.Grants.{who}
use Rattle.container_model.specs.declared.record.Link.{Link}
use Rattle.container_model.specs.declared.record.Object.{Object}
use Rattle.container_model.specs.declared.record.Frame.{Frame}
use Rattle.container_model.specs.Record.{Record, is_object}
use Rattle.container_queues.specs.Roles.{Holding, role_in, IsClaim}
use Rattle.container_queues.specs.Steady.{SteadyLink, SteadyObject, Steady}
use Rattle.container_queues.proofs.SteadyLookups.{each_found}
use Rattle.container_steady.proofs.SteadyRecords.{some_and, if_at}
use Rattle.world_model.specs.Safe.{link_at, links_of}
use Rattle.world_grants.specs.Grants.{Names, Moves, RolesMove, NoClaim, NoTools, role_at, role_of, roles_of}
use Rattle.world_grants.proofs.States.{named_is, is_named, holding_is, is_holding}
use Rattle.world_grants.proofs.Objects.{Stay}
use Rattle.world_grants.proofs.Frames.{AllMove}

-- an object of a steady record stands in a frame that is there
pub record IsIn (r : Record) (n : ℕ) : Type 0 where
  pub object : Object
  pub frame : Frame
  pub found : find (is_object n) r.objects ≡ Some object
  pub inside : nth r.frames object.frame ≡ Some frame
  pub role : roles_of r n ≡ role_in frame.ui.state n
  pub linked : IfSome object.link (SteadyLink r.servers r.last_act frame.phase frame.asked frame.k
      (role_in frame.ui.state object.number))

pub in_frame : (r : Record) (n : ℕ) (x : Object) → Steady r → find (is_object n) r.objects ≡ Some x → IsIn r n
in_frame r n x s e =
    let held =
    some_and (λ (frame : Frame). IfSome x.link
    (SteadyLink r.servers r.last_act frame.phase frame.asked frame.k (role_in frame.ui.state x.number)))
    (nth r.frames x.frame)
    (each_found (SteadyObject r) (is_object n) r.objects x s.objects e).linked in
    record {
      object = x;
      frame = held.0;
      found = e;
      inside = held.1;
      role = ap (role_of r.frames n) e ∙ ap (role_at n) held.1;
      linked = held.2;
    }

-- an object that has a link is there
pub linked_there : (os : List Object) (n : ℕ) (m : Link) → links_of os n ≡ Some m → (y : Object)
    × (find (is_object n) os ≡ Some y) × (y.link ≡ Some m)
linked_there os n m e = at (find (is_object n) os) refl e
  where
    at : (x : Option Object) → find (is_object n) os ≡ x → link_at x ≡ Some m → (y : Object)
        × (find (is_object n) os ≡ Some y) × (y.link ≡ Some m)
    at None f g = cc
    at (Some y) f g = (y, f, g)

-- and one that has a role
role_there : (r : Record) (n g : ℕ) (tools : Tools) → roles_of r n ≡ Holding g tools → (y : Object)
    × (find (is_object n) r.objects ≡ Some y)
role_there r n g tools e = at (find (is_object n) r.objects) refl e
  where
    at : (x : Option Object) → find (is_object n) r.objects ≡ x → role_of r.frames n x ≡ Holding g tools
        → (y : Object) × (find (is_object n) r.objects ≡ Some y)
    at None f k = cc
    at (Some y) f k = (y, f)

module _ (r u : Record) (Gone : Claim → Type 0) (New : Claim → Tools → Type 0) (s : Steady r)
    (objects : Stay r.objects u.objects) (frames : AllMove Gone New r.frames u.frames) where
  -- an object that is linked after the step, before it and after it
  record Both (n : ℕ) : Type 0 where
    before : GrantState
    after : GrantState
    was : roles_of r n ≡ role_in before n
    is : roles_of u n ≡ role_in after n
    moves : Moves Gone New before after

  both : (n : ℕ) (m : Link) → links_of u.objects n ≡ Some m → Both n
  both n m e =
      let y = linked_there u.objects n m e in
      elim (objects n y.0 y.1) [
        | inl none ↦ absurd (let z : None ≡ Some m = sym none ∙ y.2 in cc)
        | inr x ↦ (let old = in_frame r n x.0 s x.1 in
            let same : x.0 ≡ old.object = (let z : Some x.0 ≡ Some old.object = sym x.1 ∙ old.found in cc) in
            let later = frames old.object.frame old.frame old.inside in
            record {
              before = old.frame.ui.state;
              after = later.0.ui.state;
              was = old.role;
              is = ap (role_of u.frames n) y.1 ∙ ap (role_at n)
                  (ap (nth u.frames) (x.2 ∙ ap (λ (z : Object). z.frame) same) ∙ later.1);
              moves = later.2;
            })
      ]

  pub named_by : (n g : ℕ) (m : Link) → links_of u.objects n ≡ Some m → Names (roles_of r n) g
      → Names (roles_of u n) g ⊎ ((c : Claim) × (c.object ≡ n) × (c.g ≡ g) × Gone c)
  named_by n g m e h =
      let b = both n m e in
      let c = named_is b.before n g (subst (λ x. Names x g) b.was h) in
      elim (b.moves.kept c.0 c.1) [
        | inl k ↦
            inl (subst (λ x. Names x g) (sym b.is)
            (subst (Names (role_in b.after n)) c.3
            (subst (λ k. Names (role_in b.after k) c.0.g) c.2 (is_named b.after c.0 k))))
        | inr z ↦ inr (c.0, c.2, c.3, z)
      ]

  pub held_by : (n g : ℕ) (tools : Tools) (m : Link) → links_of u.objects n ≡ Some m
      → roles_of u n ≡ Holding g tools → (roles_of r n ≡ Holding g tools)
      ⊎ ((c : Claim) × (c.object ≡ n) × (c.g ≡ g) × New c tools)
  held_by n g tools m e h =
      let b = both n m e in
      let c = holding_is b.after n g tools (sym b.is ∙ h) in
      elim (b.moves.held c.0 tools c.1) [
        | inl k ↦
            inl
            (b.was ∙ (ap (λ x. role_in x n) k
            ∙ (ap (role_in (Held c.0 tools)) (sym c.2) ∙ (is_holding c.0 tools ∙ ap (λ x. Holding x tools) c.3))))
        | inr z ↦ inr (c.0, c.2, c.3, z)
      ]

-- a step in which nobody gives its frame up or answers its tools
pub plain_move : (r u : Record) → Steady r → Stay r.objects u.objects → AllMove NoClaim NoTools r.frames u.frames
    → RolesMove (links_of r.objects) (links_of u.objects) (roles_of r) (roles_of u) []
plain_move r u s objects frames = record {
  named = λ o g m e h. elim (named_by r u NoClaim NoTools s objects frames o g m e h) [
    | inl k ↦ inl k
    | inr z ↦
        absurd z.3
  ];
  held = λ o g tools m e h. elim (held_by r u NoClaim NoTools s objects frames o g tools m e h) [
    | inl k ↦
        inl k
    | inr z ↦ absurd z.3
  ];
}

-- only linked objects hold a frame
pub holders_linked : (r : Record) (n g : ℕ) (tools : Tools) → Steady r → roles_of r n ≡ Holding g tools
    → (l : Link) × (links_of r.objects n ≡ Some l)
holders_linked r n g tools s e =
    let y = role_there r n g tools e in
    let x = in_frame r n y.0 s y.1 in
    let c = holding_is x.frame.ui.state n g tools (sym x.role ∙ e) in
    let claim : IsClaim r x.object.frame c.0 = if_at (IsClaim r x.object.frame) (who x.frame.ui.state) c.0
    (ap who c.1) (s.grants x.object.frame x.frame x.inside).holder in
    (claim.link, ap (links_of r.objects) (sym c.2) ∙ (ap link_at claim.found ∙ claim.linked))
