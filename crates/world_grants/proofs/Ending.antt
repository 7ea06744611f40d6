-- The end of a server: what it makes of roles.
use Rattle.std.proofs.Common.{◌≡◌, ◌==◌, ℕ, Bool, true, false, List, [], ◌∷◌, map, Option, Some, None, option_map}
use Rattle.std.proofs.Common.{Result, Ok, Err, refl, sym, ap, ◌∙◌, inl, inr, subst, if◌then◌else◌}
use Rattle.std.proofs.lemmas.Bool.Decides.{eqb_tells}
use Rattle.message_values.specs.Found.{find, put}
use Rattle.message_values.specs.declared.operation.Operation.{Operation}
use Rattle.message_values.specs.declared.operation.Operation.TheVariants.{UiActivate}
use Rattle.object_state.specs.declared.grant_states.Claim.{Claim}
use Rattle.container_model.specs.declared.record.Link.{Link}
use Rattle.container_model.specs.declared.record.Object.{Object}
use Rattle.container_model.specs.declared.fault.ContainerFault.{ContainerFault}
use Rattle.container_model.specs.declared.fault.ContainerFault.TheVariants.{NoSuch}
use Rattle.container_model.specs.Record.{Record, Took, asked_link, is_object, is_alive}
use Rattle.container_model.specs.Saves.{settle, kept}
use Rattle.container_model.specs.Grants.{requested, request, grant_each, is_hosted, is_hosted_object, freed_frame}
use Rattle.container_model.specs.Grants.{freed_claims}
use Rattle.container_model.specs.Messages.{reaped_object, reaped, reaped_grants, reaped_saving, reap_made, on_reap}
use Rattle.container_queues.specs.Steady.{Steady}
use Rattle.container_steady.proofs.SteadyFinds.{find-put_same, find-put_other, find-map}
use Rattle.world_model.specs.Safe.{link_at, links_of}
use Rattle.world_facts.proofs.Lookups.{find_passes}
use Rattle.std.proofs.lemmas.Bool.{eqb-true}
use Rattle.world_grants.specs.Grants.{RolesMove, NoTools, roles_of}
use Rattle.world_grants.proofs.States.{IsHosted}
use Rattle.world_grants.proofs.Handing.{IsKeptOn, all_handed_on}
use Rattle.world_grants.proofs.Objects.{Keeps, kept_further, map_kept, grants_kept, grants_frames, Stay, kept_stay}
use Rattle.world_grants.proofs.Frames.{AllMove, settled_move, freed_move}
use Rattle.world_grants.proofs.Moving.{named_by, held_by}

-- a passive object stays so, whatever is asked
passive_asked : (x : Option Object) (op : Operation) (y : Object) → x ≡ Some y → link_at x ≡ None
    → asked_link op y.link ≡ None
passive_asked x op y e n = ap (asked_link op) (sym (ap link_at e) ∙ n)

passive_at : (r : Record) (n o : ℕ) (op : Operation) (x : Option Object) → find (is_object n) r.objects ≡ x
    → links_of r.objects o ≡ None → links_of (requested r op x).rec.objects o ≡ None
passive_at r n o op None e h = h
passive_at r n o op (Some x) e h =
    let xn : x.number ≡ n = eqb-true x.number n (find_passes (is_object n) r.objects x e) in
    let here : find (is_object x.number) r.objects ≡ Some x = ap (λ m. find (is_object m) r.objects) xn ∙ e in
    let a : Object = record x { link = asked_link op x.link } in
    elim (eqb_tells x.number o) [
      | inl s ↦ ap (λ m. links_of (put (is_object x.number) a r.objects) m) (sym s.1)
          ∙ (ap link_at (find-put_same x.number a x r.objects here refl)
          ∙ passive_asked (find (is_object x.number) r.objects) op x here (ap (links_of r.objects) s.1 ∙ h))
      | inr s ↦ ap link_at (find-put_other x.number o a r.objects refl s.1) ∙ h
    ]

passive_each : (r : Record) (claims : List Claim) (o : ℕ) → links_of r.objects o ≡ None
    → links_of (grant_each r claims).rec.objects o ≡ None
passive_each r [] o h = h
passive_each r (claim ∷ claims) o h =
    let op = UiActivate claim.g in
    passive_each (request r claim.object op).rec claims o
    (passive_at r claim.object o op (find (is_object claim.object) r.objects) refl h)

module _ (r : Record) (inc : ℕ) where
  abbrev after : Object → Object
  after o = reaped_object inc o o.link

  after_keeps : (o : Object) (l : Option Link) → Keeps o (reaped_object inc o l)
  after_keeps o None = record { number = refl; frame = refl }
  after_keeps o (Some l) = at (l.inc == inc)
    where
      at : (b : Bool) → Keeps o (if b then record o { work = kept o; link = None } else o)
      at true = record { number = refl; frame = refl }
      at false = record { number = refl; frame = refl }

  -- an object of the server is passive
  gone_at : (o : Object) (l : Option Link) → o.link ≡ l → is_hosted inc l ≡ true → (reaped_object inc o l).link ≡ None
  gone_at o None e h = cc
  gone_at o (Some l) e h = ap (λ b. (if b then record o { work = kept o; link = None } else o).link) h

  gone_in : (x : Option Object) → is_hosted_object inc x ≡ true → link_at (option_map after x) ≡ None
  gone_in None h = cc
  gone_in (Some o) h = gone_at o o.link refl h

  gone : (o : ℕ) → is_hosted_object inc (find (is_object o) r.objects) ≡ true → links_of (reaped r inc).objects o ≡ None
  gone o h = ap link_at (find-map o after r.objects (λ x. (after_keeps x x.link).number))
      ∙ gone_in (find (is_object o) r.objects) h

  abbrev freed : Record
  freed = record (reaped r inc) { frames = map (freed_frame inc r.objects) r.frames }

  abbrev claims : List Claim
  claims = freed_claims inc r.objects r.frames

  -- and once saves went on
  abbrev on : Record
  on = (reaped_saving r inc).rec

  goes_on : IsKeptOn (IsHosted inc r.objects) NoTools (grant_each freed claims).rec (reaped_saving r inc).rec
  goes_on = all_handed_on (IsHosted inc r.objects) NoTools (reaped_grants r inc).rec

  reaped_stays : Stay r.objects (reaped_saving r inc).rec.objects
  reaped_stays = kept_stay r.objects on.objects (kept_further r.objects (grant_each freed claims).rec.objects on.objects
      (kept_further r.objects freed.objects (grant_each freed claims).rec.objects
      (map_kept after r.objects (λ x. after_keeps x x.link)) (grants_kept freed claims)) goes_on.objects)

  reaped_move : Steady r → AllMove (IsHosted inc r.objects) NoTools r.frames (settle (reaped_saving r inc).rec).frames
  reaped_move s = settled_move (IsHosted inc r.objects) NoTools on.objects r.frames on.frames
      (goes_on.frames r.frames (subst (AllMove (IsHosted inc r.objects) NoTools r.frames)
      (sym (grants_frames freed claims))
      (freed_move inc r.objects r.frames (λ f frame e. (s.grants f frame e).apart))))

  reaped_roles : Steady r → RolesMove (links_of r.objects) (links_of (reap_made r inc).rec.objects) (roles_of r)
      (roles_of (reap_made r inc).rec) []
  reaped_roles s =
      let u = settle (reaped_saving r inc).rec in
      record {
        named = λ o g m e n. elim (named_by r u (IsHosted inc r.objects) NoTools s reaped_stays (reaped_move s) o g
            m e n) [
              | inl k ↦ inl k
              | inr z ↦ absurd (let over : links_of u.objects o ≡ None =
                  goes_on.passive o
                  (passive_each freed claims o
                  (gone o (ap (λ k. is_hosted_object inc (find (is_object k) r.objects)) (sym z.1) ∙ z.3))) in
                  let y : None ≡ Some m = sym over ∙ e in cc)
            ];
        held = λ o g tools m e n. elim (held_by r u (IsHosted inc r.objects) NoTools s reaped_stays (reaped_move s)
            o g tools m e n) [ inl k ↦ inl k | inr z ↦ absurd z.3 ];
      }

pub reap_moves : (r : Record) (inc : ℕ) (t : Took) → Steady r → on_reap r inc ≡ Ok t
    → RolesMove (links_of r.objects) (links_of t.rec.objects) (roles_of r) (roles_of t.rec) []
reap_moves r inc t s e = at (is_alive r inc) e
  where
    at : (b : Bool) → ◌≡◌ {A = Result Took ContainerFault} (if b then Ok (reap_made r inc) else Err NoSuch) (Ok t)
        → RolesMove (links_of r.objects) (links_of t.rec.objects) (roles_of r) (roles_of t.rec) []
    at true g = (let is : reap_made r inc ≡ t = cc in
        subst (λ (v : Took). RolesMove (links_of r.objects) (links_of v.rec.objects) (roles_of r) (roles_of v.rec)
        []) is (reaped_roles r inc s))
    at false g = cc
