-- Objects that changed, each under its number and in its frame.
use Rattle.std.proofs.Common.{◌≡◌, ◌⊎◌, ◌==◌, ℕ, Bool, true, false, List, [], ◌∷◌, ◌++◌, map, Option, Some, None, refl}
use Rattle.std.proofs.Common.{sym, ap, ◌∙◌, inl, inr, subst, if◌then◌else◌}
use Rattle.std.specs.List.{AllByRecursion}
use Rattle.std.proofs.lemmas.Bool.{eqb-true}
use Rattle.std.proofs.lemmas.Bool.Decides.{eqb_tells}
use Rattle.message_values.specs.Found.{find, put}
use Rattle.message_values.specs.declared.operation.Operation.{Operation}
use Rattle.message_values.specs.declared.operation.Operation.TheVariants.{UiActivate}
use Rattle.object_state.specs.declared.grant_states.Claim.{Claim}
use Rattle.container_model.specs.declared.record.Object.{Object}
use Rattle.container_model.specs.Record.{Record, is_object, without_first}
use Rattle.container_model.specs.Grants.{requested, request, grant_each}
use Rattle.container_queues.specs.Steady.{InOrder, EachPair}
use Rattle.container_steady.proofs.SteadyFinds.{find-without_same, find-without_other}
use Rattle.world_facts.proofs.Lookups.{find_passes}

pub record Keeps (o p : Object) : Type 0 where
  pub number : p.number ≡ o.number
  pub frame : p.frame ≡ o.frame

abbrev pub AreKept : List Object → List Object → Type 0
AreKept [] [] = Unit {0}
AreKept [] (p ∷ ps) = ⊥
AreKept (o ∷ os) [] = ⊥
AreKept (o ∷ os) (p ∷ ps) = Keeps o p × AreKept os ps

pub all_kept : (os : List Object) → AreKept os os
all_kept [] = tt
all_kept (o ∷ os) = (record { number = refl; frame = refl }, all_kept os)

pub kept_further : (os us vs : List Object) → AreKept os us → AreKept us vs → AreKept os vs
kept_further [] [] vs h k = k
kept_further [] (u ∷ us) vs h k = absurd h
kept_further (o ∷ os) [] vs h k = absurd h
kept_further (o ∷ os) (u ∷ us) [] h k = absurd k
kept_further (o ∷ os) (u ∷ us) (v ∷ vs) h k =
    (record { number = k.0.number ∙ h.0.number; frame = k.0.frame ∙ h.0.frame }, kept_further os us vs h.1 k.1)

pub map_kept : (g : Object → Object) (os : List Object) → ((o : Object) → Keeps o (g o)) → AreKept os (map g os)
map_kept g [] h = tt
map_kept g (o ∷ os) h = (h o, map_kept g os h)

pub put_kept : (test : Object → Bool) (a : Object) (os : List Object)
    → ((x : Object) → find test os ≡ Some x → Keeps x a) → AreKept os (put test a os)
put_kept test a [] h = tt
put_kept test a (o ∷ os) h = elim (test o) as (λ b. test o ≡ b
    → AreKept (o ∷ os) (if b then a ∷ os else o ∷ put test a os)) [
      | true ↦ (λ e. (h o (ap (λ b. if b then Some o else find test os) e), all_kept os))
      | false ↦
          (λ e. (
            record { number = refl; frame = refl },
            put_kept test a os
                (λ x g. h x (ap (λ b. if b then Some o else find test os) e ∙ g)),
          ))
    ] refl

-- an object stands where it stood
pub found_before : (n : ℕ) (os us : List Object) (y : Object) → AreKept os us → find (is_object n) us ≡ Some y
    → (x : Object) × (find (is_object n) os ≡ Some x) × Keeps x y
found_before n [] [] y h e = cc
found_before n [] (u ∷ us) y h e = absurd h
found_before n (o ∷ os) [] y h e = absurd h
found_before n (o ∷ os) (u ∷ us) y h e = elim (u.number == n) as (λ b. (u.number == n) ≡ b
    → (if b then Some u else find (is_object n) us) ≡ Some y → (x : Object)
    × ((if o.number == n then Some o else find (is_object n) os) ≡ Some x) × Keeps x y) [
      | true ↦ (λ q g. let uy : u ≡ y = cc in (
        o,
        ap (λ b. if b then Some o else find (is_object n) os) (ap (λ k. k == n) (sym h.0.number) ∙ q),
        subst (Keeps o) uy h.0,
      ))
      | false ↦ (λ q g. let r = found_before n os us y h.1 g in (
        r.0,
        ap (λ b. if b then Some o else find (is_object n) os) (ap (λ k. k == n) (sym h.0.number) ∙ q)
            ∙ r.1,
        r.2,
      ))
    ] refl e

pub found_after : (n : ℕ) (os us : List Object) (x : Object) → AreKept os us → find (is_object n) os ≡ Some x
    → (y : Object) × (find (is_object n) us ≡ Some y) × Keeps x y
found_after n [] [] x h e = cc
found_after n [] (u ∷ us) x h e = absurd h
found_after n (o ∷ os) [] x h e = absurd h
found_after n (o ∷ os) (u ∷ us) x h e = elim (o.number == n) as (λ b. (o.number == n) ≡ b
    → (if b then Some o else find (is_object n) os) ≡ Some x → (y : Object)
    × ((if u.number == n then Some u else find (is_object n) us) ≡ Some y) × Keeps x y) [
      | true ↦ (λ q g. let ox : o ≡ x = cc in (
        u,
        ap (λ b. if b then Some u else find (is_object n) us) (ap (λ k. k == n) h.0.number ∙ q),
        subst (λ z. Keeps z u) ox h.0,
      ))
      | false ↦ (λ q g. let r = found_after n os us x h.1 g in
          (r.0, ap (λ b. if b then Some u else find (is_object n) us) (ap (λ k. k == n) h.0.number ∙ q) ∙ r.1, r.2))
    ] refl e

-- one object takes the place of another of its number
pub with_found : (n : ℕ) (os us : List Object) (x a : Object) → AreKept os us → find (is_object n) os ≡ Some x
    → Keeps x a → AreKept os (put (is_object a.number) a us)
with_found n os us x a h e k =
    let xn : x.number ≡ n = eqb-true x.number n (find_passes (is_object n) os x e) in
    let an : a.number ≡ n = k.number ∙ xn in
    let y = found_after n os us x h e in
    let there : find (is_object a.number) us ≡ Some y.0 = ap (λ m. find (is_object m) us) an ∙ y.1 in
    kept_further os us (put (is_object a.number) a us) h
    (put_kept (is_object a.number) a us
    (λ z g. (let zy : y.0 ≡ z = (let w : Some y.0 ≡ Some z = sym there ∙ g in cc) in
    subst (λ v. Keeps v a) zy (record { number = k.number ∙ sym y.2.number; frame = k.frame ∙ sym y.2.frame }))))

-- operations are asked
request_at : (r : Record) (n : ℕ) (op : Operation) (x : Option Object) → find (is_object n) r.objects ≡ x
    → AreKept r.objects (requested r op x).rec.objects
request_at r n op None e = all_kept r.objects
request_at r n op (Some x) e = with_found n r.objects r.objects x _ (all_kept r.objects) e
    (record { number = refl; frame = refl })

pub request_kept : (r : Record) (n : ℕ) (op : Operation) → AreKept r.objects (request r n op).rec.objects
request_kept r n op = request_at r n op (find (is_object n) r.objects) refl

request_frames_at : (r : Record) (op : Operation) (x : Option Object) → (requested r op x).rec.frames ≡ r.frames
request_frames_at r op None = refl
request_frames_at r op (Some x) = refl

pub request_frames : (r : Record) (n : ℕ) (op : Operation) → (request r n op).rec.frames ≡ r.frames
request_frames r n op = request_frames_at r op (find (is_object n) r.objects)

pub grants_kept : (r : Record) (claims : List Claim) → AreKept r.objects (grant_each r claims).rec.objects
grants_kept r [] = all_kept r.objects
grants_kept r (claim ∷ claims) = (let u = (request r claim.object (UiActivate claim.g)).rec in
    kept_further r.objects u.objects (grant_each u claims).rec.objects
    (request_kept r claim.object (UiActivate claim.g)) (grants_kept u claims))

pub grants_frames : (r : Record) (claims : List Claim) → (grant_each r claims).rec.frames ≡ r.frames
grants_frames r [] = refl
grants_frames r (claim ∷ claims) = grants_frames (request r claim.object (UiActivate claim.g)).rec claims
    ∙ request_frames r claim.object (UiActivate claim.g)

-- objects that are linked after a change were there before it, in their frames
abbrev pub Stay : List Object → List Object → Type 0
Stay os us = (n : ℕ) (y : Object) → find (is_object n) us ≡ Some y → (y.link ≡ None)
    ⊎ ((x : Object) × (find (is_object n) os ≡ Some x) × (y.frame ≡ x.frame))

pub kept_stay : (os us : List Object) → AreKept os us → Stay os us
kept_stay os us h n y e = (let x = found_before n os us y h e in inr (x.0, x.1, x.2.frame))

-- new ones are passive
abbrev pub ArePassive : List Object → Type 0
ArePassive news = AllByRecursion (λ (a : Object). a.link ≡ None) news

passive_found : (news : List Object) (n : ℕ) (y : Object) → ArePassive news → find (is_object n) news ≡ Some y
    → y.link ≡ None
passive_found [] n y q e = cc
passive_found (a ∷ news) n y q e = elim (a.number == n) as (λ b. (if b then Some a else find (is_object n) news)
    ≡ Some y → y.link ≡ None) [
      | true ↦ (λ g. (let ay : a ≡ y = cc in ap (λ (z : Object). z.link) (sym ay) ∙ q.0))
      | false ↦ (λ g. passive_found news n y q.1 g)
    ] e

pub more_stay : (os news : List Object) → ArePassive news → Stay os (os ++ news)
more_stay [] news q n y e = inl (passive_found news n y q e)
more_stay (o ∷ os) news q n y e =
    elim (o.number == n) as (λ b. (if b then Some o else find (is_object n) (os ++ news)) ≡ Some y
    → (y.link ≡ None) ⊎ ((x : Object) × ((if b then Some o else find (is_object n) os) ≡ Some x)
    × (y.frame ≡ x.frame))) [
      | true ↦ (λ g. inr (y, g, refl))
      | false ↦ (λ g. more_stay os news q n y g)
    ] e

pub without_stay : (os : List Object) (m : ℕ) → EachPair InOrder os → Stay os (without_first (is_object m) os)
without_stay os m h n y e = elim (eqb_tells m n) [
  | inl s ↦ absurd (let z : None ≡ Some y = sym (find-without_same m os h)
      ∙ (ap (λ k. find (is_object k) (without_first (is_object m) os)) s.1 ∙ e) in cc)
  | inr s ↦ inr (y, sym (find-without_other m n os s.1) ∙ e, refl)
]
