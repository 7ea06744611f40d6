-- Objects that are asked by their numbers pay for it, and so does the frame's grant as it moves.
use Rattle.std.proofs.Common.{◌≡◌, ◌≤◌, ◌+◌, ◌==◌, ℕ, Bool, true, false, List, [], ◌∷◌, length, Option, Some, None}
use Rattle.std.proofs.Common.{refl, sym, ◌∙◌, ap, subst, arith, if◌then◌else◌, cond, eq-eqb}
use Rattle.std.proofs.lemmas.Bool.{eqb-true, eqb-false}
use Rattle.std.specs.List.{AllByRecursion}
use Rattle.message_values.specs.Found.{find, put, nth, set_nth}
use Rattle.message_values.specs.declared.operation.Operation.{Operation}
use Rattle.message_values.specs.declared.operation.Operation.TheVariants.{UiActivate}
use Rattle.object_state.specs.declared.grant_states.Claim.{Claim}
use Rattle.object_state.specs.declared.grant_states.GrantState.{GrantState}
use Rattle.object_state.specs.Grants.{waiting}
use Rattle.container_model.specs.declared.record.Object.{Object}
use Rattle.container_model.specs.declared.record.Frame.{Frame}
use Rattle.container_model.specs.Record.{Record, asked_link, is_object, with_frame}
use Rattle.container_model.specs.Grants.{grant_each, request, requested}
use Rattle.container_model.specs.Room.{IfLinked, IsRoomy, debt, debt_in, grant_debt}
use Rattle.container_queues.specs.Roles.{IsClaim}
use Rattle.container_queues.specs.Steady.{EachPair, InOrder, Steady}
use Rattle.container_steady.proofs.SteadyFinds.{here, number_apart}
use Rattle.container_queues.proofs.SteadyLookups.{each_both, each_found, each_put, each_set, each_weaker, nth-set_other}
use Rattle.container_queues.proofs.SteadyLookups.{nth-set_same}
use Rattle.container_steady.proofs.SteadyTells.{if_at}
use Rattle.container_numbers.proofs.SoundGrants.{told}
use Rattle.container_numbers.proofs.SoundRooms.{IsSaved, Owing, Within, asked_linked, debts, length-set_nth, put_apart}
use Rattle.container_numbers.proofs.SoundRooms.{put_within, within_less}

-- ---- what is found by a number has it
pub found_number : (n : ℕ) (os : List Object) (o : Object) → find (is_object n) os ≡ Some o → o.number ≡ n
found_number n [] o e = cc
found_number n (y ∷ ys) o e = elim (y.number == n) as (λ b. (y.number == n) ≡ b
    → (if b then Some y else find (is_object n) ys) ≡ Some o → o.number ≡ n) [
      | true ↦ (λ t g. let yo : y ≡ o = cc in ap (λ (z : Object). z.number) (sym yo) ∙ eqb-true y.number n t)
      | false ↦ (λ t g. found_number n ys o g)
    ] refl e

pub found_own : (n : ℕ) (os : List Object) (o : Object) → find (is_object n) os ≡ Some o
    → find (is_object o.number) os ≡ Some o
found_own n os o e = ap (λ (m : ℕ). find (is_object m) os) (found_number n os o e) ∙ e

-- ---- an object that is asked pays one
requested_pays : {Greatest : ℕ → Type 0} (r : Record) (D : ℕ → ℕ → ℕ) (n : ℕ) (op : Operation)
    (found : Option Object) → find (is_object n) r.objects ≡ found
    → Within Greatest (λ m f. D m f + cond (n == m) 1 0) r → Within Greatest D (requested r op found).rec
requested_pays r D n op None e h = within_less r (λ m f. D m f + cond (n == m) 1 0) D (λ m f. omega arith) h
requested_pays r D n op (Some o) e h =
    let E : ℕ → ℕ → ℕ = λ m f. D m f + cond (n == m) 1 0 in
    let old : Owing r.numbers E o = each_found (Owing r.numbers E) (is_object n) r.objects o h.room e in
    let one : E o.number o.frame ≡ D o.number o.frame + 1 = ap (λ (b : Bool). D o.number o.frame + cond b 1 0)
    (eq-eqb n o.number (sym (found_number n r.objects o e))) in
    put_within r E D (record o { link = asked_link op o.link }) o h (found_own n r.objects o e) (λ m f ne. omega arith)
    (asked_linked r.numbers (D o.number o.frame) op o.link
    (subst (λ (x : ℕ). IfLinked (IsRoomy r.numbers x) o.link) one old)) refl

pub request_pays : {Greatest : ℕ → Type 0} (r : Record) (D : ℕ → ℕ → ℕ) (n : ℕ) (op : Operation)
    → Within Greatest (λ m f. D m f + cond (n == m) 1 0) r → Within Greatest D (request r n op).rec
request_pays r D n op h = requested_pays r D n op (find (is_object n) r.objects) refl h

pub requested_frames : (r : Record) (op : Operation) (found : Option Object)
    → (requested r op found).rec.frames ≡ r.frames
requested_frames r op None = refl
requested_frames r op (Some o) = refl

pub granted_pays : {Greatest : ℕ → Type 0} (cs : List Claim) (r : Record) (D : ℕ → ℕ → ℕ)
    → Within Greatest (λ m f. D m f + told cs m) r → Within Greatest D (grant_each r cs).rec
granted_pays [] r D h = within_less r (λ m f. D m f + 0) D (λ m f. omega arith) h
granted_pays {Greatest} (c ∷ cs) r D h =
    let E : ℕ → ℕ → ℕ = λ m f. D m f + told cs m in
    let all : Within Greatest (λ m f. E m f + cond (c.object == m) 1 0) r =
    within_less r (λ m f. D m f + (cond (c.object == m) 1 0 + told cs m))
    (λ m f. (D m f + told cs m) + cond (c.object == m) 1 0) (λ m f. omega arith) h in
    granted_pays cs (request r c.object (UiActivate c.g)).rec D (request_pays r E c.object (UiActivate c.g) all)

pub granted_frames : (cs : List Claim) (r : Record) → (grant_each r cs).rec.frames ≡ r.frames
granted_frames [] r = refl
granted_frames (c ∷ cs) r = granted_frames cs (request r c.object (UiActivate c.g)).rec
    ∙ requested_frames r (UiActivate c.g) (find (is_object c.object) r.objects)

-- ---- one object takes another's place
pub put_any : {Greatest : ℕ → Type 0} (r : Record) (D : ℕ → ℕ → ℕ) (test : Object → Bool) (a x : Object)
    → Within Greatest D r → find test r.objects ≡ Some x → a.number ≡ x.number → Owing r.numbers D a
    → Within Greatest D (record r { objects = put test a r.objects })
put_any r D test a x h found same new = record {
  limit = h.limit;
  room = each_put (Owing r.numbers D) test a r.objects h.room new;
  saves = h.saves;
  frames = h.frames;
  servers = h.servers;
  objects = h.objects;
  acts = h.acts;
  grants = h.grants;
  apart = put_apart test a x r.objects found same h.apart;
}

-- ---- the frames change
pub framed : {Greatest : ℕ → Type 0} (r : Record) (D : ℕ → ℕ → ℕ) (frames : List Frame) → Within Greatest D r
    → AllByRecursion (IsSaved r.numbers) frames → length frames ≤ r.numbers
    → Within Greatest D (record r { frames = frames })
framed r D frames h saves few = record {
  limit = h.limit;
  room = h.room;
  saves = saves;
  frames = few;
  servers = h.servers;
  objects = h.objects;
  acts = h.acts;
  grants = h.grants;
  apart = h.apart;
}

pub one_framed : {Greatest : ℕ → Type 0} (r : Record) (D : ℕ → ℕ → ℕ) (f : ℕ) (next : Frame) → Within Greatest D r
    → next.k ≤ r.numbers → Within Greatest D (with_frame r f next)
one_framed {Greatest} r D f next h k =
    framed r D (set_nth r.frames f next) h (each_set (IsSaved r.numbers) r.frames f next h.saves k)
    (let e = length-set_nth r.frames f next in let few = h.frames in omega arith)

-- what an object of a frame owes, and what it is told
pub move_owed : (frames : List Frame) (f : ℕ) (frame next : Frame) (n g more : ℕ) → nth frames f ≡ Some frame
    → debt next.phase next.asked ≡ debt frame.phase frame.asked → grant_debt n next.ui.state + more
    ≤ grant_debt n frame.ui.state
    → ((g ≡ f → ⊥) → more ≡ 0) → debts (set_nth frames f next) n g + more ≤ debts frames n g
move_owed frames f frame next n g more at same less out =
    elim (g == f) as (λ b. (g == f) ≡ b → debts (set_nth frames f next) n g + more ≤ debts frames n g) [
      | true ↦ (λ t.
          let e : g ≡ f = eqb-true g f t in
          let new : debts (set_nth frames f next) n g ≡ debt next.phase next.asked + grant_debt n next.ui.state =
          ap (debts (set_nth frames f next) n) e ∙ ap (debt_in n) (nth-set_same frames f frame next at) in
          let old : debts frames n g ≡ debt frame.phase frame.asked + grant_debt n frame.ui.state =
          ap (debts frames n) e ∙ ap (debt_in n) at in
          omega arith)
      | false ↦ (λ t.
          let ne = eqb-false g f t in
          let none = out ne in
          let new : debts (set_nth frames f next) n g ≡ debts frames n g =
          ap (debt_in n) (nth-set_other frames f g next (λ q. ne (sym q))) in
          omega arith)
    ] refl

-- ---- whoever waits for a frame is of it
abbrev pub FoundIn : List Object → Object → Type 0
FoundIn os x = find (is_object x.number) os ≡ Some x

found_behind : (y : Object) (ys : List Object) (x : Object) → FoundIn ys x × InOrder y x → FoundIn (y ∷ ys) x
found_behind y ys x h = subst (λ (b : Bool). (if b then Some y else find (is_object x.number) ys) ≡ Some x)
    (sym (number_apart y x h.1)) h.0

pub all_found : (os : List Object) → EachPair InOrder os → AllByRecursion (FoundIn os) os
all_found [] h = tt
all_found (y ∷ ys) h = (
  here y.number y ys refl,
  each_weaker (λ x. FoundIn ys x × InOrder y x) (FoundIn (y ∷ ys)) ys
      (found_behind y ys) (each_both (FoundIn ys) (InOrder y) ys (all_found ys h.1) h.0),
)

pub claim_inside : (r : Record) (f : ℕ) (c : Claim) (x : Object) → FoundIn r.objects x → IsClaim r f c
    → c.object ≡ x.number → x.frame ≡ f
claim_inside r f c x found h e =
    let both = sym found ∙ (ap (λ (n : ℕ). find (is_object n) r.objects) (sym e) ∙ h.found) in
    let same : x ≡ h.object = cc in
    ap (λ (z : Object). z.frame) same ∙ h.inside

abbrev pub WaitsIn : ℕ → GrantState → Object → Type 0
WaitsIn f s x = (c : Claim) → waiting s ≡ Some c → c.object ≡ x.number → x.frame ≡ f

pub waits_in : (r : Record) (f : ℕ) (frame : Frame) → Steady r → nth r.frames f ≡ Some frame → (x : Object)
    → FoundIn r.objects x → WaitsIn f frame.ui.state x
waits_in r f frame s at x found c waits e = claim_inside r f c x found
    (if_at (IsClaim r f) (waiting frame.ui.state) c waits (s.grants f frame at).next) e
