-- What an event of the present run, or at a server of an earlier one, makes of a story; and what is refused.
use Rattle.std.proofs.Common.{◌≡◌, ◌==◌, ℕ, Bool, true, false, List, [], Result, Ok, Err, length, refl, ap, sym, ◌∙◌}
use Rattle.std.proofs.Common.{subst, inl, inr, if◌then◌else◌}
use Rattle.std.specs.Prelude.{nat_le}
use Rattle.std.proofs.lemmas.Bool.Decides.{eqb_tells}
use Rattle.object_core.specs.Kinds.{Kind}
use Rattle.message_values.specs.Found.{find, put}
use Rattle.world_model.specs.declared.event.Event.{Event}
use Rattle.world_model.specs.declared.event.Event.TheVariants as event
use Rattle.world_model.specs.declared.event.Stop.{Stop}
use Rattle.world_model.specs.declared.event.Stop.TheVariants.{EventLimit, NoMemory, NotEnabled, OutOfStock}
use Rattle.world_model.specs.World.{Choice, MayChoose, Instance, MOST_EVENTS, StopsFor, StopsAt, World, happened}
use Rattle.world_model.specs.World.{limited}
use Rattle.world_model.specs.World.{no_choice, step}
use Rattle.world_model.specs.declared.moment.Moment.TheVariants as moment
use Rattle.world_model.specs.Story.{Chosen, EndsAt, Epoch, Story, as_of, earlier, follow, followed}
use Rattle.world_model.specs.Story.{is_session, left_by, may_begin, present, session_of, within}
use Rattle.world_host.specs.declared.host.Host.{Host}
use Rattle.world_host.specs.View.{bare}
use Rattle.world_run.specs.Passes.{Follows, HoldsBack, Passes, left_at}

-- the session of an event is that of the host
pub session_seen : (h : Host) (instances : List Instance) (stock : List Kind) (e : Event)
    → session_of (record (bare h) { instances = instances; stock = stock }) e ≡ session_of (bare h) e
session_seen h instances stock (event.Command c) = refl
session_seen h instances stock (event.Deliver p) = refl
session_seen h instances stock (event.Forge inc m) = refl
session_seen h instances stock (event.Crash session inc) = refl
session_seen h instances stock (event.Reap inc) = refl
session_seen h instances stock (event.Done f) = refl
session_seen h instances stock (event.Fail f) = refl
session_seen h instances stock (event.Resolve f is_kept) = refl
session_seen h instances stock (event.Open name width height) = refl
session_seen h instances stock (event.Scribble session inc act) = refl
session_seen h instances stock (event.Ask session inc act) = refl

-- an event, by the session in which it happens
abbrev In : Story → Choice → Event → Bool → Result Story Stop
In s choice e b = if b then present s choice e else earlier s e (find (is_session (session_of s.now e)) s.past)

abbrev chosen : Choice → Chosen
chosen choice = record { here = choice; images = λ f. [] }

same : (a b : ℕ) → a ≡ b → (a == b) ≡ true
same a b e = elim (eqb_tells a b) [ inl t ↦ t.0 | inr t ↦ absurd (t.1 e) ]

apart : (a b : ℕ) → (a ≡ b → ⊥) → (a == b) ≡ false
apart a b ne = elim (eqb_tells a b) [ inl t ↦ absurd (ne t.1) | inr t ↦ t.0 ]

pub passes_here : (s : Story) (e : Event) (after : Story) → session_of s.now e ≡ s.now.rec.session
    → Follows s e after → Passes s (moment.Event e) after
passes_here s e after here f =
    (chosen f.0, f.1, ap (λ b. within s (In s f.0 e b)) (same (session_of s.now e) s.now.rec.session here) ∙ f.2)

pub ends_here : (s : Story) (e : Event) → session_of s.now e ≡ s.now.rec.session → (stop : Stop)
    → HoldsBack s e stop → EndsAt s (moment.Event e) stop
ends_here s e here stop h choice = subst (λ b. StopsFor (within s (In s choice.here e b)) stop)
    (sym (same (session_of s.now e) s.now.rec.session here)) (h choice.here)

-- what happens elsewhere leaves nothing open
no_image : (w : World) (choice : Choice) (e : Event) → (session_of w e ≡ w.rec.session → ⊥) → MayChoose w choice e
no_image w choice (event.Command c) other = tt
no_image w choice (event.Deliver p) other = tt
no_image w choice (event.Forge inc m) other = tt
no_image w choice (event.Crash session inc) other = tt
no_image w choice (event.Reap inc) other = tt
no_image w choice (event.Done f) other = absurd (other refl)
no_image w choice (event.Fail f) other = tt
no_image w choice (event.Resolve f true) other = absurd (other refl)
no_image w choice (event.Resolve f false) other = tt
no_image w choice (event.Open name width height) other = absurd (other refl)
no_image w choice (event.Scribble session inc act) other = tt
no_image w choice (event.Ask session inc act) other = tt

pub passes_there : (s : Story) (e : Event) (n : ℕ) (after : Story) → n ≡ session_of s.now e
    → (n ≡ s.now.rec.session → ⊥) → within s (earlier s e (find (is_session n) s.past)) ≡ Ok after
    → Passes s (moment.Event e) after
passes_there s e n after is other h =
    let there : session_of s.now e ≡ s.now.rec.session → ⊥ = λ q. other (is ∙ q) in (
      chosen no_choice,
      no_image s.now no_choice e there,
      ap (λ b. within s (In s no_choice e b))
          (apart (session_of s.now e) s.now.rec.session there)
          ∙ (ap (λ x. within s (earlier s e (find (is_session x) s.past))) (sym is) ∙ h),
    )

pub ends_there : (s : Story) (e : Event) (n : ℕ) → n ≡ session_of s.now e → (n ≡ s.now.rec.session → ⊥)
    → (stop : Stop) → StopsFor (within s (earlier s e (find (is_session n) s.past))) stop
    → EndsAt s (moment.Event e) stop
ends_there s e n is other stop h choice =
    subst (λ b. StopsFor (within s (In s choice.here e b)) stop)
    (sym (apart (session_of s.now e) s.now.rec.session (λ q. other (is ∙ q))))
    (subst (λ x. StopsFor (within s (earlier s e (find (is_session x) s.past))) stop) is h)

-- what a world's step is made into, or why it isn't taken
refused_as : (b : Bool) (u : World) (after : Story) (stop : Stop)
    → StopsFor (if b then Err EventLimit else Ok u) stop → StopsFor (if b then Err EventLimit else Ok after)
    stop
refused_as true u after NotEnabled h = cc
refused_as true u after OutOfStock h = cc
refused_as true u after EventLimit h = refl
refused_as true u after NoMemory h = cc
refused_as false u after NotEnabled h = cc
refused_as false u after OutOfStock h = cc
refused_as false u after EventLimit h = cc
refused_as false u after NoMemory h = refl

refused_so : (stop why : Stop) → StopsFor {A = World} (Err stop) why → StopsFor {A = Story} (Err stop) why
refused_so stop NotEnabled h = (let is : stop ≡ NotEnabled = cc in ap Err is)
refused_so stop OutOfStock h = (let is : stop ≡ OutOfStock = cc in ap Err is)
refused_so stop EventLimit h = (let is : stop ≡ EventLimit = cc in ap Err is)
refused_so stop NoMemory h = cc

pub limited_ok : (w : World) (r : Result World Stop) (v : World) → limited w r ≡ Ok v → r ≡ Ok v
limited_ok w (Err stop) v e = cc
limited_ok w (Ok u) v e =
    elim (nat_le MOST_EVENTS (length w.answers)) as (λ b. ◌≡◌ {A = Result World Stop}
    (if b then Err EventLimit else Ok u) (Ok v) → ◌≡◌ {A = Result World Stop} (Ok u) (Ok v)) [
      | true ↦
          (λ g. cc)
      | false ↦ (λ g. g)
    ] e

-- in the present run
follow_taken : (s : Story) (e : Event) (r : Result World Stop) (v : World) → limited s.now r ≡ Ok v
    → within s (follow s e r) ≡ Ok (followed s e v)
follow_taken s e (Err stop) v h = cc
follow_taken s e (Ok u) v h =
    elim (nat_le MOST_EVENTS (length s.now.answers)) as (λ b. ◌≡◌ {A = Result World Stop}
    (if b then Err EventLimit else Ok u) (Ok v)
    → ◌≡◌ {A = Result Story Stop} (if b then Err EventLimit else Ok (followed s e u)) (Ok (followed s e v))) [
      | true ↦ (λ g. cc)
      | false ↦ (λ g. (let is : u ≡ v = cc in ap (λ (x : World). Ok (followed s e x)) is))
    ] h

follow_refused : (s : Story) (e : Event) (r : Result World Stop) (stop : Stop) → StopsFor (limited s.now r) stop
    → StopsFor (within s (follow s e r)) stop
follow_refused s e (Err x) stop h = refused_so x stop h
follow_refused s e (Ok u) stop h = refused_as (nat_le MOST_EVENTS (length s.now.answers)) u (followed s e u) stop h

abbrev Begins : Story → Choice → Event → Bool → Result Story Stop
Begins s choice e b = if b then follow s e (happened s.now choice e) else Err NotEnabled

pub follows : (s : Story) (e : Event) (v : World) (after : Story) → may_begin s e ≡ true → (choice : Choice)
    × MayChoose s.now choice e × (step s.now choice e ≡ Ok v)
    → ((choice : Choice) → happened s.now choice e ≡ Ok v → followed s e v ≡ after) → Follows s e after
follows s e v after may h same = (
  h.0,
  h.1,
  ap (λ b. within s (Begins s h.0 e b)) may
      ∙ (follow_taken s e (happened s.now h.0 e) v h.2
      ∙ ap Ok (same h.0 (limited_ok s.now (happened s.now h.0 e) v h.2))),
)

pub holds_back : (s : Story) (e : Event) (stop : Stop) → may_begin s e ≡ true → StopsAt s.now e stop
    → HoldsBack s e stop
holds_back s e stop may h choice = subst (λ b. StopsFor (within s (Begins s choice e b)) stop) (sym may)
    (follow_refused s e (happened s.now choice e) stop (h choice))

pub begins_not : (s : Story) (e : Event) → may_begin s e ≡ false → HoldsBack s e NotEnabled
begins_not s e may choice = ap (λ b. within s (Begins s choice e b)) may

-- at a server of an earlier run
abbrev pub left : Story → Epoch → World → Story
left s x v = record s {
  now = record s.now { stock = v.stock; sent = v.sent; answers = v.answers };
  past = put (is_session x.session) (left_at x.session v) s.past;
}

pub left_taken : (s : Story) (x : Epoch) (r : Result World Stop) (v : World) → limited (as_of s.now x) r ≡ Ok v
    → within s (left_by s x r) ≡ Ok (left s x v)
left_taken s x (Err stop) v h = cc
left_taken s x (Ok u) v h =
    elim (nat_le MOST_EVENTS (length s.now.answers)) as (λ b. ◌≡◌ {A = Result World Stop}
    (if b then Err EventLimit else Ok u) (Ok v)
    → ◌≡◌ {A = Result Story Stop} (if b then Err EventLimit else Ok (left s x u)) (Ok (left s x v))) [
      | true ↦ (λ g. cc)
      | false ↦ (λ g. (let is : u ≡ v = cc in ap (λ (y : World). Ok (left s x y)) is))
    ] h

pub left_refused : (s : Story) (x : Epoch) (r : Result World Stop) (stop : Stop)
    → StopsFor (limited (as_of s.now x) r) stop → StopsFor (within s (left_by s x r)) stop
left_refused s x (Err y) stop h = refused_so y stop h
left_refused s x (Ok u) stop h = refused_as (nat_le MOST_EVENTS (length s.now.answers)) u (left s x u) stop h
