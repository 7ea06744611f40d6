-- Each moment that is taken is answered, and no more of them than a world takes.
use Rattle.std.proofs.Common.{◌≡◌, ◌≤◌, ◌<◌, ◌==◌, ◌++◌, ℕ, Bool, true, false, List, [], ◌∷◌, Option, Some, None}
use Rattle.std.proofs.Common.{Result, Ok, Err, length, refl, sym, ap, ◌∙◌, subst, arith, nat_le, eq-eqb, if◌then◌else◌}
use Rattle.std.proofs.Common.{length-append}
use Rattle.std.proofs.lemmas.Bool.Decides.{nat_tests}
use Rattle.message_values.specs.Found.{find, nth}
use Rattle.message_values.specs.declared.message.Message.{Message}
use Rattle.message_values.specs.declared.message.Said.{Said}
use Rattle.message_values.specs.declared.message.Said.TheVariants.{Call, Reply, Write, Ask}
use Rattle.world_model.proofs.Counted.{run-few}
use Rattle.world_model.specs.declared.event.Event.{Event}
use Rattle.world_model.specs.declared.event.Event.TheVariants as event
use Rattle.world_model.specs.declared.event.Stop.{Stop}
use Rattle.world_model.specs.declared.event.Stop.TheVariants.{EventLimit, NotEnabled}
use Rattle.world_model.specs.declared.logs.EventAnswer.TheVariants as told
use Rattle.world_model.specs.declared.logs.Sent.{Sent}
use Rattle.world_model.specs.World.{Choice, MayChoose, MOST_EVENTS, World, ask, crash, deliver, delivered_said}
use Rattle.world_model.specs.World.{happened}
use Rattle.world_model.specs.World.{link_of, limited, quiet_outcome, scribble, taken_at, with_taken}
use Rattle.world_model.specs.declared.moment.Moment.{Moment}
use Rattle.world_model.specs.declared.moment.Moment.TheVariants as moment
use Rattle.world_model.specs.Story.{Chosen, Epoch, MayChooseAt, Story, Tells, as_of, earlier, follow, followed, goes_on}
use Rattle.world_model.specs.Story.{is_session, left_by, may_begin, may_stop, passed, present, session_of, stopped}
use Rattle.world_model.specs.Story.{within}

abbrev Few : World → Type 0
Few w = length w.answers ≤ MOST_EVENTS

-- and of a story that was told
abbrev IfTold : Result Story Stop → Type 0
IfTold (Err stop) = Unit {0}
IfTold (Ok next) = Few next.now

abbrev IsOpen : World → Type 0
IsOpen w = nat_le MOST_EVENTS (length w.answers) ≡ false

open_few : (w : World) → IsOpen w → Few w
open_few w under = let below : length w.answers < MOST_EVENTS = grind (arith, nat_tests) in omega (arith, below)

-- an event of a world
happened_few : (w : World) (choice : Choice) (e : Event) (v : World) → IsOpen w → MayChoose w choice e
    → happened w choice e ≡ Ok v → Few v
happened_few w choice e v under image is =
    let limit : (Bool → Result World Stop) = λ b. if b then Err EventLimit else Ok v in
    run-few (e ∷ []) w v (open_few w under) (choice, v, image, ap (limited w) is ∙ ap limit under, refl)

-- an event at a server of an earlier run is one of the world as that run has it
in_run_few : (w : World) (choice : Choice) (e : Event) (r : Result World Stop) (v : World) → IsOpen w
    → MayChoose w choice e
    → happened w choice e ≡ (if w.rec.session == w.rec.session then r else Err NotEnabled) → r ≡ Ok v → Few v
in_run_few w choice e r v under image told is =
    happened_few w choice e v under image
    (told ∙ ap (λ b. if b then r else Err NotEnabled) (eq-eqb w.rec.session w.rec.session refl) ∙ is)

goes_on_few : (w : World) (choice : Choice) (e : Event) (v : World) → IsOpen w → goes_on w e ≡ Ok v → Few v
goes_on_few w choice (event.Command c) v under is = absurd (cc)
goes_on_few w choice (event.Deliver p) v under is = happened_few w choice (event.Deliver p) v under tt is
goes_on_few w choice (event.Forge inc m) v under is = absurd (cc)
goes_on_few w choice (event.Crash session inc) v under is = in_run_few w choice (event.Crash w.rec.session inc)
    (crash w inc (nth w.instances inc)) v under tt refl is
goes_on_few w choice (event.Reap inc) v under is = absurd (cc)
goes_on_few w choice (event.Done f) v under is = absurd (cc)
goes_on_few w choice (event.Fail f) v under is = absurd (cc)
goes_on_few w choice (event.Resolve f is_kept) v under is = absurd (cc)
goes_on_few w choice (event.Open name width height) v under is = absurd (cc)
goes_on_few w choice (event.Scribble session inc act) v under is =
    in_run_few w choice (event.Scribble w.rec.session inc act) (scribble w inc act (nth w.instances inc)) v under tt
    refl is
goes_on_few w choice (event.Ask session inc act) v under is = in_run_few w choice (event.Ask w.rec.session inc act)
    (ask w inc act (nth w.instances inc)) v under tt refl is

left_few : (s : Story) (e : Epoch) (r : Result World Stop) (next : Story) → left_by s e r ≡ Ok next
    → ((v : World) → r ≡ Ok v → Few v) → Few next.now
left_few s e (Err stop) next is all = absurd (cc)
left_few s e (Ok v) next is all =
    let few : Few v = all v refl in
    let P : Result Story Stop → Type 0 = IfTold in
    subst P is few

earlier_few : (s : Story) (choice : Choice) (e : Event) (x : Option Epoch) (next : Story) → IsOpen s.now
    → earlier s e x ≡ Ok next → Few next.now
earlier_few s choice e None next under is = absurd (cc)
earlier_few s choice e (Some x) next under is = left_few s x (goes_on (as_of s.now x) e) next is
    (λ v told. goes_on_few (as_of s.now x) choice e v under told)

-- one of the present run
followed_now : (s : Story) (e : Event) (v : World) → (followed s e v).now ≡ v
followed_now s (event.Command c) v = refl
followed_now s (event.Deliver p) v = refl
followed_now s (event.Forge inc m) v = refl
followed_now s (event.Crash session inc) v = refl
followed_now s (event.Reap inc) v = refl
followed_now s (event.Done f) v = refl
followed_now s (event.Fail f) v = refl
followed_now s (event.Resolve f true) v = refl
followed_now s (event.Resolve f false) v = refl
followed_now s (event.Open name width height) v = refl
followed_now s (event.Scribble session inc act) v = refl
followed_now s (event.Ask session inc act) v = refl

follow_few : (s : Story) (e : Event) (r : Result World Stop) (next : Story) → follow s e r ≡ Ok next
    → ((v : World) → r ≡ Ok v → Few v) → Few next.now
follow_few s e (Err stop) next is all = absurd (cc)
follow_few s e (Ok v) next is all =
    let P : Result Story Stop → Type 0 = IfTold in
    subst P is (subst Few (sym (followed_now s e v)) (all v refl))

either : {A : Type 0} (b : Bool) (x y z : A) (P : Type 0) → (if b then x else y) ≡ z → (x ≡ z → P) → (y ≡ z → P) → P
either true x y z P is f g = f is
either false x y z P is f g = g is

passed_few : (s : Story) (choice : Chosen) (m : Moment) (next : Story) → IsOpen s.now → MayChooseAt s choice m
    → passed s choice m ≡ Ok next → Few next.now
passed_few s choice (moment.Event e) next under image is =
    either (session_of s.now e == s.now.rec.session) (present s choice.here e)
    (earlier s e (find (is_session (session_of s.now e)) s.past)) (Ok next) (Few next.now) is
    (λ here. either (may_begin s e) (follow s e (happened s.now choice.here e)) (Err NotEnabled) (Ok next)
    (Few next.now) here
    (λ may. follow_few s e (happened s.now choice.here e) next may
    (λ v told. happened_few s.now choice.here e v under image told))
    (λ barred. absurd (cc)))
    (λ before. earlier_few s choice.here e (find (is_session (session_of s.now e)) s.past) next under before)
passed_few s choice (moment.Stop fs) next under image is =
    either (may_stop s.now.rec fs) (Ok (stopped s choice.images fs)) (Err NotEnabled) (Ok next) (Few next.now) is
    (λ stops.
    let P : Result Story Stop → Type 0 = IfTold in
    let below : length s.now.answers < MOST_EVENTS = grind (arith, nat_tests) in
    subst P stops (omega (arith, below, length-append s.now.answers (told.Took quiet_outcome ∷ []))))
    (λ barred. absurd (cc))

record Open (s : Story) (r : Result Story Stop) (next : Story) : Type 0 where
  under : IsOpen s.now
  is : r ≡ Ok next

within_open : (s : Story) (r : Result Story Stop) (next : Story) → within s r ≡ Ok next → Open s r next
within_open s (Err stop) next is = absurd (cc)
within_open s (Ok after) next is =
    let step : (Bool → Result Story Stop) = λ b. if b then Err EventLimit else Ok after in
    let P : Bool → Type 0 = λ b. nat_le MOST_EVENTS (length s.now.answers) ≡ b → step b ≡ Ok next
    → Open s (Ok after) next in
    let cases : P (nat_le MOST_EVENTS (length s.now.answers)) =
    elim (nat_le MOST_EVENTS (length s.now.answers)) as P [
      | true ↦ λ over e. absurd (cc)
      | false ↦ λ under e. record { under = under; is = e }
    ] in
    cases refl is

pub tells-few : (ms : List Moment) (s after : Story) → length s.now.answers ≤ MOST_EVENTS → Tells s ms after
    → length after.now.answers ≤ MOST_EVENTS
tells-few [] s after few same = omega (arith, few, ap (λ (t : Story). length t.now.answers) same)
tells-few (m ∷ ms) s after few tells =
    let one = within_open s (passed s tells.0 m) tells.1 tells.3 in
    tells-few ms tells.1 after (passed_few s tells.0 m tells.1 one.under tells.2 one.is) tells.4
