-- The laws above the table of a frame's grant.
use Rattle.std.proofs.Common.{◌≡◌, ◌≢◌, ◌⊎◌, inl, inr, ℕ, ◌==◌, Bool, true, false, List, [], ◌∷◌, Option, Some, None}
use Rattle.std.proofs.Common.{Ok, Err, refl, eqb-true, rules, if◌then◌else◌, sym, ◌∙◌, subst}
use Rattle.object_state.specs.declared.grant_states.Claim.{Claim}
use Rattle.object_state.specs.declared.grant_states.Tools.{Tools}
use Rattle.object_state.specs.declared.grant_states.GrantState.{GrantState}
use Rattle.object_state.specs.declared.grant_states.GrantState.TheVariants.{Free, Granting, Held, Revoking}
use Rattle.object_state.specs.declared.grant_faults.GrantFault.{GrantFault}
use Rattle.object_state.specs.declared.grant_faults.GrantFault.TheVariants.{NotHolder, Busy}
use Rattle.object_state.specs.Grants.{Event, Ask, Granted, Revoked, Lost, who, waiting, table, is_own, is_another}
use Rattle.object_state.specs.Grants.{passed_on, but_for, asked_at_held, IsApart}
use Rattle.object_state.specs.Frames.{Ui, fresh, after, kept, has_room, menu_of, border_of, border_in, container_menu}
use Rattle.object_state.specs.Frames.{no_border}
use Rattle.object_state.specs.GrantLaws.{IsHeld, IsRevoking, run, FreedByHolder, GivenInTurn, WaitingApart}
use Rattle.object_state.specs.GrantLaws.{HeldByAnswer, ContainersUnlessHeld, LeavesRoom, BorderLeavesRoom}

if_told : {A : Type 0} (P : A → Type 0) (b : Bool) (x y : A) → (b ≡ true → P x) → (b ≡ false → P y)
    → P (if b then x else y)
if_told P true x y p q = p refl
if_told P false x y p q = q refl

-- what a state becomes by an outcome of the table, told apart by a test
if_kept : (P : GrantState → Type 0) (b : Bool) (old next : GrantState) (refusal : GrantFault) → (b ≡ true → P next)
    → (b ≡ false → P old) → P (kept old (if b then Ok next else Err refusal))
if_kept P true old next refusal p q = p refl
if_kept P false old next refusal p q = q refl

if_either : (P : GrantState → Type 0) (b : Bool) (old next other : GrantState) → (b ≡ true → P next)
    → (b ≡ false → P other) → P (kept old (if b then Ok next else Ok other))
if_either P true old next other p q = p refl
if_either P false old next other p q = q refl

-- a held frame that is asked for stays held, is to be given up to nobody, or to another object that asks
if_asked : (P : GrantState → Type 0) (holder claim : Claim) (tools : Tools) → P (Revoking holder None)
    → (is_another holder claim ≡ true → P (Revoking holder (Some claim))) → P (Held holder tools)
    → P (kept (Held holder tools) (asked_at_held holder claim))
if_asked P holder claim tools own another stays =
    if_told (λ r. P (kept (Held holder tools) r)) (is_own holder claim) _ _
    (λ _. own)
    (λ _. if_kept P (is_another holder claim) (Held holder tools) (Revoking holder (Some claim)) Busy another
    (λ _. stays))

abbrev Freed : GrantState → Event → Claim → GrantState → Type 0
Freed old event holder next = (who next ≡ Some holder)
    ⊎ ((event ≡ Lost holder.act) ⊎ (IsRevoking old × (event ≡ Revoked holder.g)))

freed : (s : GrantState) (e : Event) (holder : Claim) → who s ≡ Some holder → Freed s e holder (kept s (table s e))
freed Free e holder h = cc
freed (Granting c) (Ask claim) holder h = inl h
freed (Granting c) (Granted g tools) holder h = if_kept (Freed (Granting c) (Granted g tools) holder) (g == c.g)
    (Granting c) (Held c tools) NotHolder (λ _. inl h) (λ _. inl h)
freed (Granting c) (Revoked g) holder h = inl h
freed (Granting c) (Lost act) holder h = if_either (Freed (Granting c) (Lost act) holder) (act == c.act)
    (Granting c) Free (Granting c) (λ t. let same = eqb-true act c.act t in inr (inl cc)) (λ _. inl h)
freed (Held c t) (Ask claim) holder h = if_asked (Freed (Held c t) (Ask claim) holder) c claim t (inl h)
    (λ _. inl h) (inl h)
freed (Held c t) (Granted g tools) holder h = inl h
freed (Held c t) (Revoked g) holder h = inl h
freed (Held c t) (Lost act) holder h = if_either (Freed (Held c t) (Lost act) holder) (act == c.act) (Held c t) Free
    (Held c t) (λ t. let same = eqb-true act c.act t in inr (inl cc)) (λ _. inl h)
freed (Revoking c next) (Ask claim) holder h = inl h
freed (Revoking c next) (Granted g tools) holder h = inl h
freed (Revoking c next) (Revoked g) holder h = if_kept (Freed (Revoking c next) (Revoked g) holder) (g == c.g)
    (Revoking c next) (passed_on next) NotHolder (λ t. let same = eqb-true g c.g t in inr (inr (tt, cc)))
    (λ _. inl h)
freed (Revoking c next) (Lost act) holder h = if_either (Freed (Revoking c next) (Lost act) holder) (act == c.act)
    (Revoking c next) (passed_on next) (Revoking c (but_for act next)) (λ t. let same = eqb-true act c.act t in
    inr (inl cc)) (λ _. inl h)

pub freed-by_holder : FreedByHolder
freed-by_holder ui event holder h = freed ui.state event holder h

abbrev Given : GrantState → Event → Claim → GrantState → Type 0
Given old event holder next = who next ≡ Some holder → (who old ≡ Some holder)
    ⊎ (((who old ≡ None) × (event ≡ Ask holder)) ⊎ (waiting old ≡ Some holder))

who-passed_on : (next : Option Claim) → who (passed_on next) ≡ next
who-passed_on None = refl
who-passed_on (Some claim) = refl

given : (s : GrantState) (e : Event) (holder : Claim) → Given s e holder (kept s (table s e))
given Free (Ask claim) holder h = inr (inl (refl, cc))
given Free _ holder h = cc
given (Granting c) (Granted g tools) holder h = if_kept (Given (Granting c) (Granted g tools) holder) (g == c.g)
    (Granting c) (Held c tools) NotHolder (λ _ h. inl h) (λ _ h. inl h) h
given (Granting c) (Lost act) holder h = if_either (Given (Granting c) (Lost act) holder) (act == c.act)
    (Granting c) Free (Granting c) (λ _ h. cc) (λ _ h. inl h) h
given (Granting c) _ holder h = inl h
given (Held c t) (Ask claim) holder h = if_asked (Given (Held c t) (Ask claim) holder) c claim t (λ h. inl h)
    (λ _ h. inl h) (λ h. inl h) h
given (Held c t) (Lost act) holder h = if_either (Given (Held c t) (Lost act) holder) (act == c.act) (Held c t) Free
    (Held c t) (λ _ h. cc) (λ _ h. inl h) h
given (Held c t) _ holder h = inl h
given (Revoking c next) (Revoked g) holder h = if_kept (Given (Revoking c next) (Revoked g) holder) (g == c.g)
    (Revoking c next) (passed_on next) NotHolder (λ _ h. inr (inr (sym (who-passed_on next) ∙ h))) (λ _ h. inl h) h
given (Revoking c next) (Lost act) holder h = if_either (Given (Revoking c next) (Lost act) holder) (act == c.act)
    (Revoking c next) (passed_on next) (Revoking c (but_for act next))
    (λ _ h. inr (inr (sym (who-passed_on next) ∙ h))) (λ _ h. inl h) h
given (Revoking c next) _ holder h = inl h

pub given-in_turn : GivenInTurn
given-in_turn ui event holder h = given ui.state event holder h

another-apart : (holder claim : Claim) → is_another holder claim ≡ true → IsApart (Revoking holder (Some claim))
another-apart holder claim e = search rules

passed-apart : (next : Option Claim) → IsApart (passed_on next)
passed-apart None = tt
passed-apart (Some claim) = tt

but_for-apart : (act : ℕ) (holder : Claim) (next : Option Claim) → IsApart (Revoking holder next)
    → IsApart (Revoking holder (but_for act next))
but_for-apart act holder None h = tt
but_for-apart act holder (Some claim) h = if_told (λ o. IsApart (Revoking holder o)) (act == claim.act) None
    (Some claim) (λ _. tt) (λ _. h)

apart : (s : GrantState) (e : Event) → IsApart s → IsApart (kept s (table s e))
apart Free (Ask claim) h = tt
apart Free _ h = h
apart (Granting c) (Granted g tools) h = if_kept IsApart (g == c.g) (Granting c) (Held c tools) NotHolder (λ _. tt)
    (λ _. tt)
apart (Granting c) (Lost act) h = if_either IsApart (act == c.act) (Granting c) Free (Granting c) (λ _. tt) (λ _. tt)
apart (Granting c) _ h = h
apart (Held c t) (Ask claim) h = if_asked IsApart c claim t tt (λ e. another-apart c claim e) tt
apart (Held c t) (Lost act) h = if_either IsApart (act == c.act) (Held c t) Free (Held c t) (λ _. tt) (λ _. tt)
apart (Held c t) _ h = h
apart (Revoking c next) (Revoked g) h = if_kept IsApart (g == c.g) (Revoking c next) (passed_on next) NotHolder
    (λ _. passed-apart next) (λ _. h)
apart (Revoking c next) (Lost act) h = if_either IsApart (act == c.act) (Revoking c next) (passed_on next)
    (Revoking c (but_for act next)) (λ _. passed-apart next) (λ _. but_for-apart act c next h)
apart (Revoking c next) _ h = h

run-apart : (ui : Ui) (events : List Event) → IsApart ui.state → IsApart (run ui events).state
run-apart ui [] h = h
run-apart ui (event ∷ events) h = run-apart (after ui event) events (apart ui.state event h)

apart_told : (s : GrantState) (holder next : Claim) → IsApart s → who s ≡ Some holder → waiting s ≡ Some next
    → (next.object ≢ holder.object) × (next.act ≢ holder.act)
apart_told Free holder next h held waits = cc
apart_told (Granting c) holder next h held waits = cc
apart_told (Held c t) holder next h held waits = cc
apart_told (Revoking c None) holder next h held waits = cc
apart_told (Revoking c (Some w)) holder next h held waits = (λ e. h.0 cc, λ e. h.1 cc)

pub waiting-apart : WaitingApart
waiting-apart width height events holder next held waits = apart_told (run (fresh width height) events).state holder
    next (run-apart (fresh width height) events tt) held waits

abbrev HeldBy : GrantState → Event → Claim → Tools → GrantState → Type 0
HeldBy old event holder tools next = next ≡ Held holder tools → (old ≡ Held holder tools)
    ⊎ ((old ≡ Granting holder) × (event ≡ Granted holder.g tools))

passed-held : (next : Option Claim) (holder : Claim) (tools : Tools) → passed_on next ≡ Held holder tools → ⊥
passed-held None holder tools h = cc
passed-held (Some claim) holder tools h = cc

held : (s : GrantState) (e : Event) (holder : Claim) (tools : Tools) → HeldBy s e holder tools (kept s (table s e))
held Free (Ask claim) holder tools h = cc
held (Granting c) (Granted g answer) holder tools h = if_kept (HeldBy (Granting c) (Granted g answer) holder tools)
    (g == c.g) (Granting c) (Held c answer) NotHolder (λ t h. let same = eqb-true g c.g t in inr (cc, cc))
    (λ _ h. inl h) h
held (Granting c) (Lost act) holder tools h = if_either (HeldBy (Granting c) (Lost act) holder tools) (act == c.act)
    (Granting c) Free (Granting c) (λ _ h. cc) (λ _ h. cc) h
held (Held c t) (Ask claim) holder tools h = if_asked (HeldBy (Held c t) (Ask claim) holder tools) c claim t
    (λ h. cc) (λ _ h. cc) (λ h. inl h) h
held (Held c t) (Lost act) holder tools h = if_either (HeldBy (Held c t) (Lost act) holder tools) (act == c.act)
    (Held c t) Free (Held c t) (λ _ h. cc) (λ _ h. inl h) h
held (Revoking c next) (Revoked g) holder tools h = if_kept (HeldBy (Revoking c next) (Revoked g) holder tools)
    (g == c.g) (Revoking c next) (passed_on next) NotHolder (λ _ h. absurd (passed-held next holder tools h))
    (λ _ h. cc) h
held (Revoking c next) (Lost act) holder tools h = if_either (HeldBy (Revoking c next) (Lost act) holder tools)
    (act == c.act) (Revoking c next) (passed_on next) (Revoking c (but_for act next))
    (λ _ h. absurd (passed-held next holder tools h)) (λ _ h. cc) h
held (Held c t) _ holder tools h = inl h
held _ _ holder tools h = cc

pub held-by_answer : HeldByAnswer
held-by_answer ui event holder tools h = held ui.state event holder tools h

shown : (ui : Ui) (s : GrantState) → IsHeld s ⊎ ((menu_of s ≡ container_menu) × (border_in ui s ≡ no_border))
shown ui Free = inr (refl, refl)
shown ui (Granting c) = inr (refl, refl)
shown ui (Held c t) = inl tt
shown ui (Revoking c next) = inr (refl, refl)

pub containers-unless_held : ContainersUnlessHeld
containers-unless_held width height events = shown (run (fresh width height) events)
    (run (fresh width height) events).state

room-leaves : (ui : Ui) (border : List ℕ) → has_room ui border ≡ true → LeavesRoom ui.width ui.height border
room-leaves ui border e = search rules

abbrev Roomy : Ui → List ℕ → Type 0
Roomy ui border = (border ≡ no_border) ⊎ LeavesRoom ui.width ui.height border

room : (ui : Ui) (s : GrantState) → Roomy ui (border_in ui s)
room ui Free = inl refl
room ui (Granting c) = inl refl
room ui (Held c t) = if_told (Roomy ui) (has_room ui t.border) t.border no_border
    (λ e. inr (room-leaves ui t.border e)) (λ _. inl refl)
room ui (Revoking c next) = inl refl

-- no event changes the size of a frame
run-width : (ui : Ui) (events : List Event) → (run ui events).width ≡ ui.width
run-width ui [] = refl
run-width ui (event ∷ events) = run-width (after ui event) events

run-height : (ui : Ui) (events : List Event) → (run ui events).height ≡ ui.height
run-height ui [] = refl
run-height ui (event ∷ events) = run-height (after ui event) events

pub border-leaves_room : BorderLeavesRoom
border-leaves_room width height events =
    let ui = run (fresh width height) events in
    let Wide : ℕ → Type 0 = λ n. (border_of ui ≡ no_border) ⊎ LeavesRoom n ui.height (border_of ui) in
    let High : ℕ → Type 0 = λ n. (border_of ui ≡ no_border) ⊎ LeavesRoom width n (border_of ui) in
    subst High (run-height (fresh width height) events)
    (subst Wide (run-width (fresh width height) events) (room ui ui.state))
