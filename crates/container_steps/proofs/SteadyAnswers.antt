-- Answers keep an activation under its number.
use Rattle.std.proofs.Common.{◌≡◌, ◌+◌, ℕ, true, List, [], ◌∷◌, Option, Some, None, Result, Ok, Err, refl, sym, ap, ◌∙◌}
use Rattle.std.proofs.Common.{subst}
use Rattle.message_values.specs.declared.operation.Operation.{Operation}
use Rattle.message_values.specs.declared.operation.Operation.TheVariants.{InitNew, Load, InPlace, UiActivate}
use Rattle.message_values.specs.declared.operation.Operation.TheVariants.{UiDeactivate, InPlaceDeactivate, OpenWindow}
use Rattle.message_values.specs.declared.operation.Operation.TheVariants.{Edit, Save, HandsOff, SaveCompleted}
use Rattle.message_values.specs.declared.operation.Operation.TheVariants.{SaveDropped, Close}
use Rattle.message_values.specs.declared.answer.Answer.{Answer}
use Rattle.message_values.specs.declared.answer.Answer.TheVariants.{Done, Refused, Content, Tools}
use Rattle.object_state.specs.Both as both
use Rattle.object_state.specs.declared.both_states.States.{States}
use Rattle.object_state.specs.declared.faults.StateFault.{StateFault}
use Rattle.object_state.specs.declared.operations.CloseOption.TheVariants.{SaveIfDirty, NoSave}
use Rattle.message_values.specs.Operations.{op_of}
use Rattle.tree_streams.specs.declared.stored.Stored.{Stored}
use Rattle.object_state.specs.declared.grant_states.Tools.{Tools as GrantTools}
use Rattle.container_model.specs.declared.grants.Tells.{Tells}
use Rattle.container_model.specs.declared.grants.Tells.TheVariants.{Gets, GivesUp}
use Rattle.container_model.specs.declared.record.Link.{Link}
use Rattle.container_model.specs.declared.fault.ContainerFault.{ContainerFault}
use Rattle.container_model.specs.declared.fault.ContainerFault.TheVariants.{BadAnswer}
use Rattle.container_model.specs.Messages.{Replied, next_at, next_link, closed_with, done, done_link, granted_link}
use Rattle.container_model.specs.Messages.{is_fit, next_s, saved_link, replied, replied_fitting}
use Rattle.container_steady.proofs.SteadyClaims.{LinkStays}
use Rattle.container_steady.proofs.SteadyRecords.{if_told, Follows}

-- a link goes on under its act
next_act : (l : Link) (ws : List Operation) → (next_at l ws).link.act ≡ l.act
next_act l [] = refl
next_act l (op ∷ ops) = refl

pub next_follows : (link before : Option Link) → Follows link before → Follows (next_link link) before
next_follows None before f l e = cc
next_follows (Some m) before f l e =
    let same : (next_at m m.waiting).link ≡ l = cc in
    let g = f m refl in
    (g.0, g.1, sym (ap (λ (z : Link). z.act) same) ∙ (next_act m m.waiting ∙ g.2))

-- every answer leaves the link its act
abbrev pub Keeps : Link → Result Replied ContainerFault → Type 0
Keeps l (Ok re) = Follows re.link (Some l)
Keeps l (Err fault) = Unit {0}

done_keeps : (l : Link) (op : Operation) → Keeps l (done l op)
done_keeps l op = elim (both.step l.states (op_of op)) as (λ r. both.step l.states (op_of op) ≡ r
    → Keeps l (done l op)) [
      | Err fault ↦ (λ e. let is : done l op ≡ Err BadAnswer = rw e refl in subst (Keeps l) (sym is) tt)
      | Ok v ↦ (λ e.
          let x : Link = record l { pending = None; states = v; s = next_s op l.s } in
          let is : done l op ≡ Ok (record { link = Some x; taken = None; refused = None; grant = None }) = rw e refl in
          subst (Keeps l) (sym is) (λ m g. let same : x ≡ m = cc in (l, refl, sym (ap (λ (z : Link). z.act) same))))
    ] refl

saved_follows : (content : Stored) (link before : Option Link) → Follows link before
    → Follows (elim link [ None ↦ None | Some l ↦ Some (record l { saved = Some content }) ]) before
saved_follows content None before f l e = cc
saved_follows content (Some m) before f l e = (let same : record m { saved = Some content } ≡ l = cc in
    let g = f m refl in (g.0, g.1, sym (ap (λ (z : Link). z.act) same) ∙ g.2))

saved_keeps : (l : Link) (content : Stored) (r : Result Replied ContainerFault) → Keeps l r
    → Keeps l (saved_link content r)
saved_keeps l content (Err fault) k = tt
saved_keeps l content (Ok re) k = saved_follows content re.link (Some l) k

granted_keeps : (l : Link) (told : Tells) (r : Result Replied ContainerFault) → Keeps l r
    → Keeps l (granted_link told r)
granted_keeps l told (Err fault) k = tt
granted_keeps l told (Ok re) k = k

pub none_follows : (before : Option Link) → Follows None before
none_follows before l e = cc

closed_keeps : (l : Link) (content : Option Stored) (r : Result States StateFault) → Keeps l (closed_with content r)
closed_keeps l content (Err fault) = tt
closed_keeps l content (Ok v) = none_follows (Some l)

pub replied_keeps : (l : Link) (op : Operation) (answer : Answer) → Keeps l (replied l op answer)
replied_keeps l (InitNew class) Done = done_keeps l (InitNew class)
replied_keeps l (InitNew class) (Refused why) = none_follows (Some l)
replied_keeps l (InitNew class) _ = tt
replied_keeps l (Load class content) Done = done_keeps l (Load class content)
replied_keeps l (Load class content) (Refused why) = none_follows (Some l)
replied_keeps l (Load class content) _ = tt
replied_keeps l InPlace Done = done_keeps l InPlace
replied_keeps l InPlace _ = tt
replied_keeps l (UiActivate g) (Tools menus border) =
    granted_keeps l (Gets g (record { menus = menus; border = border })) (done l (UiActivate g))
    (done_keeps l (UiActivate g))
replied_keeps l (UiActivate g) _ = tt
replied_keeps l UiDeactivate Done = granted_keeps l (GivesUp l.act) (done l UiDeactivate) (done_keeps l UiDeactivate)
replied_keeps l UiDeactivate _ = tt
replied_keeps l InPlaceDeactivate Done = done_keeps l InPlaceDeactivate
replied_keeps l InPlaceDeactivate _ = tt
replied_keeps l OpenWindow Done = done_keeps l OpenWindow
replied_keeps l OpenWindow _ = tt
replied_keeps l (Edit bytes) Done = done_keeps l (Edit bytes)
replied_keeps l (Edit bytes) (Refused why) = λ m e. (let same : record l { pending = None } ≡ m = cc in
    (l, refl, sym (ap (λ (z : Link). z.act) same)))
replied_keeps l (Edit bytes) _ = tt
replied_keeps l (Save k) (Content content) = saved_keeps l content (done l (Save k)) (done_keeps l (Save k))
replied_keeps l (Save k) _ = tt
replied_keeps l HandsOff Done = done_keeps l HandsOff
replied_keeps l HandsOff _ = tt
replied_keeps l (SaveCompleted k storage) Done = done_keeps l (SaveCompleted k storage)
replied_keeps l (SaveDropped k) Done = done_keeps l (SaveDropped k)
replied_keeps l (SaveCompleted k storage) _ = tt
replied_keeps l (SaveDropped k) _ = tt
replied_keeps l (Close SaveIfDirty) (Content content) = closed_keeps l (Some content)
    (both.step l.states (op_of (Close SaveIfDirty)))
replied_keeps l (Close SaveIfDirty) _ = tt
replied_keeps l (Close NoSave) Done = closed_keeps l None (both.step l.states (op_of (Close NoSave)))
replied_keeps l (Close NoSave) _ = tt

-- whatever gives a frame up is the activation that was answered for
abbrev pub GivesItsOwn : Link → Option Tells → Type 0
GivesItsOwn l None = Unit {0}
GivesItsOwn l (Some (Gets g tools)) = Unit {0}
GivesItsOwn l (Some (GivesUp act)) = act ≡ l.act

abbrev pub OwnGiven : Link → Result Replied ContainerFault → Type 0
OwnGiven l (Err fault) = Unit {0}
OwnGiven l (Ok re) = GivesItsOwn l re.grant

done_own : (l : Link) (s : ℕ) (r : Result States StateFault) → OwnGiven l (done_link l s r)
done_own l s (Err fault) = tt
done_own l s (Ok v) = tt

saved_own : (l : Link) (content : Stored) (s : ℕ) (r : Result States StateFault)
    → OwnGiven l (saved_link content (done_link l s r))
saved_own l content s (Err fault) = tt
saved_own l content s (Ok v) = tt

gets_own : (l : Link) (g : ℕ) (tools : GrantTools) (s : ℕ) (r : Result States StateFault)
    → OwnGiven l (granted_link (Gets g tools) (done_link l s r))
gets_own l g tools s (Err fault) = tt
gets_own l g tools s (Ok v) = tt

gives_own : (l : Link) (s : ℕ) (r : Result States StateFault)
    → OwnGiven l (granted_link (GivesUp l.act) (done_link l s r))
gives_own l s (Err fault) = tt
gives_own l s (Ok v) = refl

closed_own : (l : Link) (content : Option Stored) (r : Result States StateFault) → OwnGiven l (closed_with content r)
closed_own l content (Err fault) = tt
closed_own l content (Ok v) = tt

pub replied_own : (l : Link) (op : Operation) (answer : Answer) → OwnGiven l (replied l op answer)
replied_own l (InitNew class) Done = done_own l 1 (both.step l.states (op_of (InitNew class)))
replied_own l (InitNew class) (Refused why) = tt
replied_own l (InitNew class) _ = tt
replied_own l (Load class content) Done = done_own l 1 (both.step l.states (op_of (Load class content)))
replied_own l (Load class content) (Refused why) = tt
replied_own l (Load class content) _ = tt
replied_own l InPlace Done = done_own l l.s (both.step l.states (op_of InPlace))
replied_own l InPlace _ = tt
replied_own l (UiActivate g) (Tools menus border) = gets_own l g (record { menus = menus; border = border }) l.s
    (both.step l.states (op_of (UiActivate g)))
replied_own l (UiActivate g) _ = tt
replied_own l UiDeactivate Done = gives_own l l.s (both.step l.states (op_of UiDeactivate))
replied_own l UiDeactivate _ = tt
replied_own l InPlaceDeactivate Done = done_own l l.s (both.step l.states (op_of InPlaceDeactivate))
replied_own l InPlaceDeactivate _ = tt
replied_own l OpenWindow Done = done_own l l.s (both.step l.states (op_of OpenWindow))
replied_own l OpenWindow _ = tt
replied_own l (Edit bytes) Done = done_own l l.s (both.step l.states (op_of (Edit bytes)))
replied_own l (Edit bytes) (Refused why) = tt
replied_own l (Edit bytes) _ = tt
replied_own l (Save k) (Content content) = saved_own l content l.s (both.step l.states (op_of (Save k)))
replied_own l (Save k) _ = tt
replied_own l HandsOff Done = done_own l l.s (both.step l.states (op_of HandsOff))
replied_own l HandsOff _ = tt
replied_own l (SaveCompleted k storage) Done =
    done_own l (l.s + 1) (both.step l.states (op_of (SaveCompleted k storage)))
replied_own l (SaveDropped k) Done = done_own l (l.s + 1) (both.step l.states (op_of (SaveDropped k)))
replied_own l (SaveCompleted k storage) _ = tt
replied_own l (SaveDropped k) _ = tt
replied_own l (Close SaveIfDirty) (Content content) =
    closed_own l (Some content) (both.step l.states (op_of (Close SaveIfDirty)))
replied_own l (Close SaveIfDirty) _ = tt
replied_own l (Close NoSave) Done = closed_own l None (both.step l.states (op_of (Close NoSave)))
replied_own l (Close NoSave) _ = tt

-- an answer is replied to where it has no content past what may be stored
pub fit_replied : (l : Link) (op : Operation) (answer : Answer) (re : Replied) → replied_fitting l op answer ≡ Ok re
    → (is_fit answer ≡ true) × (replied l op answer ≡ Ok re)
fit_replied l op answer re e = if_told (λ (z : Result Replied ContainerFault). z ≡ Ok re → (is_fit answer ≡ true)
    × (replied l op answer ≡ Ok re)) (is_fit answer) (replied l op answer) (Err BadAnswer)
    (λ t g. (t, g))
    (λ t g. cc) e

-- the same, seen from the link that was answered
pub next_stays : (link before : Option Link) → Follows link before → (m : Link) → link ≡ Some m
    → LinkStays before (next_link link)
next_stays None before f m e l is = cc
next_stays (Some n) before f m e l is =
    let g = f n refl in
    let both = sym is ∙ g.1 in
    let same : l ≡ g.0 = cc in
    ((next_at n n.waiting).link, refl, next_act n n.waiting ∙ (g.2 ∙ sym (ap (λ (z : Link). z.act) same)))
