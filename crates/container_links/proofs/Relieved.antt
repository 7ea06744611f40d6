-- Which replies tell that an activation gives its frame up.
use Rattle.std.proofs.Common.{◌≡◌, ◌∙◌, ◌+◌, ℕ, List, Bool, true, false, Option, Some, None, Result, Ok, Err, IfSome}
use Rattle.std.proofs.Common.{refl, ap, eq-eqb, ne_eqb, if◌then◌else◌}
use Rattle.message_values.specs.Operations.{op_of}
use Rattle.message_values.specs.declared.answer.Answer.{Answer}
use Rattle.message_values.specs.declared.answer.Answer.TheVariants as told
use Rattle.message_values.specs.declared.operation.Operation.{Operation}
use Rattle.message_values.specs.declared.operation.Operation.TheVariants.{InitNew, Load, InPlace, UiActivate}
use Rattle.message_values.specs.declared.operation.Operation.TheVariants.{UiDeactivate, InPlaceDeactivate, OpenWindow}
use Rattle.message_values.specs.declared.operation.Operation.TheVariants.{Edit, Save, HandsOff, SaveCompleted}
use Rattle.message_values.specs.declared.operation.Operation.TheVariants.{SaveDropped, Close}
use Rattle.message_values.specs.declared.refusal.Refusal.{Refusal}
use Rattle.tree_streams.specs.Limits.{is_within}
use Rattle.object_state.specs.Both as both
use Rattle.object_state.specs.declared.both_states.States.{States}
use Rattle.object_state.specs.declared.faults.StateFault.{StateFault}
use Rattle.object_state.specs.declared.menu_texts.Menus.{Menus}
use Rattle.object_state.specs.declared.operations.Op.{Op}
use Rattle.object_state.specs.declared.operations.CloseOption.TheVariants.{SaveIfDirty, NoSave}
use Rattle.tree_streams.specs.declared.stored.Stored.{Stored}
use Rattle.container_model.specs.declared.fault.ContainerFault.TheVariants.{BadAnswer}
use Rattle.container_model.specs.declared.grants.Tells.TheVariants as tells
use Rattle.container_model.specs.declared.record.Link.{Link}
use Rattle.container_model.specs.Messages.{closed_with, done_link, granted_link, replied, replied_fitting, reply_link}
use Rattle.container_model.specs.Messages.{saved_link}
use Rattle.container_links.specs.Answered.{grant_of, when_content, when_refused}
use Rattle.container_links.specs.Relieving.{gives_up}
use Rattle.container_links.specs.declared.turns.WhenRefused.{WhenRefused}
use Rattle.container_links.specs.declared.turns.WhenRefused.TheVariants.{Lost, Noted, Unrefused}
use Rattle.container_links.specs.declared.turns.WhenContent.{WhenContent}
use Rattle.container_links.specs.declared.turns.WhenContent.TheVariants.{Saved, Closed, Unasked}
use Rattle.container_links.proofs.Answering.{by_content, by_refusal, by_tools, content_is, refused_is, tools_is}

-- nothing is told of a frame
done_gives : (l : Link) (s : ℕ) (R : Result States StateFault) → gives_up (done_link l s R) ≡ None
done_gives l s (Err fault) = refl
done_gives l s (Ok v) = refl

saved_gives : (l : Link) (content : Stored) (R : Result States StateFault)
    → gives_up (saved_link content (done_link l l.s R)) ≡ None
saved_gives l content (Err fault) = refl
saved_gives l content (Ok v) = refl

closed_gives : (content : Option Stored) (R : Result States StateFault) → gives_up (closed_with content R) ≡ None
closed_gives content (Err fault) = refl
closed_gives content (Ok v) = refl

gets_gives : (l : Link) (g : ℕ) (menus : Menus) (border : List ℕ) (R : Result States StateFault)
    → gives_up (granted_link (tells.Gets g (record { menus = menus; border = border })) (done_link l l.s R)) ≡ None
gets_gives l g menus border (Err fault) = refl
gets_gives l g menus border (Ok v) = refl

refusal_gives : (l : Link) (why : Refusal) (turn : WhenRefused) → gives_up (by_refusal l why turn) ≡ None
refusal_gives l why Lost = refl
refusal_gives l why Noted = refl
refusal_gives l why Unrefused = refl

content_gives : (l : Link) (o : Op) (content : Stored) (turn : WhenContent)
    → gives_up (by_content l o content turn) ≡ None
content_gives l o content Saved = saved_gives l content (both.step l.states o)
content_gives l o content Closed = closed_gives (Some content) (both.step l.states o)
content_gives l o content Unasked = refl

tools_gives : (l : Link) (o : Op) (menus : Menus) (border : List ℕ) (turn : Option ℕ)
    → gives_up (by_tools l o menus border turn) ≡ None
tools_gives l o menus border None = refl
tools_gives l o menus border (Some g) = gets_gives l g menus border (both.step l.states o)

fit_gives : (l : Link) (op : Operation) (content : Stored) (b : Bool)
    → gives_up (if b then replied l op (told.Content content) else Err BadAnswer) ≡ None
fit_gives l op content true = ap gives_up (content_is l op content)
    ∙ content_gives l (op_of op) content (when_content op)
fit_gives l op content false = refl

-- but by an operation that was done
other_gives : (l : Link) (op : Operation) (answer : Answer) → (answer ≡ told.Done → ⊥)
    → gives_up (replied_fitting l op answer) ≡ None
other_gives l op told.Done other = absurd (other refl)
other_gives l op (told.Refused why) other = ap gives_up (refused_is l op why) ∙ refusal_gives l why (when_refused op)
other_gives l op (told.Content content) other = fit_gives l op content (is_within content)
other_gives l op (told.Tools menus border) other = ap gives_up (tools_is l op menus border)
    ∙ tools_gives l (op_of op) menus border (grant_of op)

-- and of those, only by the one that gives the frame up
pub keeps_frame : (l : Link) (op : Operation) → (op ≡ UiDeactivate → ⊥) → gives_up (replied l op told.Done) ≡ None
keeps_frame l (InitNew class) other = done_gives l 1 (both.step l.states (op_of (InitNew class)))
keeps_frame l (Load class content) other = done_gives l 1 (both.step l.states (op_of (Load class content)))
keeps_frame l InPlace other = done_gives l l.s (both.step l.states (op_of InPlace))
keeps_frame l (UiActivate g) other = refl
keeps_frame l UiDeactivate other = absurd (other refl)
keeps_frame l InPlaceDeactivate other = done_gives l l.s (both.step l.states (op_of InPlaceDeactivate))
keeps_frame l OpenWindow other = done_gives l l.s (both.step l.states (op_of OpenWindow))
keeps_frame l (Edit bytes) other = done_gives l l.s (both.step l.states (op_of (Edit bytes)))
keeps_frame l (Save k) other = refl
keeps_frame l HandsOff other = done_gives l l.s (both.step l.states (op_of HandsOff))
keeps_frame l (SaveCompleted k storage) other =
    done_gives l (l.s + 1) (both.step l.states (op_of (SaveCompleted k storage)))
keeps_frame l (SaveDropped k) other = done_gives l (l.s + 1) (both.step l.states (op_of (SaveDropped k)))
keeps_frame l (Close SaveIfDirty) other = refl
keeps_frame l (Close NoSave) other = closed_gives None (both.step l.states (op_of (Close NoSave)))

-- whichever link it is
module _ (link : Option Link) (l : Link) (op : Operation) (linked : link ≡ Some l) (pending : l.pending ≡ Some op) where
  module _ (n : ℕ) (answer : Answer) where
    pub past_gives : (n ≡ l.last → ⊥) → gives_up (reply_link n answer link) ≡ None
    past_gives past = rw (linked, pending, ne_eqb n l.last past) refl

    called : n ≡ l.last → gives_up (reply_link n answer link) ≡ gives_up (replied_fitting l op answer)
    called is = rw (linked, pending, eq-eqb n l.last is) refl

    pub done_answer_gives : n ≡ l.last → answer ≡ told.Done → gives_up (reply_link n answer link)
        ≡ gives_up (replied l op told.Done)
    done_answer_gives is done = called is ∙ ap (λ a. gives_up (replied_fitting l op a)) done

    pub other_answer_gives : n ≡ l.last → (answer ≡ told.Done → ⊥) → gives_up (reply_link n answer link) ≡ None
    other_answer_gives is other = called is ∙ other_gives l op answer other

  pub asked_of : (act : Option ℕ) → IfSome act (λ a. op ≡ UiDeactivate)
      → IfSome act (λ a. IfSome link (λ l. l.pending ≡ Some UiDeactivate))
  asked_of None asked = tt
  asked_of (Some act) asked = rw linked (pending ∙ ap Some asked)
