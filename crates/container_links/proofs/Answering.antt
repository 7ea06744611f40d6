-- What an answer makes of a link, by what it means for the pending operation.
use Rattle.std.proofs.Common.{◌≡◌, ◌∙◌, ◌==◌, ◌&&◌, ℕ, List, true, false, Option, Some, None, is_some, Result, Err}
use Rattle.std.proofs.Common.{refl, ap, sym}
use Rattle.message_values.specs.declared.answer.Answer.{Answer}
use Rattle.message_values.specs.declared.answer.Answer.TheVariants as told
use Rattle.message_values.specs.declared.operation.Operation.{Operation}
use Rattle.message_values.specs.declared.operation.Operation.TheVariants.{InitNew, Load, InPlace, UiActivate}
use Rattle.message_values.specs.declared.operation.Operation.TheVariants.{UiDeactivate, InPlaceDeactivate, OpenWindow}
use Rattle.message_values.specs.declared.operation.Operation.TheVariants.{Edit, Save, HandsOff, SaveCompleted}
use Rattle.message_values.specs.declared.operation.Operation.TheVariants.{SaveDropped, Close}
use Rattle.message_values.specs.declared.refusal.Refusal.{Refusal}
use Rattle.message_values.specs.Operations.{op_of}
use Rattle.object_state.specs.Both as both
use Rattle.object_state.specs.declared.operations.Op.{Op}
use Rattle.object_state.specs.declared.operations.CloseOption.TheVariants.{SaveIfDirty, NoSave}
use Rattle.object_state.specs.declared.menu_texts.Menus.{Menus}
use Rattle.tree_streams.specs.declared.stored.Stored.{Stored}
use Rattle.container_model.specs.declared.record.Link.{Link}
use Rattle.container_model.specs.declared.fault.ContainerFault.{ContainerFault}
use Rattle.container_model.specs.declared.fault.ContainerFault.TheVariants.{Stale, BadAnswer}
use Rattle.container_model.specs.declared.grants.Tells.TheVariants as tells
use Rattle.container_model.specs.Messages.{Replied, closed_with, done_link, granted_link, is_fit, lost, noted, replied}
use Rattle.container_model.specs.Messages.{reply_link, reply_pending, saved_link}
use Rattle.container_links.specs.Answered.{answered, answered_at, grant_of, is_pending, when_content, when_done}
use Rattle.container_links.specs.Answered.{when_refused}
use Rattle.container_links.specs.declared.turns.WhenDone.{WhenDone}
use Rattle.container_links.specs.declared.turns.WhenDone.TheVariants.{Continues, GivesUp, Ends, Undone}
use Rattle.container_links.specs.declared.turns.WhenRefused.{WhenRefused}
use Rattle.container_links.specs.declared.turns.WhenRefused.TheVariants.{Lost, Noted, Unrefused}
use Rattle.container_links.specs.declared.turns.WhenContent.{WhenContent}
use Rattle.container_links.specs.declared.turns.WhenContent.TheVariants.{Saved, Closed, Unasked}

-- an answer to a call that isn't pending
stale_at : (n : ℕ) (answer : Answer) (l : Link) (p : Option Operation) → (is_some p && (n == l.last)) ≡ false
    → reply_pending l n answer p ≡ Err Stale
stale_at n answer l None e = refl
stale_at n answer l (Some op) e = rw e refl

pub stale_reply : (n : ℕ) (answer : Answer) (link : Option Link) → is_pending n link ≡ false
    → reply_link n answer link ≡ Err Stale
stale_reply n answer None e = refl
stale_reply n answer (Some l) e = stale_at n answer l l.pending e

-- an answer that fits no call
unfit_at : (n : ℕ) (answer : Answer) (l : Link) (p : Option Operation) → (is_some p && (n == l.last)) ≡ true
    → is_fit answer ≡ false → reply_pending l n answer p ≡ Err BadAnswer
unfit_at n answer l None e f = cc
unfit_at n answer l (Some op) e f = rw (e, f) refl

pub unfit_reply : (n : ℕ) (answer : Answer) (link : Option Link) → is_pending n link ≡ true → is_fit answer ≡ false
    → reply_link n answer link ≡ Err BadAnswer
unfit_reply n answer None e f = cc
unfit_reply n answer (Some l) e f = unfit_at n answer l l.pending e f

-- an answer to the pending call
fit_at : (n : ℕ) (answer : Answer) (l : Link) (p : Option Operation) → (is_some p && (n == l.last)) ≡ true
    → is_fit answer ≡ true → reply_pending l n answer p ≡ answered_at l answer p
fit_at n answer l None e f = refl
fit_at n answer l (Some op) e f = rw (e, f) refl

fit_reply : (n : ℕ) (answer : Answer) (link : Option Link) → is_pending n link ≡ true → is_fit answer ≡ true
    → reply_link n answer link ≡ answered link answer
fit_reply n answer None e f = refl
fit_reply n answer (Some l) e f = fit_at n answer l l.pending e f

pub reply_as : (n : ℕ) (answer is : Answer) (link : Option Link) → is_pending n link ≡ true → is_fit answer ≡ true
    → answer ≡ is → reply_link n answer link ≡ answered link is
reply_as n answer is link e f a = fit_reply n answer link e f ∙ ap (answered link) a

-- what each kind of answer makes of an activation, by what it means for the operation
abbrev pub by_done : Link → Op → WhenDone → Result Replied ContainerFault
by_done l o (Continues s) = done_link l s (both.step l.states o)
by_done l o GivesUp = granted_link (tells.GivesUp l.act) (done_link l l.s (both.step l.states o))
by_done l o Ends = closed_with None (both.step l.states o)
by_done l o Undone = Err BadAnswer

pub done_is : (l : Link) (op : Operation) → replied l op told.Done ≡ by_done l (op_of op) (when_done op l.s)
done_is l (InitNew class) = refl
done_is l (Load class content) = refl
done_is l InPlace = refl
done_is l (UiActivate g) = refl
done_is l UiDeactivate = refl
done_is l InPlaceDeactivate = refl
done_is l OpenWindow = refl
done_is l (Edit bytes) = refl
done_is l (Save k) = refl
done_is l HandsOff = refl
done_is l (SaveCompleted k storage) = refl
done_is l (SaveDropped k) = refl
done_is l (Close SaveIfDirty) = refl
done_is l (Close NoSave) = refl

abbrev pub by_refusal : Link → Refusal → WhenRefused → Result Replied ContainerFault
by_refusal l why Lost = lost why
by_refusal l why Noted = noted l why
by_refusal l why Unrefused = Err BadAnswer

pub refused_is : (l : Link) (op : Operation) (why : Refusal) → replied l op (told.Refused why)
    ≡ by_refusal l why (when_refused op)
refused_is l (InitNew class) why = refl
refused_is l (Load class content) why = refl
refused_is l InPlace why = refl
refused_is l (UiActivate g) why = refl
refused_is l UiDeactivate why = refl
refused_is l InPlaceDeactivate why = refl
refused_is l OpenWindow why = refl
refused_is l (Edit bytes) why = refl
refused_is l (Save k) why = refl
refused_is l HandsOff why = refl
refused_is l (SaveCompleted k storage) why = refl
refused_is l (SaveDropped k) why = refl
refused_is l (Close SaveIfDirty) why = refl
refused_is l (Close NoSave) why = refl

abbrev pub by_content : Link → Op → Stored → WhenContent → Result Replied ContainerFault
by_content l o content Saved = saved_link content (done_link l l.s (both.step l.states o))
by_content l o content Closed = closed_with (Some content) (both.step l.states o)
by_content l o content Unasked = Err BadAnswer

pub content_is : (l : Link) (op : Operation) (content : Stored) → replied l op (told.Content content)
    ≡ by_content l (op_of op) content (when_content op)
content_is l (InitNew class) content = refl
content_is l (Load class it) content = refl
content_is l InPlace content = refl
content_is l (UiActivate g) content = refl
content_is l UiDeactivate content = refl
content_is l InPlaceDeactivate content = refl
content_is l OpenWindow content = refl
content_is l (Edit bytes) content = refl
content_is l (Save k) content = refl
content_is l HandsOff content = refl
content_is l (SaveCompleted k storage) content = refl
content_is l (SaveDropped k) content = refl
content_is l (Close SaveIfDirty) content = refl
content_is l (Close NoSave) content = refl

abbrev pub by_tools : Link → Op → Menus → List ℕ → Option ℕ → Result Replied ContainerFault
by_tools l o menus border None = Err BadAnswer
by_tools l o menus border (Some g) = granted_link (tells.Gets g (record { menus = menus; border = border }))
    (done_link l l.s (both.step l.states o))

pub tools_is : (l : Link) (op : Operation) (menus : Menus) (border : List ℕ)
    → replied l op (told.Tools menus border) ≡ by_tools l (op_of op) menus border (grant_of op)
tools_is l (InitNew class) menus border = refl
tools_is l (Load class content) menus border = refl
tools_is l InPlace menus border = refl
tools_is l (UiActivate g) menus border = refl
tools_is l UiDeactivate menus border = refl
tools_is l InPlaceDeactivate menus border = refl
tools_is l OpenWindow menus border = refl
tools_is l (Edit bytes) menus border = refl
tools_is l (Save k) menus border = refl
tools_is l HandsOff menus border = refl
tools_is l (SaveCompleted k storage) menus border = refl
tools_is l (SaveDropped k) menus border = refl
tools_is l (Close SaveIfDirty) menus border = refl
tools_is l (Close NoSave) menus border = refl

-- the same of a link whose pending operation is known
module _ (link : Option Link) (l : Link) (op : Operation) (linked : link ≡ Some l) (pending : l.pending ≡ Some op) where
  answered_is : (answer : Answer) → answered link answer ≡ replied l op answer
  answered_is answer = rw (linked, pending) refl

  pub done_as : (o : Op) → o ≡ op_of op → (turn : WhenDone) → turn ≡ when_done op l.s
      → answered link told.Done ≡ by_done l o turn
  done_as o known turn e = answered_is told.Done ∙ done_is l op ∙ ap (by_done l (op_of op)) (sym e)
      ∙ ap (λ (x : Op). by_done l x turn) (sym known)

  pub refused_as : (why : Refusal) (turn : WhenRefused) → turn ≡ when_refused op
      → answered link (told.Refused why) ≡ by_refusal l why turn
  refused_as why turn e = answered_is (told.Refused why) ∙ refused_is l op why ∙ ap (by_refusal l why) (sym e)

  pub content_as : (o : Op) → o ≡ op_of op → (content : Stored) (turn : WhenContent) → turn ≡ when_content op
      → answered link (told.Content content) ≡ by_content l o content turn
  content_as o known content turn e = answered_is (told.Content content) ∙ content_is l op content
      ∙ ap (by_content l (op_of op) content) (sym e) ∙ ap (λ (x : Op). by_content l x content turn) (sym known)

  pub tools_as : (o : Op) → o ≡ op_of op → (menus : Menus) (border : List ℕ) (turn : Option ℕ) → turn ≡ grant_of op
      → answered link (told.Tools menus border) ≡ by_tools l o menus border turn
  tools_as o known menus border turn e = answered_is (told.Tools menus border) ∙ tools_is l op menus border
      ∙ ap (by_tools l (op_of op) menus border) (sym e) ∙ ap (λ (x : Op). by_tools l x menus border turn)
      (sym known)
