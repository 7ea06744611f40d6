-- What is asked of objects whose frame hands off, and which answers are contents that were awaited.
use Rattle.std.proofs.Common.{◌≡◌, ◌==◌, ◌&&◌, ℕ, Bool, true, false, List, [], ◌∷◌, map, Option, Some, None, is_some}
use Rattle.std.proofs.Common.{IfOk, Result, Ok, Err, refl, ap, subst, sym, ◌∙◌, if◌then◌else◌}
use Rattle.message_values.specs.Operations.{op_of}
use Rattle.message_values.specs.declared.answer.Answer.{Answer}
use Rattle.message_values.specs.declared.answer.Answer.TheVariants as told
use Rattle.message_values.specs.declared.refusal.Refusal.{Refusal}
use Rattle.message_values.specs.declared.operation.Operation.{Operation}
use Rattle.message_values.specs.declared.operation.Operation.TheVariants.{HandsOff}
use Rattle.object_state.specs.Both as both
use Rattle.object_state.specs.declared.both_states.States.{States}
use Rattle.object_state.specs.declared.faults.StateFault.{StateFault}
use Rattle.object_state.specs.declared.menu_texts.Menus.{Menus}
use Rattle.object_state.specs.declared.operations.Op.{Op}
use Rattle.tree_streams.specs.Limits.{is_within}
use Rattle.tree_streams.specs.declared.stored.Stored.{Stored}
use Rattle.container_model.specs.declared.fault.ContainerFault.{ContainerFault}
use Rattle.container_model.specs.declared.fault.ContainerFault.TheVariants.{BadAnswer, Stale}
use Rattle.container_model.specs.declared.grants.Tells.{Tells}
use Rattle.container_model.specs.declared.grants.Tells.TheVariants as tells
use Rattle.container_model.specs.declared.record.Link.{Link}
use Rattle.container_model.specs.declared.record.Object.{Object}
use Rattle.container_model.specs.HandOffs.{has_saved, is_answered}
use Rattle.container_model.specs.Messages.{Replied, next_at, next_link, closed_with, done_link, granted_link, replied}
use Rattle.container_model.specs.Messages.{replied_fitting, reply_link, reply_pending, saved_link}
use Rattle.container_model.specs.Saves.{is_awaited_link}
use Rattle.container_model.specs.Record.{ask_at, asked_all, asked_sent, sends}
use Rattle.container_links.specs.Asking.{prepared, prepared_at, prepared_link}
use Rattle.container_links.specs.Handing.{answers, call_by, calls_by, next_prepared, next_prepared_at}
use Rattle.container_links.specs.Answered.{grant_of, when_content, when_done, when_refused}
use Rattle.container_links.specs.declared.turns.WhenDone.{WhenDone}
use Rattle.container_links.specs.declared.turns.WhenDone.TheVariants.{Continues, GivesUp, Ends, Undone}
use Rattle.container_links.specs.declared.turns.WhenRefused.{WhenRefused}
use Rattle.container_links.specs.declared.turns.WhenRefused.TheVariants.{Lost, Noted, Unrefused}
use Rattle.container_links.specs.declared.turns.WhenContent.{WhenContent}
use Rattle.container_links.specs.declared.turns.WhenContent.TheVariants.{Saved, Closed, Unasked}
use Rattle.container_links.proofs.Answering.{by_content, by_done, by_refusal, by_tools, content_is, done_is, refused_is}
use Rattle.container_links.proofs.Answering.{tools_is}
use Rattle.container_model.specs.declared.answer.Action.TheVariants.{Send}
use Rattle.std.proofs.lemmas.List.{map-append}

-- what was prepared is what is sent
called_at : (l : Link) (p : Option Operation) → call_by (prepared_at HandsOff l p) (Some l)
    ≡ sends (ask_at l HandsOff p).sent
called_at l None = refl
called_at l (Some before) = refl

called_link : (link : Option Link) → call_by (prepared_link HandsOff link) link ≡ sends (asked_sent HandsOff link)
called_link None = refl
called_link (Some l) = called_at l l.pending

called_in : (f : ℕ) (o : Object) (os : List Object) (b : Bool) → (o.frame == f) ≡ b
    → calls_by (map (prepared f HandsOff) os) os ≡ sends (asked_all f HandsOff os)
    → calls_by (map (prepared f HandsOff) (o ∷ os)) (o ∷ os) ≡ sends (asked_all f HandsOff (o ∷ os))
called_in f o os true e h =
    rw (e, h, called_link o.link, map-append Send (asked_sent HandsOff o.link) (asked_all f HandsOff os)) refl
called_in f o os false e h = rw e h

pub called_all : (f : ℕ) (os : List Object) → calls_by (map (prepared f HandsOff) os) os
    ≡ sends (asked_all f HandsOff os)
called_all f [] = refl
called_all f (o ∷ os) = called_in f o os (o.frame == f) refl (called_all f os)

-- an answer that isn't a content leaves it open whether one was answered
abbrev Leaves : Link → Result Replied ContainerFault → Type 0
Leaves l R = l.saved ≡ None → answers (Some l) R ≡ false

done_leaves : (l : Link) (s : ℕ) (R : Result States StateFault) → Leaves l (done_link l s R)
done_leaves l s (Err fault) e = refl
done_leaves l s (Ok v) e = rw e refl

granted_leaves : (l : Link) (t : Tells) (R : Result Replied ContainerFault) → Leaves l R → Leaves l (granted_link t R)
granted_leaves l t (Err fault) h e = refl
granted_leaves l t (Ok re) h e = h e

closed_leaves : (l : Link) (content : Option Stored) (R : Result States StateFault) → Leaves l (closed_with content R)
closed_leaves l content (Err fault) e = refl
closed_leaves l content (Ok v) e = rw e refl

-- contents, by what they mean for the operation
fit_content : (l : Link) (op : Operation) (content : Stored) (b : Bool) → is_within content ≡ b
    → answers (Some l) (replied_fitting l op (told.Content content))
    ≡ (b && answers (Some l) (replied l op (told.Content content)))
fit_content l op content true e = rw e refl
fit_content l op content false e = rw e refl

pub content_row : (l : Link) (op : Operation) (content : Stored) (o : Op) → o ≡ op_of op → (turn : WhenContent)
    → turn ≡ when_content op → l.saved ≡ None
    → answers (Some l) (replied_fitting l op (told.Content content))
    ≡ (is_within content && answers (Some l) (by_content l o content turn))
content_row l op content o known turn e n =
    fit_content l op content (is_within content) refl ∙ ap (λ R. is_within content && answers (Some l) R)
    (content_is l op content ∙ ap (by_content l (op_of op) content) (sym e)
    ∙ ap (λ (x : Op). by_content l x content turn) (sym known))

-- other answers
done_by : (l : Link) (o : Op) (turn : WhenDone) → Leaves l (by_done l o turn)
done_by l o (Continues s) = done_leaves l s (both.step l.states o)
done_by l o GivesUp = granted_leaves l (tells.GivesUp l.act) (done_link l l.s (both.step l.states o))
    (done_leaves l l.s (both.step l.states o))
done_by l o Ends = closed_leaves l None (both.step l.states o)
done_by l o Undone = λ e. refl

refused_by : (l : Link) (why : Refusal) (turn : WhenRefused) → Leaves l (by_refusal l why turn)
refused_by l why Lost = λ e. rw e refl
refused_by l why Noted = λ e. rw e refl
refused_by l why Unrefused = λ e. refl

tools_by : (l : Link) (o : Op) (menus : Menus) (border : List ℕ) (g : Option ℕ) → Leaves l (by_tools l o menus border g)
tools_by l o menus border None = λ e. refl
tools_by l o menus border (Some g) = granted_leaves l (tells.Gets g (record { menus = menus; border = border }))
    (done_link l l.s (both.step l.states o)) (done_leaves l l.s (both.step l.states o))

abbrev pub IsOtherAnswer : Answer → Type 0
IsOtherAnswer (told.Content content) = ⊥
IsOtherAnswer answer = Unit {0}

leaves_by : (l : Link) (op : Operation) (answer : Answer) → IsOtherAnswer answer
    → Leaves l (replied_fitting l op answer)
leaves_by l op told.Done is = λ e. ap (answers (Some l)) (done_is l op) ∙ done_by l (op_of op) (when_done op l.s) e
leaves_by l op (told.Refused why) is = λ e. ap (answers (Some l)) (refused_is l op why)
    ∙ refused_by l why (when_refused op) e
leaves_by l op (told.Content content) is = absurd is
leaves_by l op (told.Tools menus border) is = λ e. ap (answers (Some l)) (tools_is l op menus border)
    ∙ tools_by l (op_of op) menus border (grant_of op) e

-- whichever link it is
answered_none : (l : Link) (R : Result Replied ContainerFault) → is_some l.saved ≡ true → answers (Some l) R ≡ false
answered_none l (Err fault) e = refl
answered_none l (Ok re) e = elim l.saved as (λ s. is_some s ≡ true
    → (elim s [ None ↦ true | Some content ↦ false ] && has_saved re.link) ≡ false) [
      | None ↦
          (λ g. absurd (cc))
      | Some content ↦ (λ g. refl)
    ] e

none_by : (s : Option Stored) → is_some s ≡ false → s ≡ None
none_by None e = refl
none_by (Some content) e = absurd (cc)

pub unlinked_answers : (link : Option Link) (n : ℕ) (answer : Answer) → link ≡ None
    → answers link (reply_link n answer link) ≡ false
unlinked_answers link n answer e = rw e refl

module _ (link : Option Link) (l : Link) (n : ℕ) (answer : Answer) (linked : link ≡ Some l) where
  pub unpending_answers : l.pending ≡ None → answers link (reply_link n answer link) ≡ false
  unpending_answers e = rw (linked, e) refl

  module _ (op : Operation) (pending : l.pending ≡ Some op) where
    pub past_answers : (n == l.last) ≡ false → answers link (reply_link n answer link) ≡ false
    past_answers e = rw (linked, pending, e) refl

    called : (n == l.last) ≡ true → answers link (reply_link n answer link)
        ≡ answers (Some l) (replied_fitting l op answer)
    called e = rw (linked, pending, e) refl

    pub saved_answers : is_some l.saved ≡ true → answers link (reply_link n answer link) ≡ false
    saved_answers e = ap (λ (z : Option Link). answers z (reply_link n answer z)) linked
        ∙ answered_none l (reply_link n answer (Some l)) e

    pub other_answers : (n == l.last) ≡ true → is_some l.saved ≡ false → IsOtherAnswer answer
        → answers link (reply_link n answer link) ≡ false
    other_answers e s is = called e ∙ leaves_by l op answer is (none_by l.saved s)

    pub content_answers : (b : Bool) (content : Stored) → (n == l.last) ≡ true → is_some l.saved ≡ false
        → answer ≡ told.Content content
        → (l.saved ≡ None → b ≡ answers (Some l) (replied_fitting l op (told.Content content)))
        → b ≡ answers link (reply_link n answer link)
    content_answers b content e s a known = known (none_by l.saved s)
        ∙ sym (called e ∙ ap (λ (z : Answer). answers (Some l) (replied_fitting l op z)) a)

-- a content tells nothing of the frame's grant, and the activation goes on with it
pub record IsContent (l : Link) (x : Replied) : Type 0 where
  pub grant : x.grant ≡ None
  pub taken : x.taken ≡ None
  pub refused : x.refused ≡ None
  pub states : States
  pub content : Stored
  pub link : x.link ≡ Some (record l { pending = None; states = states; saved = Some content })

abbrev TellsNothing : Link → Result Replied ContainerFault → Type 0
TellsNothing l R = IfOk R (λ x. is_answered (Some l) x.link ≡ true → IsContent l x)

saved_tells : (l : Link) (content : Stored) (R : Result States StateFault)
    → TellsNothing l (saved_link content (done_link l l.s R))
saved_tells l content (Err fault) = tt
saved_tells l content (Ok v) = λ e. record {
  grant = refl;
  taken = refl;
  refused = refl;
  states = v;
  content = content;
  link = refl;
}

leaves_nothing : (l : Link) (R : Result Replied ContainerFault) → (l.saved ≡ None → answers (Some l) R ≡ false)
    → (s : Option Stored) → l.saved ≡ s → TellsNothing l R
leaves_nothing l (Err fault) h s e = tt
leaves_nothing l (Ok x) h None e = λ g. (let no : ◌≡◌ {A = Bool} true false = sym g ∙ h e in absurd (cc))
leaves_nothing l (Ok x) h (Some content) e =
    λ g. (let no : ◌≡◌ {A = Bool} true false = sym g ∙ answered_none l (Ok x) (ap is_some e) in absurd (cc))

content_tells : (l : Link) (o : Op) (content : Stored) (turn : WhenContent)
    → TellsNothing l (by_content l o content turn)
content_tells l o content Saved = saved_tells l content (both.step l.states o)
content_tells l o content Closed = leaves_nothing l (closed_with (Some content) (both.step l.states o))
    (closed_leaves l (Some content) (both.step l.states o)) l.saved refl
content_tells l o content Unasked = tt

fit_tells : (l : Link) (op : Operation) (answer : Answer) → TellsNothing l (replied_fitting l op answer)
fit_tells l op (told.Content content) =
    elim (is_within content) as (λ b. TellsNothing l (if b then replied l op (told.Content content)
    else Err BadAnswer)) [
      | true ↦ subst (TellsNothing l) (sym (content_is l op content))
          (content_tells l (op_of op) content (when_content op))
      | false ↦ tt
    ]
fit_tells l op told.Done = leaves_nothing l (replied l op told.Done) (leaves_by l op told.Done tt) l.saved refl
fit_tells l op (told.Refused why) = leaves_nothing l (replied l op (told.Refused why))
    (leaves_by l op (told.Refused why) tt) l.saved refl
fit_tells l op (told.Tools menus border) = leaves_nothing l (replied l op (told.Tools menus border))
    (leaves_by l op (told.Tools menus border) tt) l.saved refl

pending_tells : (l : Link) (n : ℕ) (answer : Answer) (p : Option Operation)
    → TellsNothing l (reply_pending l n answer p)
pending_tells l n answer None = tt
pending_tells l n answer (Some op) =
    elim (n == l.last) as (λ b. TellsNothing l (if b then replied_fitting l op answer else Err Stale)) [
      | true ↦
          fit_tells l op answer
      | false ↦ tt
    ]

ok_at : (l : Link) (R : Result Replied ContainerFault) (x : Replied) → R ≡ Ok x → TellsNothing l R
    → is_answered (Some l) x.link ≡ true → IsContent l x
ok_at l (Err fault) x e h g = cc
ok_at l (Ok y) x e h g = (let same : y ≡ x = cc in
    subst (λ (z : Replied). is_answered (Some l) z.link ≡ true → IsContent l z) same h g)

pub content_is_kept : (l : Link) (n : ℕ) (answer : Answer) (x : Replied) → reply_link n answer (Some l) ≡ Ok x
    → is_answered (Some l) x.link ≡ true → IsContent l x
content_is_kept l n answer x e g = ok_at l (reply_link n answer (Some l)) x e (pending_tells l n answer l.pending) g

-- what it takes up next is what was prepared for that
next_prepared_is : (l : Link) (v : States) (content : Stored) (ws : List Operation) → l.waiting ≡ ws
    → prepared_link HandsOff
    (Some (next_at (record l { pending = None; states = v; saved = Some content }) ws).link) ≡ next_prepared_at l ws
next_prepared_is l v content [] e = refl
next_prepared_is l v content (op ∷ ops) e = refl

pub kept_prepared : (l : Link) (x : Replied) → IsContent l x → prepared_link HandsOff (next_link x.link)
    ≡ next_prepared l
kept_prepared l x k = ap (λ (z : Option Link). prepared_link HandsOff (next_link z)) k.link
    ∙ next_prepared_is l k.states k.content l.waiting refl

next_kept : (l : Link) (ws : List Operation) → (next_at l ws).link.saved ≡ l.saved
next_kept l [] = refl
next_kept l (op ∷ ops) = refl

pub kept_unawaited : (l : Link) (x : Replied) → IsContent l x → is_awaited_link (next_link x.link) ≡ false
kept_unawaited l x k =
    ap (λ (z : Option Link). is_awaited_link (next_link z)) k.link
    ∙ ap (λ (z : Option Stored). elim z [ None ↦ true | Some content ↦ false ])
    (next_kept (record l { pending = None; states = k.states; saved = Some k.content }) l.waiting)
