-- What an answer makes of a link, and how that is level with an activation that answered so.
use Rattle.std.proofs.Common.{◌≡◌, ◌⊎◌, ℕ, List, Option, Some, None, Result, Ok, Err, refl, sym, ap, ◌∙◌, inl, inr}
use Rattle.message_values.specs.Operations.{op_of}
use Rattle.message_values.specs.declared.operation.Operation.{Operation}
use Rattle.message_values.specs.declared.operation.Operation.TheVariants.{InitNew, Load, InPlace, UiActivate}
use Rattle.message_values.specs.declared.operation.Operation.TheVariants.{UiDeactivate, InPlaceDeactivate, OpenWindow}
use Rattle.message_values.specs.declared.operation.Operation.TheVariants.{Edit, Save, HandsOff, SaveCompleted}
use Rattle.message_values.specs.declared.operation.Operation.TheVariants.{SaveDropped, Close}
use Rattle.message_values.specs.declared.answer.Answer.{Answer}
use Rattle.message_values.specs.declared.answer.Answer.TheVariants as told
use Rattle.object_state.specs.Both as both
use Rattle.object_state.specs.declared.both_states.States.{States}
use Rattle.object_state.specs.declared.faults.StateFault.{StateFault}
use Rattle.object_state.specs.declared.operations.CloseOption.{CloseOption}
use Rattle.object_state.specs.declared.operations.CloseOption.TheVariants.{SaveIfDirty, NoSave}
use Rattle.tree_streams.specs.declared.stored.Stored.{Stored}
use Rattle.server_model.specs.Server.{Activation}
use Rattle.container_model.specs.declared.record.Link.{Link}
use Rattle.container_model.specs.declared.grants.Tells.{Tells}
use Rattle.container_model.specs.declared.grants.Tells.TheVariants.{Gets, GivesUp}
use Rattle.container_model.specs.Messages.{Replied, replied, done_link, saved_link, granted_link, lost, noted}
use Rattle.container_model.specs.Messages.{closed_with, next_s}
use Rattle.world_facts.specs.Facts.{IsEven, HasDone, Did}

-- The link after the reply: nothing is pending, and what waited waits.
pub record IsSettled (l after : Link) : Type 0 where
  pub session : after.session ≡ l.session
  pub inc : after.inc ≡ l.inc
  pub act : after.act ≡ l.act
  pub last : after.last ≡ l.last
  pub pending : after.pending ≡ None
  pub waiting : after.waiting ≡ l.waiting

-- and it is level again with an activation that did what was answered, and has the content that the activation saved
pub record IsLevel (l : Link) (a : Activation) (after : Link) : Type 0 where
  pub even : IsEven after.states after.s a
  pub saved : (after.saved ≡ l.saved) ⊎ ((c : Stored) × (after.saved ≡ Some c) × (a.saved ≡ Some c))

-- Whatever is answered, by whom: the link is settled, or it is gone. Where the activation did what was answered, the
-- link is level with it, or the activation is closed.
pub data Outcome (l : Link) (op : Operation) (answer : Answer) (p : Replied) : Type 0 where
  settles : (after : Link) → p.link ≡ Some after → IsSettled l after
      → ((a : Activation) → Did l.states l.s op a answer → IsLevel l a after) → Outcome l op answer p
  gone : p.link ≡ None → ((a : Activation) → Did l.states l.s op a answer → a.content ≡ None) → Outcome l op answer p

-- what an activation has done that did what was answered
abbrev Dones : Link → Operation → Answer → Type 0
Dones l op answer = (a : Activation) → Did l.states l.s op a answer → HasDone l.states l.s op a

even_done : (l : Link) (op : Operation) (v : States) (a : Activation) → both.step l.states (op_of op) ≡ Ok v
    → HasDone l.states l.s op a → IsEven v (next_s op l.s) a
even_done l op v a e d = record {
  opened = d.0;
  states = (let z : Ok a.states ≡ Ok v = sym d.1.states ∙ e in cc);
  grant = d.1.grant;
}

done_settles : (l : Link) (op : Operation) (answer : Answer) (x : Result States StateFault) (p : Replied)
    → both.step l.states (op_of op) ≡ x → Dones l op answer → done_link l (next_s op l.s) x ≡ Ok p
    → Outcome l op answer p
done_settles l op answer (Err fault) p e did h = cc
done_settles l op answer (Ok v) p e did h =
    let new : Link = record l { pending = None; states = v; s = next_s op l.s } in
    let q : record { link = Some new; taken = None; refused = None; grant = None } ≡ p = cc in
    settles new (ap (λ (y : Replied). y.link) (sym q))
    (record { session = refl; inc = refl; act = refl; last = refl; pending = refl; waiting = refl })
    (λ a d. record { even = even_done l op v a e (did a d); saved = inl refl })

saved_settles : (l : Link) (k : ℕ) (content : Stored) (x : Result States StateFault) (p : Replied)
    → both.step l.states (op_of (Save k)) ≡ x → saved_link content (done_link l (next_s (Save k) l.s) x) ≡ Ok p
    → Outcome l (Save k) (told.Content content) p
saved_settles l k content (Err fault) p e h = cc
saved_settles l k content (Ok v) p e h =
    let new : Link = record l { pending = None; states = v; s = next_s (Save k) l.s; saved = Some content } in
    let q : record { link = Some new; taken = None; refused = None; grant = None } ≡ p = cc in
    settles new (ap (λ (y : Replied). y.link) (sym q))
    (record { session = refl; inc = refl; act = refl; last = refl; pending = refl; waiting = refl })
    (λ a d. record { even = even_done l (Save k) v a e d.0; saved = inr (content, refl, d.1) })

-- what is told of the frame's grant comes beside
granted_settles : (l : Link) (op : Operation) (answer : Answer) (tells : Tells) (x : Result States StateFault)
    (p : Replied) → both.step l.states (op_of op) ≡ x → Dones l op answer
    → granted_link tells (done_link l (next_s op l.s) x) ≡ Ok p
    → Outcome l op answer p
granted_settles l op answer tells (Err fault) p e did h = cc
granted_settles l op answer tells (Ok v) p e did h =
    let new : Link = record l { pending = None; states = v; s = next_s op l.s } in
    let q : record { link = Some new; taken = None; refused = None; grant = Some tells } ≡ p = cc in
    settles new (ap (λ (y : Replied). y.link) (sym q))
    (record { session = refl; inc = refl; act = refl; last = refl; pending = refl; waiting = refl })
    (λ a d. record { even = even_done l op v a e (did a d); saved = inl refl })

-- an activation that did what was answered is closed
abbrev Closes : Link → Operation → Answer → Type 0
Closes l op answer = (a : Activation) → Did l.states l.s op a answer → a.content ≡ None

lost_gone : (l : Link) (op : Operation) (answer : Answer) (why : _) (p : Replied) → Closes l op answer
    → lost why ≡ Ok p → Outcome l op answer p
lost_gone l op answer why p did h = (let q : record { link = None; taken = None; refused = Some why; grant = None }
    ≡ p = cc in gone (ap (λ (y : Replied). y.link) (sym q)) did)

noted_settles : (l : Link) (bytes : List ℕ) (why : _) (p : Replied) → noted l why ≡ Ok p
    → Outcome l (Edit bytes) (told.Refused why) p
noted_settles l bytes why p h =
    (let q : record { link = Some (record l { pending = None }); taken = None; refused = Some why; grant = None }
    ≡ p = cc in
    settles (record l { pending = None }) (ap (λ (y : Replied). y.link) (sym q))
    (record { session = refl; inc = refl; act = refl; last = refl; pending = refl; waiting = refl })
    (λ a d. record { even = d; saved = inl refl }))

closed_gone : (l : Link) (option : CloseOption) (answer : Answer) (content : Option Stored)
    (x : Result States StateFault) (p : Replied) → Closes l (Close option) answer → closed_with content x ≡ Ok p
    → Outcome l (Close option) answer p
closed_gone l option answer content (Err fault) p did h = cc
closed_gone l option answer content (Ok v) p did h =
    (let q : record { link = None; taken = content; refused = None; grant = None } ≡ p = cc in
    gone (ap (λ (y : Replied). y.link) (sym q)) did)

pub reply_outcome : (l : Link) (op : Operation) (answer : Answer) (p : Replied) → replied l op answer ≡ Ok p
    → Outcome l op answer p
reply_outcome l (InitNew class) told.Done p e = done_settles l (InitNew class) told.Done
    (both.step l.states (op_of (InitNew class))) p refl (λ a d. d) e
reply_outcome l (InitNew class) (told.Refused why) p e = lost_gone l (InitNew class) (told.Refused why) why p
    (λ a d. d) e
reply_outcome l (InitNew class) (told.Content c) p e = cc
reply_outcome l (InitNew class) (told.Tools x y) p e = cc
reply_outcome l (Load class content) told.Done p e = done_settles l (Load class content) told.Done
    (both.step l.states (op_of (Load class content))) p refl (λ a d. d) e
reply_outcome l (Load class content) (told.Refused why) p e = lost_gone l (Load class content) (told.Refused why)
    why p (λ a d. d) e
reply_outcome l (Load class content) (told.Content c) p e = cc
reply_outcome l (Load class content) (told.Tools x y) p e = cc
reply_outcome l (Edit bytes) told.Done p e = done_settles l (Edit bytes) told.Done
    (both.step l.states (op_of (Edit bytes))) p refl (λ a d. d) e
reply_outcome l (Edit bytes) (told.Refused why) p e = noted_settles l bytes why p e
reply_outcome l (Edit bytes) (told.Content c) p e = cc
reply_outcome l (Edit bytes) (told.Tools x y) p e = cc
reply_outcome l (Save k) told.Done p e = cc
reply_outcome l (Save k) (told.Refused why) p e = cc
reply_outcome l (Save k) (told.Content c) p e = saved_settles l k c (both.step l.states (op_of (Save k))) p refl e
reply_outcome l (Save k) (told.Tools x y) p e = cc
reply_outcome l (SaveCompleted k storage) told.Done p e = done_settles l (SaveCompleted k storage) told.Done
    (both.step l.states (op_of (SaveCompleted k storage))) p refl (λ a d. d) e
reply_outcome l (SaveCompleted k storage) (told.Refused why) p e = cc
reply_outcome l (SaveCompleted k storage) (told.Content c) p e = cc
reply_outcome l (SaveCompleted k storage) (told.Tools x y) p e = cc
reply_outcome l InPlace told.Done p e = done_settles l InPlace told.Done (both.step l.states (op_of InPlace)) p refl
    (λ a d. d) e
reply_outcome l InPlace (told.Refused why) p e = cc
reply_outcome l InPlace (told.Content c) p e = cc
reply_outcome l InPlace (told.Tools x y) p e = cc
reply_outcome l (UiActivate g) told.Done p e = cc
reply_outcome l (UiActivate g) (told.Refused why) p e = cc
reply_outcome l (UiActivate g) (told.Content c) p e = cc
reply_outcome l (UiActivate g) (told.Tools x y) p e = granted_settles l (UiActivate g) (told.Tools x y)
    (Gets g (record { menus = x; border = y })) (both.step l.states (op_of (UiActivate g))) p refl (λ a d. d.0) e
reply_outcome l UiDeactivate told.Done p e = granted_settles l UiDeactivate told.Done (GivesUp l.act)
    (both.step l.states (op_of UiDeactivate)) p refl (λ a d. d.0) e
reply_outcome l UiDeactivate (told.Refused why) p e = cc
reply_outcome l UiDeactivate (told.Content c) p e = cc
reply_outcome l UiDeactivate (told.Tools x y) p e = cc
reply_outcome l InPlaceDeactivate told.Done p e = done_settles l InPlaceDeactivate told.Done
    (both.step l.states (op_of InPlaceDeactivate)) p refl (λ a d. d) e
reply_outcome l InPlaceDeactivate (told.Refused why) p e = cc
reply_outcome l InPlaceDeactivate (told.Content c) p e = cc
reply_outcome l InPlaceDeactivate (told.Tools x y) p e = cc
reply_outcome l OpenWindow told.Done p e = done_settles l OpenWindow told.Done
    (both.step l.states (op_of OpenWindow)) p refl (λ a d. d) e
reply_outcome l OpenWindow (told.Refused why) p e = cc
reply_outcome l OpenWindow (told.Content c) p e = cc
reply_outcome l OpenWindow (told.Tools x y) p e = cc
reply_outcome l HandsOff told.Done p e = done_settles l HandsOff told.Done (both.step l.states (op_of HandsOff)) p
    refl (λ a d. d) e
reply_outcome l HandsOff (told.Refused why) p e = cc
reply_outcome l HandsOff (told.Content c) p e = cc
reply_outcome l HandsOff (told.Tools x y) p e = cc
reply_outcome l (SaveDropped k) told.Done p e = done_settles l (SaveDropped k) told.Done
    (both.step l.states (op_of (SaveDropped k))) p refl (λ a d. d) e
reply_outcome l (SaveDropped k) (told.Refused why) p e = cc
reply_outcome l (SaveDropped k) (told.Content c) p e = cc
reply_outcome l (SaveDropped k) (told.Tools x y) p e = cc
reply_outcome l (Close SaveIfDirty) told.Done p e = cc
reply_outcome l (Close SaveIfDirty) (told.Refused why) p e = cc
reply_outcome l (Close SaveIfDirty) (told.Content c) p e = closed_gone l SaveIfDirty (told.Content c) (Some c)
    (both.step l.states (op_of (Close SaveIfDirty))) p (λ a d. d.0) e
reply_outcome l (Close SaveIfDirty) (told.Tools x y) p e = cc
reply_outcome l (Close NoSave) told.Done p e = closed_gone l NoSave told.Done None
    (both.step l.states (op_of (Close NoSave))) p (λ a d. d.0) e
reply_outcome l (Close NoSave) (told.Refused why) p e = cc
reply_outcome l (Close NoSave) (told.Content c) p e = cc
reply_outcome l (Close NoSave) (told.Tools x y) p e = cc
