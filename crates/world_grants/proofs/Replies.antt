-- An answer that is taken: what it tells of its object's frame.
use Rattle.std.proofs.Common.{◌≡◌, ◌==◌, ◌&&◌, ℕ, Bool, true, false, Option, Some, None, Result, Ok, Err, refl, sym, ap}
use Rattle.std.proofs.Common.{◌∙◌, if◌then◌else◌}
use Rattle.message_values.specs.Found.{find}
use Rattle.message_values.specs.Operations.{op_of}
use Rattle.message_values.specs.declared.operation.Operation.{Operation}
use Rattle.message_values.specs.declared.operation.Operation.TheVariants.{InitNew, Load, InPlace, UiActivate}
use Rattle.message_values.specs.declared.operation.Operation.TheVariants.{UiDeactivate, InPlaceDeactivate, OpenWindow}
use Rattle.message_values.specs.declared.operation.Operation.TheVariants.{Edit, Save, HandsOff, SaveCompleted}
use Rattle.message_values.specs.declared.operation.Operation.TheVariants.{SaveDropped, Close}
use Rattle.message_values.specs.declared.message.Said.TheVariants.{Reply}
use Rattle.message_values.specs.declared.answer.Answer.{Answer}
use Rattle.message_values.specs.declared.answer.Answer.TheVariants as told
use Rattle.object_state.specs.Both as both
use Rattle.object_state.specs.declared.both_states.States.{States}
use Rattle.object_state.specs.declared.faults.StateFault.{StateFault}
use Rattle.object_state.specs.declared.operations.CloseOption.TheVariants.{SaveIfDirty, NoSave}
use Rattle.tree_streams.specs.declared.stored.Stored.{Stored}
use Rattle.object_state.specs.declared.grant_states.Tools.{Tools}
use Rattle.container_model.specs.declared.grants.Tells.{Tells}
use Rattle.container_model.specs.declared.grants.Tells.TheVariants.{Gets, GivesUp}
use Rattle.container_model.specs.declared.record.Link.{Link}
use Rattle.container_model.specs.declared.record.Object.{Object}
use Rattle.container_model.specs.declared.fault.ContainerFault.{ContainerFault}
use Rattle.container_model.specs.declared.fault.ContainerFault.TheVariants.{Stale, WrongLink, BadAnswer}
use Rattle.container_model.specs.Record.{Record, Took, is_link, is_linked, is_alive}
use Rattle.container_model.specs.Messages.{Replied, replied, replied_fitting, is_fit, done_link, saved_link}
use Rattle.container_model.specs.Messages.{granted_link, closed_with, next_s, reply_made, reply_taken, reply_pending}
use Rattle.container_model.specs.Messages.{reply_link, reply_found, on_message}
use Rattle.std.proofs.lemmas.Bool.{eqb-true}
use Rattle.world_facts.proofs.Lookups.{find_passes}
use Rattle.container_model.proofs.SaidOn.{said_on}

-- what an answer tells of a frame: nothing, that the object has it, or that it has given it up
pub data Told (op : Operation) (answer : Answer) (p : Replied) : Type 0 where
  tells_none : p.grant ≡ None → Told op answer p
  tells_gets : (g : ℕ) (tools : Tools) → op ≡ UiActivate g → answer ≡ told.Tools tools.menus tools.border
      → p.grant ≡ Some (Gets g tools) → Told op answer p
  tells_gives : (act : ℕ) → op ≡ UiDeactivate → answer ≡ told.Done → p.grant ≡ Some (GivesUp act) → Told op answer p

done_none : (l : Link) (s : ℕ) (x : Result States StateFault) (p : Replied) → done_link l s x ≡ Ok p → p.grant ≡ None
done_none l s (Err fault) p e = cc
done_none l s (Ok v) p e =
    (let q : record {
      link = Some (record l { pending = None; states = v; s = s });
      taken = None;
      refused = None;
      grant = None;
    } ≡ p = cc in ap (λ (x : Replied). x.grant) (sym q))

saved_none : (l : Link) (s : ℕ) (content : Stored) (x : Result States StateFault) (p : Replied)
    → saved_link content (done_link l s x) ≡ Ok p → p.grant ≡ None
saved_none l s content (Err fault) p e = cc
saved_none l s content (Ok v) p e =
    (let q : record {
      link = Some (record l { pending = None; states = v; s = s; saved = Some content });
      taken = None;
      refused = None;
      grant = None;
    } ≡ p = cc in ap (λ (x : Replied). x.grant) (sym q))

closed_none : (content : Option Stored) (x : Result States StateFault) (p : Replied) → closed_with content x ≡ Ok p
    → p.grant ≡ None
closed_none content (Err fault) p e = cc
closed_none content (Ok v) p e = (let q : record { link = None; taken = content; refused = None; grant = None }
    ≡ p = cc in ap (λ (x : Replied). x.grant) (sym q))

granted_some : (t : Tells) (l : Link) (s : ℕ) (x : Result States StateFault) (p : Replied)
    → granted_link t (done_link l s x) ≡ Ok p → p.grant ≡ Some t
granted_some t l s (Err fault) p e = cc
granted_some t l s (Ok v) p e =
    (let q : record {
      link = Some (record l { pending = None; states = v; s = s });
      taken = None;
      refused = None;
      grant = Some t;
    } ≡ p = cc in ap (λ (x : Replied). x.grant) (sym q))

-- each operation, by each answer
pub what_told : (l : Link) (op : Operation) (answer : Answer) (p : Replied) → replied l op answer ≡ Ok p
    → Told op answer p
what_told l (InitNew class) told.Done p e =
    tells_none (done_none l (next_s (InitNew class) l.s) (both.step l.states (op_of (InitNew class))) p e)
what_told l (InitNew class) (told.Refused why) p e =
    tells_none (let q : record { link = None; taken = None; refused = Some why; grant = None } ≡ p = cc in
    ap (λ (x : Replied). x.grant) (sym q))
what_told l (InitNew class) (told.Content c) p e = cc
what_told l (InitNew class) (told.Tools menus border) p e = cc
what_told l (Load class content) told.Done p e =
    tells_none (done_none l (next_s (Load class content) l.s) (both.step l.states (op_of (Load class content))) p e)
what_told l (Load class content) (told.Refused why) p e =
    tells_none (let q : record { link = None; taken = None; refused = Some why; grant = None } ≡ p = cc in
    ap (λ (x : Replied). x.grant) (sym q))
what_told l (Load class content) (told.Content c) p e = cc
what_told l (Load class content) (told.Tools menus border) p e = cc
what_told l InPlace told.Done p e =
    tells_none (done_none l (next_s InPlace l.s) (both.step l.states (op_of InPlace)) p e)
what_told l InPlace (told.Refused why) p e = cc
what_told l InPlace (told.Content c) p e = cc
what_told l InPlace (told.Tools menus border) p e = cc
what_told l (UiActivate h) told.Done p e = cc
what_told l (UiActivate h) (told.Refused why) p e = cc
what_told l (UiActivate h) (told.Content c) p e = cc
what_told l (UiActivate h) (told.Tools menus border) p e = tells_gets h (record { menus = menus; border = border })
    refl refl (granted_some (Gets h (record { menus = menus; border = border })) l (next_s (UiActivate h) l.s)
    (both.step l.states (op_of (UiActivate h))) p e)
what_told l UiDeactivate told.Done p e = tells_gives l.act refl refl
    (granted_some (GivesUp l.act) l (next_s UiDeactivate l.s) (both.step l.states (op_of UiDeactivate)) p e)
what_told l UiDeactivate (told.Refused why) p e = cc
what_told l UiDeactivate (told.Content c) p e = cc
what_told l UiDeactivate (told.Tools menus border) p e = cc
what_told l InPlaceDeactivate told.Done p e =
    tells_none (done_none l (next_s InPlaceDeactivate l.s) (both.step l.states (op_of InPlaceDeactivate)) p e)
what_told l InPlaceDeactivate (told.Refused why) p e = cc
what_told l InPlaceDeactivate (told.Content c) p e = cc
what_told l InPlaceDeactivate (told.Tools menus border) p e = cc
what_told l OpenWindow told.Done p e =
    tells_none (done_none l (next_s OpenWindow l.s) (both.step l.states (op_of OpenWindow)) p e)
what_told l OpenWindow (told.Refused why) p e = cc
what_told l OpenWindow (told.Content c) p e = cc
what_told l OpenWindow (told.Tools menus border) p e = cc
what_told l (Edit bytes) told.Done p e =
    tells_none (done_none l (next_s (Edit bytes) l.s) (both.step l.states (op_of (Edit bytes))) p e)
what_told l (Edit bytes) (told.Refused why) p e =
    tells_none (let q : record {
      link = Some (record l { pending = None });
      taken = None;
      refused = Some why;
      grant = None;
    } ≡ p = cc in ap (λ (x : Replied). x.grant) (sym q))
what_told l (Edit bytes) (told.Content c) p e = cc
what_told l (Edit bytes) (told.Tools menus border) p e = cc
what_told l (Save k) told.Done p e = cc
what_told l (Save k) (told.Refused why) p e = cc
what_told l (Save k) (told.Content c) p e =
    tells_none (saved_none l (next_s (Save k) l.s) c (both.step l.states (op_of (Save k))) p e)
what_told l (Save k) (told.Tools menus border) p e = cc
what_told l HandsOff told.Done p e =
    tells_none (done_none l (next_s HandsOff l.s) (both.step l.states (op_of HandsOff)) p e)
what_told l HandsOff (told.Refused why) p e = cc
what_told l HandsOff (told.Content c) p e = cc
what_told l HandsOff (told.Tools menus border) p e = cc
what_told l (SaveCompleted k storage) told.Done p e =
    tells_none (done_none l (next_s (SaveCompleted k storage) l.s)
    (both.step l.states (op_of (SaveCompleted k storage))) p e)
what_told l (SaveCompleted k storage) (told.Refused why) p e = cc
what_told l (SaveCompleted k storage) (told.Content c) p e = cc
what_told l (SaveCompleted k storage) (told.Tools menus border) p e = cc
what_told l (SaveDropped k) told.Done p e =
    tells_none (done_none l (next_s (SaveDropped k) l.s) (both.step l.states (op_of (SaveDropped k))) p e)
what_told l (SaveDropped k) (told.Refused why) p e = cc
what_told l (SaveDropped k) (told.Content c) p e = cc
what_told l (SaveDropped k) (told.Tools menus border) p e = cc
what_told l (Close SaveIfDirty) told.Done p e = cc
what_told l (Close SaveIfDirty) (told.Refused why) p e = cc
what_told l (Close SaveIfDirty) (told.Content c) p e =
    tells_none (closed_none (Some c) (both.step l.states (op_of (Close SaveIfDirty))) p e)
what_told l (Close SaveIfDirty) (told.Tools menus border) p e = cc
what_told l (Close NoSave) told.Done p e = tells_none (closed_none None (both.step l.states (op_of (Close NoSave))) p e)
what_told l (Close NoSave) (told.Refused why) p e = cc
what_told l (Close NoSave) (told.Content c) p e = cc
what_told l (Close NoSave) (told.Tools menus border) p e = cc

-- A reply that is taken: the object that has the activation, the pending operation that it answers, and what it made.
pub record IsReply (r : Record) (inc act n : ℕ) (answer : Answer) (t : Took) : Type 0 where
  pub object : Object
  pub link : Link
  pub op : Operation
  pub replied : Replied
  pub found : find (is_linked inc act) r.objects ≡ Some object
  pub linked : object.link ≡ Some link
  pub inc_is : link.inc ≡ inc
  pub act_is : link.act ≡ act
  pub pending : link.pending ≡ Some op
  pub number : n ≡ link.last
  pub told : Told op answer replied
  pub made : reply_made r inc act object replied ≡ t

named : (inc act : ℕ) (l : Link) → is_link inc act (Some l) ≡ true → (l.inc ≡ inc) × (l.act ≡ act)
named inc act l e = at (l.inc == inc) (l.act == act) refl refl e
  where
    at : (a b : Bool) → (l.inc == inc) ≡ a → (l.act == act) ≡ b → (a && b) ≡ true → (l.inc ≡ inc) × (l.act ≡ act)
    at true true p q g = (eqb-true l.inc inc p, eqb-true l.act act q)
    at true false p q g = cc
    at false b p q g = cc

module _ (r : Record) (inc act n : ℕ) (answer : Answer) (t : Took) where
  fitting_told : (l : Link) (op : Operation) (p : Replied) → replied_fitting l op answer ≡ Ok p → Told op answer p
  fitting_told l op p e = at (is_fit answer) e
    where
      at : (b : Bool) → (if b then replied l op answer else Err BadAnswer) ≡ Ok p → Told op answer p
      at true g = what_told l op answer p g
      at false g = cc

  reply_at : (x : Object) (l : Link) (op : Operation) (b : Bool) (p : Replied)
      → find (is_linked inc act) r.objects ≡ Some x → x.link ≡ Some l → l.pending ≡ Some op → (n == l.last) ≡ b
      → (if b then replied_fitting l op answer else Err Stale) ≡ Ok p → reply_made r inc act x p ≡ t
      → IsReply r inc act n answer t
  reply_at x l op true p f xl q e g m =
      let name = named inc act l (ap (is_link inc act) (sym xl) ∙ find_passes (is_linked inc act) r.objects x f) in
      record {
        object = x;
        link = l;
        op = op;
        replied = p;
        found = f;
        linked = xl;
        inc_is = name.0;
        act_is = name.1;
        pending = q;
        number = eqb-true n l.last e;
        told = fitting_told l op p g;
        made = m;
      }
  reply_at x l op false p f xl q e g m = cc

  reply_op : (x : Object) (l : Link) (op : Option Operation) (p : Replied)
      → find (is_linked inc act) r.objects ≡ Some x → x.link ≡ Some l → l.pending ≡ op
      → reply_pending l n answer op ≡ Ok p → reply_made r inc act x p ≡ t → IsReply r inc act n answer t
  reply_op x l None p f xl q g m = cc
  reply_op x l (Some op) p f xl q g m = reply_at x l op (n == l.last) p f xl q refl g m

  reply_of : (x : Object) (l : Option Link) (p : Replied) → find (is_linked inc act) r.objects ≡ Some x → x.link ≡ l
      → reply_link n answer l ≡ Ok p → reply_made r inc act x p ≡ t → IsReply r inc act n answer t
  reply_of x None p f xl g m = cc
  reply_of x (Some l) p f xl g m = reply_op x l l.pending p f xl refl g m

  reply_by : (x : Object) (p : Result Replied ContainerFault) → find (is_linked inc act) r.objects ≡ Some x
      → reply_link n answer x.link ≡ p → reply_taken r inc act x p ≡ Ok t → IsReply r inc act n answer t
  reply_by x (Err fault) f g e = cc
  reply_by x (Ok p) f g e = reply_of x x.link p f refl g (cc)

  reply_in : (x : Option Object) → find (is_linked inc act) r.objects ≡ x → reply_found r inc act n answer x ≡ Ok t
      → IsReply r inc act n answer t
  reply_in None f e = cc
  reply_in (Some x) f e = reply_by x (reply_link n answer x.link) f refl e

  pub reply_is : (link : ℕ) → said_on r link (Reply inc act n answer) ≡ Ok t → IsReply r inc act n answer t
  reply_is link e = at (inc == link) (is_alive r inc) e
    where
      at : (a b : Bool) → ◌≡◌ {A = Result Took ContainerFault}
          (if a then (if b then reply_found r inc act n answer (find (is_linked inc act) r.objects) else Err Stale)
          else Err WrongLink) (Ok t) → IsReply r inc act n answer t
      at true true g = reply_in (find (is_linked inc act) r.objects) refl g
      at true false g = cc
      at false b g = cc
