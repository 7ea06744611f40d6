-- An activation has room after an answer to its pending call, whatever it answers.
use Rattle.std.proofs.Common.{◌≡◌, ◌+◌, ◌≤◌, ℕ, true, false, List, [], ◌∷◌, length, Option, Some, None, Result, Ok, Err}
use Rattle.std.proofs.Common.{refl, ap, arith, IfOk, if◌then◌else◌, ◌==◌}
use Rattle.message_values.specs.Operations.{op_of}
use Rattle.message_values.specs.declared.answer.Answer.{Answer}
use Rattle.message_values.specs.declared.answer.Answer.TheVariants as told
use Rattle.message_values.specs.declared.operation.Operation.{Operation}
use Rattle.message_values.specs.declared.operation.Operation.TheVariants as operation
use Rattle.object_state.specs.Both as both
use Rattle.object_state.specs.declared.operations.CloseOption.TheVariants.{SaveIfDirty, NoSave}
use Rattle.object_state.specs.declared.both_states.States.{States}
use Rattle.object_state.specs.declared.faults.StateFault.{StateFault}
use Rattle.tree_streams.specs.declared.stored.Stored.{Stored}
use Rattle.container_model.specs.declared.fault.ContainerFault.{ContainerFault}
use Rattle.container_model.specs.declared.fault.ContainerFault.TheVariants.{BadAnswer, Stale}
use Rattle.container_model.specs.declared.grants.Tells.{Tells}
use Rattle.container_model.specs.declared.grants.Tells.TheVariants.{Gets, GivesUp}
use Rattle.container_model.specs.declared.record.Link.{Link}
use Rattle.container_model.specs.Room.{IfLinked, IsRoomy, count_pending}
use Rattle.container_model.specs.Messages.{Replied, closed_with, done, done_link, granted_link, is_fit, next_at}
use Rattle.container_model.specs.Messages.{next_link, next_s, replied, replied_fitting, reply_link, reply_pending}
use Rattle.container_model.specs.Messages.{saved_link}

-- a link after its pending call was answered, before what waits is called
pub record Grown (l next : Link) : Type 0 where
  pub session : next.session ≡ l.session
  pub pending : next.pending ≡ None
  pub last : next.last ≡ l.last
  pub waiting : next.waiting ≡ l.waiting
  pub s : next.s ≤ l.s + 1

abbrev pub IsFine : Link → Result Replied ContainerFault → Type 0
IsFine l R = IfOk R (λ x. IfLinked (Grown l) x.link)

done_link_fine : (l : Link) (s : ℕ) (R : Result States StateFault) → s ≤ l.s + 1 → IsFine l (done_link l s R)
done_link_fine l s (Err fault) h = tt
done_link_fine l s (Ok v) h = record { session = refl; pending = refl; last = refl; waiting = refl; s = h }

done_fine : (l : Link) (op : Operation) → next_s op l.s ≤ l.s + 1 → IsFine l (done l op)
done_fine l op h = done_link_fine l (next_s op l.s) (both.step l.states (op_of op)) h

saved_link_fine : (l : Link) (content : Stored) (link : Option Link) → IfLinked (Grown l) link
    → IfLinked (Grown l) (elim link [ None ↦ None | Some x ↦ Some (record x { saved = Some content }) ])
saved_link_fine l content None h = tt
saved_link_fine l content (Some x) h = record {
  session = h.session;
  pending = h.pending;
  last = h.last;
  waiting = h.waiting;
  s = h.s;
}

saved_fine : (l : Link) (content : Stored) (R : Result Replied ContainerFault) → IsFine l R
    → IsFine l (saved_link content R)
saved_fine l content (Err fault) h = tt
saved_fine l content (Ok x) h = saved_link_fine l content x.link h

granted_fine : (l : Link) (t : Tells) (R : Result Replied ContainerFault) → IsFine l R → IsFine l (granted_link t R)
granted_fine l t (Err fault) h = tt
granted_fine l t (Ok x) h = h

closed_fine : (l : Link) (content : Option Stored) (R : Result States StateFault) → IsFine l (closed_with content R)
closed_fine l content (Err fault) = tt
closed_fine l content (Ok v) = tt

replied_fine : (l : Link) (op : Operation) (answer : Answer) → IsFine l (replied l op answer)
replied_fine l (operation.InitNew class) told.Done = done_fine l (operation.InitNew class) (omega arith)
replied_fine l (operation.InitNew class) (told.Refused why) = tt
replied_fine l (operation.InitNew class) _ = tt
replied_fine l (operation.Load class content) told.Done = done_fine l (operation.Load class content) (omega arith)
replied_fine l (operation.Load class content) (told.Refused why) = tt
replied_fine l (operation.Load class content) _ = tt
replied_fine l operation.InPlace told.Done = done_fine l operation.InPlace (omega arith)
replied_fine l operation.InPlace _ = tt
replied_fine l (operation.UiActivate g) (told.Tools menus border) =
    granted_fine l (Gets g (record { menus = menus; border = border })) (done l (operation.UiActivate g))
    (done_fine l (operation.UiActivate g) (omega arith))
replied_fine l (operation.UiActivate g) _ = tt
replied_fine l operation.UiDeactivate told.Done = granted_fine l (GivesUp l.act) (done l operation.UiDeactivate)
    (done_fine l operation.UiDeactivate (omega arith))
replied_fine l operation.UiDeactivate _ = tt
replied_fine l operation.InPlaceDeactivate told.Done = done_fine l operation.InPlaceDeactivate (omega arith)
replied_fine l operation.InPlaceDeactivate _ = tt
replied_fine l operation.OpenWindow told.Done = done_fine l operation.OpenWindow (omega arith)
replied_fine l operation.OpenWindow _ = tt
replied_fine l (operation.Edit bytes) told.Done = done_fine l (operation.Edit bytes) (omega arith)
replied_fine l (operation.Edit bytes) (told.Refused why) =
    record { session = refl; pending = refl; last = refl; waiting = refl; s = omega arith }
replied_fine l (operation.Edit bytes) _ = tt
replied_fine l (operation.Save k) (told.Content content) = saved_fine l content (done l (operation.Save k))
    (done_fine l (operation.Save k) (omega arith))
replied_fine l (operation.Save k) _ = tt
replied_fine l operation.HandsOff told.Done = done_fine l operation.HandsOff (omega arith)
replied_fine l operation.HandsOff _ = tt
replied_fine l (operation.SaveCompleted k storage) told.Done = done_fine l (operation.SaveCompleted k storage)
    (omega arith)
replied_fine l (operation.SaveDropped k) told.Done = done_fine l (operation.SaveDropped k) (omega arith)
replied_fine l (operation.SaveCompleted k storage) _ = tt
replied_fine l (operation.SaveDropped k) _ = tt
replied_fine l (operation.Close SaveIfDirty) (told.Content content) =
    closed_fine l (Some content) (both.step l.states (op_of (operation.Close SaveIfDirty)))
replied_fine l (operation.Close SaveIfDirty) _ = tt
replied_fine l (operation.Close NoSave) told.Done =
    closed_fine l None (both.step l.states (op_of (operation.Close NoSave)))
replied_fine l (operation.Close NoSave) _ = tt

pub fitting_fine : (l : Link) (op : Operation) (answer : Answer) → IsFine l (replied_fitting l op answer)
fitting_fine l op answer =
    elim (is_fit answer) as (λ b. IsFine l (if b then replied l op answer else Err BadAnswer)) [
      | true ↦
          replied_fine l op answer
      | false ↦ tt
    ]

-- the answered call leaves a number for the next
next_roomy : (numbers more : ℕ) (l next : Link) (op : Operation) (ops : List Operation) → IsRoomy numbers more l
    → l.pending ≡ Some op → Grown l next → length next.waiting ≡ length ops
    → IsRoomy numbers more (next_at next ops).link
next_roomy numbers more l next op [] h p g k =
    let one : count_pending l ≡ 1 = rw p refl in
    let none : count_pending next ≡ 0 = rw g.pending refl in
    let same : length next.waiting ≡ length l.waiting = ap length g.waiting in
    let last = g.last in
    let s = g.s in
    let calls = h.calls in
    let grants = h.grants in
    record { calls = omega arith; grants = omega arith }
next_roomy numbers more l next op (q ∷ ops) h p g k =
    let one : count_pending l ≡ 1 = rw p refl in
    let same : length next.waiting ≡ length l.waiting = ap length g.waiting in
    let last = g.last in
    let s = g.s in
    let calls = h.calls in
    let grants = h.grants in
    record { calls = omega arith; grants = omega arith }

link_roomy : (numbers more : ℕ) (l : Link) (op : Operation) (link : Option Link) → IsRoomy numbers more l
    → l.pending ≡ Some op → IfLinked (Grown l) link → IfLinked (IsRoomy numbers more) (next_link link)
link_roomy numbers more l op None h p g = tt
link_roomy numbers more l op (Some next) h p g = next_roomy numbers more l next op next.waiting h p g refl

abbrev pub IsRoomyAfter : ℕ → ℕ → Result Replied ContainerFault → Type 0
IsRoomyAfter numbers more R = IfOk R (λ x. IfLinked (IsRoomy numbers more) (next_link x.link))

fine_roomy : (numbers more : ℕ) (l : Link) (op : Operation) (R : Result Replied ContainerFault)
    → IsRoomy numbers more l → l.pending ≡ Some op → IsFine l R → IsRoomyAfter numbers more R
fine_roomy numbers more l op (Err fault) h p g = tt
fine_roomy numbers more l op (Ok x) h p g = link_roomy numbers more l op x.link h p g

pending_roomy : (numbers more : ℕ) (n : ℕ) (answer : Answer) (l : Link) (pending : Option Operation)
    → IsRoomy numbers more l → l.pending ≡ pending → IsRoomyAfter numbers more (reply_pending l n answer pending)
pending_roomy numbers more n answer l None h p = tt
pending_roomy numbers more n answer l (Some op) h p =
    elim (n == l.last) as (λ b. IsRoomyAfter numbers more (if b then replied_fitting l op answer else Err Stale)) [
      | true ↦ fine_roomy numbers more l op (replied_fitting l op answer) h p (fitting_fine l op answer)
      | false ↦ tt
    ]

-- a link has room after a reply
pub reply_roomy : (numbers more : ℕ) (n : ℕ) (answer : Answer) (link : Option Link)
    → IfLinked (IsRoomy numbers more) link → IsRoomyAfter numbers more (reply_link n answer link)
reply_roomy numbers more n answer None h = tt
reply_roomy numbers more n answer (Some l) h = pending_roomy numbers more n answer l l.pending h refl
