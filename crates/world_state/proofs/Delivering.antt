-- What the delivery of a message makes of a world, with what is logged of it.
use Rattle.std.proofs.Common.{◌≡◌, ◌<◌, ℕ, Bool, true, false, length, get_or, List, [], ◌∷◌, ◌++◌, Option, Some, None}
use Rattle.std.proofs.Common.{Result, Ok, Err, OnOk, refl, ap, sym, subst, ◌∙◌, slice_get}
use Rattle.std.specs.List.{remove}
use Rattle.std.proofs.lemmas.List.{append-nil}
use Rattle.message_values.specs.Found.{find, nth}
use Rattle.message_values.specs.declared.message.Message.{Message}
use Rattle.message_values.specs.declared.message.Said.TheVariants.{Call, Reply, Write, Ask}
use Rattle.message_values.specs.declared.operation.Operation.{Operation}
use Rattle.object_core.specs.Kinds.{Kind}
use Rattle.server_model.specs.Server.{Served, on_call}
use Rattle.server_model.specs.declared.fault.ServerFault.{ServerFault}
use Rattle.container_model.specs.Record.{Record, Took, is_linked}
use Rattle.container_model.specs.Messages.{on_message}
use Rattle.container_model.specs.declared.fault.ContainerFault.{ContainerFault}
use Rattle.world_model.specs.declared.logs.Sent.{Sent}
use Rattle.world_model.specs.declared.logs.Taken.{Taken}
use Rattle.world_model.specs.World.{World, Instance, served, delivered, deliver, forged_on, taken_at, taken_by}
use Rattle.world_model.specs.World.{taken_of, took, with_taken, in_session, link_of, link_to}
use Rattle.world_host.specs.Logging.{forged, forged_as, heard_as}
use Rattle.world_host.specs.Logging as entry
use Rattle.world_model.specs.declared.event.Stop.{Stop}
use Rattle.world_state.specs.declared.plan.Plan.{Plan}
use Rattle.world_state.specs.declared.plan.Plan.TheVariants.{Quiet, Tell, Serve, Begin}
use Rattle.world_state.specs.Plans.{carried, carried_call, carry, logged, serving}
use Rattle.world_state.proofs.Serving.{stands}
use Rattle.message_values.specs.declared.message.Said.{Said}

-- a call brings nothing
none_more : (w v : World) → v.taken ≡ w.taken → record v { taken = w.taken ++ [] } ≡ v
none_more w v e = ap (λ ts. record v { taken = ts }) (append-nil w.taken ∙ sym e)

served_keeps : (w : World) (s inc act n : ℕ) (i : Instance) (stock : List Kind) (told : Result Served ServerFault)
    → (served w s inc act n i stock told).taken ≡ w.taken
served_keeps w s inc act n i stock (Err fault) = refl
served_keeps w s inc act n i stock (Ok v) = refl

serving_keeps : (w : World) (s inc act n : ℕ) (op : Operation) (stock : List Kind) (kind : Option Kind)
    (o : Option Instance) → with_taken w [] (serving w s inc act n op stock kind o)
    ≡ serving w s inc act n op stock kind o
serving_keeps w s inc act n op stock kind None = refl
serving_keeps w s inc act n op stock kind (Some i) =
    ap Ok (none_more w (served w s inc act n i stock (on_call i.core (in_session s (Call inc act n op)) kind))
    (served_keeps w s inc act n i stock (on_call i.core (in_session s (Call inc act n op)) kind)))

carried_keeps : (w : World) (s inc act n : ℕ) (op : Operation) (plan : Plan)
    → with_taken w [] (carried_call w s inc act n op plan) ≡ carried_call w s inc act n op plan
carried_keeps w s inc act n op Quiet = ap Ok (none_more w _ refl)
carried_keeps w s inc act n op (Tell link) = refl
carried_keeps w s inc act n op (Serve i) = serving_keeps w s inc act n op w.stock None (slice_get w.instances i)
carried_keeps w s inc act n op (Begin i at) = serving_keeps w s inc act n op (remove w.stock at)
    (slice_get w.stock at) (slice_get w.instances i)

-- what the container takes of a message is what is logged
same_log : (r : Record) (p : Option ℕ) (inc act : ℕ) (told : Result Took ContainerFault)
    → taken_by r p inc act told ≡ entry.logged (taken_of p (find (is_linked inc act) r.objects)) told
same_log r p inc act (Err fault) = refl
same_log r p inc act (Ok t) = refl

heard_same : (w : World) (p : Option ℕ) (inc act : ℕ) (told : Result Took ContainerFault)
    → with_taken w (taken_by w.rec p inc act told) (Ok (took w told))
    ≡ Ok (heard_as w (taken_of p (find (is_linked inc act) w.rec.objects)) told)
heard_same w p inc act told = ap (λ more. with_taken w more (Ok (took w told))) (same_log w.rec p inc act told)

delivers_said : (w : World) (p s : ℕ) (x : Said) (plan : Plan) → delivered w (in_session s x)
    ≡ carried w (in_session s x) plan
    → with_taken w (taken_at w.rec (Some p) (link_of (in_session s x)) (in_session s x))
    (delivered w (in_session s x)) ≡ logged w p (in_session s x) plan
delivers_said w p s (Call inc act n op) plan e = ap (with_taken w []) e ∙ carried_keeps w s inc act n op plan
delivers_said w p s (Reply inc act n answer) plan e = heard_same w (Some p) inc act
    (on_message w.rec (record { session = s; inc = inc }) (in_session s (Reply inc act n answer)))
delivers_said w p s (Write inc act g number content) plan e =
    heard_same w (Some p) inc act (on_message w.rec (record { session = s; inc = inc })
    (in_session s (Write inc act g number content)))
delivers_said w p s (Ask inc act g) plan e = heard_same w (Some p) inc act
    (on_message w.rec (record { session = s; inc = inc }) (in_session s (Ask inc act g)))

delivers : (w : World) (p : ℕ) (m : Message) (plan : Plan) → delivered w m ≡ carried w m plan
    → with_taken w (taken_at w.rec (Some p) (link_of m) m) (delivered w m) ≡ logged w p m plan
delivers w p m plan e = delivers_said w p m.session m.said plan e

pub deliver_is : (w : World) (p : ℕ) (x : Sent) (plan : Plan) → nth w.sent p ≡ Some x
    → delivered w x.message ≡ carried w x.message plan → deliver w p (nth w.sent p) ≡ logged w p x.message plan
deliver_is w p x plan at e = ap (deliver w p) at ∙ delivers w p x.message plan e

-- so it is of a forged message
forged_same_at : (w : World) (link inc act : ℕ) (told : Result Took ContainerFault)
    → record (took w told) { taken = w.taken ++ taken_by w.rec None inc act told; hostile = w.hostile ++ link ∷ [] }
    ≡ forged_as w link (taken_of None (find (is_linked inc act) w.rec.objects)) told
forged_same_at w link inc act told =
    ap (λ more. record (took w told) { taken = w.taken ++ more; hostile = w.hostile ++ link ∷ [] })
    (same_log w.rec None inc act told)

-- of a call nothing is
if_none : (b : Bool) → ◌≡◌ {A = List Taken} (entry.if_taken b []) []
if_none true = refl
if_none false = refl

logged_none : (told : Result Took ContainerFault) → entry.logged [] told ≡ []
logged_none (Err fault) = refl
logged_none (Ok t) = if_none t.answer.taken

forged_call : (w : World) (inc : ℕ) (told : Result Took ContainerFault)
    → record (took w told) { taken = w.taken ++ []; hostile = w.hostile ++ inc ∷ [] } ≡ forged_as w inc [] told
forged_call w inc told =
    ap (λ more. record (took w told) { taken = w.taken ++ more; hostile = w.hostile ++ inc ∷ [] })
    (sym (logged_none told))

forged_said : (w : World) (inc s : ℕ) (x : Said) → forged_on w inc (in_session s x) ≡ forged w inc (in_session s x)
forged_said w inc s (Call i act n op) =
    forged_call w inc (on_message w.rec (link_to w inc) (in_session s (Call i act n op)))
forged_said w inc s (Reply i act n answer) = forged_same_at w inc i act
    (on_message w.rec (link_to w inc) (in_session s (Reply i act n answer)))
forged_said w inc s (Write i act g number content) =
    forged_same_at w inc i act (on_message w.rec (link_to w inc) (in_session s (Write i act g number content)))
forged_said w inc s (Ask i act g) = forged_same_at w inc i act
    (on_message w.rec (link_to w inc) (in_session s (Ask i act g)))

pub forged_same : (w : World) (inc : ℕ) (m : Message) → forged_on w inc m ≡ forged w inc m
forged_same w inc m = forged_said w inc m.session m.said

-- a message that was taken apart
pub carried_as : {T : Type 0} (w v : World) (p : ℕ) (m : Message) (x : Said) (plan : Plan) (result : Result T Stop)
    → m.said ≡ x → OnOk result (carry w p (in_session m.session x) plan ≡ Ok v)
    → OnOk result (carry w p m plan ≡ Ok v)
carried_as w v p m x plan result e h = subst (λ y. OnOk result (carry w p (in_session m.session y) plan ≡ Ok v))
    (sym e) h

-- a message that is read twice
pub same_at : {A : Type 0} (xs ys : List A) (i : ℕ) (x y : A) → xs ≡ ys → i < length ys → x ≡ get_or ys i x
    → y ≡ get_or xs i y → y ≡ x
same_at xs ys i x y e lt ex ey =
    let fits : i < length xs = rw e lt in
    let z : Some y ≡ Some x = sym (stands xs i y fits ey) ∙ (ap (λ zs. slice_get zs i) e ∙ stands ys i x lt ex) in
    cc
