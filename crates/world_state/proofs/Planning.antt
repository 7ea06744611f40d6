-- What the delivery of a call comes to.
use Rattle.std.proofs.Common.{◌≡◌, ◌<◌, ℕ, zero, suc, List, [], ◌∷◌, length, arith, Option, Some, None, Err, refl, ap}
use Rattle.std.proofs.Common.{sym, subst, ◌∙◌}
use Rattle.std.specs.Prelude.{slice_get}
use Rattle.message_values.specs.Found.{find, nth}
use Rattle.message_values.specs.declared.message.Message.{Message}
use Rattle.message_values.specs.declared.message.Said.TheVariants.{Call, Reply, Write, Ask}
use Rattle.message_values.specs.declared.operation.Operation.{Operation}
use Rattle.server_model.specs.Server.{wanted}
use Rattle.container_model.specs.Numbered.{IsNth}
use Rattle.world_model.specs.declared.event.Stop.TheVariants.{OutOfStock}
use Rattle.world_model.specs.declared.life.Life.TheVariants.{Running}
use Rattle.world_state.specs.declared.plan.Plan.TheVariants.{Serve, Begin}
use Rattle.world_model.specs.World.{World, Instance, called, called_wanting, delivered, is_of, in_session}
use Rattle.world_state.specs.Plans.{Fits, IsCallOf, IsFirst, carried, carried_call}
use Rattle.message_values.specs.declared.message.Said.{Said}

-- a call at a server that runs
runs : (w : World) (s inc act n : ℕ) (op : Operation) (z : Instance) (class : Option (List ℕ))
    → nth w.instances inc ≡ Some z → z.life ≡ Running → wanted z.core (in_session s (Call inc act n op)) ≡ class
    → called w s inc act n op (nth w.instances inc) ≡ called_wanting w s inc act n op z class
runs w s inc act n op z class e r c = rw (e, r, c) refl

stands : (w : World) (inc i : ℕ) (z : Instance) → IsNth inc w.instances i → nth w.instances inc ≡ Some z
    → slice_get w.instances i ≡ Some z
stands w inc i z p e = sym p.found ∙ e

serve_call : (w : World) (s inc act n : ℕ) (op : Operation) (i : ℕ) (z : Instance) → IsNth inc w.instances i
    → nth w.instances inc ≡ Some z → z.life ≡ Running → wanted z.core (in_session s (Call inc act n op)) ≡ None
    → called w s inc act n op (nth w.instances inc) ≡ carried_call w s inc act n op (Serve i)
serve_call w s inc act n op i z p e r c = runs w s inc act n op z None e r c ∙ (rw (stands w inc i z p e) refl)

there : {A : Type 0} (xs : List A) (i : ℕ) → i < length xs → (k : A) × (slice_get xs i ≡ Some k)
there [] i lt = absurd (omega arith)
there (x ∷ xs) zero lt = (x, refl)
there (x ∷ xs) (suc i) lt = there xs i (omega arith)

begin_call : (w : World) (s inc act n : ℕ) (op : Operation) (i at : ℕ) (z : Instance) (class : List ℕ)
    → IsNth inc w.instances i → nth w.instances inc ≡ Some z → z.life ≡ Running
    → wanted z.core (in_session s (Call inc act n op)) ≡ Some class
    → IsFirst class w.stock at
    → called w s inc act n op (nth w.instances inc) ≡ carried_call w s inc act n op (Begin i at)
begin_call w s inc act n op i at z class p e r c f =
    let k = there w.stock at f.fits in
    runs w s inc act n op z (Some class) e r c ∙ (rw (f.found, k.1, stands w inc i z p e, f.out) refl)

none_call : (w : World) (s inc act n : ℕ) (op : Operation) (z : Instance) (class : List ℕ)
    → nth w.instances inc ≡ Some z → z.life ≡ Running → wanted z.core (in_session s (Call inc act n op))
    ≡ Some class
    → find (is_of class) w.stock ≡ None
    → called w s inc act n op (nth w.instances inc) ≡ Err OutOfStock
none_call w s inc act n op z class e r c f = runs w s inc act n op z (Some class) e r c ∙ (rw f refl)

plan_served : (w : World) (s inc i : ℕ) (x : Said) (z : Instance) → IsCallOf inc x → IsNth inc w.instances i
    → nth w.instances inc ≡ Some z → z.life ≡ Running → wanted z.core (in_session s x) ≡ None
    → (delivered w (in_session s x) ≡ carried w (in_session s x) (Serve i)) × Fits w (in_session s x) (Serve i)
plan_served w s inc i (Call link act n op) z q p e r c =
    (let p' = subst (λ x. IsNth x w.instances i) q p in let e' = ap (nth w.instances) (sym q) ∙ e in
    (serve_call w s link act n op i z p' e' r c, p'))
plan_served w s inc i (Reply link act n answer) z q p e r c = absurd q
plan_served w s inc i (Write link act g number content) z q p e r c = absurd q
plan_served w s inc i (Ask link act g) z q p e r c = absurd q

pub plan_serve : (w : World) (inc i : ℕ) (m : Message) (z : Instance) → IsCallOf inc m.said
    → IsNth inc w.instances i → nth w.instances inc ≡ Some z → z.life ≡ Running → wanted z.core m ≡ None
    → (delivered w m ≡ carried w m (Serve i)) × Fits w m (Serve i)
plan_serve w inc i m z q p e r c = plan_served w m.session inc i m.said z q p e r c

plan_begun : (w : World) (s inc i at : ℕ) (x : Said) (z : Instance) (class : List ℕ) → IsCallOf inc x
    → IsNth inc w.instances i → nth w.instances inc ≡ Some z → z.life ≡ Running
    → wanted z.core (in_session s x) ≡ Some class
    → IsFirst class w.stock at
    → (delivered w (in_session s x) ≡ carried w (in_session s x) (Begin i at)) × Fits w (in_session s x) (Begin i at)
plan_begun w s inc i at (Call link act n op) z class q p e r c f =
    (let p' = subst (λ x. IsNth x w.instances i) q p in let e' = ap (nth w.instances) (sym q) ∙ e in
    (begin_call w s link act n op i at z class p' e' r c f, (p', f.fits)))
plan_begun w s inc i at (Reply link act n answer) z class q p e r c f = absurd q
plan_begun w s inc i at (Write link act g number content) z class q p e r c f = absurd q
plan_begun w s inc i at (Ask link act g) z class q p e r c f = absurd q

pub plan_begin : (w : World) (inc i at : ℕ) (m : Message) (z : Instance) (class : List ℕ) → IsCallOf inc m.said
    → IsNth inc w.instances i → nth w.instances inc ≡ Some z → z.life ≡ Running → wanted z.core m ≡ Some class
    → IsFirst class w.stock at
    → (delivered w m ≡ carried w m (Begin i at)) × Fits w m (Begin i at)
plan_begin w inc i at m z class q p e r c f = plan_begun w m.session inc i at m.said z class q p e r c f

plan_out : (w : World) (s inc : ℕ) (x : Said) (z : Instance) (class : List ℕ) → IsCallOf inc x
    → nth w.instances inc ≡ Some z → z.life ≡ Running → wanted z.core (in_session s x) ≡ Some class
    → find (is_of class) w.stock ≡ None
    → delivered w (in_session s x) ≡ Err OutOfStock
plan_out w s inc (Call link act n op) z class q e r c f = none_call w s link act n op z class
    (ap (nth w.instances) (sym q) ∙ e) r c f
plan_out w s inc (Reply link act n answer) z class q e r c f = absurd q
plan_out w s inc (Write link act g number content) z class q e r c f = absurd q
plan_out w s inc (Ask link act g) z class q e r c f = absurd q

pub plan_none : (w : World) (inc : ℕ) (m : Message) (z : Instance) (class : List ℕ) → IsCallOf inc m.said
    → nth w.instances inc ≡ Some z → z.life ≡ Running → wanted z.core m ≡ Some class
    → find (is_of class) w.stock ≡ None
    → delivered w m ≡ Err OutOfStock
plan_none w inc m z class q e r c f = plan_out w m.session inc m.said z class q e r c f
