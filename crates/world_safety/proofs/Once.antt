-- A call that was answered acts no more.
use Rattle.std.proofs.Common.{◌≡◌, ◌≤◌, ◌++◌, ℕ, zero, suc, List, [], ◌∷◌, Option, Some, None, Result, Ok, Err, refl}
use Rattle.std.proofs.Common.{sym, ap, ◌∙◌, append-nil}
use Rattle.std.specs.Prelude.{slice_get, slice_set}
use Rattle.object_core.specs.Kinds.{Kind}
use Rattle.message_values.specs.Found.{find, nth, set_nth}
use Rattle.message_values.specs.declared.message.Said.TheVariants.{Call, Reply}
use Rattle.message_values.specs.declared.operation.Operation.{Operation}
use Rattle.message_values.specs.declared.answer.Answer.{Answer}
use Rattle.server_model.specs.Server.{Activation, Served, is_act, on_call, wanted}
use Rattle.server_model.specs.declared.fault.ServerFault.{ServerFault}
use Rattle.server_model.proofs.Steady.{Again, call_again}
use Rattle.world_model.specs.declared.event.Stop.{Stop}
use Rattle.world_model.specs.declared.life.Life.{Life}
use Rattle.world_model.specs.declared.life.Life.TheVariants.{Running, Ended, Reaped}
use Rattle.world_model.specs.World.{World, Instance, delivered, called, called_in, called_wanting, stocked, served}
use Rattle.world_model.specs.World.{counted_by, is_of, without_first, in_session}
use Rattle.world_model.specs.Safe.{act_at, Among, sayings}
use Rattle.world_safety.specs.Holding.{AgreesIn}

-- the servers are as they were, and they counted nothing
abbrev pub Same : World → Result World Stop → Type 0
Same w r = (next : World) → r ≡ Ok next → (next.instances ≡ w.instances) × (next.server_done ≡ w.server_done)

same_as : (w v next : World) → v.instances ≡ w.instances → v.server_done ≡ w.server_done → v ≡ next
    → (next.instances ≡ w.instances) × (next.server_done ≡ w.server_done)
same_as w v next is done e =
    (ap (λ (x : World). x.instances) (sym e) ∙ is, ap (λ (x : World). x.server_done) (sym e) ∙ done)

ok_same : (w v : World) → v.instances ≡ w.instances → v.server_done ≡ w.server_done → Same w (Ok v)
ok_same w v is done next e = same_as w v next is done (cc)

set_found : (is : List Instance) (k : ℕ) (i : Instance) → slice_get is k ≡ Some i → slice_set is k i ≡ is
set_found [] k i e = refl
set_found (x ∷ xs) zero i e = (let same : x ≡ i = cc in ap (λ y. y ∷ xs) (sym same))
set_found (x ∷ xs) (suc k) i e = ap (λ ys. x ∷ ys) (set_found xs k i e)

set_same : (is : List Instance) (inc : ℕ) (i : Instance) → nth is inc ≡ Some i → set_nth is inc i ≡ is
set_same is zero i e = refl
set_same is (suc k) i e = set_found is k i e

module _ (w : World) (s inc act n : ℕ) (op : Operation) (i : Instance) (at : nth w.instances inc ≡ Some i)
    (a : Activation) (known : find (is_act act) i.core.acts ≡ Some a) (le : n ≤ a.last) where
  served_same : (stock : List Kind) (told : Result Served ServerFault) → Again i.core told
      → Same w (Ok (served w s inc act n i stock told))
  served_same stock (Err fault) h = ok_same w _ refl refl
  served_same stock (Ok v) h =
      let again = h v refl in
      ok_same w _
      (ap (λ core. set_nth w.instances inc (record i { core = core })) again.0 ∙ set_same w.instances inc i at)
      (ap (λ c. w.server_done ++ counted_by w inc c) again.1 ∙ append-nil w.server_done)

  stocked_same : (class : List ℕ) (kind : Option Kind) → Same w (stocked w s inc act n op i class kind)
  stocked_same class None = λ next e. cc
  stocked_same class (Some kind) = served_same (without_first (is_of class) w.stock)
      (on_call i.core (in_session s (Call inc act n op)) (Some kind))
      (call_again i.core s inc act n op (Some kind) a known le)

  wanting_same : (class : Option (List ℕ)) → Same w (called_wanting w s inc act n op i class)
  wanting_same None = served_same w.stock (on_call i.core (in_session s (Call inc act n op)) None)
      (call_again i.core s inc act n op None a known le)
  wanting_same (Some class) = stocked_same class (find (is_of class) w.stock)

  in_same : (life : Life) → Same w (called_in w s inc act n op i life)
  in_same Running = wanting_same (wanted i.core (in_session s (Call inc act n op)))
  in_same Ended = ok_same w _ refl refl
  in_same Reaped = ok_same w _ refl refl

pub called_same : (w : World) (s inc act n : ℕ) (op : Operation) (x : Option Instance) (a : Activation)
    → nth w.instances inc ≡ x → act_at act x ≡ Some a → n ≤ a.last → Same w (called w s inc act n op x)
called_same w s inc act n op None a e known le = ok_same w _ refl refl
called_same w s inc act n op (Some i) a e known le = in_same w s inc act n op i e a known le i.life

pub once_answered : (w : World) (s inc act n : ℕ) (op : Operation) (r : Answer) → AgreesIn w
    → Among (sayings w.sent) (Reply inc act n r) → Same w (delivered w (in_session s (Call inc act n op)))
once_answered w s inc act n op r h g =
    let k = h.facts.replies.replies_kept inc act n r g in
    called_same w s inc act n op (nth w.instances inc) k.0 refl k.1 k.2
