-- A server that takes a call within the limit stays within it.
use Rattle.std.proofs.Common.{◌≡◌, ◌≤◌, ◌<◌, ◌+◌, ℕ, Bool, true, false, List, [], ◌∷◌, ◌++◌, length, Option, Some, None}
use Rattle.std.proofs.Common.{Result, Ok, Err, refl, arith, subst, nat_eq, nat_le}
use Rattle.std.proofs.lemmas.Bool.{eqb-true, leb-false}
use Rattle.std.specs.Prelude.{cond}
use Rattle.message_values.specs.Found.{find, put}
use Rattle.message_values.specs.Operations.{op_of}
use Rattle.message_values.specs.declared.message.Said.TheVariants.{Call}
use Rattle.message_values.specs.declared.operation.Operation.{Operation}
use Rattle.message_values.specs.declared.operation.Operation.TheVariants.{InitNew, Load, UiActivate, UiDeactivate, Edit}
use Rattle.message_values.specs.declared.operation.Operation.TheVariants.{Save, SaveCompleted, SaveDropped, Close}
use Rattle.message_values.specs.declared.refusal.Refusal.{Refusal}
use Rattle.object_state.specs.Both as both
use Rattle.object_state.specs.declared.both_states.States.{States}
use Rattle.object_state.specs.declared.faults.StateFault.{StateFault}
use Rattle.object_state.specs.declared.operations.CloseOption.{CloseOption}
use Rattle.object_state.specs.declared.operations.CloseOption.TheVariants.{SaveIfDirty, NoSave}
use Rattle.tree_streams.specs.declared.stored.Stored.{Stored}
use Rattle.object_core.specs.Content.{Content}
use Rattle.object_core.specs.Kinds.{Kind}
use Rattle.object_core.specs.Objects as object
use Rattle.object_core.specs.declared.fault.EmbedFault.{EmbedFault}
use Rattle.server_model.specs.Server.{Activation, Server, Acted, Served, counts, refuses, edits, closes, does, acted}
use Rattle.server_model.specs.Server.{next_call, known_call, begun_class, begun_content, begins, after_known}
use Rattle.server_model.specs.Server.{after_begun, is_class, offered, unknown_call, called, is_act, is_for, on_call}
use Rattle.server_model.specs.declared.fault.ServerFault.{ServerFault}
use Rattle.server_model.specs.declared.fault.ServerFault.TheVariants.{WrongIncarnation, Ignored, NumbersSpent}
use Rattle.server_model.specs.declared.fault.ServerFault.TheVariants.{WrongClass}
use Rattle.container_queues.proofs.SteadyLookups.{each_append, each_found, each_put}
use Rattle.world_model.specs.Safe.{CarriesWithin}
use Rattle.world_model.specs.World.{in_session}
use Rattle.world_grants.specs.Numbers.{IsActivationWithin, IsServerWithin}

-- an activation that does a call
module _ (limit : ℕ) (a : Activation) (h : IsActivationWithin limit a) (room : a.last + 1 ≤ limit) where
  s_same : a.s ≤ a.last + 1
  s_same = (let k = h.s in omega arith)

  s_next : a.s + 1 ≤ a.last + 1
  s_next = (let k = h.s in omega arith)

  refused : (op : Operation) (why : Refusal) → IsActivationWithin limit (refuses a op why).activation
  refused (InitNew class) why = record { act = h.act; last = room; s = s_same; granted = h.granted }
  refused (Load class content) why = record { act = h.act; last = room; s = s_same; granted = h.granted }
  refused _ why = record { act = h.act; last = room; s = s_same; granted = h.granted }

  edited : (v : States) (r : Result Content EmbedFault) → IsActivationWithin limit (edits a v r).activation
  edited v (Ok c) = record { act = h.act; last = room; s = s_same; granted = h.granted }
  edited v (Err fault) = record { act = h.act; last = room; s = s_same; granted = h.granted }

  closed : (v : States) (c : Content) (option : CloseOption) → IsActivationWithin limit (closes a v c option).activation
  closed v c SaveIfDirty = record { act = h.act; last = room; s = s_same; granted = h.granted }
  closed v c NoSave = record { act = h.act; last = room; s = s_same; granted = h.granted }

  counted : (k : ℕ) (b : Acted) (saved : Option Stored) → IsActivationWithin limit b.activation
      → IsActivationWithin limit (counts a k b saved).activation
  counted k b None g = g
  counted k b (Some c) g = g

  given : (g n : ℕ) → g ≤ limit → Some g ≡ Some n → n ≤ limit
  given g n le e = (let same : g ≡ n = cc in subst (λ x. x ≤ limit) same le)

  done : (c : Content) (v : States) (op : Operation) → CarriesWithin limit op
      → IsActivationWithin limit (does a c v op).activation
  done c v (Edit bytes) k = edited v (object.edit c bytes)
  done c v (Save n) k = record { act = h.act; last = room; s = s_same; granted = h.granted }
  done c v (SaveCompleted n storage) k = counted n _ a.saved
      (record { act = h.act; last = room; s = s_next; granted = h.granted })
  done c v (SaveDropped n) k = record { act = h.act; last = room; s = s_next; granted = h.granted }
  done c v (UiActivate g) k = record { act = h.act; last = room; s = s_same; granted = λ n e. given g n k e }
  done c v UiDeactivate k = record { act = h.act; last = room; s = s_same; granted = λ n e. cc }
  done c v (Close option) k = closed v c option
  done c v _ k = record { act = h.act; last = room; s = s_same; granted = h.granted }

  pub acts : (c : Content) (op : Operation) (told : Result States StateFault) → CarriesWithin limit op
      → IsActivationWithin limit (acted a c op told).activation
  acts c op (Err fault) k = refused op _
  acts c op (Ok v) k = done c v op k

-- one that is called
module _ (limit n : ℕ) (op : Operation) (fits : n ≤ limit) (carries : CarriesWithin limit op) (a : Activation)
    (b : Acted) (h : IsActivationWithin limit a) where
  goes : (c : Option Content) → n ≡ a.last + 1 → next_call a op c ≡ Ok b → IsActivationWithin limit b.activation
  goes None number e = cc
  goes (Some c) number e =
      let told = both.step a.states (op_of op) in
      let room : a.last + 1 ≤ limit = omega arith in
      let is : acted a c op told ≡ b = cc in
      subst (λ (x : Acted). IsActivationWithin limit x.activation) is (acts limit a h room c op told carries)

  next : (t : Bool) → nat_eq n (a.last + 1) ≡ t → ◌≡◌ {A = Result Acted ServerFault}
      (cond t (next_call a op a.content) (Err Ignored)) (Ok b) → IsActivationWithin limit b.activation
  next true is e = goes a.content (eqb-true n (a.last + 1) is) e
  next false is e = cc

  again : (t : Bool) → ◌≡◌ {A = Result Acted ServerFault}
      (cond t (Ok (record { activation = a; answer = a.reply; counted = None }))
      (cond (nat_eq n (a.last + 1)) (next_call a op a.content) (Err Ignored))) (Ok b)
      → IsActivationWithin limit b.activation
  again true e = (let is : record { activation = a; answer = a.reply; counted = None } ≡ b = cc in
      subst (λ (x : Acted). IsActivationWithin limit x.activation) is h)
  again false e = next (nat_eq n (a.last + 1)) refl e

  pub known : known_call a n op ≡ Ok b → IsActivationWithin limit b.activation
  known e = again (nat_eq n a.last) e

-- one that is new
begun : (limit act : ℕ) (class : List ℕ) (op : Operation) (r : Result Content EmbedFault) → act ≤ limit → 1 ≤ limit
    → IsActivationWithin limit (begins act class op r).activation
begun limit act class op (Err fault) le one = record { act = le; last = one; s = omega arith; granted = λ g e. cc }
begun limit act class op (Ok c) le one = record { act = le; last = one; s = omega arith; granted = λ g e. cc }

-- a server that is called
module _ (limit : ℕ) (v : Server) (session act n : ℕ) (op : Operation) (box : Option Kind)
    (h : IsServerWithin limit v) (drawn : act ≤ limit) (fits : n ≤ limit) (carries : CarriesWithin limit op)
    (told : Served) where
  after_acted : (a : Activation) (r : Result Acted ServerFault) → IsActivationWithin limit a → known_call a n op ≡ r
      → after_known v act r ≡ Ok told → IsServerWithin limit told.server
  after_acted a (Err fault) k q e = cc
  after_acted a (Ok b) k q e =
      let is : record {
        server = record v { acts = put (is_act act) b.activation v.acts };
        answer = b.answer;
        counted = b.counted;
        used = false;
      } ≡ told = cc in
      subst (λ (x : Served). IsServerWithin limit x.server) is (record {
        inc = h.inc;
        numbers = h.numbers;
        acts = each_put (IsActivationWithin limit) (is_act act) b.activation v.acts h.acts
            (known limit n op fits carries a b k q);
      })

  made : (b : Acted) → IsActivationWithin limit b.activation → after_begun v b ≡ Ok told
      → IsServerWithin limit told.server
  made b k e =
      let is : record {
        server = record v { acts = v.acts ++ b.activation ∷ [] };
        answer = b.answer;
        counted = None;
        used = true;
      } ≡ told = cc in
      subst (λ (x : Served). IsServerWithin limit x.server) is
      (record {
        inc = h.inc;
        numbers = h.numbers;
        acts = each_append (IsActivationWithin limit) v.acts
            b.activation h.acts k;
      })

  offers : (class : List ℕ) (kind : Kind) (t : Bool) → 1 ≤ limit
      → ◌≡◌ {A = Result Served ServerFault} (cond t (after_begun v (begins act class op (begun_content kind op)))
      (Err WrongClass)) (Ok told) → IsServerWithin limit told.server
  offers class kind true one e = made (begins act class op (begun_content kind op))
      (begun limit act class op (begun_content kind op) drawn one) e
  offers class kind false one e = cc

  offered_to : (class : List ℕ) (kind : Option Kind) → 1 ≤ limit → offered v act class op kind ≡ Ok told
      → IsServerWithin limit told.server
  offered_to class None one e = cc
  offered_to class (Some kind) one e = offers class kind (is_class kind class) one e

  has_room : (class : List ℕ) (t : Bool) → nat_le v.numbers (length v.acts) ≡ t
      → ◌≡◌ {A = Result Served ServerFault} (cond t (Err NumbersSpent) (offered v act class op box)) (Ok told)
      → IsServerWithin limit told.server
  has_room class true q e = cc
  has_room class false q e =
      let lt : length v.acts < v.numbers = leb-false v.numbers (length v.acts) q in
      let most = h.numbers in
      let one : 1 ≤ limit = omega arith in
      offered_to class box one e

  unknown : (class : Option (List ℕ)) → unknown_call v act op box class ≡ Ok told → IsServerWithin limit told.server
  unknown None e = cc
  unknown (Some class) e = has_room class (nat_le v.numbers (length v.acts)) refl e

  called_at : (a : Option Activation) → find (is_act act) v.acts ≡ a → called v act n op box a ≡ Ok told
      → IsServerWithin limit told.server
  called_at None f e = unknown (begun_class n op) e
  called_at (Some a) f e = after_acted a (known_call a n op)
      (each_found (IsActivationWithin limit) (is_act act) v.acts a h.acts f) refl e

  at_server : (t : Bool) → ◌≡◌ {A = Result Served ServerFault}
      (cond t (called v act n op box (find (is_act act) v.acts)) (Err WrongIncarnation)) (Ok told)
      → IsServerWithin limit told.server
  at_server true e = called_at (find (is_act act) v.acts) refl e
  at_server false e = cc

  pub served_within : (inc : ℕ) → on_call v (in_session session (Call inc act n op)) box ≡ Ok told
      → IsServerWithin limit told.server
  served_within inc e = at_server (is_for v session inc) e
