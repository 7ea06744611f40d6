-- What a server within the limit sends of its own accord is within it, and so is the server then.
use Rattle.std.proofs.Common.{◌≡◌, ◌≤◌, ◌<◌, ◌+◌, ℕ, Bool, true, false, Option, Some, None, Result, Ok, Err, refl}
use Rattle.std.proofs.Common.{arith, subst, nat_le}
use Rattle.std.proofs.lemmas.Bool.{leb-false}
use Rattle.std.specs.Prelude.{cond}
use Rattle.message_values.specs.Found.{find, put}
use Rattle.message_values.specs.declared.message.Said.TheVariants.{Write, Ask}
use Rattle.object_state.specs.Persists.{may_write}
use Rattle.object_core.specs.Content.{Content}
use Rattle.server_model.specs.Server.{Server, Activation, Told, is_act, from_server, stored_of, writes, scribbled_open}
use Rattle.server_model.specs.Server.{asks, asked}
use Rattle.server_model.specs.Server as server
use Rattle.server_model.specs.declared.fault.ServerFault.{ServerFault}
use Rattle.server_model.specs.declared.fault.ServerFault.TheVariants.{Ignored, NumbersSpent}
use Rattle.container_queues.proofs.SteadyLookups.{each_found, each_put}
use Rattle.world_model.specs.Safe.{IsWithin}
use Rattle.world_grants.specs.Numbers.{IsActivationWithin, IsServerWithin}

pub record SpeaksWithin (limit : ℕ) (t : Told) : Type 0 where
  pub server : IsServerWithin limit t.server
  pub message : IsWithin limit t.message

module _ (limit : ℕ) (v : Server) (act : ℕ) (h : IsServerWithin limit v) (t : Told) where
  known : (a : Activation) → find (is_act act) v.acts ≡ Some a → IsActivationWithin limit a
  known a f = each_found (IsActivationWithin limit) (is_act act) v.acts a h.acts f

  -- a write
  wrote : (a : Activation) (c : Content) → IsActivationWithin limit a → a.w < v.numbers
      → SpeaksWithin limit
      (record {
        server = record v { acts = put (is_act a.act) (record a { w = a.w + 1 }) v.acts };
        message = from_server v (Write v.inc a.act a.s (a.w + 1) (stored_of c));
      })
  wrote a c k lt =
      let most = h.numbers in
      let last = k.last in
      let s = k.s in
      let new : IsActivationWithin limit (record a { w = a.w + 1 }) =
      record { act = k.act; last = k.last; s = k.s; granted = k.granted } in
      let s_fits : a.s ≤ limit = omega arith in
      let w_fits : a.w + 1 ≤ limit = omega arith in
      record {
        server = record {
          inc = h.inc;
          numbers = h.numbers;
          acts = each_put (IsActivationWithin limit) (is_act a.act) (record a { w = a.w + 1 }) v.acts h.acts
              new;
        };
        message = (h.inc, k.act, s_fits, w_fits);
      }

  room : (a : Activation) (c : Content) (b : Bool) → IsActivationWithin limit a → nat_le v.numbers a.w ≡ b
      → ◌≡◌ {A = Result Told ServerFault}
      (cond b (Err NumbersSpent)
      (Ok (record {
        server = record v { acts = put (is_act a.act) (record a { w = a.w + 1 }) v.acts };
        message = from_server v (Write v.inc a.act a.s (a.w + 1) (stored_of c));
      }))) (Ok t) → SpeaksWithin limit t
  room a c true k q e = cc
  room a c false k q e =
      let made : Told = record {
        server = record v { acts = put (is_act a.act) (record a { w = a.w + 1 }) v.acts };
        message = from_server v (Write v.inc a.act a.s (a.w + 1) (stored_of c));
      } in
      let is : made ≡ t = cc in
      subst (SpeaksWithin limit) is (wrote a c k (leb-false v.numbers a.w q))

  may : (a : Activation) (c : Content) (b : Bool) → IsActivationWithin limit a
      → ◌≡◌ {A = Result Told ServerFault} (cond b (writes v a c) (Err Ignored)) (Ok t) → SpeaksWithin limit t
  may a c true k e = room a c (nat_le v.numbers a.w) k refl e
  may a c false k e = cc

  open_one : (a : Activation) (c : Option Content) → IsActivationWithin limit a → scribbled_open v a c ≡ Ok t
      → SpeaksWithin limit t
  open_one a None k e = cc
  open_one a (Some c) k e = may a c (may_write a.states.persist.state) k e

  writing : (a : Option Activation) → find (is_act act) v.acts ≡ a → server.scribbled v a ≡ Ok t → SpeaksWithin limit t
  writing None f e = cc
  writing (Some a) f e = open_one a a.content (known a f) e

  pub writes_within : server.scribble v act ≡ Ok t → SpeaksWithin limit t
  writes_within e = writing (find (is_act act) v.acts) refl e

  -- it asks to be relieved of its frame
  asking_by : (a : Activation) (g : Option ℕ) → IsActivationWithin limit a → a.g ≡ g → asks v a g ≡ Ok t
      → SpeaksWithin limit t
  asking_by a None k q e = cc
  asking_by a (Some g) k q e =
      let made : Told = record { server = v; message = from_server v (Ask v.inc a.act g) } in
      let is : made ≡ t = cc in
      subst (SpeaksWithin limit) is (record { server = h; message = (h.inc, k.act, k.granted g q) })

  asking : (a : Option Activation) → find (is_act act) v.acts ≡ a → asked v a ≡ Ok t → SpeaksWithin limit t
  asking None f e = cc
  asking (Some a) f e = asking_by a a.g (known a f) refl e

  pub asks_within : server.ask_deactivate v act ≡ Ok t → SpeaksWithin limit t
  asks_within e = asking (find (is_act act) v.acts) refl e
