-- Calls of an activation that a server doesn't know.
use Rattle.std.proofs.Common.{◌≡◌, ℕ, Bool, true, false, cond, List, length, refl, ap, sym, ◌∙◌, Option, Some, None}
use Rattle.std.proofs.Common.{Result, Ok, Err, nat_le, is_some}
use Rattle.message_values.specs.declared.operation.Operation.{Operation}
use Rattle.message_values.specs.declared.answer.Answer.{Answer}
use Rattle.message_values.specs.declared.message.Said.TheVariants.{Reply}
use Rattle.object_core.specs.Kinds.{Kind}
use Rattle.server_model.specs.declared.fault.ServerFault.{ServerFault}
use Rattle.server_model.specs.declared.fault.ServerFault.TheVariants.{NumbersSpent}
use Rattle.server_model.specs.Server.{Activation, Server, Served, Refuses, begun_class, offered, unknown_call}
use Rattle.server_model.specs.Server.{wanted_unknown}
use Rattle.server_model.specs.Opened.{TakesCall, first_class}
use Rattle.server_model.proofs.Known.{server}

room_for : (b : Bool) (class given : List ℕ) (f : List ℕ → Result Served ServerFault)
    → cond b (Err NumbersSpent) (Ok class) ≡ Ok given → cond b (Err NumbersSpent) (f class) ≡ f given
room_for true class given f e = cc
room_for false class given f e = let s : class ≡ given = cc in ap f s

first_offers : (v : Server) (act : ℕ) (op : Operation) (box : Option Kind) (class : Option (List ℕ)) (given : List ℕ)
    → first_class v class ≡ Ok given → unknown_call v act op box class ≡ offered v act given op box
first_offers v act op box None given e = cc
first_offers v act op box (Some class) given e = room_for (nat_le v.numbers (length v.acts)) class given
    (λ c. offered v act c op box) e

wanted_if : (b : Bool) (class given : List ℕ) → cond b (Err NumbersSpent) (Ok class) ≡ Ok given
    → cond b None (Some class) ≡ Some given
wanted_if true class given e = cc
wanted_if false class given e = cc

first_wanted : (v : Server) (class : Option (List ℕ)) (given : List ℕ) → first_class v class ≡ Ok given
    → wanted_unknown v class None ≡ Some given
first_wanted v None given e = cc
first_wanted v (Some class) given e = wanted_if (nat_le v.numbers (length v.acts)) class given e

abbrev served : Server → Answer → Bool → Result Served ServerFault
served after answer used = Ok (record { server = after; answer = answer; counted = None; used = used })

pub first_takes : (session inc numbers : ℕ) (acts : List Activation) (act n : ℕ) (op : Operation)
    (box : Option Kind) (given : List ℕ) (after : Server) (answer : Answer)
    → first_class (server session inc numbers acts) (begun_class n op) ≡ Ok given
    → offered (server session inc numbers acts) act given op box ≡ served after answer true
    → TakesCall (server session inc numbers acts) act n op box None after
    (record { session = session; said = Reply inc act n answer }) None
first_takes session inc numbers acts act n op box given after answer e h =
    let v = server session inc numbers acts in (
      answer,
      first_offers v act op box (begun_class n op) given e
          ∙ (h ∙ ap (λ (class : Option (List ℕ)). served after answer (is_some class))
          (sym (first_wanted v (begun_class n op) given e))),
      refl,
    )

pub offer_refuses : (session inc numbers : ℕ) (acts : List Activation) (act : ℕ) (op : Operation)
    (box : Option Kind) (class : Option (List ℕ)) (given : List ℕ) (fault : ServerFault)
    → first_class (server session inc numbers acts) class ≡ Ok given
    → Refuses (offered (server session inc numbers acts) act given op box) fault
    → Refuses (unknown_call (server session inc numbers acts) act op box class) fault
offer_refuses session inc numbers acts act op box class given fault e h =
    rw (first_offers (server session inc numbers acts) act op box class given e) h
