-- The next call of an activation, by what the tables say to it.
use Rattle.std.proofs.Common.{◌≡◌, Option, Some, None, Result, Ok, refl, ap, sym, subst}
use Rattle.std.specs.Prelude.{IfOk, IfErr}
use Rattle.object_state.specs.Both as both
use Rattle.object_state.specs.declared.both_states.States.{States}
use Rattle.object_state.specs.declared.faults.StateFault.{StateFault}
use Rattle.message_values.specs.Operations.{op_of}
use Rattle.object_core.specs.Content.{Content}
use Rattle.message_values.specs.declared.operation.Operation.{Operation}
use Rattle.message_values.specs.declared.answer.Answer.{Answer}
use Rattle.server_model.specs.declared.counted.Counted.{Counted}
use Rattle.server_model.specs.declared.fault.ServerFault.{ServerFault}
use Rattle.server_model.specs.Server.{Activation, Acted, Refuses, acted, next_call}
use Rattle.server_model.specs.Opened.{Acts, does_open}

-- the tables take it
taken : (a : Activation) (op : Operation) (v : States) (o : Option Content) → both.step a.states (op_of op) ≡ Ok v
    → next_call a op o ≡ does_open a v op o
taken a op v None e = refl
taken a op v (Some c) e = ap (λ (r : Result States StateFault). Ok (acted a c op r)) e

-- what is told of it then is told of the call
module _ {X E : Type 0} (told : Result X E) (a : Activation) (op : Operation) (v : States) (o : Option Content)
    (e : both.step a.states (op_of op) ≡ Ok v) where
  pub next_acts : (after : Activation) (answer : X → Answer) (counted : X → Option Counted)
      → IfOk told (λ x. Acts (does_open a v op o) after (answer x) (counted x))
      → IfOk told (λ x. Acts (next_call a op o) after (answer x) (counted x))
  next_acts after answer counted h =
      subst (λ (r : Result Acted ServerFault). IfOk told (λ x. Acts r after (answer x) (counted x)))
      (sym (taken a op v o e)) h

  pub next_refuses : (fault : E → ServerFault) → IfErr told (λ x. Refuses (does_open a v op o) (fault x))
      → IfErr told (λ x. Refuses (next_call a op o) (fault x))
  next_refuses fault h = subst (λ (r : Result Acted ServerFault). IfErr told (λ x. Refuses r (fault x)))
      (sym (taken a op v o e)) h
