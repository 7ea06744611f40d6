-- What a reply makes of a link, with what is sent next.
use Rattle.std.specs.Prelude.{◌+◌, ℕ, List, [], ◌∷◌, ◌++◌, Option, Some, None, Result, Ok, Err}
use Rattle.message_values.specs.declared.refusal.Refusal.{Refusal}
use Rattle.message_values.specs.declared.message.Message.{Message}
use Rattle.message_values.specs.declared.operation.Operation.{Operation}
use Rattle.tree_streams.specs.declared.stored.Stored.{Stored}
use Rattle.container_model.specs.declared.record.Link.{Link}
use Rattle.container_model.specs.declared.record.Object.{Object}
use Rattle.container_model.specs.declared.answer.Action.{Action}
use Rattle.container_model.specs.declared.answer.Action.TheVariants.{Send}
use Rattle.container_model.specs.declared.fault.ContainerFault.{ContainerFault}
use Rattle.container_model.specs.Record.{call, sends}
use Rattle.container_model.specs.declared.grants.Tells.{Tells}
use Rattle.container_model.specs.Messages.{Replied, next_link, next_sent}

pub record Resumed : Type 0 where
  pub link : Option Link
  pub taken : Option Stored
  pub refused : Option Refusal
  pub grant : Option Tells
  pub actions : List Action

abbrev pub resumed : Result Replied ContainerFault → Result Resumed ContainerFault
resumed (Err fault) = Err fault
resumed (Ok replied) =
    Ok (record {
      link = next_link replied.link;
      taken = replied.taken;
      refused = replied.refused;
      grant = replied.grant;
      actions = sends (next_sent replied.link);
    })

-- the call of the first operation that waits
abbrev pub first_call : Link → List Operation → Option Action
first_call l [] = None
first_call l (op ∷ ops) = Some (Send (call l (l.last + 1) op))

-- The calls that are pending, as they were first sent, by the objects' order.
abbrev pub pending_at : Link → Option Operation → List Message
pending_at l None = []
pending_at l (Some op) = call l l.last op ∷ []

abbrev pub pending_call : Option Link → List Message
pending_call None = []
pending_call (Some l) = pending_at l l.pending

abbrev pub pending_calls : List Object → List Message
pending_calls [] = []
pending_calls (o ∷ os) = pending_call o.link ++ pending_calls os
