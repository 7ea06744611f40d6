-- What a reply makes of an object.
use Rattle.std.specs.Prelude.{Bool, List, Option, Result, Ok, Err, is_some}
use Rattle.message_values.specs.declared.refusal.Refusal.{Refusal}
use Rattle.container_model.specs.declared.answer.Action.{Action}
use Rattle.container_model.specs.declared.fault.ContainerFault.{ContainerFault}
use Rattle.container_model.specs.declared.record.Object.{Object}
use Rattle.container_model.specs.declared.grants.Tells.{Tells}
use Rattle.container_model.specs.Messages.{Replied, next_sent, replied_object}
use Rattle.container_model.specs.Record.{sends}

-- the object after it, whether a content was taken, why the object refused, what is told of the frame's grant, and what
-- is sent next
pub record ToldObject : Type 0 where
  pub object : Object
  pub taken : Bool
  pub refused : Option Refusal
  pub grant : Option Tells
  pub actions : List Action

abbrev pub told_of : Object → Result Replied ContainerFault → Result ToldObject ContainerFault
told_of o (Err fault) = Err fault
told_of o (Ok replied) = Ok (record {
  object = replied_object o replied;
  taken = is_some replied.taken;
  refused = replied.refused;
  grant = replied.grant;
  actions = sends (next_sent replied.link);
})
