-- A message that is taken is of the container's session, and so is its link.
use Rattle.std.proofs.Common.{◌≡◌, Result, Ok, Err, OnOk, IfOk, ◌∙◌}
use Rattle.message_values.specs.declared.message.Message.{Message}
use Rattle.container_model.specs.declared.answer.Answer.{Answer}
use Rattle.container_model.specs.declared.fault.ContainerFault.{ContainerFault}
use Rattle.container_model.specs.declared.server_link.ServerLink.{ServerLink}
use Rattle.container_model.specs.Messages.{on_message}
use Rattle.container_model.specs.Record.{Record, counts_none}
use Rattle.container_model.proofs.SaidOn.{is_said_on}

pub taken_in_session : (r s : Record) (link : ServerLink) (m : Message) (result : Result Answer ContainerFault)
    → IfOk result (λ a. on_message r link m ≡ Ok (counts_none s a))
    → OnOk result ((link.session ≡ r.session) × (m.session ≡ r.session))
taken_in_session r s link m (Ok a) taken = (let said = is_said_on r link m (counts_none s a) taken in
    (said.present, said.session ∙ said.present))
taken_in_session r s link m (Err fault) taken = tt
