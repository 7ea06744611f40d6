use Rattle.container_laws.proofs.MessageLaws.{only-expected_messages}
use Rattle.container_laws.proofs.laws.only_expected_messages.Goals as goal

pub returns : goal.returns
returns c = only-expected_messages
