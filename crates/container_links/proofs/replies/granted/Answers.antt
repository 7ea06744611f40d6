use Rattle.container_links.proofs.MessageReplies.{granted_as}
use Rattle.container_links.proofs.replies.granted.Goals as goal

pub returns-in-Ok-clause-taken : goal.returns-in-Ok-clause-taken
returns-in-Ok-clause-taken c = granted_as c.args.told _ _ _ _ _ _ c.in-Ok.ensures.taken
