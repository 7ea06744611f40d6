use Rattle.container_links.proofs.MessageReplies.{saved_as}
use Rattle.container_links.proofs.replies.saved.Goals as goal

pub returns-in-Ok-clause-taken : goal.returns-in-Ok-clause-taken
returns-in-Ok-clause-taken c = saved_as c.args.content _ _ _ _ _ _ c.in-Ok.ensures.taken
