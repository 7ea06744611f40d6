use Rattle.std.proofs.Common.{refl}
use Rattle.message_drafts.proofs.Growing.{put_back}
use Rattle.message_drafts.proofs.draft.Draft.restore.Goals as goal

pub returns : goal.returns
returns c before mark keeps = put_back c.args.mark before c.args.self.now _ mark keeps refl refl
    (rw c.truncate.ensures.items at c.cut_last.ensures) c.cut.ensures
