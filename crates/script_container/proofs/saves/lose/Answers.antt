use Rattle.script_container.proofs.Done.{lost_done, lost_leaves}
use Rattle.script_container.proofs.saves.lose.Goals as goal

pub returns-clause-others : goal.returns-clause-others
returns-clause-others g c =
    lost_leaves c.dropped.result c.args.core.now c.failed.new.core c.dropped.new.core c.args.frame
    c.failed.ensures.others c.failed.ensures.answered c.dropped.ensures.others c.dropped.ensures.done

pub returns-clause-done : goal.returns-clause-done
returns-clause-done g c = lost_done c.dropped.result c.failed.new.core c.dropped.new.core c.args.frame
    c.failed.ensures.answered c.dropped.ensures.done
