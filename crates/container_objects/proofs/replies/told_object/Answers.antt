use Rattle.std.proofs.Common.{refl}
use Rattle.container_objects.proofs.RepliesTold.{told_from}
use Rattle.container_objects.proofs.replies.told_object.Goals as goal

pub returns-in-Ok-clause-taken : goal.returns-in-Ok-clause-taken
returns-in-Ok-clause-taken c =
    told_from c.args.object.now _ _ _ c.told.new.link c.in-Ok.field-0.taken c.in-Ok.field-0.taken _
    c.in-Ok.field-0.refused c.in-Ok.field-0.grant c.in-Ok.field-0.actions.items c.in-Ok.ensures.taken refl
    c.keep-is_taken.ensures.taken refl c.keep-is_taken.ensures.work
