use Rattle.std.proofs.Common.{◌≡◌, ◌++◌, drop}
use Rattle.container_model.specs.Replies.{pending_calls}
use Rattle.script_model.specs.Turns.{spelled_to}
use Rattle.script_links.proofs.links.turn_bytes.Given as goal

abbrev pub invariant-loop-object : goal.invariant-loop-object
invariant-loop-object l = l.out.items ++ spelled_to l.inc (pending_calls (drop l.object-index l.core.objects))
    ≡ spelled_to l.inc (pending_calls l.core.objects)
