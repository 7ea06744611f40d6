use Rattle.std.proofs.Common.{◌≡◌, ◌++◌, drop}
use Rattle.container_model.specs.Replies.{pending_calls}
use Rattle.container_links.proofs.resending.pending_calls.Given as goal

abbrev pub invariant-loop-object : goal.invariant-loop-object
invariant-loop-object l = l.calls.items ++ pending_calls (drop l.object-index l.objects) ≡ pending_calls l.objects
