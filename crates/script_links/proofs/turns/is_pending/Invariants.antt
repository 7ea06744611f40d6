use Rattle.std.proofs.Common.{◌≡◌, drop}
use Rattle.script_links.specs.Shown.{is_any_awaited}
use Rattle.script_links.proofs.turns.is_pending.Given as goal

abbrev pub invariant-loop-object : goal.invariant-loop-object
invariant-loop-object l = is_any_awaited l.links (drop l.object-index l.core.objects)
    ≡ is_any_awaited l.links l.core.objects
