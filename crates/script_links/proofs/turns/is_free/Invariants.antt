use Rattle.std.proofs.Common.{◌≡◌, drop}
use Rattle.script_links.specs.Shown.{has_free}
use Rattle.script_links.proofs.turns.is_free.Given as goal

abbrev pub invariant-loop-link : goal.invariant-loop-link
invariant-loop-link l = has_free l.inc (drop l.link-index l.links) ≡ has_free l.inc l.links
