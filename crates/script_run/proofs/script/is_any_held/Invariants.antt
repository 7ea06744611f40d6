use Rattle.std.proofs.Common.{◌≡◌, drop}
use Rattle.script_links.specs.Links.{is_any_held}
use Rattle.script_run.proofs.script.is_any_held.Given as goal

abbrev pub invariant-loop-link : goal.invariant-loop-link
invariant-loop-link l = is_any_held (drop l.link-index l.links) ≡ is_any_held l.links
