use Rattle.std.proofs.Common.{◌≡◌, drop}
use Rattle.script_links.specs.Links.{links_of}
use Rattle.script_commands.proofs.placing.place_of.Given as goal

abbrev pub invariant-loop-place : goal.invariant-loop-place
invariant-loop-place l = links_of l.inc (drop l.place l.links) ≡ links_of l.inc l.links
