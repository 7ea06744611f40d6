use Rattle.std.proofs.Common.{◌-◌}
use Rattle.write_directory.proofs.links.+link.Given as goal

abbrev pub decreases-link : goal.decreases-link
decreases-link l = l.hi - l.lo
