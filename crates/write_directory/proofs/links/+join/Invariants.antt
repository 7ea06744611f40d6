use Rattle.std.proofs.Common.{length}
use Rattle.write_directory.proofs.links.+join.Given as goal

abbrev pub decreases-join : goal.decreases-join
decreases-join l = length l.order.now
