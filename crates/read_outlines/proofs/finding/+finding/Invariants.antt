use Rattle.std.proofs.Common.{◌+◌, ◌*◌, length}
use Rattle.read_outlines.proofs.finding.+finding.Given as goal

abbrev pub decreases-place_at : goal.decreases-place_at
decreases-place_at l = 2 * length l.path.now

abbrev pub decreases-place_in : goal.decreases-place_in
decreases-place_in l = 2 * length l.path.now + 1
