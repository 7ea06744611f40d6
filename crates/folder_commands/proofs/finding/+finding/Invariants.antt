use Rattle.std.proofs.Common.{◌+◌, ◌*◌, length}
use Rattle.folder_commands.proofs.finding.+finding.Given as goal

abbrev pub decreases-find_at : goal.decreases-find_at
decreases-find_at l = 2 * length l.path.now

abbrev pub decreases-find_in : goal.decreases-find_in
decreases-find_in l = 2 * length l.path.now + 1
