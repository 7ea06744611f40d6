use Rattle.std.proofs.Common.{IfOk, subst, ℕ}
use Rattle.tell_faults.specs.Places.{IsDirectoryExamined}
use Rattle.tell_faults.proofs.finding.examine_directory.Goals as goal

pub returns : goal.returns
returns c =
    subst (λ (x : ℕ). IfOk c.examine.result
    (IsDirectoryExamined c.args.entries.now c.args.taken.now x c.args.fault)) c.first_directory.ensures
    c.examine.ensures
