use Rattle.std.proofs.Common.{rules}
use Rattle.write_described.proofs.fault.MakeFault.report.Goals as goal

pub returns-in-Line : goal.returns-in-Line
returns-in-Line c = search rules
