use Rattle.std.proofs.Common.{sym}
use Rattle.write_files.proofs.write.fits.Goals as goal

pub returns-in-Ok : goal.returns-in-Ok
returns-in-Ok c = sym c.in-Ok.ensures.allowed
