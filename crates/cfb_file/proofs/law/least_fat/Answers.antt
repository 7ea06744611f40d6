use Rattle.cfb_file.proofs.LeastFat.{covers, least}
use Rattle.cfb_file.proofs.law.least_fat.Goals as goal

pub returns : goal.returns
returns c d = record { covers = covers d; least = least d }
