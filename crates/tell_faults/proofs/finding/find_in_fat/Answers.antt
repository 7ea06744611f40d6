use Rattle.tell_faults.proofs.Fats.{none_of, sound_fat}
use Rattle.cfb_faults.specs.Faults.{IsFatAtFault}
use Rattle.tell_faults.proofs.finding.find_in_fat.Goals as goal

pub returns-in_ok-tables-in-Ok-clause-nowhere : goal.returns-in_ok-tables-in-Ok-clause-nowhere
returns-in_ok-tables-in-Ok-clause-nowhere c =
    none_of c.find_in_directory.result (IsFatAtFault c.args.file.now c.args.fault → ⊥)
    (sound_fat c.args.file.now c.args.fault c.in_ok-tables-in-Ok.ensures.is_fat)
