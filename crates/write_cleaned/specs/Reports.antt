-- What is printed of the faults of clean.
use Rattle.std.specs.Prelude.{ℕ, List, codes}
use Rattle.cfb_file.specs.FaultNames.{fault_name}
use Rattle.read_files.specs.Reads.{read_fault_name}
use Rattle.text_io.specs.Faults.{input_fault_name}
use Rattle.text_words.specs.Reports.{of_file}
use Rattle.write_cleaned.specs.declared.fault.CleanFault.{CleanFault}
use Rattle.write_cleaned.specs.declared.fault.CleanFault.TheVariants as clean

-- where the file of the first name is read, and that of the other is written
abbrev pub clean_report : CleanFault → List ℕ → List ℕ → List ℕ
clean_report (clean.Input fault) name out = of_file name (input_fault_name fault)
clean_report (clean.Read fault) name out = of_file name (read_fault_name fault)
clean_report (clean.Write fault) name out = of_file out (fault_name fault)
clean_report (clean.Cut fault) name out = of_file name (input_fault_name fault)
clean_report clean.Unwritable name out = of_file out (codes "Unwritable")
