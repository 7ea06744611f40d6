-- What is printed of the faults of get.
use Rattle.std.specs.Prelude.{ℕ, List, codes}
use Rattle.tree_storage.specs.FaultNames.{fault_name as tree_fault_name}
use Rattle.read_files.specs.Reads.{read_fault_name}
use Rattle.text_io.specs.Faults.{input_fault_name}
use Rattle.text_words.specs.Reports.{of_file, standard}
use Rattle.tell_files.specs.declared.fault.GetFault.{GetFault}
use Rattle.tell_files.specs.declared.fault.GetFault.TheVariants as get

-- where a stream of the file of this name is written on standard output
abbrev pub get_report : GetFault → List ℕ → List ℕ
get_report (get.Input fault) name = of_file name (input_fault_name fault)
get_report (get.Read fault) name = of_file name (read_fault_name fault)
get_report (get.Tree fault) name = of_file name (tree_fault_name fault)
get_report get.Unwritable name = of_file standard (codes "Unwritable")
