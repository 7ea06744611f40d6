-- What is printed of the faults of a listing.
use Rattle.std.specs.Prelude.{ℕ, List, codes}
use Rattle.read_files.specs.Reads.{read_fault_name}
use Rattle.text_io.specs.Faults.{input_fault_name}
use Rattle.text_words.specs.Reports.{of_file, standard}
use Rattle.tell_lists.specs.declared.fault.ListFault.{ListFault}
use Rattle.tell_lists.specs.declared.fault.ListFault.TheVariants as list

-- where the file of this name is read, and its listing is written on standard output
abbrev pub list_report : ListFault → List ℕ → List ℕ
list_report (list.Input fault) name = of_file name (input_fault_name fault)
list_report (list.Read fault) name = of_file name (read_fault_name fault)
list_report list.Unwritable name = of_file standard (codes "Unwritable")
list_report list.NoMemory name = of_file name (codes "NoMemory")
