-- What is printed of a fault.
use Rattle.std.specs.Prelude.{ℕ, List}
use Rattle.cfb_file.specs.FaultNames.{fault_name}
use Rattle.store_model.specs.Fault.{name_of}
use Rattle.read_files.specs.Reads.{read_fault_name}
use Rattle.text_words.specs.Reports.{of_file, of_line}
use Rattle.tree_descriptions.specs.Faults.{line_fault_name}
use Rattle.store_edits.specs.declared.fault.EditFault.{EditFault}
use Rattle.store_edits.specs.declared.fault.EditFault.TheVariants.{Store, Read, Line, Write}

-- how a fault is printed of the file of a name, where lines were read
abbrev pub edit_report : EditFault → List ℕ → List ℕ
edit_report (Store fault) file = of_file file (name_of fault)
edit_report (Read fault) file = of_file file (read_fault_name fault)
edit_report (Line n fault) file = of_line n (line_fault_name fault)
edit_report (Write fault) file = of_file file (fault_name fault)

-- and where the one change was asked for otherwise
abbrev pub change_report : EditFault → List ℕ → List ℕ
change_report (Store fault) file = of_file file (name_of fault)
change_report (Read fault) file = of_file file (read_fault_name fault)
change_report (Line n fault) file = of_file file (line_fault_name fault)
change_report (Write fault) file = of_file file (fault_name fault)
