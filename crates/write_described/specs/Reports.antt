-- What is printed where a file isn't made.
use Rattle.std.specs.Prelude.{ℕ, List, codes}
use Rattle.cfb_file.specs.FaultNames.{fault_name}
use Rattle.text_words.specs.Reports.{of_file, of_line, standard}
use Rattle.text_io.specs.declared.input.InputFault.{InputFault}
use Rattle.text_io.specs.declared.input.InputFault.TheVariants as input
use Rattle.tree_descriptions.specs.Faults.{line_fault_name}
use Rattle.write_described.specs.declared.fault.MakeFault.{MakeFault}
use Rattle.write_described.specs.declared.fault.MakeFault.TheVariants as make

-- of the input of a description, which is standard input; want of memory is told of the file of this name
abbrev pub described_report : InputFault → List ℕ → List ℕ
described_report input.Unreadable name = of_file standard (codes "Unreadable")
described_report input.TooBig name = of_file standard (codes "TooBig")
described_report input.NoMemory name = of_file name (codes "NoMemory")

-- where the file of this name is made
abbrev pub make_report : MakeFault → List ℕ → List ℕ
make_report (make.Input fault) name = described_report fault name
make_report (make.Line n fault) name = of_line n (line_fault_name fault)
make_report (make.Write fault) name = of_file name (fault_name fault)
make_report make.Unwritable name = of_file name (codes "Unwritable")
