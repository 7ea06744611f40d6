-- What is printed of the faults of a simulation.
use Rattle.std.specs.Prelude.{ℕ, List, codes}
use Rattle.text_io.specs.Faults.{input_fault_name, syntax_fault_name}
use Rattle.text_words.specs.Reports.{of_file, of_line, standard}
use Rattle.text_worlds.specs.declared.fault.SimulateFault.{SimulateFault}
use Rattle.text_worlds.specs.declared.fault.SimulateFault.TheVariants as simulate

-- where the moments of the file of this name are read, and what they lead to is written on standard output
abbrev pub simulate_report : SimulateFault → List ℕ → List ℕ
simulate_report (simulate.Input fault) name = of_file name (input_fault_name fault)
simulate_report (simulate.Line n fault) name = of_line n (syntax_fault_name fault)
simulate_report simulate.NoMemory name = of_file name (codes "NoMemory")
simulate_report simulate.Unwritable name = of_file standard (codes "Unwritable")
