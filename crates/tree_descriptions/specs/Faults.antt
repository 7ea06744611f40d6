-- The faults of lines, and their names.
use Rattle.std.specs.Prelude.{ℕ, List, codes}
use Rattle.cfb_names.specs.Faults.{name_of_fault}
use Rattle.tree_storage.specs.FaultNames.{fault_name}
use Rattle.tree_storage.specs.declared.fault.TreeFault.{TreeFault}
use Rattle.tree_storage.specs.declared.fault.TreeFault.TheVariants as tree
use Rattle.tree_descriptions.specs.declared.fault.LineFault.{LineFault}
use Rattle.tree_descriptions.specs.declared.fault.LineFault.TheVariants.{Bad, Name, Tree, NoMemory}
use Rattle.text_io.specs.declared.lines.SyntaxFault.{SyntaxFault}
use Rattle.text_io.specs.declared.lines.SyntaxFault.TheVariants as syntax_fault

abbrev pub of_tree_fault : TreeFault → LineFault
of_tree_fault tree.NoMemory = NoMemory
of_tree_fault fault = Tree fault

abbrev pub of_syntax_fault : SyntaxFault → LineFault
of_syntax_fault syntax_fault.Bad = Bad
of_syntax_fault syntax_fault.NoMemory = NoMemory

abbrev pub line_fault_name : LineFault → List ℕ
line_fault_name Bad = codes "Bad"
line_fault_name (Name fault) = name_of_fault fault
line_fault_name (Tree fault) = fault_name fault
line_fault_name NoMemory = codes "NoMemory"
