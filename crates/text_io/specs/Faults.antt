-- The names of the faults of texts, inputs and outputs.
use Rattle.std.specs.Prelude.{ℕ, List, codes}
use Rattle.text_io.specs.declared.input.InputFault.{InputFault}
use Rattle.text_io.specs.declared.input.InputFault.TheVariants as input
use Rattle.text_io.specs.declared.lines.SyntaxFault.{SyntaxFault}
use Rattle.text_io.specs.declared.lines.SyntaxFault.TheVariants as syntax_fault

abbrev pub input_fault_name : InputFault → List ℕ
input_fault_name input.Unreadable = codes "Unreadable"
input_fault_name input.TooBig = codes "TooBig"
input_fault_name input.NoMemory = codes "NoMemory"

abbrev pub syntax_fault_name : SyntaxFault → List ℕ
syntax_fault_name syntax_fault.Bad = codes "Bad"
syntax_fault_name syntax_fault.NoMemory = codes "NoMemory"
