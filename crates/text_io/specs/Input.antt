-- Inputs and outputs of the program's commands.
use Rattle.std.specs.Prelude.{◌<◌, ℕ, List, length}
use Rattle.text_io.specs.declared.input.InputFault.{InputFault}
use Rattle.text_io.specs.declared.input.InputFault.TheVariants.{Unreadable, TooBig, NoMemory}

-- the most bytes that an input may have
abbrev pub most : ℕ
most = 134217728

-- when an input of known bytes may be refused for a fault
abbrev pub MayRefuseInput : List ℕ → InputFault → Type 0
MayRefuseInput input Unreadable = Unit {0}
MayRefuseInput input TooBig = most < length input
MayRefuseInput input NoMemory = Unit {0}
