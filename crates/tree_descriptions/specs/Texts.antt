-- What is told of a description that is read line by line.
use Rattle.std.specs.Prelude.{◌≡◌, ◌+◌, ◌≤◌, ℕ, List, length, Ok}
use Rattle.tree_storage.specs.Kept.{Kept}
use Rattle.text_io.specs.Input.{MayRefuseInput, most}
use Rattle.text_io.specs.Reading.{MayRefuseBytes}
use Rattle.text_io.specs.declared.reading.Passed.{Passed}
use Rattle.tree_descriptions.specs.Building.{IsDescribed}
use Rattle.tree_descriptions.specs.Description.{RefusesDescription, described}
use Rattle.tree_descriptions.specs.declared.building.Described.{Described}
use Rattle.tree_descriptions.specs.declared.fault.LineFault.{LineFault}
use Rattle.tree_descriptions.specs.declared.fault.TextFault.{TextFault}
use Rattle.tree_descriptions.specs.declared.fault.TextFault.TheVariants.{Input, Line}

-- a text of no more bytes than are taken describes the tree
abbrev pub Describes : List ℕ → Described → Type 0
Describes text d = (length text ≤ most) × ((k : Kept) × (described text ≡ Ok k) × IsDescribed k d)

-- When a text may be refused. A fault of a line is told only of one that has no more bytes than are taken.
abbrev pub MayRefuseText : List ℕ → TextFault → Type 0
MayRefuseText text (Input fault) = MayRefuseInput text fault
MayRefuseText text (Line n fault) = (length text ≤ most) × RefusesDescription text (n, fault)

-- this fault of a line is told, if the text, of which this is left, has no more bytes than are taken
abbrev pub IsTold : Passed → List ℕ → ℕ × LineFault → TextFault → Type 0
IsTold passed rest told (Input fault) = MayRefuseBytes (passed.bytes + length rest) fault
IsTold passed rest told (Line n fault) = (passed.bytes + length rest ≤ most) × ((n, fault) ≡ told)
