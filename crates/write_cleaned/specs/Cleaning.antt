-- What is written of the tree of a file, and when nothing is.
use Rattle.std.specs.Prelude.{◌≡◌, ◌≢◌, ◌≤◌, ℕ, Bool, true, false, List, Option, Ok, length}
use Rattle.std.specs.Io.KnownBytes.{Appends}
use Rattle.cfb_entries.specs.Tree.{Tree}
use Rattle.cfb_file.specs.Denotes.{Denotes}
use Rattle.cfb_file.specs.Refusals.{writable, Refuses}
use Rattle.write_files.specs.Laid.{IsLaidOut}
use Rattle.text_io.specs.Input.{MayRefuseInput, most}
use Rattle.text_io.specs.declared.input.InputFault.TheVariants.{TooBig}
use Rattle.read_files.specs.Reads.{MayRefuseRead}
use Rattle.write_cleaned.specs.declared.fault.CleanFault.{CleanFault}
use Rattle.write_cleaned.specs.declared.fault.CleanFault.TheVariants.{Cut, Input, Read, Write, Unwritable}

-- a file of the tree that the given one denotes was written, of so many bytes; the given one has no more than are taken
pub record Cleans (file : List ℕ) (old new : Option (List ℕ)) (count : ℕ) : Type 0 where
  pub t : Tree
  pub denotes : ∥ Denotes file t ∥₁
  pub few : length file ≤ most
  pub fits : writable t ≡ Ok tt
  pub clean : List ℕ
  pub same : ∥ Denotes clean t ∥₁
  pub laid_out : IsLaidOut t clean
  pub written : Appends old new clean
  pub counted : count ≡ length clean

-- when the tree of a file may be refused
abbrev pub MayRefuseClean : List ℕ → CleanFault → Type 0
MayRefuseClean file (Input fault) = MayRefuseInput file fault
MayRefuseClean file (Read fault) = MayRefuseRead file fault
MayRefuseClean file (Write fault) = (t : Tree) × ∥ Denotes file t ∥₁ × Refuses (writable t) fault
MayRefuseClean file Unwritable = (t : Tree) × ∥ Denotes file t ∥₁ × (writable t ≡ Ok tt)
MayRefuseClean file (Cut fault) = (t : Tree) × ∥ Denotes file t ∥₁ × (writable t ≡ Ok tt) × (fault ≢ TooBig)

-- whether a fault is met before anything is written
abbrev pub early : CleanFault → Bool
early (Input fault) = true
early (Read fault) = true
early (Write fault) = true
early (Cut fault) = false
early Unwritable = false
