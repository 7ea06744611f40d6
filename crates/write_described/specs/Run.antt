-- What the making of a file answers, given the bytes of its reader and its writer.
use Rattle.std.specs.Prelude.{◌≡◌, ℕ, List, Option, Ok, length}
use Rattle.std.specs.Io.KnownBytes.{Appends}
use Rattle.tree_storage.specs.Kept.{Kept}
use Rattle.cfb_file.specs.Denotes.{Denotes}
use Rattle.cfb_file.specs.Refusals.{writable, Refuses}
use Rattle.write_files.specs.Laid.{IsLaidOut}
use Rattle.text_io.specs.Input.{MayRefuseInput}
use Rattle.tree_descriptions.specs.Description.{described, RefusesDescription}
use Rattle.write_described.specs.declared.fault.MakeFault.{MakeFault}
use Rattle.write_described.specs.declared.fault.MakeFault.TheVariants as make

-- the file denotes the tree that the text describes, and nothing else stands in it
pub record IsMade (text file : List ℕ) : Type 0 where
  pub k : Kept
  pub describes : described text ≡ Ok k
  pub denotes : ∥ Denotes file k.now ∥₁
  pub laid_out : IsLaidOut k.now file

-- such a file was written, of so many bytes
pub record Makes (text : List ℕ) (old new : Option (List ℕ)) (count : ℕ) : Type 0 where
  pub file : List ℕ
  pub made : IsMade text file
  pub written : Appends old new file
  pub counted : count ≡ length file

-- when a text may be refused as a description
abbrev pub MayRefuseMake : List ℕ → MakeFault → Type 0
MayRefuseMake text (make.Input fault) = MayRefuseInput text fault
MayRefuseMake text (make.Line n fault) = RefusesDescription text (n, fault)
MayRefuseMake text (make.Write fault) = (k : Kept) × (described text ≡ Ok k) × Refuses (writable k.now) fault
MayRefuseMake text make.Unwritable = (file : List ℕ) × IsMade text file
