-- What is written of the file of a tree.
use Rattle.std.specs.Prelude.{◌≡◌, ℕ, List, Option, Ok, length}
use Rattle.std.specs.Io.KnownBytes.{Appends}
use Rattle.cfb_entries.specs.Tree.{Tree}
use Rattle.cfb_entries.specs.Whole.{IsTree}
use Rattle.cfb_file.specs.Denotes.{Denotes}
use Rattle.cfb_file.specs.Refusals.{Refuses, writable}
use Rattle.write_files.specs.Laid.{IsLaidOut}
use Rattle.write_files.specs.declared.sending.SendFault.{SendFault}
use Rattle.write_files.specs.declared.sending.SendFault.TheVariants as send

-- the file of a tree was written, of so many bytes; it denotes the tree where that is whole
pub record WritesFile (t : Tree) (old new : Option (List ℕ)) (count : ℕ) : Type 0 where
  pub fits : writable t ≡ Ok tt
  pub file : List ℕ
  pub denotes : ∥ IsTree 32 t ∥₁ → ∥ Denotes file t ∥₁
  pub laid_out : IsLaidOut t file
  pub written : Appends old new file
  pub counted : count ≡ length file

-- when the file of a tree may not be written
abbrev pub MayRefuseSend : Tree → SendFault → Type 0
MayRefuseSend t (send.Write fault) = Refuses (writable t) fault
MayRefuseSend t send.Unwritable = writable t ≡ Ok tt
