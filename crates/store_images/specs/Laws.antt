-- Laws between the store's limit and the files that the writer makes.
use Rattle.std.specs.Prelude.{◌≡◌, ◌≤◌, ℕ, List, length, Ok, Err}
use Rattle.cfb_entries.specs.Tree.{Tree, none, stream, tree}
use Rattle.cfb_entries.specs.Whole.{IsNamed}
use Rattle.cfb_file.specs.Denotes.{Denotes}
use Rattle.cfb_file.specs.Limits.{MOST_BYTES}
use Rattle.cfb_file.specs.Refusals.{writable}
use Rattle.cfb_file.specs.declared.fault.WriteFault.TheVariants.{TooBig}
use Rattle.write_files.specs.Laid.{IsLaidOut, file_of}
use Rattle.store_model.specs.declared.limit.TheConstants.{MAX_DOCUMENT}

-- What a store takes is what a file can have: its header, and a sector for each entry of the greatest FAT.
abbrev pub LimitIs : Type 0
LimitIs = MAX_DOCUMENT ≡ MOST_BYTES

-- No file that the writer lays out is longer than that. The premises are what the writer says of a file.
abbrev pub FilesAreTaken : Type 0
FilesAreTaken = (t : Tree) (file : List ℕ) → ∥ Denotes file t ∥₁ → IsLaidOut t file → writable t ≡ Ok tt
    → length file ≤ MAX_DOCUMENT

-- One stream's file is as long as that, and the next byte has no room.
pub record LimitIsMet : Type 0 where
  pub most : (class key name bytes : List ℕ) (state : ℕ)
      → length class ≡ 16 → IsNamed key name → length bytes ≡ 73147392
      → length (file_of (tree class state (stream key name bytes none))) ≡ MAX_DOCUMENT
  pub allowed : (class key name bytes : List ℕ) (state : ℕ) → length bytes ≡ 73147392
      → writable (tree class state (stream key name bytes none)) ≡ Ok tt
  pub refused : (class key name bytes : List ℕ) (state : ℕ) → length bytes ≡ 73147393
      → writable (tree class state (stream key name bytes none)) ≡ Err TooBig
