-- What the listing of a file answers, given the bytes of its source and its writer.
use Rattle.std.specs.Prelude.{◌≡◌, ◌≤◌, ℕ, List, Option, length}
use Rattle.std.specs.Io.KnownBytes.{Appends}
use Rattle.cfb_entries.specs.Tree.{Tree}
use Rattle.cfb_file.specs.Denotes.{Denotes}
use Rattle.cfb_file.specs.Outline.{outline_of}
use Rattle.read_outlines.specs.View.{outline_view}
use Rattle.read_outlines.specs.declared.outline.Outline.{Outline}
use Rattle.read_outlines.specs.Places.{IsPlaced}
use Rattle.tell_forms.specs.Lines.{listing}
use Rattle.tell_forms.specs.Listings.{told}
use Rattle.tell_forms.specs.declared.asked_listings.Listing.{Listing}
use Rattle.read_files.specs.Reads.{MayRefuseRead}
use Rattle.text_io.specs.Input.{MayRefuseInput, most}
use Rattle.tell_lists.specs.declared.fault.ListFault.{ListFault}
use Rattle.tell_lists.specs.declared.fault.ListFault.TheVariants as list

-- the listing in lines was written of the tree that the bytes denote, which aren't more than are taken
pub record Lists (file : List ℕ) (old new : Option (List ℕ)) : Type 0 where
  pub t : Tree
  pub denotes : ∥ Denotes file t ∥₁
  pub few : length file ≤ most
  pub written : Appends old new (listing t)

-- The listing that is asked for was written, of the outline of the tree that the bytes denote, which tells of each
-- stream where its entry says that it lies. The bytes aren't more than are taken.
pub record ListsAs (form : Listing) (file : List ℕ) (old new : Option (List ℕ)) : Type 0 where
  pub t : Tree
  pub o : Outline
  pub placed : ∥ IsPlaced file t o ∥₁
  pub outlined : outline_view o ≡ outline_of t
  pub few : length file ≤ most
  pub written : Appends old new (told form o)

-- the faults of a listing once the file is read
abbrev pub IsOfWriting : ListFault → Type 0
IsOfWriting (list.Input fault) = ⊥
IsOfWriting (list.Read fault) = ⊥
IsOfWriting list.Unwritable = Unit {0}
IsOfWriting list.NoMemory = Unit {0}

-- when a file may be refused a listing; what stands behind its reading can fail only where it denotes a tree
abbrev pub MayRefuseList : List ℕ → ListFault → Type 0
MayRefuseList file (list.Input fault) = MayRefuseInput file fault
MayRefuseList file (list.Read fault) = MayRefuseRead file fault
MayRefuseList file list.Unwritable = (t : Tree) × ∥ Denotes file t ∥₁
MayRefuseList file list.NoMemory = (t : Tree) × ∥ Denotes file t ∥₁
