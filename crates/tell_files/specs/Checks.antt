-- What a check of a file writes: that it is sound, or what is wrong with it and where.
use Rattle.std.specs.Prelude.{◌≡◌, ◌≢◌, ◌⊎◌, ◌≤◌, ℕ, List, Option, IfSome, length}
use Rattle.std.specs.Io.KnownBytes.{Appends}
use Rattle.cfb_entries.specs.Tree.{Tree}
use Rattle.cfb_file.specs.Denotes.{Denotes}
use Rattle.read_files.specs.Reads.{MayRefuseRead}
use Rattle.read_files.specs.declared.fault.ReadFault.{ReadFault}
use Rattle.read_files.specs.declared.fault.ReadFault.TheVariants as read
use Rattle.text_io.specs.Input.{MayRefuseInput, most}
use Rattle.tell_checks.specs.Json.{sound_text, told_text}
use Rattle.tell_checks.specs.Spots.{IsHeaderTold, IsPlaceTold, IsSpotOf}
use Rattle.tell_checks.specs.declared.spot.Spot.{Spot}
use Rattle.tell_checks.specs.declared.telling.Form.{Form}
use Rattle.tell_lists.specs.declared.fault.ListFault.{ListFault}
use Rattle.tell_lists.specs.declared.fault.ListFault.TheVariants as list

-- ---- what is told
-- the bytes, no more than are taken, denote a tree
abbrev pub IsTaken : List ℕ → Type 0
IsTaken file = (t : Tree) × ∥ Denotes file t ∥₁ × (length file ≤ most)

-- the bytes, no more than are taken, denote a tree, and that was written
pub record IsSound (file : List ℕ) (form : Form) (old new : Option (List ℕ)) : Type 0 where
  pub t : Tree
  pub denotes : ∥ Denotes file t ∥₁
  pub few : length file ≤ most
  pub written : Appends old new (sound_text form)

-- The text of a fault was written. Where it tells a place, the file has the fault there. Of a fault of the header it
-- tells one, and of each other place that is promised.
pub record TellsFault (file : List ℕ) (form : Form) (fault : ReadFault) (old new : Option (List ℕ)) : Type 0 where
  pub at : Option Spot
  pub is_there : IfSome at (IsSpotOf file fault)
  pub header : IsHeaderTold file fault at
  pub placed : IsPlaceTold file fault at
  pub written : Appends old new (told_text form fault at)

-- what was written where a text isn't: nothing for want of memory
abbrev pub IsUnwritten : ListFault → Option (List ℕ) → Option (List ℕ) → Type 0
IsUnwritten list.Unwritable old new = Unit {0}
IsUnwritten list.NoMemory old new = new ≡ old
IsUnwritten (list.Input fault) old new = ⊥
IsUnwritten (list.Read fault) old new = ⊥

-- what was written where a check gives a fault
abbrev pub Tells : List ℕ → Form → ListFault → Option (List ℕ) → Option (List ℕ) → Type 0
Tells file form (list.Input fault) old new = new ≡ old
Tells file form (list.Read read.NoMemory) old new = new ≡ old
Tells file form (list.Read fault) old new = TellsFault file form fault old new
Tells file form list.Unwritable old new = Unit {0}
Tells file form list.NoMemory old new = new ≡ old

-- what a file is found to be: it denotes a tree, or is refused for a fault of its own
abbrev pub IsJudged : List ℕ → Type 0
IsJudged file = ((t : Tree) × ∥ Denotes file t ∥₁)
    ⊎ ((fault : ReadFault) × (fault ≢ read.NoMemory) × MayRefuseRead file fault)

-- when a check may give a fault; what stands behind its reading can fail only where the file was judged
abbrev pub MayRefuseCheck : List ℕ → ListFault → Type 0
MayRefuseCheck file (list.Input fault) = MayRefuseInput file fault
MayRefuseCheck file (list.Read fault) = MayRefuseRead file fault
MayRefuseCheck file list.Unwritable = IsJudged file
MayRefuseCheck file list.NoMemory = IsJudged file
