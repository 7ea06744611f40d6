-- Entries of a directory that are held in less memory than they take in a file (MS-CFB 2.6.1).
use Rattle.std.specs.Prelude.{ℕ, List, [], ◌∷◌, ◌≡◌, drop, take}
use Rattle.cfb_bytes.specs.Bytes.{block}
use Rattle.read_packed.specs.declared.packed.Short.{Short}
use Rattle.read_packed.specs.declared.packed.Slot.{Slot}
use Rattle.read_packed.specs.declared.packed.Slot.TheVariants.{Packed, Named, Whole}
use Rattle.read_packed.specs.Named.{laid_out, named_bytes}
pub use Rattle.read_packed.specs.Named.{unit}

-- the bytes of an entry of which most are zero
unfoldable pub spelled : Short → List ℕ
spelled s = laid_out s.name s.head s.place

-- the numbers of a list whose places are even, and those whose places are odd
abbrev pub evens : List ℕ → List ℕ
evens [] = []
evens (x ∷ []) = x ∷ []
evens (x ∷ y ∷ xs) = x ∷ evens xs

abbrev pub odds : List ℕ → List ℕ
odds [] = []
odds (x ∷ []) = []
odds (x ∷ y ∷ xs) = y ∷ odds xs

-- an entry that is made up of what is kept of one which is held in less memory
abbrev pub IsShort : List ℕ → Type 0
IsShort entry = laid_out (evens (take 64 entry)) (take 16 (drop 64 entry)) (take 7 (drop 116 entry)) ≡ entry

abbrev pub entry_of : Slot → List ℕ
entry_of (Packed s) = block 128 (spelled s) 0
entry_of (Named n) = named_bytes n
entry_of (Whole bytes) = block 128 bytes.items 0
