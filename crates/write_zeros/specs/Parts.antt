-- The parts of a file, as they are read.
use Rattle.std.specs.Prelude.{◌≡◌, ◌<◌, ◌≤◌, List, ℕ, drop, length, slice_index, take}
use Rattle.cfb_header.specs.Bytes.{joined, mini_sector, sector}
use Rattle.std.specs.List.{All}
use Rattle.cfb_header.specs.Header.{HeaderValue, mini_fat_count}
use Rattle.cfb_chains.specs.Chain.{END_OF_CHAIN, Leads}
use Rattle.cfb_entries.specs.Entries.{entry_at, first_of, kind, size_of}
use Rattle.cfb_file.specs.Denotes.{Layout, directory_of}
use Rattle.cfb_file.specs.Limits.{CUTOFF}
use Rattle.write_zeros.specs.Taken.{IsLinked, IsTableIn, IsTaken}
use Rattle.write_zeros.specs.Zeroed.{AreZeros}
use Rattle.write_zeros.specs.declared.parts.Chains.{Chains}
use Rattle.write_zeros.specs.declared.parts.Parts.{Parts}

-- the chains of the system's own parts, and the bytes of the directory
pub record AreChainsOf (file : List ℕ) (l : Layout) (c : Chains) : Type 0 where
  pub directory : c.directory.items ≡ l.directory
  pub entries : c.entries.items ≡ directory_of file l
  pub mini_fat : c.mini_fat.items ≡ l.mini_fat
  pub mini_stream : c.mini_stream.items ≡ l.mini_stream

-- all parts
pub record ArePartsOf (file : List ℕ) (l : Layout) (p : Parts) : Type 0 where
  pub fat : p.own.fat.items ≡ l.fat
  pub difat : p.own.difat.items ≡ l.difat
  pub next : IsTableIn file l.fat p.next.items
  pub chains : AreChainsOf file l p.chains
  pub next_mini : IsTableIn file (take (mini_fat_count file) l.mini_fat) p.next_mini.items
  pub shorts : p.shorts.items ≡ joined (sector file) l.mini_stream

-- What is read of the chains of a file's own parts, once its FAT was.
pub record AreFollowed (file next : List ℕ) (h : HeaderValue) (c : Chains) : Type 0 where
  pub directory : (ns : List ℕ) → length next ≤ END_OF_CHAIN
      → Leads (slice_index next) h.first_directory ns END_OF_CHAIN → All (λ n. n < length next) ns
      → c.directory.items ≡ ns
  pub entries : c.entries.items ≡ joined (sector file) c.directory.items
  pub mini_fat : (ns : List ℕ) → length next ≤ END_OF_CHAIN → IsLinked next h.first_mini_fat h.mini_fat_count ns
      → c.mini_fat.items ≡ ns
  pub first : ℕ
  pub size : ℕ
  pub first_is : 128 ≤ length c.entries.items → first ≡ first_of (entry_at c.entries.items 0)
  pub size_is : 128 ≤ length c.entries.items → size ≡ size_of (entry_at c.entries.items 0)
  pub mini_stream : (ns : List ℕ) → length next ≤ END_OF_CHAIN → IsLinked next first size ns → c.mini_stream.items ≡ ns

-- lists take what the entries of these parts lead to
abbrev pub AreTaken : Parts → List ℕ → List ℕ → List ℕ → Type 0
AreTaken p ids sectors minis = IsTaken p.chains.entries.items p.next.items p.next_mini.items ids sectors minis

-- what lies behind the end of an entry's stream, in its mini sectors or its sectors, is zero
pub record EndsInZeros (file : List ℕ) (p : Parts) (entry : List ℕ) : Type 0 where
  pub short : kind entry ≡ 2 → size_of entry < CUTOFF → (ns : List ℕ)
      → IsLinked p.next_mini.items (first_of entry) (size_of entry) ns
      → AreZeros (drop (size_of entry) (joined (mini_sector p.shorts.items) ns))
  pub long : kind entry ≡ 2 → CUTOFF ≤ size_of entry → (ns : List ℕ)
      → IsLinked p.next.items (first_of entry) (size_of entry) ns
      → AreZeros (drop (size_of entry) (joined (sector file) ns))
