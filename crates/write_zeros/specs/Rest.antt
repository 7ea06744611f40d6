-- What is marked of a file, and what is zero of the rest.
use Rattle.std.specs.Prelude.{◌≡◌, ◌<◌, ◌*◌, List, ℕ, false, length, slice_index_or}
use Rattle.cfb_header.specs.Bytes.{mini_sector, sector}
use Rattle.cfb_entries.specs.Entries.{entry_at}
use Rattle.cfb_entries.specs.Written.{free_entry_bytes}
use Rattle.write_zeros.specs.Parts.{EndsInZeros}
use Rattle.write_zeros.specs.Taken.{AllIn, AreWithin}
use Rattle.write_zeros.specs.Zeroed.{AreZeros}
use Rattle.write_zeros.specs.declared.parts.Parts.{Parts}
use Rattle.write_zeros.specs.declared.zeroed.Marks.{Marks}

-- the sectors of the system's own parts stand in a list
pub record AreOwnIn (p : Parts) (taken : List ℕ) : Type 0 where
  pub fat : AllIn p.own.fat.items taken
  pub difat : AllIn p.own.difat.items taken
  pub directory : AllIn p.chains.directory.items taken
  pub mini_fat : AllIn p.chains.mini_fat.items taken
  pub mini_stream : AllIn p.chains.mini_stream.items taken

-- marks stand at what is taken alone
pub record AreMarks (m : Marks) (ids longs shorts : List ℕ) : Type 0 where
  pub entries : AreWithin m.ids.items ids
  pub sectors : AreWithin m.sectors.items longs
  pub minis : AreWithin m.minis.items shorts

-- what isn't marked is zero, and what lies behind the ends of streams
pub record IsRestZero (file : List ℕ) (p : Parts) (m : Marks) : Type 0 where
  pub sectors : (n : ℕ) → slice_index_or m.sectors.items n false ≡ false → AreZeros (sector file n)
  pub minis : (n : ℕ) → slice_index_or m.minis.items n false ≡ false → AreZeros (mini_sector p.shorts.items n)
  pub entries : (id : ℕ) → 128 * id < length p.chains.entries.items → slice_index_or m.ids.items id false ≡ false
      → entry_at p.chains.entries.items id ≡ free_entry_bytes
  pub ends : (id : ℕ) → 128 * id < length p.chains.entries.items
      → EndsInZeros file p (entry_at p.chains.entries.items id)
