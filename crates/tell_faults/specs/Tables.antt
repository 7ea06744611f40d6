-- The tables by which chains are searched.
use Rattle.std.specs.Prelude.{◌≡◌, ◌<◌, ◌≤◌, ◌++◌, ℕ, List, length, slice_index}
use Rattle.cfb_chains.specs.Chain.{Store}
use Rattle.cfb_chains.specs.Fat.{AreSame, FatValue, IsFat, sectors_of, store_of}
use Rattle.cfb_header.specs.Header.{difat, header_of, listed}

-- A table has the numbers that the sectors of a store name.
pub record IsTabled (table : List ℕ) (s : Store) : Type 0 where
  pub count : s.count ≡ length table
  pub next : (n : ℕ) → n < length table → slice_index table n ≡ s.next n

-- The sectors of the FAT and of the DIFAT as a file lists them, and the FAT's entries, whether the FAT is sound or not.
pub record AreListsOf (file fat dif entries : List ℕ) : Type 0 where
  pub fat_is : fat ≡ listed file
  pub difat_is : dif ≡ difat file
  pub tabled : IsTabled entries (sectors_of file (listed file))
  pub few : length entries ≤ 0xFFFFFFF9

-- The FAT of a file, over its bytes; the sectors of the FAT and of the DIFAT; the FAT's entries.
pub record AreTablesOf (file : List ℕ) (fat : FatValue) (lists entries : List ℕ) : Type 0 where
  pub is_fat : IsFat file (header_of file)
  pub same : AreSame (store_of fat) (sectors_of file (listed file))
  pub lists_are : lists ≡ listed file ++ difat file
  pub tabled : IsTabled entries (sectors_of file (listed file))
  pub few : length entries ≤ 0xFFFFFFF9
