-- Files in which nothing stands but what their trees take.
use Rattle.std.specs.Prelude.{◌≡◌, ◌<◌, ◌*◌, ℕ, List, ◌∷◌, ◌++◌, drop, length}
use Rattle.std.specs.List.{All, Contains}
use Rattle.cfb_header.specs.Bytes.{joined, mini_sector, sector}
use Rattle.cfb_chains.specs.Chain.{IsChainOf, Store}
use Rattle.cfb_entries.specs.Entries.{first_of, kind, size_of}
use Rattle.cfb_entries.specs.Written.{free_entry_bytes}
use Rattle.cfb_entries.specs.Tree.{Tree}
use Rattle.cfb_file.specs.Denotes.{Denotes, Layout, Used, directory_of, entry, store_for}

abbrev pub AreZeros : List ℕ → Type 0
AreZeros bytes = All (λ b. b ≡ 0) bytes

-- the sectors that the system's own parts and the streams take
abbrev pub taken_sectors : Layout → Used → List ℕ
taken_sectors l used = l.fat ++ l.difat ++ l.directory ++ l.mini_fat ++ l.mini_stream ++ used.sectors

-- the entries that links reach: the root's, and those of the tree
abbrev pub taken_ids : Used → List ℕ
taken_ids used = 0 ∷ used.ids

module _ (file : List ℕ) (l : Layout) where
  -- what lies behind the end of a stream of a size in the sectors that its chain has
  abbrev pub behind_end : ℕ → List ℕ → List ℕ
  behind_end size ns = drop size (joined (store_for file l size).piece ns)

  -- What no list takes is zero: whole sectors, those behind the FAT's entries too; mini sectors, those behind the mini
  -- FAT's entries too; what lies behind the end of a stream in its chain. An entry that no link reaches has zeros but
  -- for its three links, which lead to nobody: so a free entry is written.
  pub record IsZeroedBeside (used : Used) : Type 0 where
    pub sectors : (n : ℕ) → (Contains (taken_sectors l used) n → ⊥) → AreZeros (sector file n)
    pub minis : (n : ℕ) → (Contains used.minis n → ⊥) → AreZeros (mini_sector (joined (sector file) l.mini_stream) n)
    pub entries : (id : ℕ) → 128 * id < length (directory_of file l) → (Contains (taken_ids used) id → ⊥)
        → entry file l id ≡ free_entry_bytes
    pub ends : (id : ℕ) → Contains used.ids id → kind (entry file l id) ≡ 2 → (ns : List ℕ)
        → IsChainOf (store_for file l (size_of (entry file l id))) (first_of (entry file l id))
        (size_of (entry file l id)) ns
        → AreZeros (behind_end (size_of (entry file l id)) ns)

-- However a file denotes a tree, what that takes none of is zero. Aside are the header, the fields of a reached entry
-- that tell nothing of its kind, and the entries of the tables.
abbrev pub IsZeroed : List ℕ → Type 0
IsZeroed file = (t : Tree) (d : Denotes file t) → IsZeroedBeside file d.layout d.used
