-- What a compound file denotes (MS-CFB 2).
use Rattle.std.specs.Prelude.{◌≡◌, ◌↔◌, ◌*◌, ℕ, List, [], ◌∷◌, ◌++◌, map, take, if◌then◌else◌, nat_lt}
use Rattle.std.specs.List.{Contains}
use Rattle.std.specs.List.Sorted.{IsStrictlySortedBy}
use Rattle.cfb_header.specs.Bytes.{sector, joined}
use Rattle.cfb_chains.specs.Chain.{Store, IsChain, IsChainOf, AreDistinct}
use Rattle.cfb_header.specs.Header.{IsHeader, difat, header_of, listed, first_directory, first_mini_fat, mini_fat_count}
use Rattle.cfb_chains.specs.Fat.{IsFat, sectors_of, mini_sectors_of}
use Rattle.cfb_names.specs.Names.{key, key_cmp}
use Rattle.cfb_entries.specs.Entries.{entry_at, kind, child, class_of, state_of, first_of, size_of, name_of, IsNamed}
use Rattle.cfb_entries.specs.Entries.{AreLinked}
use Rattle.cfb_entries.specs.Tree.{Tree, Children, tree, none, stream, storage}
use Rattle.cfb_entries.specs.Whole.{IsTree}
use Rattle.cfb_file.specs.Limits.{CUTOFF}

-- Where the system's own parts of a file lie: the sectors of the FAT, of the DIFAT, of the directory, of the mini FAT
-- and of the mini stream.
pub record Layout : Type 0 where
  pub fat : List ℕ
  pub difat : List ℕ
  pub directory : List ℕ
  pub mini_fat : List ℕ
  pub mini_stream : List ℕ

unfoldable pub directory_of : List ℕ → Layout → List ℕ
directory_of file l = joined (sector file) l.directory

-- the root's entry, which is where the mini stream's start and size stand
abbrev pub root_of : List ℕ → Layout → List ℕ
root_of file l = entry_at (directory_of file l) 0

abbrev pub sectors : List ℕ → Layout → Store
sectors file l = sectors_of file l.fat

abbrev pub minis : List ℕ → Layout → Store
minis file l = mini_sectors_of file (take (mini_fat_count file) l.mini_fat) l.mini_stream (size_of (root_of file l))

pub record IsLaidOut (file : List ℕ) (l : Layout) : Type 0 where
  pub fat_listed : l.fat ≡ listed file
  pub difat_listed : l.difat ≡ difat file
  pub fat_sectors : IsFat file (header_of file)
  pub directory : IsChain (sectors file l) (first_directory file) 0 l.directory
  pub mini_fat : IsChainOf (sectors file l) (first_mini_fat file) (512 * mini_fat_count file) l.mini_fat
  pub mini_stream : IsChainOf (sectors file l) (first_of (root_of file l)) (size_of (root_of file l)) l.mini_stream

-- What a part of the tree takes: entries of the directory, sectors, mini sectors.
pub record Used : Type 0 where
  pub ids : List ℕ
  pub sectors : List ℕ
  pub minis : List ℕ

abbrev pub nothing : Used
nothing = record { ids = []; sectors = []; minis = [] }

abbrev pub both : Used → Used → Used
both u v = record { ids = u.ids ++ v.ids; sectors = u.sectors ++ v.sectors; minis = u.minis ++ v.minis }

-- an entry, and a stream's sectors: mini sectors below 4,096 bytes
abbrev pub taken : ℕ → ℕ → List ℕ → Used
taken id size ns = if nat_lt size CUTOFF then record { ids = id ∷ []; sectors = []; minis = ns }
    else record { ids = id ∷ []; sectors = ns; minis = [] }

abbrev pub within : ℕ → Used → Used
within id u = record { ids = id ∷ u.ids; sectors = u.sectors; minis = u.minis }

module _ (file : List ℕ) (l : Layout) where
  abbrev pub entry : ℕ → List ℕ
  entry id = entry_at (directory_of file l) id

  -- where a stream of a size lies
  abbrev pub store_for : ℕ → Store
  store_for size = if nat_lt size CUTOFF then minis file l else sectors file l

  -- the sectors and the bytes of a stream
  pub record HoldsBytes (id : ℕ) (ns : List ℕ) (bytes : List ℕ) : Type 0 where
    pub chain : IsChainOf (store_for (size_of (entry id))) (first_of (entry id)) (size_of (entry id)) ns
    pub content : bytes ≡ take (size_of (entry id)) (joined (store_for (size_of (entry id))).piece ns)

  -- The children of a storage, listed in name order: just what its links reach, each met once. The order is strict,
  -- so no two names are equal in upper case.
  pub record AreChildren (id : ℕ) (ids : List ℕ) : Type 0 where
    pub reached : List ℕ
    pub linked : AreLinked (directory_of file l) (child (entry id)) reached
    pub once : AreDistinct reached
    pub same : (n : ℕ) → Contains reached n ↔ Contains ids n
    pub ordered : IsStrictlySortedBy key_cmp (map (λ n. key (name_of (entry n))) ids)

  -- an entry's name, and the key of it
  pub record IsCalled (id : ℕ) (k name : List ℕ) : Type 0 where
    pub named : IsNamed (entry id) name
    pub under_key : k ≡ key name

  -- entry `id` holds the storage, and takes what is used
  abbrev mutual
    pub Holds : ℕ → Tree → Used → Type 0
    Holds id (tree class state cs) used = (class ≡ class_of (entry id)) × (state ≡ state_of (entry id))
        × ((ids : List ℕ) × AreChildren id ids × HoldsEach ids cs used)

    pub HoldsEach : List ℕ → Children → Used → Type 0
    HoldsEach [] none used = used ≡ nothing
    HoldsEach [] (stream k name bytes cs) used = ⊥
    HoldsEach [] (storage k name t cs) used = ⊥
    HoldsEach (id ∷ ids) none used = ⊥
    HoldsEach (id ∷ ids) (stream k name bytes cs) used = (kind (entry id) ≡ 2) × IsCalled id k name
        × ((ns : List ℕ) × (rest : Used) × HoldsBytes id ns bytes
        × (used ≡ both (taken id (size_of (entry id)) ns) rest) × HoldsEach ids cs rest)
    HoldsEach (id ∷ ids) (storage k name t cs) used = (kind (entry id) ≡ 1) × IsCalled id k name
        × ((inner : Used) × (rest : Used) × Holds id t inner × (used ≡ both (within id inner) rest)
        × HoldsEach ids cs rest)

-- The bytes denote the tree: no sector stands in two lists, no mini sector, no entry.
pub record Denotes (file : List ℕ) (t : Tree) : Type 0 where
  pub layout : Layout
  pub used : Used
  pub header : IsHeader file
  pub laid_out : IsLaidOut file layout
  pub root : kind (root_of file layout) ≡ 5
  pub holds : Holds file layout 0 t used
  pub sectors_apart : AreDistinct (layout.fat ++ layout.difat ++ layout.directory ++ layout.mini_fat
      ++ layout.mini_stream ++ used.sectors)
  pub minis_apart : AreDistinct used.minis
  pub ids_apart : AreDistinct (0 ∷ used.ids)
  pub is_tree : IsTree 32 t
