-- Where an outline says that the streams of a file lie: where their entries say so (MS-CFB 2.6.3).
use Rattle.std.specs.Prelude.{◌≡◌, ◌↔◌, ℕ, List, [], ◌∷◌, Option, Result, map}
use Rattle.std.specs.List.{Contains}
use Rattle.std.specs.List.Sorted.{IsStrictlySortedBy}
use Rattle.cfb_names.specs.Names.{key, key_cmp}
use Rattle.cfb_entries.specs.Entries.{AreLinked, IsNamed, child, entry_at, first_of, kind, size_of}
use Rattle.cfb_entries.specs.Tree.{Tree}
use Rattle.tree_storage.specs.Change.{Seen, map_ok}
use Rattle.tree_storage.specs.declared.fault.TreeFault.{TreeFault}
use Rattle.cfb_file.specs.Denotes.{Denotes, directory_of}
use Rattle.cfb_file.specs.Outline.{outline_of, part_of}
use Rattle.cfb_faults.specs.Faults.{key_at}
use Rattle.read_outlines.specs.Streams.{stream_at}
use Rattle.read_outlines.specs.Keeping.{IsChildKeptOf, IsKeptOf, IsPartKeptOf, Wanted}
use Rattle.read_outlines.specs.View.{outline_view, part_view, shown, shown_part}
use Rattle.read_outlines.specs.declared.outline.Outline.{Outline}
use Rattle.read_outlines.specs.declared.outline.Part.{Part}
use Rattle.read_outlines.specs.declared.outline.Part.TheVariants.{Stream, Storage}
use Rattle.read_outlines.specs.declared.outline.Place.{Place}

-- the entries that the links of a storage reach, in the order of their names
pub record AreInOrder (dir : List ℕ) (id : ℕ) (ids : List ℕ) : Type 0 where
  pub reached : List ℕ
  pub linked : AreLinked dir (child (entry_at dir id)) reached
  pub same : (n : ℕ) → Contains reached n ↔ Contains ids n
  pub ordered : IsStrictlySortedBy key_cmp (map (key_at dir) ids)

mutual
  -- An outline tells of the storage of an entry: each of its parts is a child of it, in the order of their names.
  pub data IsTold (dir : List ℕ) : ℕ → Outline → Type 0 where
    storage : (id : ℕ) (o : Outline) (ids : List ℕ) → AreInOrder dir id ids → AreTold dir ids o.parts.items
        → IsTold dir id o

  -- parts tell of these entries, one of each, by their names
  pub data AreTold (dir : List ℕ) : List ℕ → List (List ℕ × Part) → Type 0 where
    none : AreTold dir [] []
    more : (id : ℕ) (ids name : List ℕ) (part : Part) (parts : List (List ℕ × Part))
        → IsNamed (entry_at dir id) name → IsPartTold dir id part → AreTold dir ids parts
        → AreTold dir (id ∷ ids) ((name, part) ∷ parts)

  -- a part tells of a stream the first sector and the size that its entry has, and else of a storage
  pub data IsPartTold (dir : List ℕ) : ℕ → Part → Type 0 where
    lies : (id : ℕ) (place : Place) → kind (entry_at dir id) ≡ 2 → place.first ≡ first_of (entry_at dir id)
        → place.size ≡ size_of (entry_at dir id)
        → IsPartTold dir id (Stream place)
    holds : (id : ℕ) (o : Outline) → kind (entry_at dir id) ≡ 1 → IsTold dir id o → IsPartTold dir id (Storage o)

-- The file denotes the tree, and an outline of the tree tells of each stream where its entry says that it lies.
pub record IsPlaced (file : List ℕ) (t : Tree) (o : Outline) : Type 0 where
  pub outlined : outline_view o ≡ outline_of t
  pub denotes : Denotes file t
  pub told : IsTold (directory_of file denotes.layout) 0 o

-- ---- what is kept of outlines: of each there is a whole one, which tells of all entries
module _ (dir : List ℕ) (content : Place → List ℕ) (w : Wanted) where
  -- of the storage of an entry: the tree that the whole one shows is one that was read, and its streams are as long as
  -- it says
  pub record IsStorageKept (id : ℕ) (IsRead : Tree → Type 0) (o : Outline) : Type 0 where
    pub whole : Outline
    pub is_read : IsRead (shown content whole)
    pub sized : outline_of (shown content whole) ≡ outline_view whole
    pub told : IsTold dir id whole
    pub is_kept : IsKeptOf w whole o

  -- of what an entry holds
  pub record IsPartKept (id : ℕ) (IsRead : Seen → Type 0) (part : Part) : Type 0 where
    pub whole : Part
    pub is_read : IsRead (shown_part content whole)
    pub sized : part_of (shown_part content whole) ≡ part_view whole
    pub told : IsPartTold dir id whole
    pub is_kept : IsPartKeptOf w whole part

  -- of an entry with its name, which may be left out where nothing is wanted of it
  pub record IsChildKept (id : ℕ) (IsRead : List ℕ → List ℕ → Seen → Type 0) (child : Option (List ℕ × Part)) : Type
      0 where
    pub name : List ℕ
    pub whole : Part
    pub is_read : IsRead (key name) name (shown_part content whole)
    pub sized : part_of (shown_part content whole) ≡ part_view whole
    pub told : IsPartTold dir id whole
    pub is_kept : IsChildKeptOf w name whole child

-- of a file
pub record IsFileKept (file : List ℕ) (content : Place → List ℕ) (w : Wanted) (o : Outline) : Type 0 where
  pub whole : Outline
  pub placed : IsPlaced file (shown content whole) whole
  pub is_kept : IsKeptOf w whole o

-- A path leads there, in a tree that the file denotes: whatever bytes lie at the places that the entries tell of, the
-- stream at the path is what lies at this place, or is missing for this fault.
pub record Leads (file : List ℕ) (path : List (List ℕ)) (there : Result Place TreeFault) : Type 0 where
  pub t : Tree
  pub whole : Outline
  pub placed : IsPlaced file t whole
  pub stands : (content : Place → List ℕ) → map_ok content there ≡ stream_at path (shown content whole)
