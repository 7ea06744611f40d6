-- How the directory of a tree is written: entries stand depth first, siblings in name order (MS-CFB 2.6).
use Rattle.std.specs.Prelude.{◌≡◌, ◌⊎◌, ◌<◌, ◌≤◌, ◌+◌, ◌-◌, ◌*◌, ◌^◌, ℕ, List, [], ◌∷◌, ◌++◌, length, replicate}
use Rattle.std.specs.Prelude.{slice_index, if◌then◌else◌, cond, nat_lt, zero, suc}
use Rattle.std.specs.List.{concat}
use Rattle.cfb_entries.specs.Entries.{NO_STREAM, root_name}
use Rattle.cfb_entries.specs.SearchTree.{link_to, middle, IsSearchTree}
use Rattle.cfb_entries.specs.Written.{entry_bytes, free_entry_bytes}
use Rattle.cfb_entries.specs.declared.entries.EntryFields.{EntryFields}
use Rattle.cfb_entries.specs.declared.entries.EntryKind.TheVariants as kinds
use Rattle.cfb_entries.specs.Tree.{Tree, Children, tree, none, stream, storage}
use Rattle.cfb_entries.specs.Seen.{Seen, bytes, inner}
use Rattle.cfb_entries.specs.Whole.{IsTree}
use Rattle.cfb_file.specs.Need.{pieces, entries, mini_sectors, long_sectors, short_pieces, long_pieces}
use Rattle.cfb_file.specs.Need.{directory_sectors, mini_fat_sectors, mini_stream_sectors, data_sectors}
use Rattle.cfb_file.specs.Limits.{CUTOFF, MOST_FAT_SECTORS}
use Rattle.cfb_layout.specs.Image.{Parts, behind_fat, start, padded, pieces_of, whole_pieces, image}
use Rattle.cfb_layout.specs.Placed.{IsPlaced, ArePlaced}
use Rattle.cfb_file.specs.Denotes.{Layout, Denotes}

-- The links of so many siblings, by their places: the one on top, and those to the left and right of each.
pub record Siblings : Type 0 where
  pub top : ℕ
  pub left : List ℕ
  pub right : List ℕ

abbrev pub AreBalanced : (ℕ → Siblings) → Type 0
AreBalanced links = (n : ℕ) → IsSearchTree (links n).left (links n).right 0 n (links n).top

-- the place on top of those from `lo` up to `hi`, or nobody's
abbrev pub top_between : ℕ → ℕ → ℕ
top_between lo hi = cond (nat_lt lo hi) (middle lo hi) NO_STREAM

-- the links to the left and to the right of the places from `lo` up to `hi`, in as many halvings as are enough
abbrev pub lefts : ℕ → ℕ → ℕ → List ℕ
lefts zero lo hi = []
lefts (suc depth) lo hi = cond (nat_lt lo hi) (lefts depth lo (middle lo hi) ++ top_between lo (middle lo hi)
    ∷ lefts depth (middle lo hi + 1) hi) []

abbrev pub rights : ℕ → ℕ → ℕ → List ℕ
rights zero lo hi = []
rights (suc depth) lo hi = cond (nat_lt lo hi) (rights depth lo (middle lo hi) ++ top_between (middle lo hi + 1) hi
    ∷ rights depth (middle lo hi + 1) hi) []

-- the balanced links of so many siblings
abbrev pub balanced : ℕ → Siblings
balanced n = record { top = top_between 0 n; left = lefts n 0 n; right = rights n 0 n }

-- the entries of siblings, of which the first has this one; those below a storage stand between it and the next
abbrev pub ids_from : ℕ → Children → List ℕ
ids_from id none = []
ids_from id (stream k n b cs) = id ∷ ids_from (id + 1) cs
ids_from id (storage k n t cs) = id ∷ ids_from (id + 1 + entries t) cs

-- the entries of a child, with its own
abbrev pub entries_with : Seen → ℕ
entries_with (bytes b) = 1
entries_with (inner t) = 1 + entries t

-- a link to one of so many siblings, or to nobody
abbrev pub IsLink : ℕ → ℕ → Type 0
IsLink count place = (place ≡ NO_STREAM) ⊎ (place < count)

-- the entry that a link to one of these siblings names
abbrev pub linked : List ℕ → ℕ → ℕ
linked ids place = link_to (slice_index ids) place

-- where a stream starts: in the mini stream or, from 4,096 bytes on, in sectors of its own
abbrev pub first_of_stream : ℕ → ℕ → ℕ → ℕ
first_of_stream mini sector size = if nat_lt size CUTOFF then start mini (pieces 64 size)
    else start sector (pieces 512 size)

-- the first sector behind the FAT, the DIFAT, the directory, the mini FAT and the mini stream
abbrev pub long_start : ℕ → Tree → ℕ
long_start f t = behind_fat f + directory_sectors t + mini_fat_sectors t + mini_stream_sectors t

abbrev pub children_in : Tree → Children
children_in (tree class state cs) = cs

abbrev pub class_in : Tree → List ℕ
class_in (tree class state cs) = class

abbrev pub state_in : Tree → ℕ
state_in (tree class state cs) = state

-- the entry on top of what is below a storage that has this one
abbrev pub child_of : (ℕ → Siblings) → ℕ → Tree → ℕ
child_of links id t = linked (ids_from (id + 1) (children_in t))
    (links (length (ids_from (id + 1) (children_in t)))).top

module _ (links : ℕ → Siblings) where
  -- the entry of the stream at a place among siblings
  abbrev pub stream_says : List ℕ → ℕ → ℕ → ℕ → ℕ → EntryFields
  stream_says ids place mini sector size = record {
    kind = kinds.Stream;
    left = linked ids (slice_index (links (length ids)).left place);
    right = linked ids (slice_index (links (length ids)).right place);
    child = NO_STREAM;
    class = replicate 16 0;
    state = 0;
    first = first_of_stream mini sector size;
    size = size;
  }

  -- the entry of the storage at a place among siblings, which is this one
  abbrev pub storage_says : List ℕ → ℕ → ℕ → Tree → EntryFields
  storage_says ids place id t = record {
    kind = kinds.Storage;
    left = linked ids (slice_index (links (length ids)).left place);
    right = linked ids (slice_index (links (length ids)).right place);
    child = child_of links id t;
    class = class_in t;
    state = state_in t;
    first = 0;
    size = 0;
  }

  -- the entries below a storage that has this one, and those of siblings from a place on, where the next entry, mini
  -- sector and sector are these
  abbrev mutual
    pub entries_below : ℕ → ℕ → ℕ → Tree → List ℕ
    entries_below id mini sector (tree class state cs) = each_entry (ids_from (id + 1) cs) 0 (id + 1) mini sector cs

    pub each_entry : List ℕ → ℕ → ℕ → ℕ → ℕ → Children → List ℕ
    each_entry ids place id mini sector none = []
    each_entry ids place id mini sector (stream k n b cs) =
        entry_bytes n (stream_says ids place mini sector (length b))
        ++ each_entry ids (place + 1) (id + 1) (mini + short_pieces b) (sector + long_pieces b) cs
    each_entry ids place id mini sector (storage k n t cs) =
        entry_bytes n (storage_says ids place id t)
        ++ (entries_below id mini sector t
        ++ each_entry ids (place + 1) (id + 1 + entries t) (mini + mini_sectors t) (sector + long_sectors t) cs)

  -- the root's entry, with f FAT sectors in front of the directory
  abbrev pub root_says : ℕ → Tree → EntryFields
  root_says f t = record {
    kind = kinds.Root;
    left = NO_STREAM;
    right = NO_STREAM;
    child = child_of links 0 t;
    class = class_in t;
    state = state_in t;
    first = start (behind_fat f + directory_sectors t + mini_fat_sectors t) (mini_stream_sectors t);
    size = 64 * mini_sectors t;
  }

  -- the root, what is below it, and free entries up to a whole sector
  abbrev pub directory_of_tree : ℕ → Tree → List ℕ
  directory_of_tree f t = entry_bytes root_name (root_says f t)
      ++ (entries_below 0 0 (long_start f t) t ++ concat
      (replicate (4 * directory_sectors t - (1 + entries t)) free_entry_bytes))

-- the streams of a tree that lie in the mini stream, in the order of their entries, and the other ones
abbrev mutual
  pub short_streams : Tree → List (List ℕ)
  short_streams (tree class state cs) = short_streams_of cs

  pub short_streams_of : Children → List (List ℕ)
  short_streams_of none = []
  short_streams_of (stream k n b cs) = if nat_lt (length b) CUTOFF then b ∷ short_streams_of cs else short_streams_of cs
  short_streams_of (storage k n t cs) = short_streams t ++ short_streams_of cs

abbrev mutual
  pub long_streams : Tree → List (List ℕ)
  long_streams (tree class state cs) = long_streams_of cs

  pub long_streams_of : Children → List (List ℕ)
  long_streams_of none = []
  long_streams_of (stream k n b cs) = if nat_lt (length b) CUTOFF then long_streams_of cs else b ∷ long_streams_of cs
  long_streams_of (storage k n t cs) = long_streams t ++ long_streams_of cs

-- the parts of a file that holds a tree
abbrev pub parts_of : (ℕ → Siblings) → ℕ → Tree → Parts
parts_of links f t = record {
  directory = directory_of_tree links f t;
  directory_count = directory_sectors t;
  minis = pieces_of 64 (short_streams t);
  mini_fat_count = mini_fat_sectors t;
  mini_stream = padded 512 (whole_pieces 64 (short_streams t));
  mini_stream_count = mini_stream_sectors t;
  longs = long_streams t;
}

-- class ids of 16 bytes, numbers of four
abbrev mutual
  pub IsSpelled : Tree → Type 0
  IsSpelled (tree class state cs) = (length class ≡ 16) × (state < 2 ^ 32) × AreSpelled cs

  pub AreSpelled : Children → Type 0
  AreSpelled none = Unit {0}
  AreSpelled (stream k n b cs) = (length b < 2 ^ 32) × AreSpelled cs
  AreSpelled (storage k n t cs) = IsSpelled t × AreSpelled cs

-- a whole tree that f FAT sectors cover
pub record IsCovered (f : ℕ) (t : Tree) : Type 0 where
  pub whole : IsTree 32 t
  pub spelled : IsSpelled t
  pub few : f ≤ MOST_FAT_SECTORS
  pub covered : behind_fat f + data_sectors t ≤ 128 * f

-- a file in which all parts of a tree lie denotes the tree
abbrev pub PlacedDenotes : Type 0
PlacedDenotes = (links : ℕ → Siblings) (f : ℕ) (t : Tree) (file : List ℕ) (l : Layout) → AreBalanced links
    → IsCovered f t
    → IsPlaced file (parts_of links f t) l → ArePlaced file l (long_start f t) (long_streams t) → Denotes file t

-- a file laid out of the parts of a tree denotes the tree
abbrev pub ImageDenotes : Type 0
ImageDenotes = (f : ℕ) (t : Tree) → IsCovered f t → Denotes (image f (parts_of balanced f t)) t
