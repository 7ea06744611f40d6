-- The entries of siblings as the writer keeps them.
use Rattle.std.specs.Prelude.{◌≡◌, ◌<◌, ◌+◌, ℕ, length, if◌then◌else◌, nat_lt}
use Rattle.cfb_entries.specs.SearchTree.{IsSearchTree}
use Rattle.cfb_entries.specs.Tree.{Children}
use Rattle.tree_storage.specs.Child.{Seen}
use Rattle.cfb_file.specs.Limits.{CUTOFF}
use Rattle.cfb_file.specs.Need.{entries_of, over_streams_of, short_pieces, long_pieces, pieces}
use Rattle.write_parts.specs.Streams.{minis_with, sectors_with}
use Rattle.cfb_layout.specs.Directory.{entries_with, ids_from}
use Rattle.write_files.specs.declared.entries.Siblings.{Siblings}
use Rattle.write_files.specs.declared.entries.Cursor.{Cursor}

-- links of as many siblings as there are
pub record IsJoined (siblings : Siblings) : Type 0 where
  pub search : IsSearchTree siblings.links.left.items siblings.links.right.items 0 (length siblings.ids.items)
      siblings.links.top
  pub lefts : length siblings.links.left.items ≡ length siblings.ids.items
  pub rights : length siblings.links.right.items ≡ length siblings.ids.items

-- the ids of siblings, of which the first has this one, and their links
pub record AreSiblings (siblings : Siblings) (first : ℕ) (cs : Children) : Type 0 where
  pub ids : siblings.ids.items ≡ ids_from first cs
  pub joined : IsJoined siblings

-- where the next entry, mini sector and sector stand behind a child
abbrev pub past : Cursor → Seen → Cursor
past at s = record { id = at.id + entries_with s; mini = at.mini + minis_with s; sector = at.sector + sectors_with s }

-- behind a stream of so many bytes
abbrev pub past_stream : Cursor → ℕ → Cursor
past_stream at size = record {
  id = at.id + 1;
  mini = at.mini + (if nat_lt size CUTOFF then pieces 64 size else 0);
  sector = at.sector + (if nat_lt size CUTOFF then 0 else pieces 512 size);
}

-- and behind siblings
abbrev pub past_all : Cursor → Children → Cursor
past_all at cs = record {
  id = at.id + entries_of cs;
  mini = at.mini + over_streams_of short_pieces cs;
  sector = at.sector + over_streams_of long_pieces cs;
}

-- all of them are below a bound
pub record IsBelow (at : Cursor) (bound : ℕ) : Type 0 where
  pub id : at.id < bound
  pub mini : at.mini < bound
  pub sector : at.sector < bound
