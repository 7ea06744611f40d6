-- What the entry of a stream says, where it is lent as it is held.
use Rattle.std.specs.Prelude.{◌≡◌, ℕ, List}
use Rattle.cfb_names.specs.Names.{IsName}
use Rattle.cfb_entries.specs.Entries.{IsEntry}
use Rattle.cfb_entries.specs.declared.entries.Entry.{Entry}
use Rattle.cfb_entries.specs.declared.entries.EntryKind.TheVariants.{Stream}
use Rattle.read_directories.specs.declared.entries.StreamEntry.{StreamEntry}

-- an entry says that it is one of a stream, of this name, which lies there
pub record IsStreamEntry (directory : List ℕ) (id : ℕ) (s : StreamEntry) : Type 0 where
  pub entry : Entry
  pub said : IsEntry directory id entry
  pub valid : IsName entry.name
  pub kind : entry.kind ≡ Stream
  pub name : s.name.now ≡ entry.name
  pub first : s.first ≡ entry.first
  pub size : s.size ≡ entry.size
