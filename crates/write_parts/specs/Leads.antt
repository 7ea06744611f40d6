-- Where the entries of a directory lead, as the writer keeps it until they are sent.
use Rattle.std.specs.Prelude.{◌≡◌, ◌+◌, ◌++◌, ◌∷◌, [], ℕ, List, length, min, replicate, slice_index, slice_index_or}
use Rattle.cfb_entries.specs.Entries.{NO_STREAM}
use Rattle.cfb_entries.specs.Written.{entry_bytes}
use Rattle.cfb_entries.specs.declared.entries.EntryFields.{EntryFields}
use Rattle.cfb_entries.specs.declared.entries.EntryKind.TheVariants as kinds
use Rattle.cfb_entries.specs.Tree.{Tree, Children, tree, none, stream, storage}
use Rattle.cfb_entries.specs.Seen.{Seen, bytes, inner}
use Rattle.cfb_file.specs.Need.{entries, mini_sectors, long_sectors, short_pieces, long_pieces}
use Rattle.cfb_layout.specs.Directory.{IsSpelled, balanced, child_of, class_in, first_of_stream, ids_from, linked}
use Rattle.cfb_layout.specs.Directory.{long_start, root_says, state_in}
use Rattle.write_parts.specs.declared.leads.Directory.{Directory}
use Rattle.write_parts.specs.declared.leads.Lead.{Lead}

-- where the entry of the stream at a place among siblings leads, and that of the storage there, which is this one
abbrev pub stream_leads : List ℕ → ℕ → ℕ → ℕ → ℕ → Lead
stream_leads ids place mini sector size = record {
  left = linked ids (slice_index (balanced (length ids)).left place);
  right = linked ids (slice_index (balanced (length ids)).right place);
  down = first_of_stream mini sector size;
}

abbrev pub storage_leads : List ℕ → ℕ → ℕ → Tree → Lead
storage_leads ids place id t = record {
  left = linked ids (slice_index (balanced (length ids)).left place);
  right = linked ids (slice_index (balanced (length ids)).right place);
  down = child_of balanced id t;
}

-- where the entries below a storage that has this one lead, and those of siblings from a place on
abbrev mutual
  pub leads_below : ℕ → ℕ → ℕ → Tree → List Lead
  leads_below id mini sector (tree class state cs) = each_lead (ids_from (id + 1) cs) 0 (id + 1) mini sector cs

  pub each_lead : List ℕ → ℕ → ℕ → ℕ → ℕ → Children → List Lead
  each_lead ids place id mini sector none = []
  each_lead ids place id mini sector (stream k n b cs) =
      stream_leads ids place mini sector (length b) ∷ each_lead ids (place + 1) (id + 1) (mini + short_pieces b)
      (sector + long_pieces b) cs
  each_lead ids place id mini sector (storage k n t cs) =
      storage_leads ids place id t
      ∷ (leads_below id mini sector t ++ each_lead ids (place + 1) (id + 1 + entries t) (mini + mini_sectors t)
      (sector + long_sectors t) cs)

-- what the entry of a stream of so many bytes says that leads there, and that of a storage
abbrev pub stream_led : Lead → ℕ → EntryFields
stream_led lead size = record {
  kind = kinds.Stream;
  left = lead.left;
  right = lead.right;
  child = NO_STREAM;
  class = replicate 16 0;
  state = 0;
  first = lead.down;
  size = min size 4294967295;
}

abbrev pub storage_led : Lead → Tree → EntryFields
storage_led lead t = record {
  kind = kinds.Storage;
  left = lead.left;
  right = lead.right;
  child = lead.down;
  class = class_in t;
  state = state_in t;
  first = 0;
  size = 0;
}

-- the lead at a place, and one to nobody past the end
abbrev pub lead_in : List Lead → ℕ → Lead
lead_in leads at = slice_index_or leads at (record { left = NO_STREAM; right = NO_STREAM; down = NO_STREAM })

-- the entries below a storage, whose leads stand from a place on, and those of siblings
abbrev mutual
  pub led_below : List Lead → ℕ → Tree → List ℕ
  led_below leads at (tree class state cs) = each_led leads at cs

  pub each_led : List Lead → ℕ → Children → List ℕ
  each_led leads at none = []
  each_led leads at (stream k n b cs) = entry_bytes n (stream_led (lead_in leads at) (length b))
      ++ each_led leads (at + 1) cs
  each_led leads at (storage k n t cs) =
      entry_bytes n (storage_led (lead_in leads at) t)
      ++ (led_below leads (at + 1) t ++ each_led leads (at + 1 + entries t) cs)

-- the entry of a child, and those below it
abbrev pub child_led : List Lead → ℕ → List ℕ → Seen → List ℕ
child_led leads at name (bytes b) = entry_bytes name (stream_led (lead_in leads at) (length b))
child_led leads at name (inner t) = entry_bytes name (storage_led (lead_in leads at) t) ++ led_below leads (at + 1) t

-- what the root's entry says and where the others lead, in the directory of a tree behind f FAT sectors
pub record IsDirectory (d : Directory) (f : ℕ) (t : Tree) : Type 0 where
  pub root : d.root ≡ root_says balanced f t
  pub leads : d.leads.items ≡ leads_below 0 0 (long_start f t) t
  pub spelled : IsSpelled t
