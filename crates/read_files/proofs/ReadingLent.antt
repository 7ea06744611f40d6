-- The stream of an entry that is lent, which is put behind what was read so far.
use Rattle.std.proofs.Common.{◌≡◌, ◌≢◌, ◌∙◌, ℕ, List, Option, Some, None, ap, length, refl, subst, sym, take}
use Rattle.cfb_header.specs.Bytes.{joined}
use Rattle.cfb_chains.specs.Fat.{IsFound, store_of}
use Rattle.cfb_names.specs.Names.{key}
use Rattle.cfb_entries.specs.Entries.{entry_at, first_of, kind, kind_number, size_of}
use Rattle.read_directories.specs.Streams.{IsStreamEntry}
use Rattle.read_directories.specs.declared.entries.StreamEntry.{StreamEntry}
use Rattle.cfb_entries.proofs.Reading.{named_of}
use Rattle.cfb_faults.specs.Faults.{Base}
use Rattle.read_outlines.specs.Keeping.{IsChildKeptOf, Wanted, below, nothing}
use Rattle.read_outlines.specs.View.{contents, table_for}
use Rattle.read_outlines.specs.declared.outline.Part.{Part}
use Rattle.read_outlines.specs.declared.outline.Part.TheVariants.{Stream}
use Rattle.read_outlines.specs.declared.outline.Place.{Place}
use Rattle.read_outlines.proofs.EntriesKept.{stream_kept}
use Rattle.read_files.specs.Marks.{IsNext}
use Rattle.read_files.specs.Reads.{IsChildNamed, IsChildOutlined, IsChildPushed, IsNodeRead, IsPartOutlined}
use Rattle.read_files.specs.Reads.{MayRefusePlace, MayRefuseStorage, directory_in, stream_after, with_child}
use Rattle.read_files.specs.declared.fault.ReadFault.{ReadFault}
use Rattle.read_files.specs.declared.read.Reader.{Reader}
use Rattle.read_files.proofs.ReadingRefused.{stream_below}
use Rattle.read_files.proofs.ReadingSteps.{stream_read}

-- where it says that it lies
abbrev pub place_of : StreamEntry → Place
place_of s = record { first = s.first; size = s.size }

module _ (id : ℕ) (s : StreamEntry) (old : Reader) (h : IsStreamEntry (directory_in old) id s) (ne : id ≢ 0) where
  is_stream : kind (entry_at (directory_in old) id) ≡ 2
  is_stream = sym h.said.kind_held ∙ ap kind_number h.kind

  begins : s.first ≡ first_of (entry_at (directory_in old) id)
  begins = h.first ∙ h.said.first

  long : s.size ≡ size_of (entry_at (directory_in old) id)
  long = h.size ∙ h.said.size

  named : IsChildNamed (directory_in old) id (key s.name.now) s.name.now
  named = subst (λ (x : List ℕ). IsChildNamed (directory_in old) id (key x) x) (sym h.name)
      (record {
        named = named_of id (entry_at (directory_in old) id) h.entry.name ne h.said.name;
        valid = h.valid;
        under_key = refl;
      })

  -- a fault of its sectors is one of what stands below the root
  pub lent_refused : (b : Base) (depth : ℕ) (pending : List ℕ) → IsNext b depth id pending old → (fault : ReadFault)
      → MayRefusePlace old s.first s.size fault
      → MayRefuseStorage b fault
  lent_refused b depth pending at fault m = stream_below b depth id pending old at s.first s.size fault ne is_stream
      begins long m

  module _ (new : Reader)
      (found : (ns : List ℕ) × IsFound (table_for s.size old.fat old.mini) s.first s.size ns
      × (contents old.fat old.mini (place_of s) ≡ take s.size
      (joined (store_of (table_for s.size old.fat old.mini)).piece ns)) × (new ≡ stream_after s.size ns old))
      (sized : length (contents old.fat old.mini (place_of s)) ≡ s.size) where
    part : (depth : ℕ) (w : Wanted) → IsPartOutlined depth id w (Stream (place_of s)) old new
    part depth w =
        stream_kept (directory_in old) (contents old.fat old.mini) w id (λ x. IsNodeRead depth id x old new)
        (place_of s) is_stream begins long sized
        (stream_read id s.first s.size (contents old.fat old.mini (place_of s)) old new is_stream begins long found)

    -- once its sectors are marked it is read, whatever is kept of it
    lent_outlined : {depth : ℕ} {v w : Wanted} (child : Option (List ℕ × Part))
        (p : IsPartOutlined depth id v (Stream (place_of s)) old new)
        → IsChildKeptOf w s.name.now p.whole child → IsChildOutlined depth id w child old new
    lent_outlined child p keeps = record {
      name = s.name.now;
      whole = p.whole;
      is_read = record { named = named; is_read = p.is_read };
      sized = p.sized;
      told = p.told;
      is_kept = keeps;
    }

    pub lent_left : (depth : ℕ) (w : Wanted) (parts : List (List ℕ × Part)) → below s.name.now w ≡ nothing
        → IsChildPushed depth id w parts parts old new
    lent_left depth w parts none = record {
      child = None;
      outlined = lent_outlined None (part depth w) none;
      pushed = refl;
    }

    pub lent_pushed : (depth : ℕ) (w : Wanted) (name : List ℕ) (parts now : List (List ℕ × Part)) → name ≡ s.name.now
        → now ≡ with_child parts (Some (name, Stream (place_of s))) → IsChildPushed depth id w parts now old new
    lent_pushed depth w name parts now copied is =
        let p : IsPartOutlined depth id (below s.name.now w) (Stream (place_of s)) old new =
        part depth (below s.name.now w) in
        record {
          child = Some (name, Stream (place_of s));
          outlined = lent_outlined (Some (name, Stream (place_of s))) p (copied, p.is_kept);
          pushed = is;
        }
