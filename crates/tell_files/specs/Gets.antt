-- What is written of a stream that was found where it lies.
use Rattle.std.specs.Prelude.{◌≡◌, ◌≤◌, ℕ, List, Option, Ok, length}
use Rattle.cfb_entries.specs.Tree.{Tree}
use Rattle.cfb_file.specs.Denotes.{Denotes}
use Rattle.read_outlines.specs.Streams.{stream_at}
use Rattle.tell_files.specs.declared.fault.GetFault.{GetFault}
use Rattle.tell_files.specs.declared.fault.GetFault.TheVariants as get
use Rattle.read_source.specs.declared.fault.PlacesFault.{PlacesFault}
use Rattle.read_source.specs.declared.fault.PlacesFault.TheVariants as places
use Rattle.read_files.specs.Reads.{chain_fault}
use Rattle.read_outlines.specs.declared.outline.Place.{Place}
use Rattle.read_streams.specs.Blocks.{Begins, held_at, held_in}
use Rattle.read_streams.specs.declared.blocks.Lies.{Lies}
use Rattle.read_streams.specs.declared.fault.CopyFault.{CopyFault}
use Rattle.read_streams.specs.declared.fault.CopyFault.TheVariants as copy
use Rattle.text_io.specs.Input.{most}
use Rattle.text_io.specs.declared.input.InputFault.TheVariants as input

-- a fault of a file of which only some blocks are read
abbrev pub of_places_fault : PlacesFault → GetFault
of_places_fault places.Unreadable = get.Input input.Unreadable
of_places_fault places.TooBig = get.Input input.TooBig
of_places_fault places.NoMemory = get.Input input.NoMemory
of_places_fault (places.Header fault) = get.Read (chain_fault fault)

-- a fault of a stream that is copied
abbrev pub of_copy_fault : CopyFault → GetFault
of_copy_fault copy.Unreadable = get.Input input.Unreadable
of_copy_fault copy.NoMemory = get.Input input.NoMemory
of_copy_fault copy.Unwritable = get.Unwritable

-- the stream at a path of the tree that the file denotes lies at a place
abbrev pub LiesAt : List ℕ → List (List ℕ) → Place → Type 0
LiesAt file path place = (t : Tree) × (d : Denotes file t) × (stream_at path t ≡ Ok (held_at file d.layout place))

-- the bytes that lie there are those of the stream at a path of the tree that the file denotes, which has no more
-- bytes than are taken
abbrev pub Stands : List ℕ → List (List ℕ) → Lies → Type 0
Stands file path lies =
    (t : Tree) × ∥ Denotes file t ∥₁ × (stream_at path t ≡ Ok (held_in file lies)) × (length file ≤ most)

-- some of the first bytes of that stream were written
pub record Begun (file : List ℕ) (path : List (List ℕ)) (old new : Option (List ℕ)) : Type 0 where
  pub t : Tree
  pub denotes : ∥ Denotes file t ∥₁
  pub content : List ℕ
  pub stands : stream_at path t ≡ Ok content
  pub begins : Begins old new content
