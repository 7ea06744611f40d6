-- The bytes of a stream, where it lies.
use Rattle.std.specs.Prelude.{◌+◌, ◌/◌, ℕ, List, Option, if◌then◌else◌, map, nat_lt, take}
use Rattle.std.specs.Io.KnownBytes.{Appends}
use Rattle.cfb_bytes.specs.Bytes.{block}
use Rattle.cfb_chains.specs.Fat.{followed}
use Rattle.cfb_header.specs.Bytes.{joined, sector}
use Rattle.cfb_entries.specs.Entries.{size_of}
use Rattle.cfb_file.specs.Denotes.{Layout, minis, root_of, sectors}
use Rattle.cfb_file.specs.Limits.{CUTOFF}
use Rattle.read_outlines.specs.declared.outline.Place.{Place}
use Rattle.read_streams.specs.Chains.{begins_at, table_of, walked}
use Rattle.read_streams.specs.declared.blocks.Blocks.{Blocks}
use Rattle.read_streams.specs.declared.blocks.Blocks.TheVariants.{Minis, Sectors}
use Rattle.read_streams.specs.declared.blocks.Lies.{Lies}

-- what a file has in blocks, one after another
abbrev pub blocks_in : List ℕ → Blocks → List ℕ
blocks_in file (Sectors numbers) = joined (sector file) numbers.items
blocks_in file (Minis places) = joined (block 64 file) places.items

-- what a file has where a stream lies
abbrev pub held_in : List ℕ → Lies → List ℕ
held_in file lies = take lies.size (blocks_in file lies.blocks)

-- the sectors that the bytes of the mini stream take
abbrev pub stream_sectors : List ℕ → Layout → List ℕ
stream_sectors file l = take ((size_of (root_of file l) + 511) / 512) l.mini_stream

-- what lies at the place of a stream, in a file whose own parts lie so: the first bytes of the sectors, or of the mini
-- sectors, from the first on, each followed by the one that the FAT, or the mini FAT, names
abbrev pub held_at : List ℕ → Layout → Place → List ℕ
held_at file l place = take place.size (
    if nat_lt place.size CUTOFF
    then joined (block 64 file) (map (begins_at (stream_sectors file l))
    (walked (minis file l).next place.first ((place.size + 63) / 64)))
    else joined (sector file) (followed (table_of (sectors file l)) ((place.size + 511) / 512) place.first)
    )

-- some of the first bytes were written
abbrev pub Begins : Option (List ℕ) → Option (List ℕ) → List ℕ → Type 0
Begins old new bytes = (n : ℕ) × Appends old new (take n bytes)
