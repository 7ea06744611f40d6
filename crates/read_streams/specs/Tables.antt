-- The tables of a file, and what is read by them.
use Rattle.std.specs.Prelude.{◌≡◌, ◌+◌, ◌*◌, ◌/◌, ℕ, List, if◌then◌else◌, map, nat_lt, take}
use Rattle.cfb_bytes.specs.Bytes.{block}
use Rattle.cfb_chains.specs.Fat.{followed}
use Rattle.cfb_header.specs.Bytes.{joined, sector, u32_at}
use Rattle.cfb_file.specs.Denotes.{Layout, minis}
use Rattle.cfb_file.specs.Limits.{CUTOFF}
use Rattle.read_outlines.specs.declared.outline.Place.{Place}
use Rattle.read_streams.specs.Blocks.{stream_sectors}
use Rattle.read_streams.specs.Chains.{IsFatOf, walked}
use Rattle.read_streams.specs.declared.tables.Tables.{Tables}

-- the mini sectors of a stream, given the bytes of the mini stream and of the mini FAT
abbrev pub minis_read : List ℕ → List ℕ → Place → List ℕ
minis_read mini_stream mini_fat place = joined (block 64 mini_stream)
    (map (λ n. 64 * n) (walked (λ n. u32_at mini_fat (4 * n)) place.first ((place.size + 63) / 64)))

-- what is read of a file by its tables at the place of a stream
abbrev pub read_by : List ℕ → Tables → Place → List ℕ
read_by file tables place = take place.size (
    if nat_lt place.size CUTOFF
    then minis_read (joined (sector file) tables.mini_stream.items) tables.mini_fat.items place
    else joined (sector file) (followed tables.fat.items ((place.size + 511) / 512) place.first)
    )

-- the tables of a file whose own parts lie so
pub record AreTablesOf (file : List ℕ) (l : Layout) (tables : Tables) : Type 0 where
  pub fat : IsFatOf file l tables.fat.items
  pub next : (λ (n : ℕ). u32_at tables.mini_fat.items (4 * n)) ≡ (minis file l).next
  pub stream : tables.mini_stream.items ≡ stream_sectors file l
