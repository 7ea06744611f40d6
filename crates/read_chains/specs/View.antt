-- Where the sectors of a table lie.
use Rattle.std.specs.Prelude.{ℕ, List}
use Rattle.cfb_header.specs.Bytes.{joined, sector}
use Rattle.read_chains.specs.declared.fat.Pieces.{Pieces}
use Rattle.read_chains.specs.declared.fat.Pieces.TheVariants.{Sectors, MiniRun, MiniSectors, MiniPlaced}
use Rattle.read_chains.specs.declared.image.Image.{Image}
use Rattle.read_chains.specs.declared.image.Image.TheVariants.{Whole, Placed}

-- the bytes of a file, zero bytes standing for those that weren't read
abbrev pub image_bytes : Image → List ℕ
image_bytes (Whole file) = file.now
image_bytes (Placed file) = file.now

abbrev pub bytes_of : Pieces → List ℕ
bytes_of (Sectors file) = image_bytes file
bytes_of (MiniRun stream) = stream.now
bytes_of (MiniSectors stream) = stream.items
bytes_of (MiniPlaced file sectors) = joined (sector file.now) sectors.items

abbrev pub start_of : Pieces → ℕ
start_of (Sectors file) = 512
start_of (MiniRun stream) = 0
start_of (MiniSectors stream) = 0
start_of (MiniPlaced file sectors) = 0

abbrev pub width_of : Pieces → ℕ
width_of (Sectors file) = 512
width_of (MiniRun stream) = 64
width_of (MiniSectors stream) = 64
width_of (MiniPlaced file sectors) = 64
