-- The bytes of a disk's two areas.
use Rattle.std.specs.Prelude.{ℕ, ◌+◌, List, ◌++◌, length, take, drop}
use Rattle.store_model.specs.declared.area.Area.{Area}
use Rattle.store_model.specs.declared.area.Area.TheVariants.{Document, Journal}

-- what the two areas hold at one moment
pub record Image : Type 0 where
  pub document : List ℕ
  pub journal : List ℕ

-- the bytes of one area
abbrev pub bytes_of : Area → Image → List ℕ
bytes_of Document image = image.document
bytes_of Journal image = image.journal

-- the image with other bytes in one area
abbrev pub changed : Area → List ℕ → Image → Image
changed Document bytes image = record { document = bytes; journal = image.journal }
changed Journal bytes image = record { document = image.document; journal = bytes }

-- old with these bytes at this offset
abbrev pub put : List ℕ → ℕ → List ℕ → List ℕ
put old at bytes = take at old ++ bytes ++ drop (at + length bytes) old
