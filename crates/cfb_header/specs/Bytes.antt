-- Sectors of a file, which is the list of its bytes (MS-CFB 1.3.4, 2.1).
use Rattle.std.specs.Prelude.{ℕ, ◌+◌, ◌*◌, List}
use Rattle.std.specs.List.{flat_map}
unfoldable pub use Rattle.cfb_bytes.specs.Bytes.{u16_at, u32_at, block}

-- sector n of a file, behind the header of 512 bytes
abbrev pub sector : List ℕ → ℕ → List ℕ
sector file n = block 512 file (512 + 512 * n)

-- mini sector m of the mini stream
abbrev pub mini_sector : List ℕ → ℕ → List ℕ
mini_sector stream m = block 64 stream (64 * m)

-- sectors one after another
abbrev pub joined : (ℕ → List ℕ) → List ℕ → List ℕ
joined sector_of ns = flat_map sector_of ns
