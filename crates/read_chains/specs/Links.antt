-- The entries of a table of sectors, as they are kept.
use Rattle.std.specs.Prelude.{◌≤◌, ◌*◌, ℕ, List, length, map, ⊤}
use Rattle.std.specs.List.{range_with_len}
use Rattle.cfb_header.specs.Bytes.{u32_at}
use Rattle.read_chains.specs.declared.links.Entries.{Entries}
use Rattle.read_chains.specs.declared.links.Entries.TheVariants.{Run, Numbers, Slice}

-- what follows each sector
abbrev pub entries_of : Entries → List ℕ
entries_of (Run bytes count) = map (λ k. u32_at bytes.now (4 * k)) (range_with_len 0 count)
entries_of (Numbers numbers) = numbers.items
entries_of (Slice numbers) = numbers.now

-- the bytes have as many entries
abbrev pub AreWhole : Entries → Type 0
AreWhole (Run bytes count) = 4 * count ≤ length bytes.now
AreWhole (Numbers numbers) = ⊤
AreWhole (Slice numbers) = ⊤
