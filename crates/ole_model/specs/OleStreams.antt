-- The stream "\1Ole" of an embedded object (MS-OLEDS 2.3.3).
use Rattle.std.specs.Prelude.{ℕ, ◌%◌, ◌++◌, List, cond, not, length, take, drop, replicate, nat_eq, nat_lt, Result, Ok}
use Rattle.std.specs.Prelude.{Err}
use Rattle.std.specs.Int.{w32, from_le_bytes, to_le_bytes}
use Rattle.ole_model.specs.declared.fault.OleFault.{OleFault}
use Rattle.ole_model.specs.declared.fault.OleFault.TheVariants.{Truncated, BadVersion, Linked}

-- the fewest bytes that are read
abbrev pub LEAST : ℕ
LEAST = 20

abbrev pub VERSION : ℕ
VERSION = 0x02000001

-- Version, flags, three more fields of four bytes each. What is read is that it isn't a link, by bit 0 of the flags;
-- the other flags, the other fields and what stands behind them are free.
abbrev pub ole_read : List ℕ → Result (Unit {0}) OleFault
ole_read bytes =
    cond (nat_lt (length bytes) LEAST) (Err Truncated) (
    cond (not (nat_eq (from_le_bytes w32 (take 4 bytes)) VERSION)) (Err BadVersion) (
    cond (nat_eq (from_le_bytes w32 (take 4 (drop 4 bytes)) % 2) 1) (Err Linked) (
    Ok tt)))

abbrev pub ole_bytes : List ℕ
ole_bytes = to_le_bytes w32 VERSION ++ replicate 16 0
