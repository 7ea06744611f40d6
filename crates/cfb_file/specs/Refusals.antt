-- Which trees no file holds, and what a call answers for them.
use Rattle.std.specs.Prelude.{◌≡◌, nat_lt, cond, Result, Ok, Err, IsOk}
use Rattle.cfb_entries.specs.Tree.{Tree}
use Rattle.cfb_file.specs.Limits.{MOST_FAT_SECTORS}
use Rattle.cfb_file.specs.Need.{fat_sectors, data_sectors}
use Rattle.cfb_file.specs.declared.fault.WriteFault.{WriteFault}
use Rattle.cfb_file.specs.declared.fault.WriteFault.TheVariants.{TooBig, NoMemory}

-- a tree is refused where even the least FAT that covers its sectors is past the limit
abbrev pub writable : Tree → Result (Unit {0}) WriteFault
writable t = cond (nat_lt MOST_FAT_SECTORS (fat_sectors (data_sectors t))) (Err TooBig) (Ok tt)

-- a call answers what it is told to, or that no memory is left where it would have succeeded
abbrev pub Refuses : Result (Unit {0}) WriteFault → WriteFault → Type 0
Refuses told NoMemory = IsOk told
Refuses told fault = told ≡ Err fault
