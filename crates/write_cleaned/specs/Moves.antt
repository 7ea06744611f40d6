-- When a file isn't written anew.
use Rattle.std.specs.Prelude.{◌≡◌, Ok}
use Rattle.cfb_entries.specs.Tree.{Tree}
use Rattle.cfb_file.specs.Refusals.{Refuses, writable}
use Rattle.write_cleaned.specs.declared.moving.MoveFault.{MoveFault}
use Rattle.write_cleaned.specs.declared.moving.MoveFault.TheVariants.{Copy, Write}

-- when the file of a tree may not be written
abbrev pub MayRefuseMove : Tree → MoveFault → Type 0
MayRefuseMove t (Write fault) = Refuses (writable t) fault
MayRefuseMove t (Copy fault) = writable t ≡ Ok tt
