-- The bytes of streams as the code counts them; clauses of functions inside the crate cite these.
use Rattle.std.specs.Prelude.{◌-◌, ◌^◌, ℕ}
use Rattle.cfb_file.specs.Outline.{Part, sized, nested}
use Rattle.tell_maps.specs.Maps.{sizes}

-- the greatest number that is counted to
abbrev pub MOST : ℕ
MOST = 0xFFFFFFFFFFFFFFFF

abbrev pub part_size : Part → ℕ
part_size (sized size) = size
part_size (nested o) = sizes o
