use Rattle.std.proofs.Common.{◌≡◌, ◌-◌, ◌++◌}
use Rattle.std.specs.List.{flat_map}
use Rattle.cfb_header.specs.Header.{difat_by, difat_from, named_in}
use Rattle.read_chains.specs.View.{image_bytes}
use Rattle.read_chains.proofs.difat.fat_sectors.Given as goal

abbrev pub invariant-loop : goal.invariant-loop
invariant-loop l =
    (l.fat.items ≡ l.header.fat ++ flat_map (named_in (image_bytes l.file)) l.difat.items)
    × (l.difat.items ++ difat_from (image_bytes l.file) (l.end - l.counter) l.at
    ≡ difat_by (image_bytes l.file) l.header)
