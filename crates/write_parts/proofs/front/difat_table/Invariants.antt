use Rattle.std.proofs.Common.{◌≡◌, ◌+◌, ◌-◌, ◌*◌, ◌++◌}
use Rattle.cfb_layout.specs.Image.{difat_numbers}
use Rattle.write_parts.proofs.front.difat_table.Given as goal

abbrev pub invariant-loop-k : goal.invariant-loop-k
invariant-loop-k l =
    l.numbers.items ++ difat_numbers (l.difat_count - l.k) (l.fat_count + l.k) (109 + 127 * l.k) l.fat_count
    ≡ difat_numbers l.difat_count l.fat_count 109 l.fat_count
