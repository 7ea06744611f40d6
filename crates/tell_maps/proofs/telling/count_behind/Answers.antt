use Rattle.std.proofs.Common.{◌≡◌, ◌≤◌, ◌+◌, arith, length}
use Rattle.tell_maps.specs.Maps.{LAST, MINI_STREAM, STREAM, count_of}
use Rattle.tell_maps.proofs.Sums.{three_few}
use Rattle.tell_maps.proofs.telling.count_behind.Goals as goal

pub overflow_mul-sectors : goal.overflow_mul-sectors
overflow_mul-sectors c =
    let few : count_of STREAM c.args.tally.now + count_of LAST c.args.tally.now + count_of MINI_STREAM
    c.args.tally.now ≤ length c.args.tally.now = three_few c.args.tally.now in
    omega (arith, few, c.requires, c.count.ensures.count, c.count-2.ensures.count, c.count-3.ensures.count)
