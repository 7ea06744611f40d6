use Rattle.std.proofs.Common.{◌*◌, ◌∷◌, [], ap}
use Rattle.std.specs.Prelude.{codes}
use Rattle.tell_maps.specs.Maps.{BEYOND, FREE, behind, count_of}
use Rattle.tell_maps.proofs.Rows.{three_said}
use Rattle.tell_maps.proofs.telling.push_totals.Goals as goal

pub returns : goal.returns
returns c =
    three_said c.args.text.now.items c.push_said.new.text.items c.push_said-2.new.text.items
    c.push_said-3.new.text.items c.push.new.self.items
    c.as_slice.result.now c.as_slice-2.result.now c.as_slice-3.result.now (codes "bytes free ")
    (codes ", behind the ends of streams ") (codes ", past the FAT ") (10 ∷ [])
    (512 * c.count.result) c.count_behind.result (512 * c.count-2.result) (512 * count_of FREE c.args.tally.now)
    (behind c.args.tally.now c.args.bytes) (512 * count_of BEYOND c.args.tally.now)
    c.as_slice.ensures c.as_slice-2.ensures c.as_slice-3.ensures (ap (λ n. 512 * n) c.count.ensures.count)
    c.count_behind.ensures (ap (λ n. 512 * n) c.count-2.ensures.count)
    c.in_ok-push_said.ensures c.in_ok-push_said-2.ensures c.in_ok-push_said-3.ensures c.in_ok-push.ensures.items
