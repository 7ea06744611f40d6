use Rattle.std.proofs.Common.{◌+◌, ◌*◌, ◌++◌, ◌∙◌, map}
use Rattle.std.specs.List.{range_with_len}
use Rattle.std.specs.Simd.Lanes.{pick_l}
use Rattle.read_packed.proofs.Held.{parted_lower, parted_upper}
use Rattle.read_packed.proofs.packed.parted.Goals as goal

pub returns-clause-lower : goal.returns-clause-lower
returns-clause-lower c =
    (λ t. pick_l 0 (c.quarter.ensures t ++ c.quarter-2.ensures t) (map (λ k. 2 * k) (range_with_len 0 32)))
    ∙ parted_lower c.args.entry.now c.told-entry

pub returns-clause-upper : goal.returns-clause-upper
returns-clause-upper c =
    (λ t. pick_l 0 (c.quarter.ensures t ++ c.quarter-2.ensures t) (map (λ k. 2 * k + 1) (range_with_len 0 32)))
    ∙ parted_upper c.args.entry.now c.told-entry
