use Rattle.std.proofs.Common.{◌++◌, ◌∙◌, drop, replicate, sym, take}
use Rattle.read_packed.proofs.Held.{short}
use Rattle.read_packed.proofs.packed.is_short.Goals as goal

pub returns : goal.returns
returns c =
    λ yes.
    let all = c.either-2.ensures (c.is_zero.ensures yes) in
    let front = c.either.ensures all.0 in
    short c.args.entry.now c.told-entry (sym c.parted.ensures.upper ∙ front.0) (sym c.quarter-dated.ensures ∙ front.1)
    ((λ t. take 20 (sym c.quarter.ensures t) ++ replicate 7 0 ++ drop 27 (sym c.quarter.ensures t))
    ∙ sym c.unplaced-last.ensures ∙ all.1)
