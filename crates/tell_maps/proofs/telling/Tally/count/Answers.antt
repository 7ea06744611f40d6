use Rattle.std.proofs.Common.{◌≡◌, ◌≤◌, arith, ap, length, get_or, subst, sym, ◌∙◌, ℕ, List}
use Rattle.tell_maps.specs.Maps.{count_of}
use Rattle.tell_maps.proofs.Sums.{count_few}
use Rattle.tell_maps.proofs.telling.Tally.count.Goals as goal

pub returns-clause-few : goal.returns-clause-few
returns-clause-few c =
    let is : get_or c.self.inside.counts c.args.mark 0 ≡ count_of c.args.mark c.self.inside.cells.now =
    c.self.invariant c.args.mark c.ranges.mark.fits in
    let few : count_of c.args.mark c.self.inside.cells.now ≤ length c.self.inside.cells.now =
    count_few c.args.mark c.self.inside.cells.now in
    let same : length c.self.inside.cells.now ≡ length c.args.self.now =
    ap (λ (xs : List ℕ). length xs) c.self.view_is in
    omega (arith, is, few, same)
