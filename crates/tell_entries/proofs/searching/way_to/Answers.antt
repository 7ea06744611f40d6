use Rattle.std.proofs.Common.{◌≡◌, ◌∙◌, List, ℕ, arith, subst, sym}
use Rattle.tell_entries.specs.Ways.{IsWay, end_of}
use Rattle.tell_entries.proofs.Searches.{IsTail, tail_more, way_ends, way_is}
use Rattle.tell_entries.proofs.searching.way_to.Goals as goal

pub loop-at-preserved : goal.loop-at-preserved
loop-at-preserved c =
    rw c.in_ok-push.ensures.items (tail_more c.args.directory.now c.args.ids.now c.args.parents.now c.requires.met
    c.args.place c.loop-at.at c.loop-at.way.items c.loop-at.invariant c.loop-at-test.true)

pub returns-clause-way : goal.returns-clause-way
returns-clause-way c =
    let none : c.loop-at.at ≡ 0 = omega (arith, c.loop-at-test.false) in
    let t : IsTail c.args.directory.now c.args.ids.now c.args.place 0 c.loop-at.way.items =
    subst (λ (x : ℕ). IsTail c.args.directory.now c.args.ids.now c.args.place x c.loop-at.way.items) none
    c.loop-at.invariant in
    subst (IsWay c.args.directory.now) (sym c.reverse.ensures.items)
    (way_is c.args.directory.now c.args.ids.now c.args.parents.now c.requires.met c.args.place
    c.loop-at.way.items t)

pub returns-clause-end : goal.returns-clause-end
returns-clause-end c =
    let none : c.loop-at.at ≡ 0 = omega (arith, c.loop-at-test.false) in
    let t : IsTail c.args.directory.now c.args.ids.now c.args.place 0 c.loop-at.way.items =
    subst (λ (x : ℕ). IsTail c.args.directory.now c.args.ids.now c.args.place x c.loop-at.way.items) none
    c.loop-at.invariant in
    rw c.reverse.ensures.items (way_ends c.args.directory.now c.args.ids.now c.args.parents.now c.requires.met
    c.args.place c.loop-at.way.items t)
