use Rattle.std.proofs.Common.{◌≡◌, ◌<◌, ◌+◌, ◌++◌, ◌∷◌, ◌∙◌, [], Bool, List, ℕ, ap, arith, false, get_or, length}
use Rattle.std.proofs.Common.{length-append, refl, sym, true}
use Rattle.tell_faults.proofs.Stops.{distinct_few, marked_more, marks_long, room_left, stopped}
use Rattle.tell_faults.proofs.Walks.{walk_push}
use Rattle.tell_faults.proofs.walking.walk.Goals as goal

pub bounds-table-at : goal.bounds-table-at
bounds-table-at c =
    let m = c.loop-from.invariant.1 in
    let inside : c.loop-from.at < length c.deref.result.now = (c.is_new.ensures.new c.loop-from-test.true).0 in
    omega (
      arith,
      inside,
      ap length c.deref.ensures.value,
      marks_long (length c.args.table.now) c.args.taken.now c.loop-from.marks.items c.loop-from.sectors.items m
          c.loop-from.at,
    )

pub loop-from-smaller : goal.loop-from-smaller
loop-from-smaller c =
    let m = c.loop-from.invariant.1 in
    let at : ℕ = c.loop-from.at in
    let free : get_or c.loop-from.marks.items at true ≡ false = ap (λ (x : List Bool). get_or x at true)
    (sym c.deref.ensures.value) ∙ (c.is_new.ensures.new c.loop-from-test.true).1 in
    let inside : at < length c.deref.result.now = (c.is_new.ensures.new c.loop-from-test.true).0 in
    let long : length c.loop-from.marks.items ≡ length c.args.table.now =
    marks_long (length c.args.table.now) c.args.taken.now c.loop-from.marks.items c.loop-from.sectors.items m at in
    let lt : at < length c.args.table.now = omega (arith, inside, ap length c.deref.ensures.value, long) in
    let room : length c.loop-from.sectors.items < length c.args.table.now =
    room_left (length c.args.table.now) c.args.taken.now c.loop-from.marks.items c.loop-from.sectors.items m at
    c.loop-from.invariant.0.present lt free in
    let more : length c.push.new.self.items ≡ length c.loop-from.sectors.items + 1 =
    ap length c.in_ok-push.ensures.items ∙ length-append c.loop-from.sectors.items (at ∷ []) in
    omega (arith, room, more)

pub loop-from-preserved : goal.loop-from-preserved
loop-from-preserved c =
    let m = c.loop-from.invariant.1 in
    let at : ℕ = c.loop-from.at in
    let table : List ℕ = c.args.table.now in
    let met : List ℕ = c.loop-from.sectors.items in
    let free : get_or c.loop-from.marks.items at true ≡ false = ap (λ (x : List Bool). get_or x at true)
    (sym c.deref.ensures.value) ∙ (c.is_new.ensures.new c.loop-from-test.true).1 in
    let inside : at < length c.deref.result.now = (c.is_new.ensures.new c.loop-from-test.true).0 in
    let long : length c.loop-from.marks.items ≡ length table = marks_long (length table) c.args.taken.now
    c.loop-from.marks.items met m at in
    let lt : at < length table = omega (arith, inside, ap length c.deref.ensures.value, long) in
    rw c.in_ok-push.ensures.items (
      walk_push table c.args.start at (get_or table at 0) c.loop-from.from met c.loop-from.invariant.0 lt refl,
      marked_more (length table) c.args.taken.now c.loop-from.marks.items met m at _ free refl,
    )

pub returns : goal.returns
returns c =
    let m = c.loop-from.invariant.1 in
    let at : ℕ = c.loop-from.at in
    let table : List ℕ = c.args.table.now in
    let met : List ℕ = c.loop-from.sectors.items in
    let seen : get_or c.loop-from.marks.items at true ≡ true = ap (λ (x : List Bool). get_or x at true)
    (sym c.deref.ensures.value) ∙ c.is_new.ensures.old c.loop-from-test.false in
    record {
      walked = c.loop-from.invariant.0;
      few = distinct_few (length table) met c.loop-from.invariant.0.present m.once;
      stopped = record {
        once = m.once;
        new = m.new;
        ends = stopped (length table) c.args.taken.now
            c.loop-from.marks.items met m at seen;
      };
    }
