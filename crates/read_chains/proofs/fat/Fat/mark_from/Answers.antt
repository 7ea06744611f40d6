use Rattle.std.proofs.Common.{◌≡◌, ◌<◌, ◌-◌, ◌∙◌, ap, arith, get_or, length, refl, slice_set, subst, sym, true, ◌+◌}
use Rattle.cfb_chains.specs.Fat.{FatValue, IsFreeChain, marked, set_all}
use Rattle.read_chains.specs.View.{bytes_of, start_of, width_of}
use Rattle.cfb_chains.proofs.Followed.{Marking, marking_below, marking_end, marking_start, marking_step}
use Rattle.read_chains.proofs.fat.Fat.mark_from.Goals as goal

pub loop-init : goal.loop-init
loop-init c =
    let f : FatValue = c.args.self.now in
    let m : Marking f.table c.args.start c.args.start (c.args.count - 0) f.used f.used =
    marking_start f c.args.start (c.args.count - 0) c.requires.0 f.used c.requires.1 (omega (arith, c.requires.2)) in (
      refl,
      refl,
      subst (λ (x : FatValue). Marking x.table c.args.start c.args.start (c.args.count - 0) x.used
          x.used) (sym c.self.view_is) m,
    )

pub index_mut-requires : goal.index_mut-requires
index_mut-requires c =
    let m = c.loop.invariant.2 in
    let some : 0 < c.args.count - c.loop.counter = omega arith in
    let lt : c.loop.at < length c.self.inside.next =
    marking_below c.self.inside.next c.args.start c.loop.at (c.args.count - c.loop.counter) c.self.inside.used.items
    c.loop.self-inside.used.items m some in
    omega (arith, lt, m.long, c.self.invariant.0)

pub entry-at-requires : goal.entry-at-requires
entry-at-requires c =
    let m = c.loop.invariant.2 in
    let some : 0 < c.args.count - c.loop.counter = omega arith in
    let lt : c.loop.at < length c.self.inside.next =
    marking_below c.self.inside.next c.args.start c.loop.at (c.args.count - c.loop.counter) c.self.inside.used.items
    c.loop.self-inside.used.items m some in
    let same = ap length c.loop.invariant.0 in
    omega (arith, lt, same)

pub loop-preserved : goal.loop-preserved
loop-preserved c =
    let m = c.loop.invariant.2 in
    let some : 0 < c.args.count - c.loop.counter = omega arith in
    let lt : c.loop.at < length c.self.inside.next =
    marking_below c.self.inside.next c.args.start c.loop.at (c.args.count - c.loop.counter) c.self.inside.used.items
    c.loop.self-inside.used.items m some in
    let next : c.entry-at.result ≡ get_or c.self.inside.next c.loop.at 0 =
    c.entry-at.ensures ∙ ap (λ xs. get_or xs c.loop.at 0) c.loop.invariant.0 in
    let less : c.args.count - c.loop.counter - 1 ≡ c.args.count - (c.loop.counter + 1) = omega arith in (
      c.loop.invariant.0,
      c.loop.invariant.1,
      subst (λ n. Marking c.self.inside.next c.args.start c.entry-at.result n c.self.inside.used.items
          (slice_set c.loop.self-inside.used.items c.loop.at true)) less
          (marking_step c.self.inside.next c.args.start c.loop.at (c.args.count - c.loop.counter) c.entry-at.result
          c.self.inside.used.items
          c.loop.self-inside.used.items m some next),
    )

pub returns : goal.returns
returns c = λ ns h e.
    let inv = c.loop.invariant in
    let f : FatValue = record {
      bytes = bytes_of c.self.inside.pieces;
      start = start_of c.self.inside.pieces;
      width = width_of c.self.inside.pieces;
      table = c.self.inside.next;
      used = c.self.inside.used.items;
    } in
    let end : c.args.count - c.loop.counter ≡ 0 = omega arith in
    let done : c.loop.self-inside.used.items ≡ set_all c.self.inside.used.items ns =
    marking_end f c.args.start c.loop.at ns c.self.inside.used.items c.loop.self-inside.used.items c.self.invariant.1
    (subst (λ (x : FatValue). IsFreeChain x c.args.start ns) (sym c.self.view_is) h)
    (subst (λ n. Marking c.self.inside.next c.args.start c.loop.at n c.self.inside.used.items
    c.loop.self-inside.used.items) end inv.2) in
    (λ i. record {
      bytes = bytes_of (inv.1 i);
      start = start_of (inv.1 i);
      width = width_of (inv.1 i);
      table = inv.0 i;
      used = done i;
    }) ∙ ap (λ (x : FatValue). marked x ns) c.self.view_is
