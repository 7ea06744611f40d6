use Rattle.std.proofs.Common.{◌≡◌, ◌*◌, ◌∙◌, ap, arith, get_or, length, subst, sym}
use Rattle.std.proofs.lemmas.Grind.{common_steps}
use Rattle.std.proofs.lemmas.List.{with_items_is}
use Rattle.std.specs.Vec.{with_items}
use Rattle.cfb_chains.specs.Chain.{END_OF_CHAIN}
use Rattle.cfb_chains.specs.Fat.{FatValue, IsFreeChain, marked}
use Rattle.read_chains.specs.View.{bytes_of, start_of, width_of}
use Rattle.read_chains.specs.Walks.{IsWalk}
use Rattle.read_chains.proofs.Ways.{walk_long, walked_chain}
use Rattle.read_chains.proofs.fat.Fat.mark_as_met.Goals as goal

pub returns-then-len-width-clause-marks : goal.returns-then-len-width-clause-marks
returns-then-len-width-clause-marks c = λ yes.
    let f : FatValue = record {
      bytes = bytes_of c.self.inside.pieces;
      start = start_of c.self.inside.pieces;
      width = width_of c.self.inside.pieces;
      table = c.self.inside.next;
      used = c.self.inside.used.items;
    } in
    let count = c.mark_walk-walk.result.count in
    let walk : IsWalk (λ n. get_or c.self.inside.next n 0) c.args.start c.self.inside.used.items
    c.mark_walk-walk.new.used count END_OF_CHAIN =
    subst (λ stop. IsWalk (λ n. get_or c.self.inside.next n 0) c.args.start c.self.inside.used.items
    c.mark_walk-walk.new.used count stop) c.if-walk.true
    (subst (λ before. IsWalk (λ n. get_or c.self.inside.next n 0) c.args.start before c.mark_walk-walk.new.used
    count c.mark_walk-walk.result.stop)
    c.as_mut_slice.ensures.value c.mark_walk-walk.ensures) in
    let long = walk_long (λ n. get_or c.self.inside.next n 0) c.args.start c.as_mut_slice.result.now
    c.mark_walk-walk.new.used count c.mark_walk-walk.result.stop c.mark_walk-walk.ensures in
    let kept : (with_items c.self.inside.used c.mark_walk-walk.new.used).items ≡ c.mark_walk-walk.new.used =
    with_items_is c.self.inside.used c.mark_walk-walk.new.used (long ∙ c.as_mut_slice.ensures.len) in
    let chain : IsFreeChain f c.args.start walk.sectors =
    walked_chain f c.args.start count c.mark_walk-walk.new.used walk c.self.invariant.0 c.self.invariant.1 in
    let w : c.args.self.now.width ≡ c.width-width.result =
    grind (arith, common_steps, c.self.view_is, c.width-width.ensures.value) in
    let m : c.args.self.now.width * length walk.sectors ≡ c.width-width.result * count = λ i. w i * walk.counted i in (
      walk.sectors,
      subst (λ (x : FatValue). IsFreeChain x c.args.start walk.sectors) c.self.view_is chain,
      omega (arith, m, c.if-len-width.true),
      (λ i. record {
        bytes = bytes_of c.self.inside.pieces;
        start = start_of c.self.inside.pieces;
        width = width_of c.self.inside.pieces;
        table = c.self.inside.next;
        used = (kept ∙ walk.marks) i;
      }) ∙ ap (λ (x : FatValue). marked x walk.sectors) c.self.view_is,
    )

pub returns-clause-kept : goal.returns-clause-kept
returns-clause-kept c = λ no_chain.
    let count = c.mark_walk-walk.result.count in
    let stop = c.mark_walk-walk.result.stop in
    let after = c.mark_walk-walk.new.used in
    let before = c.as_mut_slice.result.now in
    let long = walk_long (λ n. get_or c.self.inside.next n 0) c.args.start before after count stop
    c.mark_walk-walk.ensures in
    let kept : (with_items c.self.inside.used after).items ≡ after =
    with_items_is c.self.inside.used after (long ∙ c.as_mut_slice.ensures.len) in
    let walk : IsWalk (λ n. get_or c.self.inside.next n 0) c.args.start before c.as_mut_slice-2.result.now count stop =
    subst (λ now. IsWalk (λ n. get_or c.self.inside.next n 0) c.args.start before now count stop)
    (sym (c.as_mut_slice-2.ensures.value ∙ kept)) c.mark_walk-walk.ensures in
    let cleared : c.clear_walk.new.used ≡ before = c.clear_walk.ensures before walk in
    let again : (with_items (with_items c.self.inside.used after) c.clear_walk.new.used).items ≡ c.clear_walk.new.used =
    with_items_is (with_items c.self.inside.used after) c.clear_walk.new.used
    (ap length cleared ∙ c.as_mut_slice.ensures.len) in
    (λ i. record {
      bytes = bytes_of c.self.inside.pieces;
      start = start_of c.self.inside.pieces;
      width = width_of c.self.inside.pieces;
      table = c.self.inside.next;
      used = (again ∙ cleared ∙ c.as_mut_slice.ensures.value) i;
    }) ∙ c.self.view_is

-- what the marks leave of the table is sound
pub invariant_of-self : goal.invariant_of-self
invariant_of-self c =
    let after = c.mark_walk-walk.new.used in
    let long : length after ≡ length c.as_mut_slice.result.now =
    walk_long (λ n. get_or c.self.inside.next n 0) c.args.start c.as_mut_slice.result.now after
    c.mark_walk-walk.result.count c.mark_walk-walk.result.stop c.mark_walk-walk.ensures in
    let kept : (with_items c.self.inside.used after).items ≡ after =
    with_items_is c.self.inside.used after (long ∙ c.as_mut_slice.ensures.len) in
    (c.self.invariant.0 ∙ sym (ap length kept ∙ long ∙ ap length c.as_mut_slice.ensures.value), c.self.invariant.1)

pub invariant_of-self-2 : goal.invariant_of-self-2
invariant_of-self-2 c =
    let after = c.mark_walk-walk.new.used in
    let before = c.as_mut_slice.result.now in
    let count = c.mark_walk-walk.result.count in
    let stop = c.mark_walk-walk.result.stop in
    let long = walk_long (λ n. get_or c.self.inside.next n 0) c.args.start before after count stop
    c.mark_walk-walk.ensures in
    let kept : (with_items c.self.inside.used after).items ≡ after =
    with_items_is c.self.inside.used after (long ∙ c.as_mut_slice.ensures.len) in
    let walk : IsWalk (λ n. get_or c.self.inside.next n 0) c.args.start before c.as_mut_slice-2.result.now count stop =
    subst (λ now. IsWalk (λ n. get_or c.self.inside.next n 0) c.args.start before now count stop)
    (sym (c.as_mut_slice-2.ensures.value ∙ kept)) c.mark_walk-walk.ensures in
    let cleared : c.clear_walk.new.used ≡ before = c.clear_walk.ensures before walk in
    let again : (with_items (with_items c.self.inside.used after) c.clear_walk.new.used).items ≡ c.clear_walk.new.used =
    with_items_is (with_items c.self.inside.used after) c.clear_walk.new.used
    (ap length cleared ∙ c.as_mut_slice.ensures.len) in
    (c.self.invariant.0 ∙ sym (ap length (again ∙ cleared ∙ c.as_mut_slice.ensures.value)), c.self.invariant.1)

pub clear_walk-requires-clause-each : goal.clear_walk-requires-clause-each
clear_walk-requires-clause-each c =
    let after = c.mark_walk-walk.new.used in
    let long : length after ≡ length c.as_mut_slice.result.now =
    walk_long (λ n. get_or c.self.inside.next n 0) c.args.start c.as_mut_slice.result.now after
    c.mark_walk-walk.result.count c.mark_walk-walk.result.stop c.mark_walk-walk.ensures in
    let kept : (with_items c.self.inside.used after).items ≡ after =
    with_items_is c.self.inside.used after (long ∙ c.as_mut_slice.ensures.len) in
    ap length (c.as_mut_slice-2.ensures.value ∙ kept) ∙ long ∙ ap length c.as_mut_slice.ensures.value
    ∙ sym c.self.invariant.0

pub clear_walk-requires-clause-walked : goal.clear_walk-requires-clause-walked
clear_walk-requires-clause-walked c =
    let after = c.mark_walk-walk.new.used in
    let before = c.as_mut_slice.result.now in
    let count = c.mark_walk-walk.result.count in
    let stop = c.mark_walk-walk.result.stop in
    let long = walk_long (λ n. get_or c.self.inside.next n 0) c.args.start before after count stop
    c.mark_walk-walk.ensures in
    let kept : (with_items c.self.inside.used after).items ≡ after =
    with_items_is c.self.inside.used after (long ∙ c.as_mut_slice.ensures.len) in (
      before,
      subst (λ now. IsWalk (λ n. get_or c.self.inside.next n 0) c.args.start before now count stop)
          (sym (c.as_mut_slice-2.ensures.value ∙ kept)) c.mark_walk-walk.ensures,
    )
