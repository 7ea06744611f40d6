use Rattle.std.proofs.Common.{◌≡◌, ◌+◌, ◌-◌, ◌∙◌, ℕ, List, ap, drop, length, length-append, length-drop, length-take}
use Rattle.std.proofs.Common.{sym, take, arith, rules}
use Rattle.store_model.specs.Image.{Image}
use Rattle.store_core.proofs.Lists.{shared_more}
use Rattle.store_core.proofs.Moments.{then_quiet}
use Rattle.store_core.proofs.held.holds_document.Goals as goal

pub loop-done-preserved : goal.loop-done-preserved
loop-done-preserved g c =
    let reads = g.D.Disk.reads in
    let many : ℕ = c.min-many.result in
    let done : ℕ = c.loop-done.done in
    let least = c.min-many.ensures in
    let more = c.loop-done-test.true in
    let wide = c.loop-done.invariant.piece in
    let kept = c.holds_piece.ensures.piece in
    record {
      piece = omega (
        arith,
        kept,
        least,
        wide,
        length-append c.holds_piece.new.piece (drop many c.loop-done.piece),
        length-drop many c.loop-done.piece,
        length-take many c.loop-done.piece,
      );
      within = omega (arith, least, more);
      same = λ model. c.in_ok-is.ensures.same model ∙ c.loop-done.invariant.same model;
      quiet = λ model. then_quiet g.D.Disk.may_leave g.D.Disk.moment g.D.Disk.left_since c.args.disk.now
          c.loop-done.disk c.holds_piece.new.disk (g.D.Disk.may_leave c.args.disk.now)
          (c.loop-done.invariant.quiet model) (c.holds_piece.ensures.quiet model);
      told = λ model.
          let held : List ℕ = (reads c.args.disk.now).document in
          let document : List ℕ = c.args.document.now in
          let part : List ℕ = take (done + many - done) (drop done document) in
          let is : part ≡ take many (drop done document) = ap (λ (n : ℕ). take n (drop done document)) (omega arith) in
          let long : length part ≡ many =
          omega (
            arith,
            least,
            more,
            length-take (done + many - done) (drop done document),
            length-drop done
                document,
          ) in
          let here : take (length part) (drop done held) ≡ part =
          ap (λ (i : Image). take (length part) (drop done i.document)) (sym (c.loop-done.invariant.same model))
          ∙ (c.in_ok-is.ensures.holds model).0 c.if-not-is.false in
          shared_more held document part done many is long (c.loop-done.invariant.told model) here;
      count = search rules;
    }

pub holds_piece-requires-clause-within : goal.holds_piece-requires-clause-within
holds_piece-requires-clause-within g c model =
    let least = c.min-many.ensures in
    let more = c.loop-done-test.true in
    let long = c.in_ok-size.ensures.length model in
    let all = c.if-size-all.false in
    let same = ap (λ (i : Image). length i.document) (c.loop-done.invariant.same model) in
    omega (arith, least, more, long, all, same, length-take c.min-many.result c.loop-done.piece)

pub returns-in_err-is-clause-quiet : goal.returns-in_err-is-clause-quiet
returns-in_err-is-clause-quiet g c model =
    then_quiet g.D.Disk.may_leave g.D.Disk.moment g.D.Disk.left_since c.args.disk.now c.loop-done.disk
    c.holds_piece.new.disk (g.D.Disk.may_leave c.args.disk.now) (c.loop-done.invariant.quiet model)
    (c.holds_piece.ensures.quiet model)

pub returns-then-not-is-clause-quiet : goal.returns-then-not-is-clause-quiet
returns-then-not-is-clause-quiet g c model =
    then_quiet g.D.Disk.may_leave g.D.Disk.moment g.D.Disk.left_since c.args.disk.now c.loop-done.disk
    c.holds_piece.new.disk (g.D.Disk.may_leave c.args.disk.now) (c.loop-done.invariant.quiet model)
    (c.holds_piece.ensures.quiet model)
