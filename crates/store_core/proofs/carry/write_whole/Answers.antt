use Rattle.std.proofs.Common.{◌≡◌, ◌≤◌, ◌+◌, ◌∙◌, ℕ, List, ap, drop, length, length-append, length-drop, length-take}
use Rattle.std.proofs.Common.{subst, sym, take, refl, arith, rules}
use Rattle.store_model.specs.Image.{Image, put}
use Rattle.store_core.specs.Steps.{IsInstalling}
use Rattle.store_core.proofs.Carried.{is_image}
use Rattle.store_core.proofs.Lists.{copied_long, copied_more}
use Rattle.store_core.proofs.Moments.{begun, then_leaves}
use Rattle.store_core.proofs.Under.{installs_again, installs_on}
use Rattle.store_core.proofs.carry.write_whole.Goals as goal

pub loop-done-init : goal.loop-done-init
loop-done-init g c = record {
  piece = search rules;
  within = omega arith;
  stays = λ model. begun g.D.Disk.may_leave g.D.Disk.moment g.D.Disk.left_since c.args.disk.now
      (IsInstalling (g.D.Disk.reads c.args.disk.now)) (g.met.D.Disk.only_now c.args.disk.now)
      (c.requires.ready model).left;
  reached = λ model. omega arith;
  copied = λ model. refl;
  count = search rules;
}

pub copy_piece-requires-clause-ready : goal.copy_piece-requires-clause-ready
copy_piece-requires-clause-ready g c model = installs_again g.D.Disk.reads g.D.Disk.may_leave g.D.Disk.moment
    g.D.Disk.left_since c.args.disk.now c.loop-done.disk (g.met.D.Disk.reads_are_left c.loop-done.disk)
    (c.requires.ready model) (c.loop-done.invariant.stays model)

pub returns-in_err-copy_piece-clause-stays : goal.returns-in_err-copy_piece-clause-stays
returns-in_err-copy_piece-clause-stays g c model =
    let reads = g.D.Disk.reads in
    let so_far = c.loop-done.invariant.stays model in
    then_leaves g.D.Disk.may_leave g.D.Disk.moment g.D.Disk.left_since c.args.disk.now c.loop-done.disk
    c.copy_piece.new.disk (IsInstalling (reads c.loop-done.disk)) (IsInstalling (reads c.args.disk.now)) so_far
    (c.copy_piece.ensures.stays model)
    (λ i is. installs_on (reads c.args.disk.now) (reads c.loop-done.disk) i
    (so_far.now (reads c.loop-done.disk) (g.met.D.Disk.reads_are_left c.loop-done.disk)) is)

pub loop-done-preserved : goal.loop-done-preserved
loop-done-preserved g c =
    let reads = g.D.Disk.reads in
    let many : ℕ = c.min-many.result in
    let done : ℕ = c.loop-done.done in
    let least = c.min-many.ensures in
    let more = c.loop-done-test.true in
    let wide = c.loop-done.invariant.piece in
    let long : length (take many c.loop-done.piece) ≡ many =
    omega (arith, least, wide, length-take many c.loop-done.piece) in
    let at : (model : g.D.Disk.follows_model) → (reads c.loop-done.disk).journal ≡ (reads c.args.disk.now).journal =
    λ model. ((c.loop-done.invariant.stays model).now (reads c.loop-done.disk)
    (g.met.D.Disk.reads_are_left c.loop-done.disk)).0 in
    let room : (model : g.D.Disk.follows_model) → 9 + (done + many) ≤ length (reads c.args.disk.now).journal = λ model.
    let holds = c.requires.holds model in
    let is = holds.1 in
    let all = c.from-all.ensures in
    let parts = (is_image (reads c.args.disk.now) (c.requires.ready model).whole holds.0).room in
    omega (arith, parts, is, all, least, more) in
    let written : (model : g.D.Disk.follows_model) → (reads c.copy_piece.new.disk).document
    ≡ put (reads c.loop-done.disk).document done (take many (drop (9 + done) (reads c.args.disk.now).journal)) =
    λ model.
    ap (λ (i : Image). i.document) (c.in_ok-copy_piece.ensures.written model)
    ∙ ap (λ (n : ℕ). put (reads c.loop-done.disk).document done
    (take n (drop (9 + done) (reads c.loop-done.disk).journal))) long
    ∙ ap (λ (j : List ℕ). put (reads c.loop-done.disk).document done (take many (drop (9 + done) j))) (at model) in
    record {
      piece = let kept = c.copy_piece.auto.piece in
          omega (
            arith,
            kept,
            least,
            wide,
            long,
            length-append c.copy_piece.new.piece (drop many c.loop-done.piece),
            length-drop many c.loop-done.piece,
          );
      within = omega (arith, least, more);
      stays = λ model.
          let so_far = c.loop-done.invariant.stays model in
          then_leaves g.D.Disk.may_leave g.D.Disk.moment g.D.Disk.left_since c.args.disk.now c.loop-done.disk
          c.copy_piece.new.disk (IsInstalling (reads c.loop-done.disk)) (IsInstalling (reads c.args.disk.now))
          so_far (c.copy_piece.ensures.stays model)
          (λ i is. installs_on (reads c.args.disk.now) (reads c.loop-done.disk) i
          (so_far.now (reads c.loop-done.disk) (g.met.D.Disk.reads_are_left c.loop-done.disk)) is);
      reached = λ model. subst (λ (l : List ℕ). done + many ≤ length l) (sym (written model))
          (copied_long (reads c.loop-done.disk).document (reads c.args.disk.now).journal 9 done many
          (c.loop-done.invariant.reached model) (room model));
      copied = λ model. ap (λ (l : List ℕ). take (done + many) l) (written model)
          ∙ copied_more (reads c.loop-done.disk).document (reads c.args.disk.now).journal 9 done many
          (c.loop-done.invariant.reached model) (room model) (c.loop-done.invariant.copied model);
      count = search rules;
    }

pub copy_piece-requires-clause-there : goal.copy_piece-requires-clause-there
copy_piece-requires-clause-there g c model =
    let reads = g.D.Disk.reads in
    let least = c.min-many.ensures in
    let more = c.loop-done-test.true in
    let at : (reads c.loop-done.disk).journal ≡ (reads c.args.disk.now).journal =
    ((c.loop-done.invariant.stays model).now (reads c.loop-done.disk)
    (g.met.D.Disk.reads_are_left c.loop-done.disk)).0 in
    let same : length (reads c.loop-done.disk).journal ≡ length (reads c.args.disk.now).journal = ap length at in
    let holds = c.requires.holds model in
    let is = holds.1 in
    let all = c.from-all.ensures in
    let parts = (is_image (reads c.args.disk.now) (c.requires.ready model).whole holds.0).room in
    omega (arith, parts, is, all, least, more, same, length-take c.min-many.result c.loop-done.piece)
