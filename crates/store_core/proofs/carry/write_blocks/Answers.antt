use Rattle.std.proofs.Common.{◌≡◌, ◌≤◌, ◌+◌, ◌-◌, ◌*◌, ◌∙◌, ℕ, List, ap, drop, length, length-append, length-drop}
use Rattle.std.proofs.Common.{length-take, subst, sym, refl, arith, rules}
use Rattle.store_model.specs.Image.{Image, put}
use Rattle.store_model.specs.Journal.{blocks_from, changed_document, count_in, number_at, size_in}
use Rattle.store_model.specs.Patches.{Agrees, Follow, joined}
use Rattle.store_core.specs.Steps.{IsInstalling}
use Rattle.store_core.proofs.Carried.{base_makes, run_reached, run_step, runs_end}
use Rattle.store_core.proofs.Moments.{begun, then_leaves}
use Rattle.store_core.proofs.Under.{installs_again, installs_on}
use Rattle.store_core.proofs.carry.write_blocks.Goals as goal

pub loop-done-init : goal.loop-done-init
loop-done-init g c = record {
  entries = search rules;
  run = search rules;
  within = omega arith;
  some = omega arith;
  few = omega arith;
  stays = λ model. begun g.D.Disk.may_leave g.D.Disk.moment g.D.Disk.left_since c.args.disk.now
      (IsInstalling (g.D.Disk.reads c.args.disk.now)) (g.met.D.Disk.only_now c.args.disk.now)
      (c.requires.ready model).left;
  agrees = λ model.
      let base : Image = g.D.Disk.reads c.args.disk.now in
      let holds = c.requires.holds model in
      let makes = base_makes base (c.requires.ready model).whole holds.0 in
      let is = holds.1 in
      let all : c.from-all.result - 0 ≡ count_in base.journal = let from = c.from-all.ensures in
      omega (arith, from, is) in
      subst (λ (m : ℕ). Agrees (changed_document base) m (blocks_from (c.from-all.result - 0) 13 base.journal)
      base.document) (sym holds.2)
      (subst (λ (k : ℕ). Agrees (changed_document base) (size_in base.journal) (blocks_from k 13 base.journal)
      base.document) (sym all) makes.agrees);
  count = search rules;
}

pub write_run-requires-clause-ready : goal.write_run-requires-clause-ready
write_run-requires-clause-ready g c model = installs_again g.D.Disk.reads g.D.Disk.may_leave g.D.Disk.moment
    g.D.Disk.left_since c.args.disk.now c.loop-done.disk (g.met.D.Disk.reads_are_left c.loop-done.disk)
    (c.requires.ready model) (c.loop-done.invariant.stays model)

pub write_run-requires-clause-room : goal.write_run-requires-clause-room
write_run-requires-clause-room g c model =
    let reads = g.D.Disk.reads in
    let journal = ((c.loop-done.invariant.stays model).now (reads c.loop-done.disk)
    (g.met.D.Disk.reads_are_left c.loop-done.disk)).0 in
    let same : count_in (reads c.loop-done.disk).journal ≡ count_in (reads c.args.disk.now).journal =
    ap count_in journal in
    let is = (c.requires.holds model).1 in
    let from = c.from-all.ensures in
    let least = c.min-most.ensures in
    let more = c.loop-done-test.true in
    omega (arith, same, is, from, least, more, length-take (516 * c.min-most.result) c.loop-done.entries)

pub write_run-requires-clause-within : goal.write_run-requires-clause-within
write_run-requires-clause-within g c model =
    let base : Image = g.D.Disk.reads c.args.disk.now in
    let area : List ℕ = (g.D.Disk.reads c.loop-done.disk).document in
    let at : ℕ = 13 + 516 * c.loop-done.done in
    let journal = ((c.loop-done.invariant.stays model).now (g.D.Disk.reads c.loop-done.disk)
    (g.met.D.Disk.reads_are_left c.loop-done.disk)).0 in
    let holds = c.requires.holds model in
    subst (λ (j : List ℕ). 512 * number_at at j ≤ length area) (sym journal)
    (run_reached base c.args.size c.from-all.result c.loop-done.done area (c.requires.ready model).whole holds.0
    (c.from-all.ensures ∙ holds.1) holds.2 c.loop-done-test.true (c.loop-done.invariant.agrees model))

pub returns-in_err-taken-clause-stays : goal.returns-in_err-taken-clause-stays
returns-in_err-taken-clause-stays g c model =
    let reads = g.D.Disk.reads in
    let so_far = c.loop-done.invariant.stays model in
    then_leaves g.D.Disk.may_leave g.D.Disk.moment g.D.Disk.left_since c.args.disk.now c.loop-done.disk
    c.write_run.new.disk (IsInstalling (reads c.loop-done.disk)) (IsInstalling (reads c.args.disk.now)) so_far
    (c.write_run.ensures.stays model)
    (λ i is. installs_on (reads c.args.disk.now) (reads c.loop-done.disk) i
    (so_far.now (reads c.loop-done.disk) (g.met.D.Disk.reads_are_left c.loop-done.disk)) is)

pub loop-done-preserved : goal.loop-done-preserved
loop-done-preserved g c =
    let reads = g.D.Disk.reads in
    let done : ℕ = c.loop-done.done in
    let taken : ℕ = c.in_ok-taken.taken in
    let clauses = c.in_ok-taken.ensures in
    let some : 1 ≤ taken = clauses.taken in
    let inside = clauses.within in
    let least = c.min-most.ensures in
    let next = c.min-many.ensures in
    let more = c.loop-done-test.true in
    let few = c.loop-done.invariant.few in
    let within : done + taken ≤ c.from-all.result =
    omega (arith, inside, least, more, length-take (516 * c.min-most.result) c.loop-done.entries) in
    record {
      entries = let kept = clauses.entries in let wide = c.loop-done.invariant.entries in
          omega (
            arith,
            kept,
            least,
            wide,
            few,
            length-take (516 * c.min-most.result) c.loop-done.entries,
            length-append c.write_run.new.entries (drop (516 * c.min-most.result) c.loop-done.entries),
            length-drop (516 * c.min-most.result) c.loop-done.entries,
          );
      run = clauses.run ∙ c.loop-done.invariant.run;
      within = within;
      some = omega (arith, some, next);
      few = omega (arith, next);
      stays = λ model.
          let so_far = c.loop-done.invariant.stays model in
          then_leaves g.D.Disk.may_leave g.D.Disk.moment g.D.Disk.left_since c.args.disk.now c.loop-done.disk
          c.write_run.new.disk (IsInstalling (reads c.loop-done.disk)) (IsInstalling (reads c.args.disk.now))
          so_far (c.write_run.ensures.stays model)
          (λ i is. installs_on (reads c.args.disk.now) (reads c.loop-done.disk) i
          (so_far.now (reads c.loop-done.disk) (g.met.D.Disk.reads_are_left c.loop-done.disk)) is);
      agrees = λ model.
          let base : Image = reads c.args.disk.now in
          let at : ℕ = 13 + 516 * done in
          let journal : (reads c.loop-done.disk).journal ≡ base.journal =
          ((c.loop-done.invariant.stays model).now (reads c.loop-done.disk)
          (g.met.D.Disk.reads_are_left c.loop-done.disk)).0 in
          let holds = c.requires.holds model in
          let follow : Follow (number_at at base.journal) (blocks_from taken at base.journal) =
          subst (λ (j : List ℕ). Follow (number_at at j) (blocks_from taken at j)) journal
          (clauses.follow model) in
          run_step base c.args.size c.from-all.result done taken (number_at at base.journal)
          (reads c.loop-done.disk).document (reads c.write_run.new.disk).document
          (c.requires.ready model).whole holds.0 (c.from-all.ensures ∙ holds.1) holds.2 some within refl follow
          (c.loop-done.invariant.agrees model)
          (ap (λ (i : Image). i.document) (clauses.written model)
          ∙ ap (λ (j : List ℕ). put (reads c.loop-done.disk).document (512 * number_at at j)
          (joined (blocks_from taken at j))) journal);
      count = search rules;
    }

pub returns-clause-written : goal.returns-clause-written
returns-clause-written g c model =
    let base : Image = g.D.Disk.reads c.args.disk.now in
    let holds = c.requires.holds model in
    runs_end base c.args.size c.from-all.result c.loop-done.done (g.D.Disk.reads c.loop-done.disk).document
    (c.requires.ready model).whole holds.0 holds.2 c.loop-done-test.false (c.loop-done.invariant.agrees model)
