use Rattle.std.proofs.Common.{◌≡◌, ◌<◌, ◌+◌, ◌-◌, ◌*◌, ◌∙◌, length, max, ℕ, suc, List, ◌∷◌, ap, sym, arith, rules}
use Rattle.store_model.specs.Image.{Image}
use Rattle.store_model.specs.Journal.{Block, block_at, blocks_from, fit, number_at}
use Rattle.store_model.proofs.Patched.{fits_on, unfit_below, unfit_reach, unfit_rise}
use Rattle.store_core.proofs.Moments.{then_quiet}
use Rattle.store_core.proofs.find.blocks_fit.Goals as goal

-- the next block, and those behind it
next : (count index : ℕ) (journal : List ℕ) → index < count → blocks_from (count - index) (13 + 516 * index) journal
    ≡ block_at (13 + 516 * index) journal ∷ blocks_from (count - (index + 1)) (13 + 516 * (index + 1)) journal
next count index journal below =
    let one : count - index ≡ suc (count - (index + 1)) = omega (arith, below) in
    let on : 13 + 516 * index + 516 ≡ 13 + 516 * (index + 1) = omega arith in
    ap (λ (n : ℕ). blocks_from n (13 + 516 * index) journal) one
    ∙ ap (λ (at : ℕ). block_at (13 + 516 * index) journal ∷ blocks_from (count - (index + 1)) at journal) on

pub returns-then-number-least-clause-fits : goal.returns-then-number-least-clause-fits
returns-then-number-least-clause-fits g c model =
    let J : List ℕ = (g.D.Disk.reads c.args.disk.now).journal in
    let is : c.in_ok-number.number ≡ number_at (13 + 516 * c.loop-index.index) J =
    c.in_ok-number.ensures.number model
    ∙ ap (λ (i : Image). number_at (13 + 516 * c.loop-index.index) i.journal)
    (c.loop-index.invariant.same model) in
    let test = c.if-number-least.true in
    sym (c.loop-index.invariant.fits model
    ∙ ap (λ bs. fit c.args.size c.loop-index.least c.loop-index.reached bs)
    (next c.args.count c.loop-index.index J c.loop-index-test.true)
    ∙ unfit_rise c.args.size c.loop-index.least c.loop-index.reached (block_at (13 + 516 * c.loop-index.index) J)
    (blocks_from (c.args.count - (c.loop-index.index + 1)) (13 + 516 * (c.loop-index.index + 1)) J)
    (omega (arith, is, test)))

pub returns-then-number-size-clause-fits : goal.returns-then-number-size-clause-fits
returns-then-number-size-clause-fits g c model =
    let J : List ℕ = (g.D.Disk.reads c.args.disk.now).journal in
    let is : c.in_ok-number.number ≡ number_at (13 + 516 * c.loop-index.index) J =
    c.in_ok-number.ensures.number model
    ∙ ap (λ (i : Image). number_at (13 + 516 * c.loop-index.index) i.journal)
    (c.loop-index.invariant.same model) in
    let test = c.if-number-size.true in
    sym (c.loop-index.invariant.fits model
    ∙ ap (λ bs. fit c.args.size c.loop-index.least c.loop-index.reached bs)
    (next c.args.count c.loop-index.index J c.loop-index-test.true)
    ∙ unfit_below c.args.size c.loop-index.least c.loop-index.reached (block_at (13 + 516 * c.loop-index.index) J)
    (blocks_from (c.args.count - (c.loop-index.index + 1)) (13 + 516 * (c.loop-index.index + 1)) J)
    (omega (arith, is, test)))

pub returns-then-number-reached-clause-fits : goal.returns-then-number-reached-clause-fits
returns-then-number-reached-clause-fits g c model =
    let J : List ℕ = (g.D.Disk.reads c.args.disk.now).journal in
    let is : c.in_ok-number.number ≡ number_at (13 + 516 * c.loop-index.index) J =
    c.in_ok-number.ensures.number model
    ∙ ap (λ (i : Image). number_at (13 + 516 * c.loop-index.index) i.journal)
    (c.loop-index.invariant.same model) in
    let test = c.if-number-reached.true in
    sym (c.loop-index.invariant.fits model
    ∙ ap (λ bs. fit c.args.size c.loop-index.least c.loop-index.reached bs)
    (next c.args.count c.loop-index.index J c.loop-index-test.true)
    ∙ unfit_reach c.args.size c.loop-index.least c.loop-index.reached (block_at (13 + 516 * c.loop-index.index) J)
    (blocks_from (c.args.count - (c.loop-index.index + 1)) (13 + 516 * (c.loop-index.index + 1)) J)
    (omega (arith, is, test)))

pub loop-index-preserved : goal.loop-index-preserved
loop-index-preserved g c =
    let reads = g.D.Disk.reads in
    let small = c.in_ok-number.ensures.small in
    let below = c.loop-index-test.true in
    record {
      within = omega (arith, below);
      small = omega (arith, small);
      same = λ model. c.in_ok-number.ensures.same model ∙ c.loop-index.invariant.same model;
      quiet = λ model. then_quiet g.D.Disk.may_leave g.D.Disk.moment g.D.Disk.left_since c.args.disk.now
          c.loop-index.disk c.read_number.new.disk (g.D.Disk.may_leave c.args.disk.now)
          (c.loop-index.invariant.quiet model) (c.read_number.ensures.quiet model);
      fits = λ model.
          let J : List ℕ = (reads c.args.disk.now).journal in
          let n : ℕ = c.in_ok-number.number in
          let bs : List Block = blocks_from (c.args.count - (c.loop-index.index + 1))
          (13 + 516 * (c.loop-index.index + 1)) J in
          let is : n ≡ number_at (13 + 516 * c.loop-index.index) J = c.in_ok-number.ensures.number model
          ∙ ap (λ (i : Image). number_at (13 + 516 * c.loop-index.index) i.journal)
          (c.loop-index.invariant.same model) in
          let rises = c.if-number-least.false in
          let begins = c.if-number-size.false in
          let reached = c.if-number-reached.false in
          c.loop-index.invariant.fits model
          ∙ ap (λ cs. fit c.args.size c.loop-index.least c.loop-index.reached cs)
          (next c.args.count c.loop-index.index J c.loop-index-test.true)
          ∙ fits_on c.args.size c.loop-index.least c.loop-index.reached (block_at (13 + 516 * c.loop-index.index) J)
          bs (omega (arith, is, rises)) (omega (arith, is, begins)) (omega (arith, is, reached))
          ∙ ap (λ (m : ℕ). fit c.args.size (m + 1) (max c.loop-index.reached (512 * (m + 1))) bs) (sym is)
          ∙ ap (λ (m : ℕ). fit c.args.size (n + 1) m bs) (sym c.max-reached.ensures);
      count = search rules;
    }

pub read_number-requires : goal.read_number-requires
read_number-requires g c model =
    let there = c.requires.there model in
    let below = c.loop-index-test.true in
    let same = ap (λ (i : Image). length i.journal) (c.loop-index.invariant.same model) in
    omega (arith, there, below, same)
