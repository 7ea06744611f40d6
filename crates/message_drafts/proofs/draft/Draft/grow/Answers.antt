use Rattle.std.proofs.Common.{◌+◌, ◌-◌, ◌≡◌, take, drop, length, sym, ap, subst, arith, ℕ, List}
use Rattle.std.proofs.lemmas.List.{length-drop, take_all}
use Rattle.message_drafts.specs.Drafts.{Advances}
use Rattle.message_drafts.proofs.Growing.{goes_none, goes_on, keeps_same, keeps_on, take_both}
use Rattle.message_drafts.proofs.draft.Draft.grow.Goals as goal

pub steps-init : goal.steps-init
steps-init c = (omega arith, c.requires.planned, goes_none c.args.self.now, keeps_same c.args.self.now)

pub returns-in_err-used-clause-keeps : goal.returns-in_err-used-clause-keeps
returns-in_err-used-clause-keeps c = keeps_on c.args.self.now c.steps.self c.step.new.self c.steps.invariant.3
    c.in_err-used.ensures.keeps

pub steps-preserved : goal.steps-preserved
steps-preserved c =
    let used : ℕ = c.steps.used in
    let n : ℕ = c.in_ok-used.field-0 in
    let xs : List ℕ = c.args.bytes.now in
    let whole : take (length xs - used) (drop used xs) ≡ drop used xs =
    take_all (length xs - used) (drop used xs) (omega (arith, length-drop used xs)) in
    let size : length (take (length xs - used) (drop used xs)) ≡ length (drop used xs) = ap length whole in
    let goes : Advances c.steps.self c.step.new.self (take n (drop used xs)) =
    subst (λ (zs : List ℕ). Advances c.steps.self c.step.new.self (take n zs)) whole
    c.in_ok-used.ensures.took.goes in (
      omega (arith, c.steps.invariant.0, c.in_ok-used.ensures.took.within, size, length-drop used xs),
      c.in_ok-used.ensures.planned,
      subst (Advances c.args.self.now c.step.new.self)
          (sym (take_both used n xs c.steps.invariant.0))
          (goes_on c.args.self.now c.steps.self c.step.new.self (take used xs) (take n (drop used xs))
          c.steps.invariant.2 goes),
      keeps_on c.args.self.now c.steps.self c.step.new.self c.steps.invariant.3
          c.in_ok-used.ensures.keeps,
    )
