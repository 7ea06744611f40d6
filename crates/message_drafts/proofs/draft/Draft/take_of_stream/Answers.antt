use Rattle.std.proofs.Common.{◌≡◌, ◌≤◌, refl, sym, ap, ◌-◌, length, take, arith, ℕ, List}
use Rattle.std.proofs.lemmas.List.{length-take}
use Rattle.message_drafts.proofs.Bodies.{goes_stream}
use Rattle.message_drafts.proofs.Taken.{keeps_alike, keeps_longer, planned_stream}
use Rattle.message_drafts.proofs.draft.Draft.take_of_stream.Goals as goal

pub returns-in_err-lengthen_last-clause-keeps : goal.returns-in_err-lengthen_last-clause-keeps
returns-in_err-lengthen_last-clause-keeps c = keeps_alike c.args.self.now _ refl c.in_err-lengthen_last.ensures.kept
    refl

pub returns-clause-keeps : goal.returns-clause-keeps
returns-clause-keeps c = keeps_longer c.args.self.now _ (take c.min-n.result c.args.bytes.now) refl
    c.in_ok-lengthen_last.ensures.added refl

pub returns-clause-took : goal.returns-clause-took
returns-clause-took c =
    let n : ℕ = c.min-n.result in
    let d = c.args.self.now in
    let size : length (take n c.args.bytes.now) ≡ n = omega (arith, c.min-n.ensures, length-take n c.args.bytes.now) in
    record {
      some = omega (arith, c.min-n.ensures, c.requires.some.0, c.requires.some.1);
      within = omega (arith, c.min-n.ensures);
      goes = goes_stream d _ (take n c.args.bytes.now) c.requires.planned c.requires.phase c.requires.some.1
          (omega (arith, c.min-n.ensures, size)) (sym c.requires.phase) refl refl
          (ap (λ (k : ℕ). d.plan.missing - k) (sym size)) (ap (λ (k : ℕ). d.plan.to_come - k) (sym size)) refl refl
          (sym c.in_ok-lengthen_last.ensures.added) refl;
    }

pub returns-clause-planned : goal.returns-clause-planned
returns-clause-planned c =
    let n : ℕ = c.min-n.result in
    let d = c.args.self.now in
    let size : length (take n c.args.bytes.now) ≡ n = omega (arith, c.min-n.ensures, length-take n c.args.bytes.now) in
    planned_stream d _ (take n c.args.bytes.now) c.requires.planned c.requires.phase c.requires.some.1
    (omega (arith, c.min-n.ensures, size)) (sym c.requires.phase)
    (ap (λ (k : ℕ). d.plan.missing - k) (sym size)) (ap (λ (k : ℕ). d.plan.to_come - k) (sym size)) refl
    c.in_ok-lengthen_last.ensures.added refl refl
