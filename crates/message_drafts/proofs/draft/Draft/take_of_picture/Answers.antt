use Rattle.std.proofs.Common.{◌≡◌, ◌≤◌, refl, sym, ap, ◌-◌, length, take, arith, ℕ, List}
use Rattle.std.proofs.lemmas.List.{length-take}
use Rattle.message_drafts.proofs.Bodies.{goes_picture}
use Rattle.message_drafts.proofs.Taken.{keeps_alike, keeps_pictured}
use Rattle.message_drafts.proofs.draft.Draft.take_of_picture.Goals as goal

pub returns-in_err-add-clause-keeps : goal.returns-in_err-add-clause-keeps
returns-in_err-add-clause-keeps c = keeps_alike c.args.self.now _ refl refl c.in_err-add.ensures.kept

pub returns-clause-keeps : goal.returns-clause-keeps
returns-clause-keeps c = keeps_pictured c.args.self.now _ (take c.min-n.result c.args.bytes.now) refl refl
    c.in_ok-add.ensures.added

pub returns-clause-took : goal.returns-clause-took
returns-clause-took c =
    let n : ℕ = c.min-n.result in
    let d = c.args.self.now in
    let size : length (take n c.args.bytes.now) ≡ n = omega (arith, c.min-n.ensures, length-take n c.args.bytes.now) in
    record {
      some = omega (arith, c.min-n.ensures, c.requires.some.0, c.requires.some.1);
      within = omega (arith, c.min-n.ensures);
      goes = goes_picture d _ (take n c.args.bytes.now) c.requires.planned c.requires.phase
          (omega (arith, c.min-n.ensures, size)) (sym c.requires.phase) refl refl
          (ap (λ (k : ℕ). d.plan.missing - k) (sym size)) (ap (λ (k : ℕ). d.plan.to_come - k) (sym size)) refl refl
          refl (sym c.in_ok-add.ensures.added);
    }
