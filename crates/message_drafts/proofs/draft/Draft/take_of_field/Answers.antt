use Rattle.std.proofs.Common.{◌≡◌, refl, sym, ap, ◌-◌, length, take, arith, ℕ, List}
use Rattle.std.proofs.lemmas.List.{length-take}
use Rattle.message_drafts.proofs.Taken.{goes_held, goes_settled, keeps_alike}
use Rattle.message_drafts.proofs.draft.Draft.take_of_field.Goals as goal

pub returns-in_ok-settle-clause-took : goal.returns-in_ok-settle-clause-took
returns-in_ok-settle-clause-took c =
    let n : ℕ = c.hold-n.result in
    let d = c.args.self.now in
    let x : List ℕ = take n c.args.bytes.now in
    let size : length x ≡ n = omega (arith, c.hold-n.ensures.some.1, length-take n c.args.bytes.now) in
    record {
      some = c.hold-n.ensures.some.0;
      within = c.hold-n.ensures.some.1;
      goes = goes_settled d _ _ x (goes_held d _ x c.requires.fields.0 c.requires.fields.1
          (omega (arith, size, c.hold-n.ensures.some.1, c.requires.some.1)) (sym c.requires.fields.0) refl refl
          c.requires.fields.1 (ap (λ (k : ℕ). d.plan.to_come - k) (sym size)) c.hold-n.ensures.held refl refl refl)
          c.in_ok-settle.ensures.begins;
    }

pub returns-else-self-need-clause-took : goal.returns-else-self-need-clause-took
returns-else-self-need-clause-took c =
    let n : ℕ = c.hold-n.result in
    let d = c.args.self.now in
    let x : List ℕ = take n c.args.bytes.now in
    let size : length x ≡ n = omega (arith, c.hold-n.ensures.some.1, length-take n c.args.bytes.now) in
    record {
      some = c.hold-n.ensures.some.0;
      within = c.hold-n.ensures.some.1;
      goes = goes_held d _ x c.requires.fields.0 c.requires.fields.1
          (omega (arith, size, c.hold-n.ensures.some.1, c.requires.some.1)) (sym c.requires.fields.0) refl refl
          c.requires.fields.1 (ap (λ (k : ℕ). d.plan.to_come - k) (sym size)) c.hold-n.ensures.held refl refl refl;
    }

pub returns-else-self-need-clause-keeps : goal.returns-else-self-need-clause-keeps
returns-else-self-need-clause-keeps c = keeps_alike c.args.self.now _ refl refl refl
