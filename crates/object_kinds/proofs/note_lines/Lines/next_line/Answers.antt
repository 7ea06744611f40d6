use Rattle.std.proofs.Common.{arith, ap, sym, ◌∙◌, ◌∷◌, ◌<◌, ◌≡◌, [], length}
use Rattle.std.proofs.lemmas.Bool.Decides.{nat_tests}
use Rattle.std.specs.Option.{option_copied}
use Rattle.object_core.specs.Pictures.{text_lines}
use Rattle.text_words.specs.Words.{further}
use Rattle.object_core.proofs.Lines.{text_lines-cut, text_lines-last}
use Rattle.object_kinds.proofs.note_lines.Lines.next_line.Goals.{in-Some, in-None}
use Rattle.object_kinds.proofs.note_lines.Lines.next_line.Goals as goal

pub returns : goal.returns
returns c =
    let some : 0 < length c.self.inside.rest.now = grind (arith, nat_tests) in
    elim c.match-rest.branch [
      | in-Some w ↦ (let whole = text_lines-cut c.self.inside.rest.now c.cut.result.0.now w.in-Some.rest.now
          (c.cut.ensures.pieces ∙ ap (λ r. c.cut.result.0.now ∷ further 10 (option_copied r)) w.in-Some.is) in cc)
      | in-None w ↦ (let whole = text_lines-last c.self.inside.rest.now c.cut.result.0.now some
          (c.cut.ensures.pieces ∙ ap (λ r. c.cut.result.0.now ∷ further 10 (option_copied r)) w.in-None.is) in
          let left : text_lines c.match-rest.self.now ≡ [] = ap (λ r. text_lines r.now) w.self-is in
          sym c.self.view_is ∙ whole ∙ ap (λ ls. c.cut.result.0.now ∷ ls) (sym left))
    ]
