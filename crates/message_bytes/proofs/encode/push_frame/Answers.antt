use Rattle.std.proofs.Common.{◌≡◌, [], ◌∷◌, ◌++◌, ◌∙◌, ap}
use Rattle.message_model.specs.Spelling.{body, kind}
use Rattle.message_bytes.proofs.encode.push_frame.Goals as goal

pub returns-clause-added : goal.returns-clause-added
returns-clause-added c =
    let begun : c.push_bytes.new.out.items ≡ c.args.out.now.items ++ 79 ∷ 76 ∷ 67 ∷ 77 ∷ 2 ∷ kind c.args.frame.now
    ∷ 0 ∷ 0 ∷ 0 ∷ 0 ∷ [] =
    c.in_ok-push_bytes.ensures.added
    ∙ (λ i. c.reserve.ensures.items i ++ 79 ∷ 76 ∷ 67 ∷ 77 ∷ 2 ∷ c.kind_number.ensures i ∷ 0 ∷ 0 ∷ 0 ∷ 0
    ∷ []) in
    record {
      added = c.in_ok-push_body.ensures.added.added ∙ ap (λ o. o ++ body c.args.frame.now) begun;
      short = c.in_ok-push_body.ensures.added.short;
    }
