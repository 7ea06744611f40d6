use Rattle.std.proofs.Common.{◌≡◌, ◌++◌, Some, List, ℕ, sym, subst, ◌∙◌, refl, Option}
use Rattle.message_drafts.specs.Opens.{Form}
use Rattle.message_bytes.specs.Holding.{HoldsAt, IsBody}
use Rattle.message_bytes.proofs.Leaving.{leaves_on}
use Rattle.message_bytes.proofs.feeding.feed.Goals as goal

pub returns-in-Ok-None-clause-fed : goal.returns-in-Ok-None-clause-fed
returns-in-Ok-None-clause-fed c rest holds none =
    let b : IsBody c.in-Some.body rest = subst (λ (o : Option Form). HoldsAt o c.args.bytes.now.front rest)
    (sym c.in-Some.ensures.given ∙ refl) holds in
    let g = (rw c.in-Ok-None.field-0-is at c.in-Ok-None.ensures.grows) rest b in
    leaves_on c.args.waiting.now.items c.feed_body.new.waiting.items (rest ++ c.args.piece.now)
    (rest ++ c.args.piece.now) c.of_body-grown.result _ g.0 c.of_body-grown.ensures refl g.1 g.2
