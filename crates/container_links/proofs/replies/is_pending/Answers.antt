use Rattle.std.proofs.Common.{◌≡◌, ◌∙◌, false, is_some, sym, true}
use Rattle.container_links.proofs.replies.is_pending.Goals as goal

pub returns-then-is_some : goal.returns-then-is_some
returns-then-is_some c =
    let pends : is_some c.in-Some.l.pending ≡ true = sym c.is_some.ensures ∙ c.if-is_some.true in
    rw (c.in-Some.is, pends)

pub returns-else-is_some : goal.returns-else-is_some
returns-else-is_some c =
    let rests : is_some c.in-Some.l.pending ≡ false = sym c.is_some.ensures ∙ c.if-is_some.false in
    rw (c.in-Some.is, c.if-is_some.false, rests)

pub returns-in-None : goal.returns-in-None
returns-in-None c = rw c.in-None.is
