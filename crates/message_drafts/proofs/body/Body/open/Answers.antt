use Rattle.message_drafts.proofs.Opened.{comes_bad, comes_opened}
use Rattle.message_drafts.proofs.body.Body.open.Goals as goal

pub returns-in-None : goal.returns-in-None
returns-in-None c = comes_bad c.args.kind c.args.len c.args.front.now c.bad-draft.result c.requires.long.0
    c.requires.within c.in-None.ensures.opens c.bad-draft.ensures.to_come c.bad-draft.ensures.reads

pub returns : goal.returns
returns c =
    comes_opened c.args.kind c.args.len c.args.front.now c.in-Some.fields.2.now c.in-Some.fields.0
    c.in-Some.fields.1 c.begun-draft.result c.grow.new.self c.in-Some.ensures.within c.requires.within
    c.in-Some.ensures.opens c.begun-draft.ensures.to_come c.begun-draft.ensures.reads c.in_ok-grow.ensures.goes
