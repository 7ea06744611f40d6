use Rattle.std.proofs.Common.{◌∙◌, sym}
use Rattle.message_values.specs.declared.answer.Answer.TheVariants as told
use Rattle.container_links.proofs.Answering.{reply_as, stale_reply, unfit_reply}
use Rattle.container_links.proofs.replies.told.Goals as goal

pub returns-then-not-is_pending-clause-refused : goal.returns-then-not-is_pending-clause-refused
returns-then-not-is_pending-clause-refused c = stale_reply c.args.n c.args.answer c.args.link.now
    (sym c.is_pending.ensures ∙ c.if-not-is_pending.true)

pub returns-then-not-is_fit-clause-refused : goal.returns-then-not-is_fit-clause-refused
returns-then-not-is_fit-clause-refused c = unfit_reply c.args.n c.args.answer c.args.link.now
    (sym c.is_pending.ensures ∙ c.if-not-is_pending.false) (sym c.is_fit.ensures ∙ c.if-not-is_fit.true)

pub returns-in-Done-clause-taken : goal.returns-in-Done-clause-taken
returns-in-Done-clause-taken c =
    rw (reply_as c.args.n c.args.answer (told.Done) c.args.link.now
    (sym c.is_pending.ensures ∙ c.if-not-is_pending.false) (sym c.is_fit.ensures ∙ c.if-not-is_fit.false)
    c.in-Done.is) c.done_told.ensures.taken

pub returns-in-Done-clause-refused : goal.returns-in-Done-clause-refused
returns-in-Done-clause-refused c =
    rw (reply_as c.args.n c.args.answer (told.Done) c.args.link.now
    (sym c.is_pending.ensures ∙ c.if-not-is_pending.false) (sym c.is_fit.ensures ∙ c.if-not-is_fit.false)
    c.in-Done.is) c.done_told.ensures.refused

pub returns-in-Refused-clause-taken : goal.returns-in-Refused-clause-taken
returns-in-Refused-clause-taken c =
    rw (reply_as c.args.n c.args.answer (told.Refused c.in-Refused.why) c.args.link.now
    (sym c.is_pending.ensures ∙ c.if-not-is_pending.false) (sym c.is_fit.ensures ∙ c.if-not-is_fit.false)
    c.in-Refused.is) c.refused_told.ensures.taken

pub returns-in-Refused-clause-refused : goal.returns-in-Refused-clause-refused
returns-in-Refused-clause-refused c =
    rw (reply_as c.args.n c.args.answer (told.Refused c.in-Refused.why) c.args.link.now
    (sym c.is_pending.ensures ∙ c.if-not-is_pending.false) (sym c.is_fit.ensures ∙ c.if-not-is_fit.false)
    c.in-Refused.is) c.refused_told.ensures.refused

pub returns-in-Content-clause-taken : goal.returns-in-Content-clause-taken
returns-in-Content-clause-taken c =
    rw (reply_as c.args.n c.args.answer (told.Content c.in-Content.content) c.args.link.now
    (sym c.is_pending.ensures ∙ c.if-not-is_pending.false) (sym c.is_fit.ensures ∙ c.if-not-is_fit.false)
    c.in-Content.is) c.content_told.ensures.taken

pub returns-in-Content-clause-refused : goal.returns-in-Content-clause-refused
returns-in-Content-clause-refused c =
    rw (reply_as c.args.n c.args.answer (told.Content c.in-Content.content) c.args.link.now
    (sym c.is_pending.ensures ∙ c.if-not-is_pending.false) (sym c.is_fit.ensures ∙ c.if-not-is_fit.false)
    c.in-Content.is) c.content_told.ensures.refused

pub returns-in-Tools-clause-taken : goal.returns-in-Tools-clause-taken
returns-in-Tools-clause-taken c =
    rw (reply_as c.args.n c.args.answer (told.Tools c.in-Tools.menus c.in-Tools.border) c.args.link.now
    (sym c.is_pending.ensures ∙ c.if-not-is_pending.false) (sym c.is_fit.ensures ∙ c.if-not-is_fit.false)
    c.in-Tools.is) c.tools_told.ensures.taken

pub returns-in-Tools-clause-refused : goal.returns-in-Tools-clause-refused
returns-in-Tools-clause-refused c =
    rw (reply_as c.args.n c.args.answer (told.Tools c.in-Tools.menus c.in-Tools.border) c.args.link.now
    (sym c.is_pending.ensures ∙ c.if-not-is_pending.false) (sym c.is_fit.ensures ∙ c.if-not-is_fit.false)
    c.in-Tools.is) c.tools_told.ensures.refused
