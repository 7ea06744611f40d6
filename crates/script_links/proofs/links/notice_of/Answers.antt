use Rattle.script_container.proofs.Noticed.{none_noted, refusal_noted}
use Rattle.script_links.proofs.links.notice_of.Goals as goal

pub returns-in-Some : goal.returns-in-Some
returns-in-Some c = λ before. refusal_noted before c.args.refused c.in-Some.refusal c.in-Some.is

pub returns-in-None : goal.returns-in-None
returns-in-None c = λ before. none_noted before c.args.refused c.in-None.is
