use Rattle.std.proofs.Common.{sym}
use Rattle.container_links.proofs.Relieved.{keeps_frame}
use Rattle.container_links.proofs.replies.given_up.Goals as goal

pub returns-in_default : goal.returns-in_default
returns-in_default c = record {
  told = sym (keeps_frame c.args.link.now c.args.operation.now c.in_default.not-UiDeactivate);
  asked = tt;
}
