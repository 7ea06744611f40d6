use Rattle.std.proofs.Common.{arith}
use Rattle.std.proofs.lemmas.List.Elements.{All-push}
use Rattle.std.specs.List.{Contains}
use Rattle.write_zeros.proofs.entries.push_link.Goals as goal

pub returns : goal.returns
returns c = λ ids leads h. rw c.in_ok-push.ensures.items
    (All-push (Contains ids) c.args.met.now.items c.args.link h (leads (λ e. omega (arith, e))))
