use Rattle.server_links.specs.Turns.{first_turn}
use Rattle.server_links.proofs.Linked.{begun_underway}
use Rattle.server_links.proofs.Served.{both}
use Rattle.server_links.proofs.serving.Serving.start.Goals as goal

pub returns-clause-underway : goal.returns-clause-underway
returns-clause-underway g c = both c.make.result c.make.ensures.counts c.make.ensures.first (λ n at made unread held.
    begun_underway _ made c.make.new.self (first_turn c.args.session c.args.inc c.args.numbers) unread held at n.0 n.1)
