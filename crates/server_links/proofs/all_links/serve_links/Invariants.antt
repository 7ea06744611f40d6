use Rattle.std.proofs.Common.{◌≡◌, ◌<◌, length}
use Rattle.server_links.specs.Turns.{first_turn}
use Rattle.server_links.specs.Served.{MOST_LINKS}
use Rattle.server_links.proofs.Runs.{IsOn}
use Rattle.server_links.proofs.all_links.serve_links.OwnLists.{own-1}
use Rattle.server_links.proofs.all_links.serve_links.Given as goal

abbrev pub invariant-loop : goal.invariant-loop
invariant-loop g l = (length l.serving.servers.items ≡ 1)
    × (l.served < MOST_LINKS)
    × IsOn (λ s. (own-1.entry s.boxed.vtable).1.content s.boxed.value) g.L.Reader.Read.remaining
    g.L.Writer.Write.contents
    (first_turn l.fn.session l.fn.inc l.fn.numbers) (g.L.Links.told l.fn.links) l.serving l.link l.served
    (g.L.Links.told l.links)
