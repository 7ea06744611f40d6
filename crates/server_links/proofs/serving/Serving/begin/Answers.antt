use Rattle.std.proofs.Common.{rules, refl}
use Rattle.server_links.specs.Links.{link_begun}
use Rattle.server_links.proofs.Linked.{begun_underway}
use Rattle.server_links.proofs.serving.Serving.begin.Goals as goal

pub returns-clause-underway : goal.returns-clause-underway
returns-clause-underway g c = λ made t unread held h.
    begun_underway _ made _ (link_begun t) unread held
    (record {
      turn = record { server = h.server; out = search rules; edited = search rules };
      read = search rules;
    }) refl refl
