use Rattle.std.proofs.Common.{◌≡◌, ◌≤◌, ℕ, List, Option, Bool, length}
use Rattle.server_links.specs.Turns.{Turn}
use Rattle.server_links.specs.Links.{IsUnderway}
use Rattle.server_links.proofs.Linked.{far}
use Rattle.server_links.proofs.link.serve_link.Given as goal

abbrev pub invariant-loop : goal.invariant-loop
invariant-loop g l = (length l.serving.servers.items ≡ 1)
    × ((made : List ℕ → Bool) (began : Turn) (unread held : Option (List ℕ))
    → IsUnderway (λ s. (goal.Embedded-dyn g (s.boxed.vtable, s.boxed.value)).content s.boxed.value) l.fn.serving
    made began unread (g.R.Read.remaining l.fn.reader) held (g.W.Write.contents l.fn.writer)
    → (s : IsUnderway (λ s. (goal.Embedded-dyn g (s.boxed.vtable, s.boxed.value)).content s.boxed.value) l.serving
    made began unread (g.R.Read.remaining l.reader) held (g.W.Write.contents l.writer))
    × (l.counter ≤ far s.served.taken l.serving.turns l.serving.reads))
