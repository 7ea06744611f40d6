use Rattle.std.proofs.Common.{◌≡◌, ◌-◌, length, take}
use Rattle.server_links.specs.Turns.{Turn, scribbled_all}
use Rattle.server_links.specs.View.{IsIn}
use Rattle.server_links.proofs.serving.Serving.scribble_all.Given as goal

abbrev pub invariant-loop-place : goal.invariant-loop-place
invariant-loop-place g l = (length l.self.servers.items ≡ 1) × (l.self.edited.items ≡ l.fn.self.edited.items)
    × (l.self.decoder ≡ l.fn.self.decoder)
    × ((t : Turn) → IsIn (λ s. (goal.Embedded-dyn g (s.boxed.vtable, s.boxed.value)).content s.boxed.value) l.fn.self t
    → IsIn (λ s. (goal.Embedded-dyn g (s.boxed.vtable, s.boxed.value)).content s.boxed.value) l.self
    (scribbled_all t (take l.place t.edited)))
    × (l.self.turns ≡ l.fn.self.turns) × (l.self.reads ≡ l.fn.self.reads)

abbrev pub decreases-loop-place : goal.decreases-loop-place
decreases-loop-place g l = length l.fn.self.edited.items - l.place
