use Rattle.std.proofs.Common.{◌∙◌, sym, ap}
use Rattle.tree_streams.specs.Streams.{is_next}
use Rattle.tree_streams.proofs.Ordered.{in_order-last}
use Rattle.tree_streams.proofs.streams.Streams.push.Goals as goal

pub invariant_of-self-2 : goal.invariant_of-self-2
invariant_of-self-2 c = rw c.in_ok-push.ensures.items
    (in_order-last c.self.inside.items.items c.args.stream c.self.invariant
    (ap (λ ss. is_next ss c.args.stream.name) c.self.view_is ∙ sym c.if-not-is_next.ensures))
