use Rattle.std.proofs.Common.{ap, sym, ◌∙◌, map}
use Rattle.object_core.specs.Kinds.{kind_of}
use Rattle.std.specs.Prelude.{option_map}
use Rattle.world_state.specs.Plans.{stock_with}
use Rattle.world_state.specs.View.{seen, seen_stocked}
use Rattle.world_state.proofs.Stocks.{inserted}
use Rattle.world_state.proofs.state.State.put_back.Goals as goal

pub returns-in-Ok-clause-put : goal.returns-in-Ok-clause-put
returns-in-Ok-clause-put g c =
    ap (λ st. record (seen (λ s. (goal.Embedded-dyn g (s.boxed.vtable, s.boxed.value)).content s.boxed.value)
    c.args.self.now) { stock = st })
    (ap (map (seen_stocked (λ s. (goal.Embedded-dyn g (s.boxed.vtable, s.boxed.value)).content s.boxed.value)))
    c.in-Ok.ensures.items
    ∙ (inserted (seen_stocked (λ s. (goal.Embedded-dyn g (s.boxed.vtable, s.boxed.value)).content s.boxed.value))
    c.args.self.now.stock.boxes.items c.args.at (record { boxed = c.in-Some.boxed })
    ∙ ap
    (λ b. stock_with
    (map (seen_stocked (λ s. (goal.Embedded-dyn g (s.boxed.vtable, s.boxed.value)).content s.boxed.value))
    c.args.self.now.stock.boxes.items) c.args.at
    (option_map (λ y. kind_of ((goal.Embedded-dyn g (y.vtable, y.value)).content y.value)) b))
    (sym c.in-Some.is)))
