use Rattle.std.proofs.Common.{ap, sym, ◌∙◌}
use Rattle.std.specs.Prelude.{option_map}
use Rattle.object_state.specs.Both as both
use Rattle.server_core.specs.Kept.{whole}
use Rattle.server_core.proofs.NextCalls.{next_acts, next_refuses}
use Rattle.server_core.proofs.facts.Facts.next.Goals as goal

pub returns-in-Ok-clause-acted : goal.returns-in-Ok-clause-acted
returns-in-Ok-clause-acted g c = next_acts c.act.result
    (whole c.args.act c.args.self.now
    (option_map (λ s. (goal.Embedded-dyn g (s.boxed.vtable, s.boxed.value)).content s.boxed.value) c.args.seat.now))
    c.args.operation.now c.in-Ok.states _ (ap (both.step c.args.self.now.states) (sym c.op.ensures)
    ∙ sym c.in-Ok.ensures) _ (λ t. t.answer) (λ t. t.counted) c.act.ensures.acted

pub returns-in-Ok-clause-refused : goal.returns-in-Ok-clause-refused
returns-in-Ok-clause-refused g c = next_refuses c.act.result
    (whole c.args.act c.args.self.now
    (option_map (λ s. (goal.Embedded-dyn g (s.boxed.vtable, s.boxed.value)).content s.boxed.value) c.args.seat.now))
    c.args.operation.now c.in-Ok.states _ (ap (both.step c.args.self.now.states) (sym c.op.ensures)
    ∙ sym c.in-Ok.ensures) (λ e. e) c.act.ensures.refused
