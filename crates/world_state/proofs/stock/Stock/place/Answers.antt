use Rattle.std.proofs.Common.{◌<◌, ◌≤◌, ap, sym, ◌∙◌, length, get_or, arith}
use Rattle.std.specs.Str.{bytes_eq}
use Rattle.world_state.specs.View.{seen_stocked}
use Rattle.world_state.proofs.Stocks.{past_none, past_more, past_here, past_all}
use Rattle.world_state.proofs.stock.Stock.place.Goals as goal

pub loop-i-init : goal.loop-i-init
loop-i-init g c = past_none _ _

pub returns-then-eq : goal.returns-then-eq
returns-then-eq g c =
    let fits : c.loop-i.i < length c.args.self.now.boxes.items =
    omega (arith, ap length c.deref-stocked-items.ensures.value) in
    past_here (seen_stocked (λ s. (goal.Embedded-dyn g (s.boxed.vtable, s.boxed.value)).content s.boxed.value))
    c.args.class c.args.self.now.boxes.items c.loop-i.i c.stocked-item.result c.loop-i.invariant fits
    (c.stocked-item.is ∙ ap (λ xs. get_or xs c.loop-i.i c.stocked-item.result) c.deref-stocked-items.ensures.value)
    (ap (λ b. bytes_eq b c.args.class) (sym c.class.ensures) ∙ (sym c.eq.ensures ∙ c.if-eq.true))

pub loop-i-preserved : goal.loop-i-preserved
loop-i-preserved g c =
    let fits : c.loop-i.i < length c.args.self.now.boxes.items =
    omega (arith, ap length c.deref-stocked-items.ensures.value) in
    past_more (seen_stocked (λ s. (goal.Embedded-dyn g (s.boxed.vtable, s.boxed.value)).content s.boxed.value))
    c.args.class c.args.self.now.boxes.items c.loop-i.i c.stocked-item.result c.loop-i.invariant fits
    (c.stocked-item.is ∙ ap (λ xs. get_or xs c.loop-i.i c.stocked-item.result) c.deref-stocked-items.ensures.value)
    (ap (λ b. bytes_eq b c.args.class) (sym c.class.ensures) ∙ (sym c.eq.ensures ∙ c.if-eq.false))

pub returns : goal.returns
returns g c =
    let past : length c.args.self.now.boxes.items ≤ c.loop-i.i =
    omega (arith, ap length c.deref-stocked-items.ensures.value) in
    past_all (seen_stocked (λ s. (goal.Embedded-dyn g (s.boxed.vtable, s.boxed.value)).content s.boxed.value))
    c.args.class c.args.self.now.boxes.items c.loop-i.i c.loop-i.invariant past
