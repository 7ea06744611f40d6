use Rattle.std.proofs.Common.{◌≡◌, ◌∙◌, sym}
use Rattle.container_model.specs.Numbered.{IsNth}
use Rattle.world_model.specs.declared.life.Life.TheVariants.{Running}
use Rattle.world_state.specs.View.{seen, seen_instance}
use Rattle.world_state.proofs.Servers.{nth_at, seen_nth}
use Rattle.world_state.proofs.Serving.{if_some}
use Rattle.world_state.proofs.Planning.{plan_serve, plan_begin, plan_none}
use Rattle.world_state.proofs.state.State.plan_call.Goals as goal

pub returns-in_default-wants-clause-planned : goal.returns-in_default-wants-clause-planned
returns-in_default-wants-clause-planned g c =
    let x = c.index.result.now in
    let p : IsNth c.args.inc c.args.self.now.instances.items c.in-Some.i = c.in-Some.ensures.0 in
    let e =
    nth_at (seen_instance (λ s. (goal.Embedded-dyn g (s.boxed.vtable, s.boxed.value)).content s.boxed.value))
    c.args.self.now.instances.items c.args.inc c.in-Some.i x p c.index.ensures in
    let r : x.life ≡ Running =
    if_some _
    ((seen_instance (λ s. (goal.Embedded-dyn g (s.boxed.vtable, s.boxed.value)).content s.boxed.value)) x) _ e
    c.in-Some.ensures.1 ∙ c.in-Running.is in
    plan_serve (seen (λ s. (goal.Embedded-dyn g (s.boxed.vtable, s.boxed.value)).content s.boxed.value)
    c.args.self.now) c.args.inc c.in-Some.i c.args.call.now
    ((seen_instance (λ s. (goal.Embedded-dyn g (s.boxed.vtable, s.boxed.value)).content s.boxed.value)) x)
    c.requires
    (seen_nth (seen_instance (λ s. (goal.Embedded-dyn g (s.boxed.vtable, s.boxed.value)).content s.boxed.value))
    c.args.self.now.instances.items c.args.inc c.in-Some.i p) e r (sym c.wants.ensures ∙ c.in_default-wants.is)

pub returns-in-Some-place-clause-planned : goal.returns-in-Some-place-clause-planned
returns-in-Some-place-clause-planned g c =
    let x = c.index.result.now in
    let p : IsNth c.args.inc c.args.self.now.instances.items c.in-Some.i = c.in-Some.ensures.0 in
    let e =
    nth_at (seen_instance (λ s. (goal.Embedded-dyn g (s.boxed.vtable, s.boxed.value)).content s.boxed.value))
    c.args.self.now.instances.items c.args.inc c.in-Some.i x p c.index.ensures in
    let r : x.life ≡ Running =
    if_some _
    ((seen_instance (λ s. (goal.Embedded-dyn g (s.boxed.vtable, s.boxed.value)).content s.boxed.value)) x) _ e
    c.in-Some.ensures.1 ∙ c.in-Running.is in
    plan_begin (seen (λ s. (goal.Embedded-dyn g (s.boxed.vtable, s.boxed.value)).content s.boxed.value)
    c.args.self.now) c.args.inc c.in-Some.i c.in-Some-place.at c.args.call.now
    ((seen_instance (λ s. (goal.Embedded-dyn g (s.boxed.vtable, s.boxed.value)).content s.boxed.value)) x)
    c.in-Some-wants.class c.requires
    (seen_nth (seen_instance (λ s. (goal.Embedded-dyn g (s.boxed.vtable, s.boxed.value)).content s.boxed.value))
    c.args.self.now.instances.items c.args.inc c.in-Some.i p) e r (sym c.wants.ensures ∙ c.in-Some-wants.is)
    c.in-Some-place.ensures

pub returns-in-None-clause-refused : goal.returns-in-None-clause-refused
returns-in-None-clause-refused g c =
    let x = c.index.result.now in
    let p : IsNth c.args.inc c.args.self.now.instances.items c.in-Some.i = c.in-Some.ensures.0 in
    let e =
    nth_at (seen_instance (λ s. (goal.Embedded-dyn g (s.boxed.vtable, s.boxed.value)).content s.boxed.value))
    c.args.self.now.instances.items c.args.inc c.in-Some.i x p c.index.ensures in
    let r : x.life ≡ Running =
    if_some _
    ((seen_instance (λ s. (goal.Embedded-dyn g (s.boxed.vtable, s.boxed.value)).content s.boxed.value)) x) _ e
    c.in-Some.ensures.1 ∙ c.in-Running.is in
    plan_none (seen (λ s. (goal.Embedded-dyn g (s.boxed.vtable, s.boxed.value)).content s.boxed.value)
    c.args.self.now) c.args.inc c.args.call.now
    ((seen_instance (λ s. (goal.Embedded-dyn g (s.boxed.vtable, s.boxed.value)).content s.boxed.value)) x)
    c.in-Some-wants.class c.requires e r (sym c.wants.ensures ∙ c.in-Some-wants.is) c.in-None.ensures
