use Rattle.std.proofs.Common.{subst, sym}
use Rattle.std.specs.Prelude.{IfErr}
use Rattle.world_model.specs.declared.event.Event.{Event}
use Rattle.world_state.specs.View.{seen}
use Rattle.world_model.specs.World.{StopsAt}
use Rattle.world_state.proofs.Choices.{chosen}
use Rattle.world_state.proofs.state.State.step.Goals as goal

pub returns-in-Done-clause-refused : goal.returns-in-Done-clause-refused
returns-in-Done-clause-refused g c =
    subst (λ (e : Event). IfErr c.done.result
    (StopsAt (seen (λ s. (goal.Embedded-dyn g (s.boxed.vtable, s.boxed.value)).content s.boxed.value)
    c.args.self.now) e)) (sym c.in-Done.is) c.done.ensures.refused

pub returns-in-Command-clause-taken : goal.returns-in-Command-clause-taken
returns-in-Command-clause-taken g c =
    chosen (seen (λ s. (goal.Embedded-dyn g (s.boxed.vtable, s.boxed.value)).content s.boxed.value) c.args.self.now)
    (seen (λ s. (goal.Embedded-dyn g (s.boxed.vtable, s.boxed.value)).content s.boxed.value) c.command.new.self) _ _
    c.command.result c.in-Command.is tt c.command.ensures.taken

pub returns-in-Deliver-clause-taken : goal.returns-in-Deliver-clause-taken
returns-in-Deliver-clause-taken g c =
    chosen (seen (λ s. (goal.Embedded-dyn g (s.boxed.vtable, s.boxed.value)).content s.boxed.value) c.args.self.now)
    (seen (λ s. (goal.Embedded-dyn g (s.boxed.vtable, s.boxed.value)).content s.boxed.value) c.deliver.new.self) _ _
    c.deliver.result c.in-Deliver.is tt c.deliver.ensures.taken

pub returns-in-Forge-clause-taken : goal.returns-in-Forge-clause-taken
returns-in-Forge-clause-taken g c =
    chosen (seen (λ s. (goal.Embedded-dyn g (s.boxed.vtable, s.boxed.value)).content s.boxed.value) c.args.self.now)
    (seen (λ s. (goal.Embedded-dyn g (s.boxed.vtable, s.boxed.value)).content s.boxed.value) c.forge.new.self) _ _
    c.forge.result c.in-Forge.is tt c.forge.ensures.taken

pub returns-in-Crash-clause-taken : goal.returns-in-Crash-clause-taken
returns-in-Crash-clause-taken g c =
    chosen (seen (λ s. (goal.Embedded-dyn g (s.boxed.vtable, s.boxed.value)).content s.boxed.value) c.args.self.now)
    (seen (λ s. (goal.Embedded-dyn g (s.boxed.vtable, s.boxed.value)).content s.boxed.value) c.crash.new.self) _ _
    c.crash.result c.in-Crash.is tt c.crash.ensures.taken

pub returns-in-Reap-clause-taken : goal.returns-in-Reap-clause-taken
returns-in-Reap-clause-taken g c =
    chosen (seen (λ s. (goal.Embedded-dyn g (s.boxed.vtable, s.boxed.value)).content s.boxed.value) c.args.self.now)
    (seen (λ s. (goal.Embedded-dyn g (s.boxed.vtable, s.boxed.value)).content s.boxed.value) c.reap.new.self) _ _
    c.reap.result c.in-Reap.is tt c.reap.ensures.taken

pub returns-in-Scribble-clause-taken : goal.returns-in-Scribble-clause-taken
returns-in-Scribble-clause-taken g c =
    chosen (seen (λ s. (goal.Embedded-dyn g (s.boxed.vtable, s.boxed.value)).content s.boxed.value) c.args.self.now)
    (seen (λ s. (goal.Embedded-dyn g (s.boxed.vtable, s.boxed.value)).content s.boxed.value) c.scribble.new.self) _
    _ c.scribble.result c.in-Scribble.is tt c.scribble.ensures.taken

pub returns-in-Ask-clause-taken : goal.returns-in-Ask-clause-taken
returns-in-Ask-clause-taken g c =
    chosen (seen (λ s. (goal.Embedded-dyn g (s.boxed.vtable, s.boxed.value)).content s.boxed.value) c.args.self.now)
    (seen (λ s. (goal.Embedded-dyn g (s.boxed.vtable, s.boxed.value)).content s.boxed.value) c.ask.new.self) _ _
    c.ask.result c.in-Ask.is tt c.ask.ensures.taken
