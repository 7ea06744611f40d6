use Rattle.std.proofs.Common.{sym, ◌∙◌}
use Rattle.message_values.specs.Found.{nth}
use Rattle.world_model.specs.World.{ask}
use Rattle.world_state.specs.View.{seen}
use Rattle.world_state.proofs.Sessions.{elsewhere, refused_here, taken_here}
use Rattle.world_state.proofs.state.State.ask.Goals as goal

pub returns-then-not-is_in-clause-refused : goal.returns-then-not-is_in-clause-refused
returns-then-not-is_in-clause-refused g c =
    elsewhere (seen (λ s. (goal.Embedded-dyn g (s.boxed.vtable, s.boxed.value)).content s.boxed.value)
    c.args.self.now) c.args.session
    (ask (seen (λ s. (goal.Embedded-dyn g (s.boxed.vtable, s.boxed.value)).content s.boxed.value) c.args.self.now)
    c.args.inc c.args.act
    (nth (seen (λ s. (goal.Embedded-dyn g (s.boxed.vtable, s.boxed.value)).content s.boxed.value)
    c.args.self.now).instances c.args.inc)) (sym c.is_in.ensures ∙ c.if-not-is_in.true)

pub returns-clause-taken : goal.returns-clause-taken
returns-clause-taken g c =
    taken_here (seen (λ s. (goal.Embedded-dyn g (s.boxed.vtable, s.boxed.value)).content s.boxed.value)
    c.args.self.now) (seen (λ s. (goal.Embedded-dyn g (s.boxed.vtable, s.boxed.value)).content s.boxed.value)
    c.ask_here.new.self) c.args.session
    (ask (seen (λ s. (goal.Embedded-dyn g (s.boxed.vtable, s.boxed.value)).content s.boxed.value) c.args.self.now)
    c.args.inc c.args.act
    (nth (seen (λ s. (goal.Embedded-dyn g (s.boxed.vtable, s.boxed.value)).content s.boxed.value)
    c.args.self.now).instances c.args.inc)) c.ask_here.result (sym c.is_in.ensures ∙ c.if-not-is_in.false)
    c.ask_here.ensures.taken

pub returns-clause-refused : goal.returns-clause-refused
returns-clause-refused g c =
    refused_here (seen (λ s. (goal.Embedded-dyn g (s.boxed.vtable, s.boxed.value)).content s.boxed.value)
    c.args.self.now) c.args.session
    (ask (seen (λ s. (goal.Embedded-dyn g (s.boxed.vtable, s.boxed.value)).content s.boxed.value) c.args.self.now)
    c.args.inc c.args.act
    (nth (seen (λ s. (goal.Embedded-dyn g (s.boxed.vtable, s.boxed.value)).content s.boxed.value)
    c.args.self.now).instances c.args.inc)) c.ask_here.result (sym c.is_in.ensures ∙ c.if-not-is_in.false)
    c.ask_here.ensures.refused
