use Rattle.message_values.specs.declared.message.Said.TheVariants.{Reply, Write}
use Rattle.world_state.specs.View.{seen}
use Rattle.world_state.proofs.Delivering.{carried_as}
use Rattle.world_state.proofs.state.State.carry_out.Goals as goal

pub returns-in-Reply-clause-taken : goal.returns-in-Reply-clause-taken
returns-in-Reply-clause-taken g c =
    carried_as (seen (λ s. (goal.Embedded-dyn g (s.boxed.vtable, s.boxed.value)).content s.boxed.value)
    c.args.self.now) (seen (λ s. (goal.Embedded-dyn g (s.boxed.vtable, s.boxed.value)).content s.boxed.value)
    c.tell.new.self) c.args.p c.args.message
    (Reply c.in-Reply.inc c.in-Reply.act c.in-Reply.n c.in-Reply.answer) c.args.plan c.tell.result c.in-Reply.is
    c.tell.ensures.taken

pub returns-in-Write-clause-taken : goal.returns-in-Write-clause-taken
returns-in-Write-clause-taken g c =
    carried_as (seen (λ s. (goal.Embedded-dyn g (s.boxed.vtable, s.boxed.value)).content s.boxed.value)
    c.args.self.now) (seen (λ s. (goal.Embedded-dyn g (s.boxed.vtable, s.boxed.value)).content s.boxed.value)
    c.tell-in-Write.new.self) c.args.p c.args.message
    (Write c.in-Write.inc c.in-Write.act c.in-Write.s c.in-Write.w c.in-Write.content) c.args.plan
    c.tell-in-Write.result c.in-Write.is c.tell-in-Write.ensures.taken
