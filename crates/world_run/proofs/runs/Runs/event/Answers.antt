use Rattle.std.proofs.Common.{◌∙◌, sym}
use Rattle.world_run.specs.Told.{told}
use Rattle.world_run.proofs.Passing.{passes_here, passes_there, session_seen}
use Rattle.world_run.proofs.Results.{on_ok}
use Rattle.world_state.specs.View.{seen}
use Rattle.world_run.proofs.runs.Runs.event.Goals as goal

pub returns-then-session-clause-taken : goal.returns-then-session-clause-taken
returns-then-session-clause-taken g c =
    let w = seen (λ s. (goal.Embedded-dyn g (s.boxed.vtable, s.boxed.value)).content s.boxed.value)
    c.args.self.now.state in
    on_ok c.present.result
    (passes_here (told (λ s. (goal.Embedded-dyn g (s.boxed.vtable, s.boxed.value)).content s.boxed.value)
    c.args.self.now) c.args.event.now
    (told (λ s. (goal.Embedded-dyn g (s.boxed.vtable, s.boxed.value)).content s.boxed.value) c.present.new.self)
    (session_seen c.args.self.now.state.host w.instances w.stock c.args.event.now
    ∙ (sym c.session_of-session.ensures ∙ (c.if-session.true ∙ c.session.ensures)))) c.present.ensures.taken

pub returns-else-session-clause-taken : goal.returns-else-session-clause-taken
returns-else-session-clause-taken g c =
    let w = seen (λ s. (goal.Embedded-dyn g (s.boxed.vtable, s.boxed.value)).content s.boxed.value)
    c.args.self.now.state in
    on_ok c.earlier.result
    (passes_there (told (λ s. (goal.Embedded-dyn g (s.boxed.vtable, s.boxed.value)).content s.boxed.value)
    c.args.self.now) c.args.event.now c.session_of-session.result
    (told (λ s. (goal.Embedded-dyn g (s.boxed.vtable, s.boxed.value)).content s.boxed.value) c.earlier.new.self)
    (c.session_of-session.ensures
    ∙ sym (session_seen c.args.self.now.state.host w.instances w.stock c.args.event.now))
    (λ q. c.if-session.false (q ∙ sym c.session.ensures))) c.earlier.ensures.taken
