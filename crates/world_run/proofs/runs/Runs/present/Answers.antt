use Rattle.std.proofs.Common.{ap, sym, ◌∙◌}
use Rattle.world_run.specs.Names.{has_after, kept_after}
use Rattle.world_run.specs.Told.{seen_pasts, told}
use Rattle.world_run.proofs.Following.{followed_as}
use Rattle.world_run.proofs.Passing.{follows, holds_back}
use Rattle.world_run.proofs.Stopping.{told_parts}
use Rattle.world_state.specs.View.{seen}
use Rattle.world_run.proofs.runs.Runs.present.Goals as goal

pub returns-in-Ok-clause-taken : goal.returns-in-Ok-clause-taken
returns-in-Ok-clause-taken g c =
    let old = c.args.self.now in
    let e = c.args.event.now in
    let s = told (λ s. (goal.Embedded-dyn g (s.boxed.vtable, s.boxed.value)).content s.boxed.value) old in
    let v = seen (λ s. (goal.Embedded-dyn g (s.boxed.vtable, s.boxed.value)).content s.boxed.value) c.step.new.self in
    let may = sym c.may_begin.ensures ∙ c.if-not-may_begin.false in
    let after = told_parts (λ s. (goal.Embedded-dyn g (s.boxed.vtable, s.boxed.value)).content s.boxed.value)
    c.follow.new.self c.step.new.self old.past.items (has_after e old.has_document) old.document
    (kept_after e c.step.new.self.host.core.frames old.kept.items)
    c.follow.ensures.state (ap (λ ps. ps.items) c.follow.ensures.past) c.follow.ensures.has_document
    c.follow.ensures.document c.follow.ensures.kept in
    follows s e v (told (λ s. (goal.Embedded-dyn g (s.boxed.vtable, s.boxed.value)).content s.boxed.value)
    c.follow.new.self) may c.in-Ok.ensures.taken
    (λ choice ok. followed_as old.has_document old.document s.now v
    (seen_pasts (λ s. (goal.Embedded-dyn g (s.boxed.vtable, s.boxed.value)).content s.boxed.value)
    old.past.items) old.kept.items choice e may ok ∙ sym after)

pub returns-in-Err-clause-refused : goal.returns-in-Err-clause-refused
returns-in-Err-clause-refused g c =
    holds_back (told (λ s. (goal.Embedded-dyn g (s.boxed.vtable, s.boxed.value)).content s.boxed.value)
    c.args.self.now) c.args.event.now c.in-Err.stop (sym c.may_begin.ensures ∙ c.if-not-may_begin.false)
    c.in-Err.ensures.refused
