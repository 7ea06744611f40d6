use Rattle.std.proofs.Common.{◌∙◌, List, sym, ap}
use Rattle.container_model.specs.Commands.{any_busy}
use Rattle.container_model.specs.Record.{is_moving}
use Rattle.container_model.specs.declared.record.Object.{Object}
use Rattle.container_steady.proofs.SteadyTests.{idle_of}
use Rattle.container_commands.proofs.SavesMade.{busy, fine, in_doubt, moving, saving}
use Rattle.container_state.proofs.saves.may_save.Goals as goal

pub returns-then-is_doubtful-clause-refused : goal.returns-then-is_doubtful-clause-refused
returns-then-is_doubtful-clause-refused c = λ r next same. in_doubt r c.args.number c.args.frame.now next
    (sym c.is_doubtful.ensures ∙ c.if-is_doubtful.true)

pub returns-then-is_saving-clause-refused : goal.returns-then-is_saving-clause-refused
returns-then-is_saving-clause-refused c = λ r next same. saving r c.args.number c.args.frame.now next
    (sym c.is_doubtful.ensures ∙ c.if-is_doubtful.false) (sym c.is_saving.ensures ∙ c.if-is_saving.true)

pub returns-then-is_moving-clause-refused : goal.returns-then-is_moving-clause-refused
returns-then-is_moving-clause-refused c = λ r next same. moving r c.args.number c.args.frame.now next
    (sym c.is_doubtful.ensures ∙ c.if-is_doubtful.false) (sym c.is_saving.ensures ∙ c.if-is_saving.false)
    (ap is_moving (sym c.state-state.ensures.state) ∙ (sym c.is_moving.ensures ∙ c.if-is_moving.true))

pub returns-then-any_busy-clause-refused : goal.returns-then-any_busy-clause-refused
returns-then-any_busy-clause-refused c = λ r next same. busy r c.args.number c.args.frame.now next
    (sym c.is_doubtful.ensures ∙ c.if-is_doubtful.false) (sym c.is_saving.ensures ∙ c.if-is_saving.false)
    (ap is_moving (sym c.state-state.ensures.state) ∙ (sym c.is_moving.ensures ∙ c.if-is_moving.false))
    (ap (λ (os : List Object). any_busy c.args.number c.args.frame.now.ui.state os)
    (same ∙ sym c.as_slice.ensures.value)
    ∙ (ap (λ s. any_busy c.args.number s c.as_slice.result.now) (sym c.state-state.ensures.state)
    ∙ (sym c.any_busy.ensures ∙ c.if-any_busy.true)))

pub returns-clause-may : goal.returns-clause-may
returns-clause-may c = λ r next same. fine r c.args.number c.args.frame.now next
    (sym c.is_doubtful.ensures ∙ c.if-is_doubtful.false) (sym c.is_saving.ensures ∙ c.if-is_saving.false)
    (ap is_moving (sym c.state-state.ensures.state) ∙ (sym c.is_moving.ensures ∙ c.if-is_moving.false))
    (ap (λ (os : List Object). any_busy c.args.number c.args.frame.now.ui.state os)
    (same ∙ sym c.as_slice.ensures.value)
    ∙ (ap (λ s. any_busy c.args.number s c.as_slice.result.now) (sym c.state-state.ensures.state)
    ∙ (sym c.any_busy.ensures ∙ c.if-any_busy.false)))

pub returns-clause-idle : goal.returns-clause-idle
returns-clause-idle c = idle_of c.args.frame.now.phase (sym c.is_doubtful.ensures ∙ c.if-is_doubtful.false)
    (sym c.is_saving.ensures ∙ c.if-is_saving.false)
