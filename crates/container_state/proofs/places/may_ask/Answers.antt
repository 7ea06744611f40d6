use Rattle.std.proofs.Common.{◌≡◌, ◌∙◌, true, false, sym, ap}
use Rattle.container_model.specs.Record.{is_busy}
use Rattle.container_commands.proofs.LocatedSteps.{busy, fine, in_doubt, saving}
use Rattle.container_state.proofs.places.may_ask.Goals as goal

pub returns-then-is_doubtful-clause-refused : goal.returns-then-is_doubtful-clause-refused
returns-then-is_doubtful-clause-refused c = λ step. in_doubt step c.args.object.now c.args.frame.now
    (sym c.is_doubtful.ensures ∙ c.if-is_doubtful.true)

pub returns-then-is_saving-clause-refused : goal.returns-then-is_saving-clause-refused
returns-then-is_saving-clause-refused c = λ step. saving step c.args.object.now c.args.frame.now
    (sym c.is_doubtful.ensures ∙ c.if-is_doubtful.false) (sym c.is_saving.ensures ∙ c.if-is_saving.true)

pub returns-then-is_busy-clause-refused : goal.returns-then-is_busy-clause-refused
returns-then-is_busy-clause-refused c =
    let told : is_busy c.args.frame.now.ui.state c.args.object.now ≡ true =
    ap (λ s. is_busy s c.args.object.now) (sym c.state-state.ensures.state)
    ∙ (sym c.is_busy.ensures ∙ c.if-is_busy.true) in
    λ step. busy step c.args.object.now c.args.frame.now (sym c.is_doubtful.ensures ∙ c.if-is_doubtful.false)
    (sym c.is_saving.ensures ∙ c.if-is_saving.false) told

pub returns-clause-may : goal.returns-clause-may
returns-clause-may c =
    let told : is_busy c.args.frame.now.ui.state c.args.object.now ≡ false =
    ap (λ s. is_busy s c.args.object.now) (sym c.state-state.ensures.state)
    ∙ (sym c.is_busy.ensures ∙ c.if-is_busy.false) in
    λ step. fine step c.args.object.now c.args.frame.now (sym c.is_doubtful.ensures ∙ c.if-is_doubtful.false)
    (sym c.is_saving.ensures ∙ c.if-is_saving.false) told
