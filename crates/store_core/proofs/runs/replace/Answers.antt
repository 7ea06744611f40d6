use Rattle.std.proofs.Common.{◌∙◌, inl, List, ℕ, ap, subst}
use Rattle.std.proofs.lemmas.Result.{on_ok_weaker}
use Rattle.store_model.specs.Changes.{journal_from}
use Rattle.store_model.specs.Image.{Image}
use Rattle.store_model.specs.Store.{IsBeforeOrAfter, StandsFor}
use Rattle.store_core.proofs.Moments.{then_leaves, weaker}
use Rattle.store_core.proofs.runs.replace.Goals as goal

pub returns-in_err-give_gate-clause-stays : goal.returns-in_err-give_gate-clause-stays
returns-in_err-give_gate-clause-stays g c model =
    let disk = c.args.disk.now in
    let old : List ℕ = (g.D.Disk.reads disk).document in
    weaker g.D.Disk.may_leave g.D.Disk.moment g.D.Disk.left_since disk c.give_gate.new.disk (StandsFor old)
    (IsBeforeOrAfter old c.args.document.now) (λ i is. inl is) (c.give_gate.ensures.stays model)

pub returns-clause-stays : goal.returns-clause-stays
returns-clause-stays g c model =
    let disk = c.args.disk.now in
    let reads = g.D.Disk.reads in
    let old : List ℕ = (reads disk).document in
    let new : List ℕ = c.args.document.now in
    let given = weaker g.D.Disk.may_leave g.D.Disk.moment g.D.Disk.left_since disk c.give_gate.new.disk
    (StandsFor old) (IsBeforeOrAfter old new) (λ i is. inl is) (c.give_gate.ensures.stays model) in
    then_leaves g.D.Disk.may_leave g.D.Disk.moment g.D.Disk.left_since disk c.give_gate.new.disk
    c.replace_behind.new.disk (IsBeforeOrAfter (reads c.give_gate.new.disk).document new)
    (IsBeforeOrAfter old new) given (c.replace_behind.ensures.stays model)
    (λ i is. subst (λ (d : List ℕ). IsBeforeOrAfter d new i) (c.in_ok-give_gate.ensures.document model) is)

pub returns-clause-journal : goal.returns-clause-journal
returns-clause-journal g c model =
    on_ok_weaker c.replace_behind.result (λ is. is ∙ ap (λ (d : List ℕ). journal_from 0 d c.args.document.now)
    (c.in_ok-give_gate.ensures.document model)) (c.replace_behind.ensures.journal model)
