use Rattle.std.proofs.Common.{◌≡◌, ◌∙◌, inr, ◌∷◌, [], ℕ, List, ap, get_or, length, refl, subst, sym}
use Rattle.std.proofs.lemmas.Result.{on_ok_weaker}
use Rattle.store_model.specs.Changes.{changes, journal_from}
use Rattle.store_model.specs.Image.{Image, changed, put}
use Rattle.store_model.specs.Journal.{changed_document, restored}
use Rattle.store_model.specs.Store.{IsBeforeOrAfter, IsClosed}
use Rattle.store_model.specs.declared.area.Area.TheVariants.{Document, Journal}
use Rattle.store_core.specs.Steps.{IsGating, IsInstalling, IsOpenWith, IsStaging}
use Rattle.store_core.specs.declared.found.Change.TheVariants.{Blocks}
use Rattle.store_model.proofs.Opening.{opened, opened_changed, opened_stands}
use Rattle.store_core.proofs.Committed.{gate_opens, opened_with, staging}
use Rattle.store_core.proofs.Again.{both_ok}
use Rattle.store_core.proofs.Closed.{gate_shut}
use Rattle.store_core.proofs.Gating.{gate_closes}
use Rattle.store_core.proofs.Moments.{then_leaves, weaker}
use Rattle.store_core.proofs.runs.replace_behind.Goals as goal

pub returns-in_err-count-clause-stays : goal.returns-in_err-count-clause-stays
returns-in_err-count-clause-stays g c model =
    let disk = c.args.disk.now in
    let reads = g.D.Disk.reads in
    let old : List ℕ = (reads disk).document in
    let new : List ℕ = c.args.document.now in
    weaker g.D.Disk.may_leave g.D.Disk.moment g.D.Disk.left_since disk c.stage.new.disk (IsStaging (reads disk))
    (IsBeforeOrAfter old new) (λ i is. staging old new (reads disk) i refl is) (c.stage.ensures.stays model)

pub returns-in_err-set_gate-clause-stays : goal.returns-in_err-set_gate-clause-stays
returns-in_err-set_gate-clause-stays g c model =
    let disk = c.args.disk.now in
    let reads = g.D.Disk.reads in
    let old : List ℕ = (reads disk).document in
    let new : List ℕ = c.args.document.now in
    let P : Image → Type 0 = IsBeforeOrAfter old new in
    let gate : ℕ = get_or (reads disk).journal 0 0 in
    let staged : reads c.stage.new.disk ≡ record { document = old; journal = journal_from gate old new } =
    c.in_ok-count.ensures.staged model in
    let stage = weaker g.D.Disk.may_leave g.D.Disk.moment g.D.Disk.left_since disk c.stage.new.disk
    (IsStaging (reads disk)) P (λ i is. staging old new (reads disk) i refl is) (c.stage.ensures.stays model) in
    let gated = then_leaves g.D.Disk.may_leave g.D.Disk.moment g.D.Disk.left_since disk c.stage.new.disk
    c.set_gate.new.disk (IsGating (reads c.stage.new.disk)) P stage (c.set_gate.ensures.stays model)
    (λ i is. gate_opens old new c.requires.small (reads c.stage.new.disk) i gate staged is) in
    gated

pub carry_out-requires-clause-open : goal.carry_out-requires-clause-open
carry_out-requires-clause-open g c model =
    let disk = c.args.disk.now in
    let reads = g.D.Disk.reads in
    let old : List ℕ = (reads disk).document in
    let new : List ℕ = c.args.document.now in
    let P : Image → Type 0 = IsBeforeOrAfter old new in
    let gate : ℕ = get_or (reads disk).journal 0 0 in
    let staged : reads c.stage.new.disk ≡ record { document = old; journal = journal_from gate old new } =
    c.in_ok-count.ensures.staged model in
    let stage = weaker g.D.Disk.may_leave g.D.Disk.moment g.D.Disk.left_since disk c.stage.new.disk
    (IsStaging (reads disk)) P (λ i is. staging old new (reads disk) i refl is) (c.stage.ensures.stays model) in
    let gated = then_leaves g.D.Disk.may_leave g.D.Disk.moment g.D.Disk.left_since disk c.stage.new.disk
    c.set_gate.new.disk (IsGating (reads c.stage.new.disk)) P stage (c.set_gate.ensures.stays model)
    (λ i is. gate_opens old new c.requires.small (reads c.stage.new.disk) i gate staged is) in
    let at_open : reads c.set_gate.new.disk ≡ opened old new = c.in_ok-set_gate.ensures.written model
    ∙ ap (λ (b : Image). changed Journal (put b.journal 0 (1 ∷ [])) b) staged in
    subst (λ (b : Image). IsOpenWith (Blocks c.in_ok-count.count (length new)) b) (sym at_open)
    (opened_with old new c.requires.small c.in_ok-count.count (length new) (c.in_ok-count.ensures.blocks model)
    refl)

pub returns-in_err-carry_out-clause-stays : goal.returns-in_err-carry_out-clause-stays
returns-in_err-carry_out-clause-stays g c model =
    let disk = c.args.disk.now in
    let reads = g.D.Disk.reads in
    let old : List ℕ = (reads disk).document in
    let new : List ℕ = c.args.document.now in
    let P : Image → Type 0 = IsBeforeOrAfter old new in
    let gate : ℕ = get_or (reads disk).journal 0 0 in
    let staged : reads c.stage.new.disk ≡ record { document = old; journal = journal_from gate old new } =
    c.in_ok-count.ensures.staged model in
    let stage = weaker g.D.Disk.may_leave g.D.Disk.moment g.D.Disk.left_since disk c.stage.new.disk
    (IsStaging (reads disk)) P (λ i is. staging old new (reads disk) i refl is) (c.stage.ensures.stays model) in
    let gated = then_leaves g.D.Disk.may_leave g.D.Disk.moment g.D.Disk.left_since disk c.stage.new.disk
    c.set_gate.new.disk (IsGating (reads c.stage.new.disk)) P stage (c.set_gate.ensures.stays model)
    (λ i is. gate_opens old new c.requires.small (reads c.stage.new.disk) i gate staged is) in
    let at_open : reads c.set_gate.new.disk ≡ opened old new = c.in_ok-set_gate.ensures.written model
    ∙ ap (λ (b : Image). changed Journal (put b.journal 0 (1 ∷ [])) b) staged in
    let carried = then_leaves g.D.Disk.may_leave g.D.Disk.moment g.D.Disk.left_since disk c.set_gate.new.disk
    c.carry_out.new.disk (IsInstalling (reads c.set_gate.new.disk)) P gated (c.carry_out.ensures.stays model)
    (λ i is. inr (is.1 ∙ ap restored at_open ∙ opened_stands old new c.requires.small)) in
    carried

pub returns-clause-document : goal.returns-clause-document
returns-clause-document g c model =
    let disk = c.args.disk.now in
    let reads = g.D.Disk.reads in
    let old : List ℕ = (reads disk).document in
    let new : List ℕ = c.args.document.now in
    let P : Image → Type 0 = IsBeforeOrAfter old new in
    let gate : ℕ = get_or (reads disk).journal 0 0 in
    let staged : reads c.stage.new.disk ≡ record { document = old; journal = journal_from gate old new } =
    c.in_ok-count.ensures.staged model in
    let stage = weaker g.D.Disk.may_leave g.D.Disk.moment g.D.Disk.left_since disk c.stage.new.disk
    (IsStaging (reads disk)) P (λ i is. staging old new (reads disk) i refl is) (c.stage.ensures.stays model) in
    let gated = then_leaves g.D.Disk.may_leave g.D.Disk.moment g.D.Disk.left_since disk c.stage.new.disk
    c.set_gate.new.disk (IsGating (reads c.stage.new.disk)) P stage (c.set_gate.ensures.stays model)
    (λ i is. gate_opens old new c.requires.small (reads c.stage.new.disk) i gate staged is) in
    let at_open : reads c.set_gate.new.disk ≡ opened old new = c.in_ok-set_gate.ensures.written model
    ∙ ap (λ (b : Image). changed Journal (put b.journal 0 (1 ∷ [])) b) staged in
    on_ok_weaker c.set_gate-2.result (λ closed. ap (λ (i : Image). i.document) closed
    ∙ ap (λ (i : Image). i.document) (c.in_ok-carry_out.ensures.written model) ∙ ap changed_document at_open
    ∙ opened_changed old new c.requires.small) (c.set_gate-2.ensures.written model)

pub returns-clause-journal : goal.returns-clause-journal
returns-clause-journal g c model =
    let disk = c.args.disk.now in
    let reads = g.D.Disk.reads in
    let old : List ℕ = (reads disk).document in
    let new : List ℕ = c.args.document.now in
    let at_open : (reads c.set_gate.new.disk).journal ≡ journal_from 1 old new =
    ap (λ (i : Image). i.journal) (c.in_ok-set_gate.ensures.written model)
    ∙ ap (λ (i : Image). put i.journal 0 (1 ∷ [])) (c.in_ok-count.ensures.staged model) in
    on_ok_weaker c.set_gate-2.result
    (λ closed. ap (λ (i : Image). i.journal) closed ∙ ap (λ (i : Image). put i.journal 0 (0 ∷ []))
    (c.in_ok-carry_out.ensures.written model) ∙ ap (λ (l : List ℕ). put l 0 (0 ∷ [])) at_open)
    (c.set_gate-2.ensures.written model)

pub returns-clause-rests : goal.returns-clause-rests
returns-clause-rests g c model =
    let reads = g.D.Disk.reads in
    both_ok c.set_gate-2.result _ _ _
    (λ x written durable. record {
      durable = durable;
      shut = (subst IsClosed (sym (ap (λ (i : Image). i.journal) written))
          (gate_shut (reads c.carry_out.new.disk).journal)).shut;
    })
    (c.set_gate-2.ensures.written model) (c.set_gate-2.ensures.durable model)

pub returns-clause-stays : goal.returns-clause-stays
returns-clause-stays g c model =
    let disk = c.args.disk.now in
    let reads = g.D.Disk.reads in
    let old : List ℕ = (reads disk).document in
    let new : List ℕ = c.args.document.now in
    let P : Image → Type 0 = IsBeforeOrAfter old new in
    let gate : ℕ = get_or (reads disk).journal 0 0 in
    let staged : reads c.stage.new.disk ≡ record { document = old; journal = journal_from gate old new } =
    c.in_ok-count.ensures.staged model in
    let stage = weaker g.D.Disk.may_leave g.D.Disk.moment g.D.Disk.left_since disk c.stage.new.disk
    (IsStaging (reads disk)) P (λ i is. staging old new (reads disk) i refl is) (c.stage.ensures.stays model) in
    let gated = then_leaves g.D.Disk.may_leave g.D.Disk.moment g.D.Disk.left_since disk c.stage.new.disk
    c.set_gate.new.disk (IsGating (reads c.stage.new.disk)) P stage (c.set_gate.ensures.stays model)
    (λ i is. gate_opens old new c.requires.small (reads c.stage.new.disk) i gate staged is) in
    let at_open : reads c.set_gate.new.disk ≡ opened old new = c.in_ok-set_gate.ensures.written model
    ∙ ap (λ (b : Image). changed Journal (put b.journal 0 (1 ∷ [])) b) staged in
    let carried = then_leaves g.D.Disk.may_leave g.D.Disk.moment g.D.Disk.left_since disk c.set_gate.new.disk
    c.carry_out.new.disk (IsInstalling (reads c.set_gate.new.disk)) P gated (c.carry_out.ensures.stays model)
    (λ i is. inr (is.1 ∙ ap restored at_open ∙ opened_stands old new c.requires.small)) in
    let open_with = opened_with old new c.requires.small (length (changes old new)) (length new) refl refl in
    let written : reads c.carry_out.new.disk ≡ changed Document (changed_document (opened old new))
    (opened old new) = c.in_ok-carry_out.ensures.written model
    ∙ ap (λ (b : Image). changed Document (changed_document b) b) at_open in
    let stands : restored (reads c.carry_out.new.disk) ≡ restored (opened old new) =
    ((c.carry_out.ensures.stays model).now (reads c.carry_out.new.disk)
    (g.met.D.Disk.reads_are_left c.carry_out.new.disk)).1 ∙ ap restored at_open in
    then_leaves g.D.Disk.may_leave g.D.Disk.moment g.D.Disk.left_since disk c.carry_out.new.disk
    c.set_gate-2.new.disk (IsGating (reads c.carry_out.new.disk)) P carried (c.set_gate-2.ensures.stays model)
    (λ i is. inr (gate_closes (opened old new) (reads c.carry_out.new.disk) i open_with.gate open_with.whole written
    stands is ∙ opened_stands old new c.requires.small))
