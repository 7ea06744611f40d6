use Rattle.std.proofs.Common.{◌≡◌, ◌<◌, ◌∙◌, Some, ap, get_or, length, refl, subst, sym}
use Rattle.store_model.specs.Image.{Image, changed}
use Rattle.store_model.specs.Journal.{changed_document, is_open, restored}
use Rattle.store_model.specs.Store.{StandsAsOneOf}
use Rattle.store_model.specs.declared.area.Area.TheVariants.{Document}
use Rattle.store_core.specs.Resting.{IsShut}
use Rattle.store_core.specs.Steps.{Finds, IsGating, IsInstalling, IsOpenWith}
use Rattle.store_core.proofs.Gating.{closed_stands, gate_closes, gate_short, shut_not_open}
use Rattle.store_core.proofs.Moments.{quietly, then_leaves, then_quiet}
use Rattle.store_core.proofs.runs.recover.Goals as goal

pub returns-in_err-set_gate-in-Short-clause-stays : goal.returns-in_err-set_gate-in-Short-clause-stays
returns-in_err-set_gate-in-Short-clause-stays g c model =
    let old = c.args.disk.now in
    let reads = g.D.Disk.reads in
    let P : Image → Type 0 = StandsAsOneOf (g.D.Disk.may_leave old) in
    let at_old : reads c.find.new.disk ≡ reads old = c.in_ok-found.ensures.same model
    ∙ c.in_ok-settle.ensures.same model in
    let here : (i : Image) → restored i ≡ restored (reads old)
    → P i = λ i is. (reads old, g.met.D.Disk.reads_are_left old, is) in
    let settled = quietly g.D.Disk.may_leave g.D.Disk.moment g.D.Disk.left_since old c.settle.new.disk P
    (λ i left. (i, left, refl)) (c.settle.ensures.quiet model) in
    let found = then_quiet g.D.Disk.may_leave g.D.Disk.moment g.D.Disk.left_since old c.settle.new.disk
    c.find.new.disk P settled (c.find.ensures.quiet model) in
    let finds = c.in_ok-found.ensures.found model in
    let short : length (reads old).journal < 9 = subst (λ (b : Image). length b.journal < 9)
    (c.in_ok-settle.ensures.same model) (subst (Finds (reads c.settle.new.disk)) c.in-Short.is finds).0 in
    then_leaves g.D.Disk.may_leave g.D.Disk.moment g.D.Disk.left_since old c.find.new.disk c.set_gate.new.disk
    (IsGating (reads c.find.new.disk)) P found (c.set_gate.ensures.stays model)
    (λ i gating. here i (gate_short (reads old) i short (subst (λ (b : Image). IsGating b i) at_old gating)))

pub returns-in_ok-set_gate-in-Short-clause-stays : goal.returns-in_ok-set_gate-in-Short-clause-stays
returns-in_ok-set_gate-in-Short-clause-stays g c model =
    let old = c.args.disk.now in
    let reads = g.D.Disk.reads in
    let P : Image → Type 0 = StandsAsOneOf (g.D.Disk.may_leave old) in
    let at_old : reads c.find.new.disk ≡ reads old = c.in_ok-found.ensures.same model
    ∙ c.in_ok-settle.ensures.same model in
    let here : (i : Image) → restored i ≡ restored (reads old)
    → P i = λ i is. (reads old, g.met.D.Disk.reads_are_left old, is) in
    let settled = quietly g.D.Disk.may_leave g.D.Disk.moment g.D.Disk.left_since old c.settle.new.disk P
    (λ i left. (i, left, refl)) (c.settle.ensures.quiet model) in
    let found = then_quiet g.D.Disk.may_leave g.D.Disk.moment g.D.Disk.left_since old c.settle.new.disk
    c.find.new.disk P settled (c.find.ensures.quiet model) in
    let finds = c.in_ok-found.ensures.found model in
    let short : length (reads old).journal < 9 = subst (λ (b : Image). length b.journal < 9)
    (c.in_ok-settle.ensures.same model) (subst (Finds (reads c.settle.new.disk)) c.in-Short.is finds).0 in
    then_leaves g.D.Disk.may_leave g.D.Disk.moment g.D.Disk.left_since old c.find.new.disk c.set_gate.new.disk
    (IsGating (reads c.find.new.disk)) P found (c.set_gate.ensures.stays model)
    (λ i gating. here i (gate_short (reads old) i short (subst (λ (b : Image). IsGating b i) at_old gating)))

pub returns-in_err-carry_out-in-Open-clause-stays : goal.returns-in_err-carry_out-in-Open-clause-stays
returns-in_err-carry_out-in-Open-clause-stays g c model =
    let old = c.args.disk.now in
    let reads = g.D.Disk.reads in
    let P : Image → Type 0 = StandsAsOneOf (g.D.Disk.may_leave old) in
    let at_old : reads c.find.new.disk ≡ reads old = c.in_ok-found.ensures.same model
    ∙ c.in_ok-settle.ensures.same model in
    let here : (i : Image) → restored i ≡ restored (reads old)
    → P i = λ i is. (reads old, g.met.D.Disk.reads_are_left old, is) in
    let settled = quietly g.D.Disk.may_leave g.D.Disk.moment g.D.Disk.left_since old c.settle.new.disk P
    (λ i left. (i, left, refl)) (c.settle.ensures.quiet model) in
    let found = then_quiet g.D.Disk.may_leave g.D.Disk.moment g.D.Disk.left_since old c.settle.new.disk
    c.find.new.disk P settled (c.find.ensures.quiet model) in
    let finds = c.in_ok-found.ensures.found model in
    let open_with : IsOpenWith c.in-Open.change (reads old) = subst (λ (b : Image). IsOpenWith c.in-Open.change b)
    (c.in_ok-settle.ensures.same model) (subst (Finds (reads c.settle.new.disk)) c.in-Open.is finds) in
    let carried = then_leaves g.D.Disk.may_leave g.D.Disk.moment g.D.Disk.left_since old c.find.new.disk
    c.carry_out.new.disk (IsInstalling (reads c.find.new.disk)) P found (c.carry_out.ensures.stays model)
    (λ i is. here i (is.1 ∙ ap restored at_old)) in
    carried

pub returns-in_err-set_gate-in-Open-clause-stays : goal.returns-in_err-set_gate-in-Open-clause-stays
returns-in_err-set_gate-in-Open-clause-stays g c model =
    let old = c.args.disk.now in
    let reads = g.D.Disk.reads in
    let P : Image → Type 0 = StandsAsOneOf (g.D.Disk.may_leave old) in
    let at_old : reads c.find.new.disk ≡ reads old = c.in_ok-found.ensures.same model
    ∙ c.in_ok-settle.ensures.same model in
    let here : (i : Image) → restored i ≡ restored (reads old)
    → P i = λ i is. (reads old, g.met.D.Disk.reads_are_left old, is) in
    let settled = quietly g.D.Disk.may_leave g.D.Disk.moment g.D.Disk.left_since old c.settle.new.disk P
    (λ i left. (i, left, refl)) (c.settle.ensures.quiet model) in
    let found = then_quiet g.D.Disk.may_leave g.D.Disk.moment g.D.Disk.left_since old c.settle.new.disk
    c.find.new.disk P settled (c.find.ensures.quiet model) in
    let finds = c.in_ok-found.ensures.found model in
    let open_with : IsOpenWith c.in-Open.change (reads old) = subst (λ (b : Image). IsOpenWith c.in-Open.change b)
    (c.in_ok-settle.ensures.same model) (subst (Finds (reads c.settle.new.disk)) c.in-Open.is finds) in
    let carried = then_leaves g.D.Disk.may_leave g.D.Disk.moment g.D.Disk.left_since old c.find.new.disk
    c.carry_out.new.disk (IsInstalling (reads c.find.new.disk)) P found (c.carry_out.ensures.stays model)
    (λ i is. here i (is.1 ∙ ap restored at_old)) in
    let written : reads c.carry_out.new.disk ≡ changed Document (changed_document (reads old)) (reads old) =
    c.in_ok-carry_out-in-Open.ensures.written model
    ∙ ap (λ (b : Image). changed Document (changed_document b) b) at_old in
    let stands : restored (reads c.carry_out.new.disk) ≡ restored (reads old) =
    ((c.carry_out.ensures.stays model).now (reads c.carry_out.new.disk)
    (g.met.D.Disk.reads_are_left c.carry_out.new.disk)).1 ∙ ap restored at_old in
    then_leaves g.D.Disk.may_leave g.D.Disk.moment g.D.Disk.left_since old c.carry_out.new.disk
    c.set_gate-in-Open.new.disk (IsGating (reads c.carry_out.new.disk)) P carried
    (c.set_gate-in-Open.ensures.stays model)
    (λ i gating. here i (gate_closes (reads old) (reads c.carry_out.new.disk) i open_with.gate open_with.whole
    written stands gating))

pub returns-in_ok-set_gate-in-Open-clause-stays : goal.returns-in_ok-set_gate-in-Open-clause-stays
returns-in_ok-set_gate-in-Open-clause-stays g c model =
    let old = c.args.disk.now in
    let reads = g.D.Disk.reads in
    let P : Image → Type 0 = StandsAsOneOf (g.D.Disk.may_leave old) in
    let at_old : reads c.find.new.disk ≡ reads old = c.in_ok-found.ensures.same model
    ∙ c.in_ok-settle.ensures.same model in
    let here : (i : Image) → restored i ≡ restored (reads old)
    → P i = λ i is. (reads old, g.met.D.Disk.reads_are_left old, is) in
    let settled = quietly g.D.Disk.may_leave g.D.Disk.moment g.D.Disk.left_since old c.settle.new.disk P
    (λ i left. (i, left, refl)) (c.settle.ensures.quiet model) in
    let found = then_quiet g.D.Disk.may_leave g.D.Disk.moment g.D.Disk.left_since old c.settle.new.disk
    c.find.new.disk P settled (c.find.ensures.quiet model) in
    let finds = c.in_ok-found.ensures.found model in
    let open_with : IsOpenWith c.in-Open.change (reads old) = subst (λ (b : Image). IsOpenWith c.in-Open.change b)
    (c.in_ok-settle.ensures.same model) (subst (Finds (reads c.settle.new.disk)) c.in-Open.is finds) in
    let carried = then_leaves g.D.Disk.may_leave g.D.Disk.moment g.D.Disk.left_since old c.find.new.disk
    c.carry_out.new.disk (IsInstalling (reads c.find.new.disk)) P found (c.carry_out.ensures.stays model)
    (λ i is. here i (is.1 ∙ ap restored at_old)) in
    let written : reads c.carry_out.new.disk ≡ changed Document (changed_document (reads old)) (reads old) =
    c.in_ok-carry_out-in-Open.ensures.written model
    ∙ ap (λ (b : Image). changed Document (changed_document b) b) at_old in
    let stands : restored (reads c.carry_out.new.disk) ≡ restored (reads old) =
    ((c.carry_out.ensures.stays model).now (reads c.carry_out.new.disk)
    (g.met.D.Disk.reads_are_left c.carry_out.new.disk)).1 ∙ ap restored at_old in
    then_leaves g.D.Disk.may_leave g.D.Disk.moment g.D.Disk.left_since old c.carry_out.new.disk
    c.set_gate-in-Open.new.disk (IsGating (reads c.carry_out.new.disk)) P carried
    (c.set_gate-in-Open.ensures.stays model)
    (λ i gating. here i (gate_closes (reads old) (reads c.carry_out.new.disk) i open_with.gate open_with.whole
    written stands gating))

pub returns-in_err-settle-clause-stays : goal.returns-in_err-settle-clause-stays
returns-in_err-settle-clause-stays g c model =
    quietly g.D.Disk.may_leave g.D.Disk.moment g.D.Disk.left_since c.args.disk.now c.settle.new.disk
    (StandsAsOneOf (g.D.Disk.may_leave c.args.disk.now)) (λ i left. (i, left, refl))
    (c.settle.ensures.quiet model)

pub returns-in_err-found-clause-stays : goal.returns-in_err-found-clause-stays
returns-in_err-found-clause-stays g c model =
    let old = c.args.disk.now in
    let P : Image → Type 0 = StandsAsOneOf (g.D.Disk.may_leave old) in
    then_quiet g.D.Disk.may_leave g.D.Disk.moment g.D.Disk.left_since old c.settle.new.disk c.find.new.disk P
    (quietly g.D.Disk.may_leave g.D.Disk.moment g.D.Disk.left_since old c.settle.new.disk P
    (λ i left. (i, left, refl)) (c.settle.ensures.quiet model))
    (c.find.ensures.quiet model)

pub set_gate-requires : goal.set_gate-requires
set_gate-requires g c = record {
  durable = λ model i left. c.in_ok-settle.ensures.durable model i ((c.find.ensures.quiet model).now i left)
      ∙ sym (c.in_ok-found.ensures.same model ∙ c.in_ok-settle.ensures.same model);
}

pub carry_out-requires-clause-durable : goal.carry_out-requires-clause-durable
carry_out-requires-clause-durable g c model =
    λ i left. c.in_ok-settle.ensures.durable model i ((c.find.ensures.quiet model).now i left)
    ∙ sym (c.in_ok-found.ensures.same model ∙ c.in_ok-settle.ensures.same model)

pub returns-in-Closed-clause-document : goal.returns-in-Closed-clause-document
returns-in-Closed-clause-document g c model =
    let reads = g.D.Disk.reads in
    let settled : Image = reads c.settle.new.disk in
    ap restored (sym (c.in_ok-settle.ensures.same model)) ∙ closed_stands settled
    (subst (Finds settled) c.in-Closed.is (c.in_ok-found.ensures.found model))
    ∙ ap (λ (i : Image). Some i.document) (sym (c.in_ok-found.ensures.same model))

pub returns-in-Closed-clause-rests : goal.returns-in-Closed-clause-rests
returns-in-Closed-clause-rests g c model =
    let settled : Image = g.D.Disk.reads c.settle.new.disk in
    record {
      durable = λ i left. c.in_ok-settle.ensures.durable model i ((c.find.ensures.quiet model).now i left)
          ∙ sym (c.in_ok-found.ensures.same model ∙ c.in_ok-settle.ensures.same model);
      shut = subst (λ (i : Image). IsShut i.journal) (sym (c.in_ok-found.ensures.same model))
          (subst (Finds settled) c.in-Closed.is (c.in_ok-found.ensures.found model));
    }

pub returns-in-Closed-clause-stays : goal.returns-in-Closed-clause-stays
returns-in-Closed-clause-stays g c model =
    let old = c.args.disk.now in
    let P : Image → Type 0 = StandsAsOneOf (g.D.Disk.may_leave old) in
    then_quiet g.D.Disk.may_leave g.D.Disk.moment g.D.Disk.left_since old c.settle.new.disk c.find.new.disk P
    (quietly g.D.Disk.may_leave g.D.Disk.moment g.D.Disk.left_since old c.settle.new.disk P
    (λ i left. (i, left, refl)) (c.settle.ensures.quiet model))
    (c.find.ensures.quiet model)

pub returns-in_err-found-clause-quiet : goal.returns-in_err-found-clause-quiet
returns-in_err-found-clause-quiet g c model shut =
    let old = c.args.disk.now in
    then_quiet g.D.Disk.may_leave g.D.Disk.moment g.D.Disk.left_since old c.settle.new.disk c.find.new.disk
    (g.D.Disk.may_leave old) (c.settle.ensures.quiet model) (c.find.ensures.quiet model)

pub returns-in-Closed-clause-quiet : goal.returns-in-Closed-clause-quiet
returns-in-Closed-clause-quiet g c model shut =
    let old = c.args.disk.now in
    then_quiet g.D.Disk.may_leave g.D.Disk.moment g.D.Disk.left_since old c.settle.new.disk c.find.new.disk
    (g.D.Disk.may_leave old) (c.settle.ensures.quiet model) (c.find.ensures.quiet model)

pub returns-in-Closed-clause-same : goal.returns-in-Closed-clause-same
returns-in-Closed-clause-same g c model shut = c.in_ok-found.ensures.same model ∙ c.in_ok-settle.ensures.same model

pub returns-in_err-set_gate-in-Short-clause-quiet : goal.returns-in_err-set_gate-in-Short-clause-quiet
returns-in_err-set_gate-in-Short-clause-quiet g c model shut =
    let finds = subst (Finds (g.D.Disk.reads c.settle.new.disk)) c.in-Short.is (c.in_ok-found.ensures.found model) in
    absurd (shut (ap (λ (i : Image). get_or i.journal 0 0) (sym (c.in_ok-settle.ensures.same model)) ∙ finds.1))

pub returns-in_ok-set_gate-in-Short-clause-quiet : goal.returns-in_ok-set_gate-in-Short-clause-quiet
returns-in_ok-set_gate-in-Short-clause-quiet g c model shut =
    let finds = subst (Finds (g.D.Disk.reads c.settle.new.disk)) c.in-Short.is (c.in_ok-found.ensures.found model) in
    absurd (shut (ap (λ (i : Image). get_or i.journal 0 0) (sym (c.in_ok-settle.ensures.same model)) ∙ finds.1))

pub returns-in_ok-set_gate-in-Short-clause-same : goal.returns-in_ok-set_gate-in-Short-clause-same
returns-in_ok-set_gate-in-Short-clause-same g c model shut =
    let finds = subst (Finds (g.D.Disk.reads c.settle.new.disk)) c.in-Short.is (c.in_ok-found.ensures.found model) in
    absurd (shut (ap (λ (i : Image). get_or i.journal 0 0) (sym (c.in_ok-settle.ensures.same model)) ∙ finds.1))

pub returns-in_err-carry_out-in-Open-clause-quiet : goal.returns-in_err-carry_out-in-Open-clause-quiet
returns-in_err-carry_out-in-Open-clause-quiet g c model shut =
    let reads = g.D.Disk.reads in
    let finds = subst (Finds (reads c.settle.new.disk)) c.in-Open.is (c.in_ok-found.ensures.found model) in
    absurd (shut_not_open (reads c.args.disk.now).journal shut
    (ap (λ (i : Image). is_open i.journal) (sym (c.in_ok-settle.ensures.same model)) ∙ finds.gate))

pub returns-in_err-set_gate-in-Open-clause-quiet : goal.returns-in_err-set_gate-in-Open-clause-quiet
returns-in_err-set_gate-in-Open-clause-quiet g c model shut =
    let reads = g.D.Disk.reads in
    let finds = subst (Finds (reads c.settle.new.disk)) c.in-Open.is (c.in_ok-found.ensures.found model) in
    absurd (shut_not_open (reads c.args.disk.now).journal shut
    (ap (λ (i : Image). is_open i.journal) (sym (c.in_ok-settle.ensures.same model)) ∙ finds.gate))

pub returns-in_ok-set_gate-in-Open-clause-quiet : goal.returns-in_ok-set_gate-in-Open-clause-quiet
returns-in_ok-set_gate-in-Open-clause-quiet g c model shut =
    let reads = g.D.Disk.reads in
    let finds = subst (Finds (reads c.settle.new.disk)) c.in-Open.is (c.in_ok-found.ensures.found model) in
    absurd (shut_not_open (reads c.args.disk.now).journal shut
    (ap (λ (i : Image). is_open i.journal) (sym (c.in_ok-settle.ensures.same model)) ∙ finds.gate))

pub returns-in_ok-set_gate-in-Open-clause-same : goal.returns-in_ok-set_gate-in-Open-clause-same
returns-in_ok-set_gate-in-Open-clause-same g c model shut =
    let reads = g.D.Disk.reads in
    let finds = subst (Finds (reads c.settle.new.disk)) c.in-Open.is (c.in_ok-found.ensures.found model) in
    absurd (shut_not_open (reads c.args.disk.now).journal shut
    (ap (λ (i : Image). is_open i.journal) (sym (c.in_ok-settle.ensures.same model)) ∙ finds.gate))
