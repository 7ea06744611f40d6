use Rattle.std.proofs.Common.{◌≡◌, ◌<◌, ◌∙◌, ℕ, List, Some, ap, arith, length, subst, sym}
use Rattle.std.proofs.lemmas.Result.{on_ok_weaker}
use Rattle.store_model.specs.Image.{Image}
use Rattle.store_model.specs.Store.{IsClosed, StandsFor}
use Rattle.store_core.specs.Steps.{IsGating}
use Rattle.store_core.proofs.Again.{both_ok}
use Rattle.store_core.proofs.Closed.{gate_shut}
use Rattle.store_core.proofs.Gating.{closed_stands, gate_short}
use Rattle.store_core.proofs.Moments.{quietly, then_leaves}
use Rattle.store_core.proofs.steps.give_gate.Goals as goal

pub returns-in_err-size-clause-stays : goal.returns-in_err-size-clause-stays
returns-in_err-size-clause-stays g c model =
    let old = c.args.disk.now in
    let before : Image = g.D.Disk.reads old in
    let rests = c.requires.rests model in
    quietly g.D.Disk.may_leave g.D.Disk.moment g.D.Disk.left_since old c.length_of.new.disk (StandsFor before.document)
    (λ i left. subst (λ (b : Image). StandsFor before.document b) (sym (rests.durable i left))
    (closed_stands before rests.shut)) (c.length_of.ensures.quiet model)

pub returns-then-size-gt0-clause-stays : goal.returns-then-size-gt0-clause-stays
returns-then-size-gt0-clause-stays g c model =
    let old = c.args.disk.now in
    let before : Image = g.D.Disk.reads old in
    let rests = c.requires.rests model in
    quietly g.D.Disk.may_leave g.D.Disk.moment g.D.Disk.left_since old c.length_of.new.disk (StandsFor before.document)
    (λ i left. subst (λ (b : Image). StandsFor before.document b) (sym (rests.durable i left))
    (closed_stands before rests.shut)) (c.length_of.ensures.quiet model)

pub returns-then-size-gt0-clause-rests : goal.returns-then-size-gt0-clause-rests
returns-then-size-gt0-clause-rests g c model =
    let before : Image = g.D.Disk.reads c.args.disk.now in
    let rests = c.requires.rests model in
    let same = c.in_ok-size.ensures.same model in
    let long = c.in_ok-size.ensures.length model in
    let some = c.if-size-gt0.true in
    record {
      durable = λ i left. rests.durable i ((c.length_of.ensures.quiet model).now i left) ∙ sym same;
      closed = subst (λ (b : Image). IsClosed b.journal) (sym same)
          (record { there = omega (arith, long, some); shut = rests.shut });
    }

pub set_gate-requires : goal.set_gate-requires
set_gate-requires g c = record {
  durable = λ model i left. (c.requires.rests model).durable i ((c.length_of.ensures.quiet model).now i left)
      ∙ sym (c.in_ok-size.ensures.same model);
}

pub returns-clause-rests : goal.returns-clause-rests
returns-clause-rests g c model =
    let reads = g.D.Disk.reads in
    both_ok c.set_gate.result _ _ _
    (λ x written durable. record {
      durable = durable;
      closed = subst IsClosed (sym (ap (λ (i : Image). i.journal) written))
          (gate_shut (reads c.length_of.new.disk).journal);
    })
    (c.set_gate.ensures.written model) (c.set_gate.ensures.durable model)

pub returns-clause-document : goal.returns-clause-document
returns-clause-document g c model =
    on_ok_weaker c.set_gate.result (λ written. ap (λ (i : Image). i.document) written
    ∙ ap (λ (i : Image). i.document) (c.in_ok-size.ensures.same model)) (c.set_gate.ensures.written model)

pub returns-clause-stays : goal.returns-clause-stays
returns-clause-stays g c model =
    let old = c.args.disk.now in
    let reads = g.D.Disk.reads in
    let before : Image = reads old in
    let at : Image = reads c.length_of.new.disk in
    let P : Image → Type 0 = StandsFor before.document in
    let rests = c.requires.rests model in
    let same : at ≡ before = c.in_ok-size.ensures.same model in
    let long = c.in_ok-size.ensures.length model in
    let none = c.if-size-gt0.false in
    let short : length before.journal < 9 = omega (arith, long, none) in
    let quiet = quietly g.D.Disk.may_leave g.D.Disk.moment g.D.Disk.left_since old c.length_of.new.disk P
    (λ i left. subst (λ (b : Image). StandsFor before.document b) (sym (rests.durable i left))
    (closed_stands before rests.shut)) (c.length_of.ensures.quiet model) in
    then_leaves g.D.Disk.may_leave g.D.Disk.moment g.D.Disk.left_since old c.length_of.new.disk c.set_gate.new.disk
    (IsGating at) P quiet (c.set_gate.ensures.stays model)
    (λ i gating. gate_short before i short (subst (λ (b : Image). IsGating b i) same gating)
    ∙ closed_stands before rests.shut)
