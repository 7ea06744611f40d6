use Rattle.std.proofs.Common.{sym, subst, ◌∙◌, ◌≡◌, ℕ, List, rules}
use Rattle.container_model.specs.Record.{Record}
use Rattle.script_model.specs.Errors.{IsUnknown}
use Rattle.script_container.specs.Told.{IsImage, IsTold}
use Rattle.script_container.proofs.Saved.{left_by, saved_by}
use Rattle.std.specs.Result.{IsErrAnd}
use Rattle.script_container.proofs.Shown.{memory_on, passed_on, unknown_by}
use Rattle.script_container.proofs.saves.save_file.Goals as goal

pub committed-requires-clause-saved : goal.committed-requires-clause-saved
committed-requires-clause-saved g c = λ m.
    let image : IsImage c.args.core.now c.args.frame c.bytes.result.now =
    subst (λ (bytes : List ℕ). IsImage c.args.core.now c.args.frame bytes) (sym c.bytes.ensures.value)
    c.requires.image in
    saved_by (g.H.Host.told c.commit.new.host) c.args.core.now c.args.frame c.in-Some.found.now c.deref.result.now
    c.bytes.result.now c.in-Ok-Kept.field-0 c.in-Ok-Kept.field-0-is
    (c.commit.ensures.told c.args.core.now c.requires.told) (c.in-Ok-Kept.ensures.shut m) (sym c.in-Some.ensures)
    (c.deref.ensures.value ∙ c.in_ok-name.ensures) image

pub lose-requires-clause-lost : goal.lose-requires-clause-lost
lose-requires-clause-lost g c =
    let image : IsImage c.args.core.now c.args.frame c.bytes.result.now =
    subst (λ (bytes : List ℕ). IsImage c.args.core.now c.args.frame bytes) (sym c.bytes.ensures.value)
    c.requires.image in
    left_by (g.H.Host.told c.commit.new.host) c.args.core.now c.args.frame c.in-Some.found.now c.deref.result.now
    c.bytes.result.now c.in-Ok-Lost.field-0 c.in-Ok-Lost.fault c.in-Ok-Lost.field-0-is
    (c.commit.ensures.told c.args.core.now c.requires.told) c.in-Ok-Lost.ensures.left (sym c.in-Some.ensures)
    (c.deref.ensures.value ∙ c.in_ok-name.ensures) image

pub returns-in_err-name-clause-shown : goal.returns-in_err-name-clause-shown
returns-in_err-name-clause-shown g c = memory_on g.H.Disk.Disk c.from_residual.result
    (g.H.Host.told c.args.host.now) c.from_residual.ensures.1

pub returns-in_err-committed-in-Ok-Kept-clause-shown : goal.returns-in_err-committed-in-Ok-Kept-clause-shown
returns-in_err-committed-in-Ok-Kept-clause-shown g c =
    let again : IsErrAnd c.from_residual-in_err-committed-in-Ok-Kept.result
    (λ x. x ≡ c.in_err-committed-in-Ok-Kept.field-0.0) = search rules in
    passed_on g.H.Disk.Disk c.from_residual-in_err-committed-in-Ok-Kept.result
    c.in_err-committed-in-Ok-Kept.field-0.0 (g.H.Host.told c.committed.new.host) again
    c.in_err-committed-in-Ok-Kept.ensures.shown

pub returns-in_err-lose-in-Ok-Lost-clause-shown : goal.returns-in_err-lose-in-Ok-Lost-clause-shown
returns-in_err-lose-in-Ok-Lost-clause-shown g c =
    let again : IsErrAnd c.from_residual-in_err-lose-in-Ok-Lost.result
    (λ x. x ≡ c.in_err-lose-in-Ok-Lost.field-0.0) = search rules in
    passed_on g.H.Disk.Disk c.from_residual-in_err-lose-in-Ok-Lost.result c.in_err-lose-in-Ok-Lost.field-0.0
    (g.H.Host.told c.lose.new.host) again c.in_err-lose-in-Ok-Lost.ensures.shown

pub returns-in-Err-clause-shown : goal.returns-in-Err-clause-shown
returns-in-Err-clause-shown g c =
    let image : IsImage c.args.core.now c.args.frame c.bytes.result.now =
    subst (λ (bytes : List ℕ). IsImage c.args.core.now c.args.frame bytes) (sym c.bytes.ensures.value)
    c.requires.image in
    subst (λ (n : List ℕ). IsUnknown g.H.Disk.Disk (g.H.Host.told c.commit.new.host) n c.in-Err.fault)
    c.deref.ensures.value
    (unknown_by g.H.Disk.Disk (g.H.Host.told c.commit.new.host) c.args.core.now c.args.frame c.in-Some.found.now
    c.deref.result.now c.bytes.result.now c.in-Err.fault (c.commit.ensures.told c.args.core.now c.requires.told)
    c.in-Err.ensures.unopened (sym c.in-Some.ensures)
    (c.deref.ensures.value ∙ c.in_ok-name.ensures) image)

pub committed-requires-clause-told : goal.committed-requires-clause-told
committed-requires-clause-told g c =
    subst (λ (r : Record). IsTold g.H.Disk.Disk (g.H.Host.told c.commit.new.host) r) (sym c.put_image.ensures.same)
    (c.commit.ensures.told c.args.core.now c.requires.told)

pub lose-requires-clause-told : goal.lose-requires-clause-told
lose-requires-clause-told g c = c.commit.ensures.told c.args.core.now c.requires.told

pub returns-in-Err-clause-told : goal.returns-in-Err-clause-told
returns-in-Err-clause-told g c = c.commit.ensures.told c.args.core.now c.requires.told
