use Rattle.std.proofs.Common.{◌≡◌, rules, sym}
use Rattle.std.specs.Result.{IsErrAnd}
use Rattle.cfb_chains.proofs.Results.{refused_with}
use Rattle.read_files.specs.Reads.{MayLack, MayRefuseFile}
use Rattle.read_outlines.specs.View.{contents, shown}
use Rattle.read_files.proofs.ReadingRefused.{same_memory}
use Rattle.read_files.proofs.read.read_outline.Goals as goal

pub returns-clause-outlined : goal.returns-clause-outlined
returns-clause-outlined c = (
  shown (contents c.in_ok-layout.layout.fat c.in_ok-layout.layout.mini) c.in_ok-layout.layout.root,
  c.in_ok-layout.ensures.denotes,
  sym c.in_ok-layout.ensures.sized,
)

pub returns-in_err-layout-clause-reads : goal.returns-in_err-layout-clause-reads
returns-in_err-layout-clause-reads c = λ t d.
    let again : IsErrAnd c.from_residual.result (λ x. x ≡ c.in_err-layout.field-0.0) = search rules in
    same_memory c.from_residual.result c.in_err-layout.field-0.0 again (c.in_err-layout.ensures.reads t d)

pub returns-in_err-layout-clause-refused : goal.returns-in_err-layout-clause-refused
returns-in_err-layout-clause-refused c =
    let again : IsErrAnd c.from_residual.result (λ x. x ≡ c.in_err-layout.field-0.0) = search rules in
    refused_with c.from_residual.result c.in_err-layout.field-0.0 (MayRefuseFile c.args.file.now) again
    c.in_err-layout.ensures.refused

pub returns-in_err-layout-clause-memory : goal.returns-in_err-layout-clause-memory
returns-in_err-layout-clause-memory c =
    let again : IsErrAnd c.from_residual.result (λ x. x ≡ c.in_err-layout.field-0.0) = search rules in
    refused_with c.from_residual.result c.in_err-layout.field-0.0 (MayLack c.args.file.now) again
    c.in_err-layout.ensures.memory
