use Rattle.std.proofs.Common.{◌≡◌, rules}
use Rattle.std.specs.Result.{IsErrAnd}
use Rattle.cfb_chains.proofs.Results.{refused_with}
use Rattle.read_files.specs.Reads.{MayLack, MayRefuseFile}
use Rattle.read_outlines.specs.View.{contents, shown}
use Rattle.read_outlines.proofs.EntriesKept.{placed_whole}
use Rattle.read_files.proofs.ReadingRefused.{same_memory}
use Rattle.read_files.proofs.read.read_placed.Goals as goal

pub returns-clause-outlined : goal.returns-clause-outlined
returns-clause-outlined c =
    let placed = placed_whole c.args.file.now _ c.in_ok-walked.walked.root c.in_ok-walked.ensures.walked in (
      shown (contents c.in_ok-walked.walked.fat c.in_ok-walked.walked.mini) c.in_ok-walked.walked.root,
      placed.denotes,
      placed.outlined,
    )

pub returns-clause-placed : goal.returns-clause-placed
returns-clause-placed c = (
  shown (contents c.in_ok-walked.walked.fat c.in_ok-walked.walked.mini) c.in_ok-walked.walked.root,
  placed_whole c.args.file.now _ c.in_ok-walked.walked.root c.in_ok-walked.ensures.walked,
)

pub returns-in_err-walked-clause-reads : goal.returns-in_err-walked-clause-reads
returns-in_err-walked-clause-reads c = λ t d.
    let again : IsErrAnd c.from_residual.result (λ x. x ≡ c.in_err-walked.field-0.0) = search rules in
    same_memory c.from_residual.result c.in_err-walked.field-0.0 again (c.in_err-walked.ensures.reads t d)

pub returns-in_err-walked-clause-refused : goal.returns-in_err-walked-clause-refused
returns-in_err-walked-clause-refused c =
    let again : IsErrAnd c.from_residual.result (λ x. x ≡ c.in_err-walked.field-0.0) = search rules in
    refused_with c.from_residual.result c.in_err-walked.field-0.0 (MayRefuseFile c.args.file.now) again
    c.in_err-walked.ensures.refused

pub returns-in_err-walked-clause-memory : goal.returns-in_err-walked-clause-memory
returns-in_err-walked-clause-memory c =
    let again : IsErrAnd c.from_residual.result (λ x. x ≡ c.in_err-walked.field-0.0) = search rules in
    refused_with c.from_residual.result c.in_err-walked.field-0.0 (MayLack c.args.file.now) again
    c.in_err-walked.ensures.memory
