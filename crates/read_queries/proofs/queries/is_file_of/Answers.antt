use Rattle.std.proofs.Common.{◌≡◌, ◌∙◌, rules, subst, sym}
use Rattle.std.proofs.Math.Logic.{∥∥₁_map}
use Rattle.std.specs.Result.{IsErrAnd}
use Rattle.cfb_chains.proofs.Results.{refused_with}
use Rattle.cfb_entries.specs.Tree.{Tree}
use Rattle.cfb_file.specs.Denotes.{Denotes}
use Rattle.read_files.specs.Reads.{MayRefuseFile}
use Rattle.read_files.proofs.ReadingRefused.{same_memory}
use Rattle.read_queries.proofs.Same.{told_same}
use Rattle.read_outlines.specs.View.{contents, shown}
use Rattle.tree_storage.specs.Kept.{kept}
use Rattle.read_queries.proofs.queries.is_file_of.Goals as goal

pub returns-clause-same : goal.returns-clause-same
returns-clause-same c = (
  λ same. ∥∥₁_map c.in_ok-layout.ensures.denotes
      (λ d. subst (λ (t : Tree). Denotes c.args.file.now t)
      (sym (c.in_ok-same.ensures.same same) ∙ c.root.ensures.value) d),
  told_same c.in_ok-same.same c.args.file.now
      (shown (contents c.in_ok-layout.layout.fat c.in_ok-layout.layout.mini) c.in_ok-layout.layout.root)
      (kept c.args.wanted.now).now c.in_ok-layout.ensures.denotes
      (λ e. c.in_ok-same.ensures.missed c.in_ok-layout.ensures.sized (c.root.ensures.value ∙ e)),
)

pub returns-in_err-layout-clause-reads : goal.returns-in_err-layout-clause-reads
returns-in_err-layout-clause-reads c = λ t d.
    let again : IsErrAnd c.from_residual.result (λ x. x ≡ c.in_err-layout.field-0.0) = search rules in
    same_memory c.from_residual.result c.in_err-layout.field-0.0 again (c.in_err-layout.ensures.reads t d)

pub returns-in_err-layout-clause-refused : goal.returns-in_err-layout-clause-refused
returns-in_err-layout-clause-refused c =
    let again : IsErrAnd c.from_residual.result (λ x. x ≡ c.in_err-layout.field-0.0) = search rules in
    refused_with c.from_residual.result c.in_err-layout.field-0.0 (MayRefuseFile c.args.file.now) again
    c.in_err-layout.ensures.refused
