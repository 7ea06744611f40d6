use Rattle.std.proofs.Common.{◌≡◌, rules, subst, sym}
use Rattle.std.proofs.Math.Logic.{∥∥₁_map}
use Rattle.std.specs.Result.{IsErrAnd}
use Rattle.cfb_chains.proofs.Results.{refused_with}
use Rattle.tree_storage.specs.Kept.{Kept}
use Rattle.cfb_entries.specs.Tree.{Tree}
use Rattle.cfb_entries.specs.Whole.{IsTree}
use Rattle.cfb_file.specs.Denotes.{Denotes}
use Rattle.read_files.specs.Reads.{MayLack, MayRefuseFile}
use Rattle.read_files.proofs.ReadingLists.{lacking}
use Rattle.read_files.proofs.ReadingRefused.{same_memory}
use Rattle.read_files.proofs.read.read_file.Goals as goal

pub from_root-requires : goal.from_root-requires
from_root-requires c = ∥∥₁_map c.in_ok-layout.ensures.denotes
    (λ d. subst (λ (t : Tree). IsTree 32 t) (sym (c.in_ok-root.ensures 32 d.is_tree)) d.is_tree)

pub returns-clause-denotes : goal.returns-clause-denotes
returns-clause-denotes c = ∥∥₁_map c.in_ok-layout.ensures.denotes (λ d.
    subst (λ (k : Kept). Denotes c.args.file.now k.now) (sym c.from_root.ensures)
    (subst (λ (t : Tree). Denotes c.args.file.now t) (sym (c.in_ok-root.ensures 32 d.is_tree)) d))

pub returns-in_err-layout-clause-reads : goal.returns-in_err-layout-clause-reads
returns-in_err-layout-clause-reads c = λ t d.
    let again : IsErrAnd c.from_residual.result (λ x. x ≡ c.in_err-layout.field-0.0) = search rules in
    same_memory c.from_residual.result c.in_err-layout.field-0.0 again (c.in_err-layout.ensures.reads t d)

pub returns-in_err-layout-clause-refused : goal.returns-in_err-layout-clause-refused
returns-in_err-layout-clause-refused c =
    let again : IsErrAnd c.from_residual.result (λ x. x ≡ c.in_err-layout.field-0.0) = search rules in
    refused_with c.from_residual.result c.in_err-layout.field-0.0 (MayRefuseFile c.args.file.now) again
    c.in_err-layout.ensures.refused

pub returns-in_err-layout-clause-memory : goal.returns-in_err-layout-clause-memory
returns-in_err-layout-clause-memory c =
    let again : IsErrAnd c.from_residual.result (λ x. x ≡ c.in_err-layout.field-0.0) = search rules in
    refused_with c.from_residual.result c.in_err-layout.field-0.0 (MayLack c.args.file.now) again
    c.in_err-layout.ensures.memory

pub returns-in_err-root-clause-memory : goal.returns-in_err-root-clause-memory
returns-in_err-root-clause-memory c = lacking c.args.file.now c.from_residual-in_err-root.result
    c.in_ok-layout.ensures.lists
