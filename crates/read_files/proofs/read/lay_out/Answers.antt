use Rattle.std.proofs.Common.{◌≡◌, rules, sym}
use Rattle.std.specs.Result.{IsErrAnd}
use Rattle.cfb_chains.proofs.Results.{refused_with}
use Rattle.read_files.specs.Reads.{MayLack, MayRefuseFile, chain_fault}
use Rattle.read_files.proofs.ReadingLists.{header_lacks}
use Rattle.read_files.proofs.ReadingRefused.{file_header, same_memory}
use Rattle.read_outlines.proofs.EntriesKept.{placed_whole}
use Rattle.read_files.proofs.read.lay_out.Goals as goal

pub returns-in_err-header-clause-refused : goal.returns-in_err-header-clause-refused
returns-in_err-header-clause-refused c =
    refused_with c.from_residual.result (chain_fault c.in_err-header.field-0.0) (MayRefuseFile c.args.file.now)
    c.from_residual.ensures.1
    (file_header c.args.file.now c.in_err-header.field-0.0 c.in_err-header.ensures.read)

pub returns-in_err-layout-clause-reads : goal.returns-in_err-layout-clause-reads
returns-in_err-layout-clause-reads c = λ t d.
    let again : IsErrAnd c.from_residual-in_err-layout.result (λ x. x ≡ c.in_err-layout.field-0.0) = search rules in
    same_memory c.from_residual-in_err-layout.result c.in_err-layout.field-0.0 again (c.in_err-layout.ensures.reads t d)

pub returns-in_err-layout-clause-refused : goal.returns-in_err-layout-clause-refused
returns-in_err-layout-clause-refused c =
    let again : IsErrAnd c.from_residual-in_err-layout.result (λ x. x ≡ c.in_err-layout.field-0.0) = search rules in
    refused_with c.from_residual-in_err-layout.result c.in_err-layout.field-0.0 (MayRefuseFile c.args.file.now)
    again c.in_err-layout.ensures.refused

pub returns-clause-denotes : goal.returns-clause-denotes
returns-clause-denotes c =
    ∣ (placed_whole c.args.file.now _ c.in_ok-layout.layout.root c.in_ok-layout.ensures.walked).denotes ∣₁

pub returns-clause-sized : goal.returns-clause-sized
returns-clause-sized c =
    sym (placed_whole c.args.file.now _ c.in_ok-layout.layout.root c.in_ok-layout.ensures.walked).outlined

pub returns-clause-placed : goal.returns-clause-placed
returns-clause-placed c = ∣ placed_whole c.args.file.now _ c.in_ok-layout.layout.root c.in_ok-layout.ensures.walked ∣₁

pub returns-in_err-header-clause-memory : goal.returns-in_err-header-clause-memory
returns-in_err-header-clause-memory c =
    refused_with c.from_residual.result (chain_fault c.in_err-header.field-0.0) (MayLack c.args.file.now)
    c.from_residual.ensures.1
    (header_lacks c.args.file.now c.in_err-header.field-0.0 c.in_err-header.ensures.read)

pub returns-in_err-layout-clause-memory : goal.returns-in_err-layout-clause-memory
returns-in_err-layout-clause-memory c =
    let again : IsErrAnd c.from_residual-in_err-layout.result (λ x. x ≡ c.in_err-layout.field-0.0) = search rules in
    refused_with c.from_residual-in_err-layout.result c.in_err-layout.field-0.0 (MayLack c.args.file.now) again
    c.in_err-layout.ensures.memory
