use Rattle.cfb_entries.specs.Tree.{Tree}
use Rattle.cfb_file.specs.Denotes.{Denotes}
use Rattle.store_images.proofs.Same.{lacking}
use Rattle.store_images.proofs.Trimmed.{both_denote, has_header}
use Rattle.store_images.proofs.image.Image.open.Goals as goal

pub read_u32-sectors-requires : goal.read_u32-sectors-requires
read_u32-sectors-requires c =
    has_header c.args.file.items c.deref.result.now c.deref-in-Ok.result.now c.in-Ok.ensures.outlined.0
    c.deref.ensures.value c.deref-in-Ok.ensures.value c.in-Ok.ensures.outlined.1

pub invariant_of-result : goal.invariant_of-result
invariant_of-result c =
    let both : (u : Tree) × ∥ Denotes c.args.file.items u ∥₁ × ∥ Denotes c.in-Ok-trim.file.items u ∥₁ =
    both_denote c.args.file.items c.deref.result.now c.in-Ok-trim.file.items c.in-Ok.ensures.outlined.0
    c.deref.ensures.value c.in-Ok-trim.ensures c.in-Ok.ensures.outlined.1 in
    (both.0, both.2)

pub returns-in-Ok-trim-clause-denotes : goal.returns-in-Ok-trim-clause-denotes
returns-in-Ok-trim-clause-denotes c =
    both_denote c.args.file.items c.deref.result.now c.in-Ok-trim.file.items c.in-Ok.ensures.outlined.0
    c.deref.ensures.value c.in-Ok-trim.ensures c.in-Ok.ensures.outlined.1

pub returns-clause-reads : goal.returns-clause-reads
returns-clause-reads c =
    lacking c.args.file.items c.deref.result.now c.read_outline.result c.in-Err.fault c.deref.ensures.value
    c.in-Err.is c.read_outline.ensures.reads
