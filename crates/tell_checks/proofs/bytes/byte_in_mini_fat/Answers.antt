use Rattle.std.proofs.Common.{Result, ◌∙◌, refl, subst, sym}
use Rattle.std.specs.Result.{IsOk}
use Rattle.cfb_header.specs.Header.{HeaderValue}
use Rattle.cfb_header.specs.declared.fault.ChainFault.{ChainFault}
use Rattle.tell_faults.proofs.Places.{header_same}
use Rattle.tell_checks.proofs.Standing.{mini_fat_of}
use Rattle.tell_checks.proofs.bytes.byte_in_mini_fat.Goals as goal

pub returns : goal.returns
returns c =
    mini_fat_of c.args.file.now c.in-Ok.header c.in-Ok-load.fat c.first_mini_fat.result c.in-Ok-chain.sectors.items
    c.deref.result.now c.args.n c.byte_in.result
    (header_same c.args.file.now c.in-Ok.header (sym c.read.ensures.read ∙ c.in-Ok.is)
    (c.read.ensures.whole.0 (subst (λ (r : Result HeaderValue ChainFault). IsOk r) (sym c.in-Ok.is) refl)))
    c.in-Ok-load.ensures.table c.first_mini_fat.ensures c.in-Ok-chain.ensures.linked c.deref.ensures.value
    c.byte_in.ensures
