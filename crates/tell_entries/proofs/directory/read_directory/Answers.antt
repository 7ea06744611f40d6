use Rattle.std.proofs.Common.{◌∙◌, Result, refl, subst, sym}
use Rattle.std.specs.Result.{IsOk}
use Rattle.cfb_header.specs.Header.{HeaderValue}
use Rattle.cfb_header.specs.declared.fault.ChainFault.{ChainFault}
use Rattle.tell_faults.proofs.Places.{header_same}
use Rattle.tell_entries.proofs.directory.read_directory.Goals as goal

pub directory_of-requires : goal.directory_of-requires
directory_of-requires c = record {
  same = header_same c.args.file.now c.in-Ok.header (sym c.read.ensures.read ∙ c.in-Ok.is)
      (c.read.ensures.whole.0 (subst (λ (r : Result HeaderValue ChainFault). IsOk r) (sym c.in-Ok.is) refl));
}
