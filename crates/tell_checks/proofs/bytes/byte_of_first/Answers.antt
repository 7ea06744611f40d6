use Rattle.std.proofs.Common.{Option, IfSome, refl, subst}
use Rattle.tell_entries.specs.Ways.{IsDirectoryOf}
use Rattle.tell_entries.specs.declared.directory.Directory.{Directory}
use Rattle.tell_checks.proofs.Standing.{entry_in}
use Rattle.tell_checks.proofs.bytes.byte_of_first.Goals as goal

pub returns-in-Some-byte_in : goal.returns-in-Some-byte_in
returns-in-Some-byte_in c =
    let d : Directory = c.in-Some.directory in
    let is : IsDirectoryOf c.args.file.now d =
    subst (λ (x : Option Directory). IfSome x (IsDirectoryOf c.args.file.now)) c.in-Some.is
    c.in_ok-found.ensures.read in (
      d.bytes.items,
      c.in-Some-byte_in.at,
      entry_in c.args.file.now d c.deref.result.now c.args.id
          c.in-Some-byte_in.at is c.deref.ensures.value c.in-Some-byte_in.ensures,
      refl,
    )
