use Rattle.std.proofs.Common.{◌∙◌, sym}
use Rattle.read_packed.specs.Named.{named_bytes}
use Rattle.read_directories.proofs.Lent.{lent}
use Rattle.read_directories.proofs.entries.Table.stream.Goals as goal

pub returns-else-kind-ne2 : goal.returns-else-kind-ne2
returns-else-kind-ne2 c =
    let e = c.in-Some.ensures in
    lent c.args.self.now.directory (named_bytes c.in-Some.named.now) c.args.id _ e.below_root e.there e.bytes
    (sym c.kind.ensures ∙ c.if-kind-ne2.false) c.name.ensures.named c.name.ensures.valid c.first.ensures c.size.ensures
