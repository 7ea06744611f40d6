use Rattle.std.proofs.Common.{◌∙◌, ap}
use Rattle.cfb_entries.specs.Entries.{kind}
use Rattle.read_packed.specs.Named.{NamedValue, named_bytes}
use Rattle.read_packed.proofs.ReadNames.{kind_read}
use Rattle.read_packed.proofs.named.Named.kind.Goals as goal

pub returns : goal.returns
returns c = kind_read _ c.self.invariant ∙ ap (λ (n : NamedValue). kind (named_bytes n)) c.self.view_is
