use Rattle.std.proofs.Common.{◌∙◌, ap}
use Rattle.cfb_entries.specs.Entries.{size_of}
use Rattle.read_packed.specs.Named.{NamedValue, named_bytes}
use Rattle.read_packed.proofs.ReadNames.{size_read}
use Rattle.read_packed.proofs.named.Named.size.Goals as goal

pub returns : goal.returns
returns c = c.from_le_bytes.ensures ∙ size_read _ c.self.invariant
    ∙ ap (λ (n : NamedValue). size_of (named_bytes n)) c.self.view_is
