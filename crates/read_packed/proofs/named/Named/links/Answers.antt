use Rattle.std.proofs.Common.{◌∙◌, ap, arith}
use Rattle.cfb_entries.specs.Entries.{left, right}
use Rattle.read_packed.specs.Named.{NamedValue, named_bytes}
use Rattle.read_packed.proofs.ReadNames.{number_read}
use Rattle.read_packed.proofs.named.Named.links.Goals as goal

pub returns-clause-left : goal.returns-clause-left
returns-clause-left c =
    c.read_u32.ensures ∙ number_read _ c.self.invariant 4 (omega arith)
    ∙ ap (λ (n : NamedValue). left (named_bytes n)) c.self.view_is

pub returns-clause-right : goal.returns-clause-right
returns-clause-right c =
    c.read_u32-2.ensures ∙ number_read _ c.self.invariant 8 (omega arith)
    ∙ ap (λ (n : NamedValue). right (named_bytes n)) c.self.view_is
