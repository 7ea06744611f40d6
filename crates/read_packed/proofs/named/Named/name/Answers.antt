use Rattle.std.proofs.Common.{subst}
use Rattle.cfb_entries.specs.Entries.{IsNamed}
use Rattle.read_packed.specs.Named.{NamedValue, named_bytes}
use Rattle.read_packed.proofs.ReadNames.{named}
use Rattle.read_packed.proofs.named.Named.name.Goals as goal

pub returns-clause-named : goal.returns-clause-named
returns-clause-named c = subst (λ (n : NamedValue). IsNamed (named_bytes n) c.self.inside.name) c.self.view_is
    (named _ c.self.invariant)
