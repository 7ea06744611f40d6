use Rattle.std.proofs.Common.{◌∙◌, ap, arith, subst, sym}
use Rattle.cfb_entries.specs.Entries.{IsNamed, child, class_of, state_of}
use Rattle.read_packed.specs.Named.{NamedValue, named_bytes}
use Rattle.read_packed.proofs.ReadNames.{class_read, named, number_read, state_read}
use Rattle.read_packed.proofs.named.Named.entry.Goals as goal

pub returns-clause-name : goal.returns-clause-name
returns-clause-name c =
    subst (λ (n : NamedValue). IsNamed (named_bytes n) c.copy.result) c.self.view_is
    (subst (IsNamed (named_bytes _)) (sym c.copy.ensures) (named _ c.self.invariant))

pub returns-clause-class : goal.returns-clause-class
returns-clause-class c = class_read _ c.self.invariant ∙ ap (λ (n : NamedValue). class_of (named_bytes n))
    c.self.view_is

pub returns-clause-state : goal.returns-clause-state
returns-clause-state c = state_read _ c.self.invariant ∙ ap (λ (n : NamedValue). state_of (named_bytes n))
    c.self.view_is

pub returns-clause-child : goal.returns-clause-child
returns-clause-child c =
    c.read_u32.ensures ∙ number_read _ c.self.invariant 12 (omega arith)
    ∙ ap (λ (n : NamedValue). child (named_bytes n)) c.self.view_is
