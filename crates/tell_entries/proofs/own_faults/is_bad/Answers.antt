use Rattle.std.proofs.Common.{◌≡◌, ◌∙◌, inl, inr, sym}
use Rattle.tell_entries.proofs.own_faults.is_bad.Goals as goal

pub returns-clause-bad : goal.returns-clause-bad
returns-clause-bad c = λ t. inr (c.if-id-eq0.false, (λ k e. c.is_odd.ensures.odd t k (c.read_u16.ensures ∙ e)))

pub returns-clause-good : goal.returns-clause-good
returns-clause-good c = λ t h.
    elim h [
      | inl other ↦ other (c.may_have_kind.ensures.allowed c.if-not-may_have_kind.false)
      | inr odd ↦ let k = c.is_odd.ensures.even t in odd.1 k.0 (sym c.read_u16.ensures ∙ k.1)
    ]
