use Rattle.std.proofs.Common.{◌≡◌, ◌≢◌, ◌⊎◌, ◌*◌, inl, inr, arith, subst, sym, ℕ, List}
use Rattle.cfb_entries.specs.Entries.{IsKindOf, MayRefuseEntry, entry_at, kind, name_length}
use Rattle.cfb_names.specs.declared.fault.DirFault.TheVariants as directory
use Rattle.tell_entries.proofs.own_faults.has_fault.Goals as goal

pub returns-then-is_of_entry-clause-told : goal.returns-then-is_of_entry-clause-told
returns-then-is_of_entry-clause-told c = λ t.
    let Bad : List ℕ → Type 0 = λ e. (IsKindOf c.args.id (kind e) → ⊥)
    ⊎ ((c.args.id ≢ 0) × ((k : ℕ) → name_length e ≢ 2 * k)) in
    let bad : Bad (entry_at c.args.directory.now c.args.id) = subst Bad c.entry_of-entry.ensures.is
    (c.is_bad.ensures.bad t) in
    subst (MayRefuseEntry c.args.directory.now c.args.id) (sym (c.is_of_entry.ensures.bad c.if-is_of_entry.true))
    (inr bad)

pub returns-then-is_of_entry-clause-free : goal.returns-then-is_of_entry-clause-free
returns-then-is_of_entry-clause-free c = λ t h.
    let Bad : List ℕ → Type 0 = λ e. (IsKindOf c.args.id (kind e) → ⊥)
    ⊎ ((c.args.id ≢ 0) × ((k : ℕ) → name_length e ≢ 2 * k)) in
    let r : MayRefuseEntry c.args.directory.now c.args.id directory.BadEntry =
    subst (MayRefuseEntry c.args.directory.now c.args.id) (c.is_of_entry.ensures.bad c.if-is_of_entry.true) h in
    elim r [
      | inl out ↦ absurd (omega (arith, out, c.requires))
      | inr bad ↦ c.is_bad.ensures.good t (subst Bad (sym c.entry_of-entry.ensures.is) bad)
    ]
