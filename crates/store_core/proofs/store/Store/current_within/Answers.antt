use Rattle.std.proofs.Common.{◌∙◌, ℕ, Bool, sym, subst}
use Rattle.std.proofs.lemmas.Result.{IfErr-weaker}
use Rattle.store_core.specs.Opened.{disk_of, needs_reopen_of}
use Rattle.store_model.specs.Store.{CurrentRefuses}
use Rattle.store_core.proofs.store.Store.current_within.Goals as goal

pub returns-clause-refuses : goal.returns-clause-refuses
returns-clause-refuses g c =
    let length = c.in_ok-length.ensures in
    let now : Bool = needs_reopen_of c.current.new.self in
    let failed : ℕ = g.D.Disk.failed (disk_of c.current.new.self) in
    IfErr-weaker c.current.result _ _ (λ fault refused other.
    subst (λ (n : ℕ). CurrentRefuses (needs_reopen_of c.args.self.now) now n failed fault) length.count
    (subst (λ (was : Bool). CurrentRefuses was now (g.D.Disk.failed (disk_of c.length.new.self)) failed fault)
    (length.ready.1 ∙ sym length.ready.0) refused))
    c.current.ensures.refuses
