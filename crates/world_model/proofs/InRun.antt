-- What happened at a server of a session happened in the present run.
use Rattle.std.proofs.Common.{◌≡◌, ◌==◌, ℕ, true, false, Result, Ok, Err, refl, if◌then◌else◌}
use Rattle.world_model.specs.World.{World, in_run}
use Rattle.world_model.specs.declared.event.Stop.{Stop}
use Rattle.world_model.specs.declared.event.Stop.TheVariants.{NotEnabled}

pub in_run_ok : (w : World) (s : ℕ) (r : Result World Stop) (v : World) → in_run w s r ≡ Ok v → r ≡ Ok v
in_run_ok w s r v e = elim (s == w.rec.session) as (λ b. (if b then r else Err NotEnabled) ≡ Ok v
    → r ≡ Ok v) [ true ↦ (λ g. g) | false ↦ (λ g. cc) ] e

pub in_run_here : (w : World) (s : ℕ) (r : Result World Stop) → (s == w.rec.session) ≡ true → in_run w s r ≡ r
in_run_here w s r e = rw e refl

pub in_run_none : (w : World) (s : ℕ) (r : Result World Stop) → (s == w.rec.session) ≡ false
    → in_run w s r ≡ Err NotEnabled
in_run_none w s r e = rw e refl
