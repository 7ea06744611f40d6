-- What happens at a server of a session: in the container's session it is what happens in the present run, else nothing
-- does.
use Rattle.std.proofs.Common.{◌≡◌, ◌==◌, ℕ, true, false, Result, Ok, Err, IfErr, OnOk, ap, sym, subst}
use Rattle.world_model.specs.declared.event.Stop.{Stop}
use Rattle.world_model.specs.declared.event.Stop.TheVariants.{NotEnabled}
use Rattle.world_model.specs.World.{World, StopsFor, in_run, limited}
use Rattle.world_model.proofs.InRun.{in_run_here, in_run_none}

pub taken_here : {T : Type 0} (w v : World) (s : ℕ) (r : Result World Stop) (result : Result T Stop)
    → (s == w.rec.session) ≡ true → OnOk result (limited w r ≡ Ok v) → OnOk result (limited w (in_run w s r) ≡ Ok v)
taken_here w v s r result here h = subst (λ x. OnOk result (limited w x ≡ Ok v)) (sym (in_run_here w s r here)) h

pub refused_here : {T : Type 0} (w : World) (s : ℕ) (r : Result World Stop) (result : Result T Stop)
    → (s == w.rec.session) ≡ true → IfErr result (StopsFor (limited w r))
    → IfErr result (StopsFor (limited w (in_run w s r)))
refused_here w s r result here h = subst (λ x. IfErr result (StopsFor (limited w x))) (sym (in_run_here w s r here)) h

pub elsewhere : (w : World) (s : ℕ) (r : Result World Stop) → (s == w.rec.session) ≡ false
    → limited w (in_run w s r) ≡ Err NotEnabled
elsewhere w s r other = ap (limited w) (in_run_none w s r other)
