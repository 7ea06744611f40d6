-- What is told of results.
use Rattle.std.proofs.Common.{◌≡◌, ◌≢◌, Result, Ok, Err, IfOk, OnOk, sym, subst}
use Rattle.container_model.specs.declared.fault.ContainerFault.{ContainerFault}
use Rattle.container_model.specs.declared.fault.ContainerFault.TheVariants as fault
use Rattle.script_container.specs.declared.fault.ScriptFault.{ScriptFault}
use Rattle.script_model.specs.declared.answer.Told.{Told}
use Rattle.script_model.specs.declared.answer.Told.TheVariants as told

pub ok_then : {A E : Type 0} (r : Result A E) (P Q : A → Type 0) → ((x : A) → P x → Q x) → IfOk r P → IfOk r Q
ok_then (Ok x) P Q leads has = leads x has
ok_then (Err e) P Q leads has = tt

-- what is told of a refusal
pub refused_then : (r : Result Told ScriptFault) (e : ContainerFault) (P : Told → Type 0)
    → IfOk r (λ t. (t ≡ told.Fault e) × (e ≢ fault.NoMemory)) → (e ≢ fault.NoMemory → P (told.Fault e)) → IfOk r P
refused_then (Ok t) e P has leads = subst (λ (x : Told). P x) (sym has.0) (leads has.1)
refused_then (Err x) e P has leads = tt

-- the same of what is so whatever is told
pub refused_on : (r : Result Told ScriptFault) (e : ContainerFault) (P : Type 0)
    → IfOk r (λ t. (t ≡ told.Fault e) × (e ≢ fault.NoMemory)) → (e ≢ fault.NoMemory → P) → OnOk r P
refused_on (Ok t) e P has leads = leads has.1
refused_on (Err x) e P has leads = tt
