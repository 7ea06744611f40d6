-- What a step that is taken says of the container's session.
use Rattle.std.proofs.Common.{◌≡◌, ℕ, Bool, true, false, List, Result, Ok, Err, IfOk, OnOk, if◌then◌else◌, refl}
use Rattle.container_model.specs.declared.answer.Answer.{Answer}
use Rattle.container_model.specs.declared.answer.Done.{Done}
use Rattle.container_model.specs.declared.fault.ContainerFault.{ContainerFault}
use Rattle.container_model.specs.Inputs.{Input}
use Rattle.container_model.specs.Record.{Record, Took}
use Rattle.container_model.specs.Saves.{session_counted}
use Rattle.container_numbers.specs.Sessions.{session_by}

-- what holds of each step that is taken holds where one was
pub ok_gives : (P : Type 0) (s : Record) (told : Result Took ContainerFault) (counted : List Done)
    → ((t : Took) → told ≡ Ok t → P)
    → (result : Result Answer ContainerFault)
    → IfOk result (λ a. told ≡ Ok (record { rec = s; answer = a; counted = counted })) → OnOk result P
ok_gives P s told counted gives (Ok a) taken = gives (record { rec = s; answer = a; counted = counted }) taken
ok_gives P s told counted gives (Err fault) taken = tt

-- and so the session that each such step leaves
pub session_given : (n : ℕ) (s : Record) (told : Result Took ContainerFault) (counted : List Done)
    → ((t : Took) → told ≡ Ok t → t.rec.session ≡ n)
    → (result : Result Answer ContainerFault)
    → IfOk result (λ a. told ≡ Ok (record { rec = s; answer = a; counted = counted }))
    → OnOk result (s.session ≡ n)
session_given n s told counted gives (Ok a) taken = gives (record { rec = s; answer = a; counted = counted }) taken
session_given n s told counted gives (Err fault) taken = tt

-- a commit in doubt counts where it was kept
pub resolved_by : (r : Record) (f : ℕ) (is_kept : Bool) → session_by r (Input.Resolved f is_kept)
    ≡ (if is_kept then session_counted r f else r.session)
resolved_by r f true = refl
resolved_by r f false = refl
