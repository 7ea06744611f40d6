-- What a step keeps that is taken holds of the record after it, taken or refused.
use Rattle.std.proofs.Common.{◌≡◌, List, Result, Ok, Err, IfOk, OnErr, sym, subst}
use Rattle.container_model.specs.Record.{Record, Took}
use Rattle.container_model.specs.declared.answer.Answer.{Answer}
use Rattle.container_model.specs.declared.answer.Done.{Done}
use Rattle.container_model.specs.declared.fault.ContainerFault.{ContainerFault}

pub step_keeps : (P : Record → Type 0) (r s : Record) (told : Result Took ContainerFault) (counted : List Done)
    → P r → ((t : Took) → told ≡ Ok t → P t.rec)
    → (result : Result Answer ContainerFault)
    → IfOk result (λ a. told ≡ Ok (record { rec = s; answer = a; counted = counted })) → OnErr result (s ≡ r)
    → P s
step_keeps P r s told counted holds keeps (Ok a) taken kept =
    keeps (record { rec = s; answer = a; counted = counted }) taken
step_keeps P r s told counted holds keeps (Err fault) taken kept = subst P (sym kept) holds
