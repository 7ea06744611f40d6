-- An object that is being closed has its storage open.
use Rattle.std.proofs.Common.{◌∷◌, Option, subst}
use Rattle.std.specs.List.{AllByRecursion}
use Rattle.message_values.specs.Found.{nth}
use Rattle.message_values.specs.declared.operation.Operation.{Operation}
use Rattle.message_values.specs.declared.operation.Operation.TheVariants.{Close}
use Rattle.container_model.specs.declared.record.Phase.{Phase}
use Rattle.container_queues.specs.Roles.{role_in}
use Rattle.container_queues.specs.Steady.{queue_of, IsTimely, SteadyLink, SteadyObject, ClosesAreOpen}
use Rattle.container_queues.proofs.SteadyEnding.{closing_open}
use Rattle.container_queues.proofs.SteadyLookups.{each_found}
use Rattle.container_steady.proofs.SteadyRecords.{some_and, if_at, Held}

pub closes-are_open : ClosesAreOpen
closes-are_open r test o l option s found is pending =
    let h = each_found (SteadyObject r) test r.objects o s.objects found in
    let at = some_and (Held r o.number o.link) (nth r.frames o.frame) h.linked in
    let role = role_in at.0.ui.state o.number in
    let held = if_at (SteadyLink r.servers r.last_act at.0.phase at.0.asked at.0.k role) o.link l is at.2 in
    let timely : AllByRecursion (IsTimely at.0.phase l.saved) (Close option ∷ l.waiting) =
    subst (λ (p : Option Operation). AllByRecursion (IsTimely at.0.phase l.saved) (queue_of p l.waiting))
    pending held.save_in_queue in
    closing_open r.servers r.last_act at.0.asked at.0.k role l
    (subst (λ (p : Phase). SteadyLink r.servers r.last_act p at.0.asked at.0.k role l) timely.0 held) option
    pending
