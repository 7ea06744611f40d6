-- The record after a write.
use Rattle.std.proofs.Common.{◌≡◌, ℕ, true, List, Some, Ok, ap, sym, ◌∙◌, subst}
use Rattle.message_values.specs.Found.{find, put}
use Rattle.tree_streams.specs.declared.stored.Stored.{Stored}
use Rattle.container_model.specs.declared.answer.Answer as told_answer
use Rattle.container_model.specs.declared.fault.ContainerFault.{ContainerFault}
use Rattle.container_model.specs.declared.record.Object.{Object}
use Rattle.container_model.specs.Messages.{write_found, write_link}
use Rattle.container_model.specs.Record.{Record, Refuses, counts_none, is_linked, quiet_answer}

-- what a write makes of the record
pub write_made : (r : Record) (inc act s w : ℕ) (content : Stored) (x y : Object) (objects : List Object)
    (a : told_answer.Answer) → find (is_linked inc act) r.objects ≡ Some x
    → write_link r inc act s w content x x.link
    ≡ Ok (counts_none (record r { objects = put (is_linked inc act) y r.objects })
    (record quiet_answer { taken = true }))
    → put (is_linked inc act) y r.objects ≡ objects → a ≡ record quiet_answer { taken = true }
    → write_found r inc act s w content (find (is_linked inc act) r.objects)
    ≡ Ok (counts_none (record r { objects = objects }) a)
write_made r inc act s w content x y objects a found e puts told =
    ap (write_found r inc act s w content) found
    ∙ (e ∙ (ap (λ os. Ok (counts_none (record r { objects = os }) (record quiet_answer { taken = true }))) puts
    ∙ ap (λ z. Ok (counts_none (record r { objects = objects }) z)) (sym told)))

-- why a write is refused
pub write_refused : (r : Record) (inc act s w : ℕ) (content : Stored) (x : Object) (fault : ContainerFault)
    → find (is_linked inc act) r.objects ≡ Some x → Refuses (write_link r inc act s w content x x.link) fault
    → Refuses (write_found r inc act s w content (find (is_linked inc act) r.objects)) fault
write_refused r inc act s w content x fault found h =
    subst (λ o. Refuses (write_found r inc act s w content o) fault) (sym found) h
