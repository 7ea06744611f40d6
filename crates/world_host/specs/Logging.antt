-- What is logged of the contents that a container takes.
use Rattle.std.specs.Prelude.{ℕ, Bool, List, [], ◌∷◌, ◌++◌, Option, Some, None, Result, Ok, Err, if◌then◌else◌}
use Rattle.message_values.specs.Found.{find}
use Rattle.message_values.specs.declared.message.Message.{Message}
use Rattle.message_values.specs.declared.message.Said.{Said}
use Rattle.container_model.specs.declared.server_link.ServerLink.{ServerLink}
use Rattle.message_values.specs.declared.message.Said.TheVariants.{Call, Reply, Write, Ask}
use Rattle.container_model.specs.Messages.{on_message}
use Rattle.container_model.specs.Record.{Took, is_linked}
use Rattle.container_model.specs.declared.fault.ContainerFault.{ContainerFault}
use Rattle.container_model.specs.declared.record.Object.{Object}
use Rattle.world_model.specs.declared.logs.Taken.{Taken}
use Rattle.world_model.specs.World.{World, took, taken_of, link_to}

abbrev pub listed : {A : Type 0} → Option A → List A
listed None = []
listed (Some x) = x ∷ []

abbrev pub if_taken : {A : Type 0} → Bool → List A → List A
if_taken taken xs = if taken then xs else []

-- what is held of the object of a message at this place, or of one that is forged, which may bring a content of it
abbrev pub brought : Option ℕ → List Object → Said → List Taken
brought p objects (Call inc act n op) = []
brought p objects (Reply inc act n answer) = taken_of p (find (is_linked inc act) objects)
brought p objects (Write inc act s number content) = taken_of p (find (is_linked inc act) objects)
brought p objects (Ask inc act g) = taken_of p (find (is_linked inc act) objects)

abbrev pub logged : List Taken → Result Took ContainerFault → List Taken
logged entry (Err fault) = []
logged entry (Ok t) = if_taken t.answer.taken entry

-- a message at this place, or one that is forged, comes to the container: what it brought is logged, if it is taken
abbrev pub heard_as : World → List Taken → Result Took ContainerFault → World
heard_as w entry told = record (took w told) { taken = w.taken ++ logged entry told }

abbrev pub heard : World → Option ℕ → ServerLink → Message → World
heard w p link m = heard_as w (brought p w.rec.objects m.said) (on_message w.rec link m)

-- a forged message comes to the container: its server is hostile from then on
abbrev pub forged_as : World → ℕ → List Taken → Result Took ContainerFault → World
forged_as w inc entry told = record (heard_as w entry told) { hostile = w.hostile ++ inc ∷ [] }

abbrev pub forged : World → ℕ → Message → World
forged w inc m = forged_as w inc (brought None w.rec.objects m.said) (on_message w.rec (link_to w inc) m)
