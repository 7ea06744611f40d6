-- Both states of an object.
use Rattle.std.specs.Prelude.{Result, Ok, Err}
use Rattle.object_state.specs.declared.operations.Op.{Op}
use Rattle.object_state.specs.declared.persist_states.Persist.{Persist}
use Rattle.object_state.specs.declared.object_states.ObjectState.{ObjectState}
use Rattle.object_state.specs.declared.object_states.ObjectState.TheVariants.{Loaded}
use Rattle.object_state.specs.declared.both_states.States.{States}
use Rattle.object_state.specs.declared.faults.StateFault.{StateFault}
use Rattle.object_state.specs.Persists as persist
use Rattle.object_state.specs.Objects as object

abbrev pub loaded : States
loaded = record { persist = persist.unset; object = Loaded }

-- both tables take it; of two refusals that of the storage is told
abbrev pub joined : Result Persist StateFault → Result ObjectState StateFault → Result States StateFault
joined (Err refusal) _ = Err refusal
joined (Ok p) (Err refusal) = Err refusal
joined (Ok p) (Ok o) = Ok (record { persist = p; object = o })

abbrev pub step : States → Op → Result States StateFault
step v op = joined (persist.step v.persist op) (object.step v.object op)
