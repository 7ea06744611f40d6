-- The state of an object's window: the table in the manner of IOleObject.
use Rattle.std.specs.Prelude.{Result, Ok, Err}
use Rattle.object_state.specs.declared.operations.Op.{Op}
use Rattle.object_state.specs.declared.operations.Op.TheVariants.{InitNew, Load, InPlace, UiActivate, UiDeactivate}
use Rattle.object_state.specs.declared.operations.Op.TheVariants.{InPlaceDeactivate, OpenWindow, Edit, Save, HandsOff}
use Rattle.object_state.specs.declared.operations.Op.TheVariants.{SaveCompleted, SaveDropped, Close}
use Rattle.object_state.specs.declared.object_states.ObjectState.{ObjectState}
use Rattle.object_state.specs.declared.object_states.ObjectState.TheVariants.{Passive, Loaded, Running, InPlaceActive}
use Rattle.object_state.specs.declared.object_states.ObjectState.TheVariants.{UiActive, Open}
use Rattle.object_state.specs.declared.faults.StateFault.{StateFault}
use Rattle.object_state.specs.declared.faults.StateFault.TheVariants.{WrongState}

-- Running, InPlaceActive, UiActive and Open stay as they are
abbrev pub same_if_running : ObjectState → Result ObjectState StateFault
same_if_running Passive = Err WrongState
same_if_running Loaded = Err WrongState
same_if_running Running = Ok Running
same_if_running InPlaceActive = Ok InPlaceActive
same_if_running UiActive = Ok UiActive
same_if_running Open = Ok Open

-- the table; each operation, the state that it is taken in, and the state that it leads to
abbrev pub table : Op → ObjectState → Result ObjectState StateFault
table InitNew Loaded = Ok Running
table Load Loaded = Ok Running
table InPlace Running = Ok InPlaceActive
table (UiActivate g) InPlaceActive = Ok UiActive
table UiDeactivate UiActive = Ok InPlaceActive
table InPlaceDeactivate InPlaceActive = Ok Running
table InPlaceDeactivate Open = Ok Running
table OpenWindow Running = Ok Open
table (Close option) Running = Ok Passive
table Edit state = same_if_running state
table (Save k) state = same_if_running state
table HandsOff state = same_if_running state
table (SaveCompleted k storage) state = same_if_running state
table (SaveDropped k) state = same_if_running state
table _ _ = Err WrongState

abbrev pub step : ObjectState → Op → Result ObjectState StateFault
step state op = table op state
