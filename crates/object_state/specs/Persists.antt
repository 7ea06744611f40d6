-- The state of an object's storage: the table of IPersistStorage.
use Rattle.std.specs.Prelude.{ℕ, Bool, true, false, ◌==◌, Option, Some, None, Result, Ok, Err, if◌then◌else◌}
use Rattle.object_state.specs.declared.operations.Op.{Op}
use Rattle.object_state.specs.declared.operations.Op.TheVariants.{InitNew, Load, Save, SaveCompleted, SaveDropped}
use Rattle.object_state.specs.declared.operations.Op.TheVariants as op
use Rattle.object_state.specs.declared.persist_states.PersistState.{PersistState}
use Rattle.object_state.specs.declared.persist_states.PersistState.TheVariants.{Unset, Normal, NoScribble}
use Rattle.object_state.specs.declared.persist_states.PersistState.TheVariants as state
use Rattle.object_state.specs.declared.persist_states.Persist.{Persist}
use Rattle.object_state.specs.declared.faults.StateFault.{StateFault}
use Rattle.object_state.specs.declared.faults.StateFault.TheVariants.{AlreadyInitialized, NotInitialized, Scribble}
use Rattle.object_state.specs.declared.faults.StateFault.TheVariants.{NeedsStorage, WrongState}
use Rattle.object_state.specs.declared.faults.StateFault.TheVariants as fault

-- an object without storage may do neither
abbrev pub may_read : PersistState → Bool
may_read Unset = false
may_read Normal = true
may_read NoScribble = true
may_read state.HandsOff = false

abbrev pub may_write : PersistState → Bool
may_write Unset = false
may_write Normal = true
may_write NoScribble = false
may_write state.HandsOff = false

-- a row of the table: an entry for each state
abbrev pub columns : {A : Type 0} → A → A → A → A → PersistState → A
columns unset normal no_scribble hands_off Unset = unset
columns unset normal no_scribble hands_off Normal = normal
columns unset normal no_scribble hands_off NoScribble = no_scribble
columns unset normal no_scribble hands_off state.HandsOff = hands_off

-- the table (IPersistStorage, "Modes"); SaveDropped is this project's own
-- operation          Unset            Normal           NoScribble       HandsOff
abbrev pub table : Op → PersistState → Result PersistState StateFault
table InitNew = columns (Ok Normal) (Err AlreadyInitialized) (Err AlreadyInitialized) (Err AlreadyInitialized)
table Load = columns (Ok Normal) (Err AlreadyInitialized) (Err AlreadyInitialized) (Err AlreadyInitialized)
table (Save k) = columns (Err NotInitialized) (Ok NoScribble) (Err Scribble) (Err fault.HandsOff)
table op.HandsOff = columns (Err NotInitialized) (Ok state.HandsOff) (Ok state.HandsOff) (Err fault.HandsOff)
table (SaveCompleted k true) = columns (Err NotInitialized) (Err WrongState) (Ok Normal) (Ok Normal)
table (SaveCompleted k false) = columns (Err NotInitialized) (Err WrongState) (Ok Normal) (Err NeedsStorage)
table (SaveDropped k) = columns (Err NotInitialized) (Err WrongState) (Ok Normal) (Ok Normal)
table _ = columns (Err NotInitialized) (Ok Normal) (Ok NoScribble) (Ok state.HandsOff)

-- the number of the save that an operation ends
abbrev pub ended_save : Op → Option ℕ
ended_save (SaveCompleted k storage) = Some k
ended_save (SaveDropped k) = Some k
ended_save _ = None

-- the number of the last save, once an operation is taken
abbrev pub save_after : Option ℕ → Op → Option ℕ
save_after last (Save k) = Some k
save_after last _ = last

abbrev pub is_number : ℕ → Option ℕ → Bool
is_number k None = false
is_number k (Some last) = k == last

-- an operation ends no save, or the last one
abbrev pub ends_last : Option ℕ → Option ℕ → Bool
ends_last None last = true
ends_last (Some k) last = is_number k last

-- where the table has no refusal, a save that isn't the last one can't be ended
abbrev pub numbered : Persist → Op → Result PersistState StateFault → Result Persist StateFault
numbered p op (Err refusal) = Err refusal
numbered p op (Ok next) =
    if ends_last (ended_save op) p.last_save
    then Ok (record { state = next; last_save = save_after p.last_save op })
    else Err WrongState

abbrev pub step : Persist → Op → Result Persist StateFault
step p op = numbered p op (table op p.state)

abbrev pub unset : Persist
unset = record { state = Unset; last_save = None }
