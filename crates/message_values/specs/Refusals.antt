-- Refusals by their codes, and those of the tables of states.
use Rattle.std.specs.Prelude.{ℕ}
use Rattle.object_state.specs.declared.faults.StateFault.{StateFault}
use Rattle.object_state.specs.declared.faults.StateFault.TheVariants as state
use Rattle.message_values.specs.declared.refusal.Refusal.{Refusal}
use Rattle.message_values.specs.declared.refusal.Refusal.TheVariants.{BadEdit, BadContent, TooBig, AlreadyInitialized}
use Rattle.message_values.specs.declared.refusal.Refusal.TheVariants.{NotInitialized, Scribble, HandsOff, NeedsStorage}
use Rattle.message_values.specs.declared.refusal.Refusal.TheVariants.{WrongState}

-- the codes by which refusals stand in messages
abbrev pub code_of : Refusal → ℕ
code_of BadEdit = 1
code_of BadContent = 2
code_of TooBig = 3
code_of AlreadyInitialized = 11
code_of NotInitialized = 12
code_of Scribble = 13
code_of HandsOff = 14
code_of NeedsStorage = 15
code_of WrongState = 16

-- the refusal by the tables of states
abbrev pub of_state : StateFault → Refusal
of_state state.AlreadyInitialized = AlreadyInitialized
of_state state.NotInitialized = NotInitialized
of_state state.Scribble = Scribble
of_state state.HandsOff = HandsOff
of_state state.NeedsStorage = NeedsStorage
of_state state.WrongState = WrongState
