-- A save of a frame, in its container: what goes before it, and what its name is refused for where it is another one.
use Rattle.std.specs.Prelude.{◌||◌, ◌==◌, ◌+◌, not, nat_le, ℕ, List, None, Some, Result}
use Rattle.std.specs.Str.{bytes_eq}
use Rattle.container_model.specs.declared.fault.ContainerFault.{ContainerFault}
use Rattle.container_model.specs.declared.fault.ContainerFault.TheVariants.{InDoubt, Busy, NumbersSpent, WrongState}
use Rattle.container_model.specs.declared.record.Frame.{Frame}
use Rattle.container_model.specs.Commands.{any_busy, is_named_beside, save_numbered}
use Rattle.container_model.specs.Record.{Record, Took, is_doubtful, is_moving, is_saving, unless}

abbrev pub unready : Record → ℕ → Frame → Result Took ContainerFault → Result Took ContainerFault
unready r f frame next = unless (is_doubtful frame.phase) InDoubt
    (unless (is_saving frame.phase || is_moving frame.ui.state || any_busy f frame.ui.state r.objects) Busy next)

-- under its own name: not before the container has a session
abbrev pub plain : Record → ℕ → Frame → Result Took ContainerFault
plain r f frame = unless (r.session == 0) WrongState (save_numbered r f frame None None)

abbrev pub named : Record → ℕ → List ℕ → Frame → Result Took ContainerFault
named r f name frame =
    unless (is_named_beside f name 1 r.frames) Busy
    (unless (r.session == 0 || bytes_eq frame.name name) WrongState
    (save_numbered r f frame None (Some name)))

-- and with the next session, where the container has none
abbrev pub raising : Record → Frame → Result Took ContainerFault
raising r frame =
    unless (not (r.session == 0)) WrongState
    (unless (nat_le r.numbers frame.session) NumbersSpent
    (save_numbered r 1 frame (Some (frame.session + 1)) None))
