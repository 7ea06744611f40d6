-- What a history that takes no memory says: its calls, and the steps and the disks in their places.
use Rattle.std.specs.Prelude.{◌&&◌, Bool, List, [], ◌∷◌, ◌++◌, drop, cond, nat_eq, nat_le, Some, None}
use Rattle.std.specs.Int.{w32, from_le_bytes}
use Rattle.script_model.specs.Noted.{Noted}
use Rattle.script_model.specs.declared.history.History.{History}
use Rattle.script_model.specs.declared.step.Step.{Step}
use Rattle.script_model.specs.Events.{Event, Started, Connected, Sent, Heard, Ended, Opened, Found, Shut, Stepped}

-- a call without a disk; the bytes of a start are those of the session
abbrev pub call_of : {D : Type 0} → Noted → Event D
call_of n =
    cond (nat_eq n.0 0) (Started (from_le_bytes w32 n.3) n.1 n.2) (
    cond (nat_eq n.0 1) (Connected n.1 n.2) (
    cond (nat_eq n.0 2) (Sent n.1 n.3 n.2) (
    cond (nat_eq n.0 3) (Heard n.1 n.3 n.2) (
    cond (nat_eq n.0 6) (Opened n.3 None) (
    cond (nat_eq n.0 7) (Found n.3 None) (Ended n.1))))))

abbrev pub first_step : {D : Type 0} → List (Step × Unit {0}) → List (Event D)
first_step [] = []
first_step (step ∷ steps) = Stepped step.0 ∷ []

-- a call with a disk
abbrev pub is_with_disk : Noted → Bool
is_with_disk n = nat_le 6 n.0 && n.2

abbrev pub first_disk : {D : Type 0} → Noted → List (D × Unit {0}) → List (Event D)
first_disk n [] = []
first_disk n (disk ∷ disks) =
    cond (nat_eq n.0 6) (Opened n.3 (Some disk.0)) (
    cond (nat_eq n.0 7) (Found n.3 (Some disk.0)) (Shut n.3 disk.0)) ∷ []

abbrev pub told_from : {D : Type 0} → List Noted → List (Step × Unit {0}) → List (D × Unit {0}) → List (Event D)
told_from [] steps disks = []
told_from (n ∷ ns) steps disks =
    cond (nat_eq n.0 5) (first_step steps ++ told_from ns (drop 1 steps) disks) (
    cond (is_with_disk n) (first_disk n disks ++ told_from ns steps (drop 1 disks))
    (call_of n ∷ told_from ns steps disks))

abbrev pub told_in : {D : Type 0} → History D → List (Event D)
told_in h = told_from h.calls.calls h.steps.items h.disks.items
