-- That a file which is opened has the session and the objects of the last save of its name, over a host that gives the
-- same disk again.
use Rattle.std.specs.Prelude.{◌≡◌, ◌≢◌, ◌⊎◌, ◌++◌, ℕ, List, [], ◌∷◌, IfSome, Option, Some, Ok}
use Rattle.ole_model.specs.Documents.{Doc}
use Rattle.store_model.specs.Crash.{IsWithin}
use Rattle.store_model.specs.declared.disk.Disk.{Ghosts as Disks}
use Rattle.message_values.specs.Found.{nth}
use Rattle.container_model.specs.declared.answer.FrameDocument.{FrameDocument}
use Rattle.container_model.specs.declared.record.Frame.{Frame}
use Rattle.container_model.specs.Saves.{document, image}
use Rattle.script_model.specs.declared.step.Step.TheVariants as step
use Rattle.script_model.specs.Containers.{record_of}
use Rattle.script_model.specs.Events.{Event, Started, Connected, Sent, Heard, Ended, Opened, Found, Shut, Stepped}
use Rattle.script_model.specs.Saved.{AreOpened, AreSaved, file_name}

-- Of the disks that were given back under this name, this is the last.
abbrev pub IsLastShut : {D : Type 0} → List ℕ → D → List (Event D) → Type 0
IsLastShut name disk [] = ⊥
IsLastShut name disk (Shut other shut ∷ es) = ((other ≡ name) × (shut ≡ disk))
    ⊎ ((other ≢ name) × IsLastShut name disk es)
IsLastShut name disk (Started session inc ok ∷ es) = IsLastShut name disk es
IsLastShut name disk (Connected inc ok ∷ es) = IsLastShut name disk es
IsLastShut name disk (Sent inc bytes ok ∷ es) = IsLastShut name disk es
IsLastShut name disk (Heard inc bytes ok ∷ es) = IsLastShut name disk es
IsLastShut name disk (Ended inc ∷ es) = IsLastShut name disk es
IsLastShut name disk (Opened other given ∷ es) = IsLastShut name disk es
IsLastShut name disk (Found other given ∷ es) = IsLastShut name disk es
IsLastShut name disk (Stepped step ∷ es) = IsLastShut name disk es

-- No disk was given back under this name.
abbrev pub IsNotShut : {D : Type 0} → List ℕ → List (Event D) → Type 0
IsNotShut name [] = Unit {0}
IsNotShut name (Shut other shut ∷ es) = (other ≢ name) × IsNotShut name es
IsNotShut name (Started session inc ok ∷ es) = IsNotShut name es
IsNotShut name (Connected inc ok ∷ es) = IsNotShut name es
IsNotShut name (Sent inc bytes ok ∷ es) = IsNotShut name es
IsNotShut name (Heard inc bytes ok ∷ es) = IsNotShut name es
IsNotShut name (Ended inc ∷ es) = IsNotShut name es
IsNotShut name (Opened other given ∷ es) = IsNotShut name es
IsNotShut name (Found other given ∷ es) = IsNotShut name es
IsNotShut name (Stepped step ∷ es) = IsNotShut name es

-- Of a disk that is given under a name a crash leaves what it might have left of the one that was given back last under
-- it.
abbrev pub IsAsShut : {D : Type 0} (disks : Disks D) → List ℕ → Option D → List (Event D) → Type 0
IsAsShut {D = D} disks name given es = IfSome given (λ disk. (last : D) → IsLastShut name last es
    → IsWithin (disks.may_leave last) (disks.may_leave disk))

-- The host is faithful: each disk that it gave or found under a name is as it was given back last under this name. No
-- other program writes to its files meanwhile.
abbrev pub IsFaithful : {D : Type 0} (disks : Disks D) → List (Event D) → Type 0
IsFaithful disks [] = Unit {0}
IsFaithful disks (Opened name given ∷ es) = IsAsShut disks name given es × IsFaithful disks es
IsFaithful disks (Found name given ∷ es) = IsAsShut disks name given es × IsFaithful disks es
IsFaithful disks (Shut name disk ∷ es) = IsFaithful disks es
IsFaithful disks (Started session inc ok ∷ es) = IsFaithful disks es
IsFaithful disks (Connected inc ok ∷ es) = IsFaithful disks es
IsFaithful disks (Sent inc bytes ok ∷ es) = IsFaithful disks es
IsFaithful disks (Heard inc bytes ok ∷ es) = IsFaithful disks es
IsFaithful disks (Ended inc ∷ es) = IsFaithful disks es
IsFaithful disks (Stepped step ∷ es) = IsFaithful disks es

-- A history in which a frame's commit was counted, then a disk was found and given back under a name, and its file
-- opened.
abbrev pub opened_behind : {D : Type 0} → (later : List (Event D)) → (name : List ℕ) → (w h : ℕ) → Doc
    → (found shut : D) → (between : List (Event D)) → ℕ → List (Event D) → List (Event D)
opened_behind later name w h d found shut between f before =
    later ++ (Stepped (step.Open name w h d.session d.objects) ∷ Shut name shut ∷ Found name (Some found)
    ∷ (between ++ (Stepped (step.Committed f) ∷ before)))

-- Where a host is faithful and its disks follow the model, a file that is opened has the session and the objects of the
-- document whose commit was counted under its name, when no disk was given back under this name in between: it is
-- opened as it was saved.
abbrev pub SavesAreOpenedAgain : {D : Type 0} (disks : Disks D) → Type 0
SavesAreOpenedAgain {D = D} disks = (later between before : List (Event D)) (name : List ℕ) (w h : ℕ) (d : Doc)
    (found shut : D) (f : ℕ) (frame : Frame) (saved : FrameDocument)
    → disks.follows_model → AreSaved disks (opened_behind later name w h d found shut between f before)
    → AreOpened disks (opened_behind later name w h d found shut between f before)
    → IsFaithful disks (opened_behind later name w h d found shut between f before) → IsNotShut name between
    → nth (record_of before).frames f ≡ Some frame → file_name frame ≡ name → image (record_of before) f ≡ Ok saved
    → d ≡ document saved
