-- A save of a frame, in its container: under its own name, with the next session, and under another name.
use Rattle.std.proofs.Common.{◌≡◌, ◌||◌, ◌==◌, ℕ, Bool, true, false, List, Some, None, Result, Err, ap, refl, ◌∙◌}
use Rattle.std.specs.Str.{bytes_eq}
use Rattle.container_model.specs.declared.fault.ContainerFault.{ContainerFault}
use Rattle.container_model.specs.declared.fault.ContainerFault.TheVariants.{InDoubt, Busy, WrongState}
use Rattle.container_model.specs.declared.record.Frame.{Frame}
use Rattle.container_model.specs.Commands.{any_busy, is_named_beside, save_as_at, save_at, save_numbered, session_at}
use Rattle.container_model.specs.Record.{Record, Took, is_doubtful, is_moving, is_saving, unless}
use Rattle.container_commands.specs.Saving.{named, plain, raising, unready}

module _ (r : Record) (f : ℕ) (frame : Frame) (next : Result Took ContainerFault) where
  pub in_doubt : is_doubtful frame.phase ≡ true → unready r f frame next ≡ Err InDoubt
  in_doubt d =
      ap
      (λ b. unless b InDoubt
      (unless (is_saving frame.phase || is_moving frame.ui.state || any_busy f frame.ui.state r.objects) Busy next))
      d

  checked : (s m b : Bool) → is_doubtful frame.phase ≡ false → is_saving frame.phase ≡ s
      → is_moving frame.ui.state ≡ m → any_busy f frame.ui.state r.objects ≡ b
      → unready r f frame next ≡ unless (s || m || b) Busy next
  checked s m b d e h k =
      ap (λ t. unless t InDoubt
      (unless (is_saving frame.phase || is_moving frame.ui.state || any_busy f frame.ui.state r.objects) Busy
      next)) d
      ∙ (ap (λ t. unless (t || is_moving frame.ui.state || any_busy f frame.ui.state r.objects) Busy next) e
      ∙ (ap (λ t. unless (s || t || any_busy f frame.ui.state r.objects) Busy next) h
      ∙ ap (λ t. unless (s || m || t) Busy next) k))

  pub saving : is_doubtful frame.phase ≡ false → is_saving frame.phase ≡ true → unready r f frame next ≡ Err Busy
  saving d e = checked true (is_moving frame.ui.state) (any_busy f frame.ui.state r.objects) d e refl refl

  pub moving : is_doubtful frame.phase ≡ false → is_saving frame.phase ≡ false → is_moving frame.ui.state ≡ true
      → unready r f frame next ≡ Err Busy
  moving d e h = checked false true (any_busy f frame.ui.state r.objects) d e h refl

  pub busy : is_doubtful frame.phase ≡ false → is_saving frame.phase ≡ false → is_moving frame.ui.state ≡ false
      → any_busy f frame.ui.state r.objects ≡ true → unready r f frame next ≡ Err Busy
  busy d e h k = checked false false true d e h k

  pub fine : is_doubtful frame.phase ≡ false → is_saving frame.phase ≡ false → is_moving frame.ui.state ≡ false
      → any_busy f frame.ui.state r.objects ≡ false → unready r f frame next ≡ next
  fine d e h k = checked false false false d e h k

-- under its own name, and with the next session
pub save_is : (r : Record) (f : ℕ) (frame : Frame) → save_at r f (Some frame) ≡ unready r f frame (plain r f frame)
save_is r f frame = refl

pub session_is : (r : Record) (frame : Frame) → session_at r (Some frame) ≡ unready r 1 frame (raising r frame)
session_is r frame = refl

-- the name of a save under another one is looked at next
split : (b n : Bool) (next : Result Took ContainerFault) → unless (b || n) Busy next
    ≡ unless b Busy (unless n Busy next)
split true n next = refl
split false n next = refl

pub save_as_is : (r : Record) (f : ℕ) (name : List ℕ) (frame : Frame) → save_as_at r f name (Some frame)
    ≡ unready r f frame (named r f name frame)
save_as_is r f name frame = ap (unless (is_doubtful frame.phase) InDoubt)
    (split (is_saving frame.phase || is_moving frame.ui.state || any_busy f frame.ui.state r.objects)
    (is_named_beside f name 1 r.frames) (unless (r.session == 0 || bytes_eq frame.name name) WrongState
    (save_numbered r f frame None (Some name))))
