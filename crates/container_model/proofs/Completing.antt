-- What a commit makes of an object of its frame, and of one of another.
use Rattle.std.proofs.Common.{◌≡◌, ◌==◌, ℕ, true, false, refl}
use Rattle.container_model.specs.declared.record.Frame.{Frame}
use Rattle.container_model.specs.declared.record.Object.{Object}
use Rattle.container_model.specs.Record.{asked_link}
use Rattle.container_model.specs.Saves.{cleared, completed, completion, kept}

pub completed_in : (f : ℕ) (frame : Frame) (o : Object) → (o.frame == f) ≡ true
    → completed f frame o ≡ record o { work = kept o; link = asked_link (completion frame) (cleared o.link) }
completed_in f frame o e = rw (e, e) refl

pub completed_out : (f : ℕ) (frame : Frame) (o : Object) → (o.frame == f) ≡ false → completed f frame o ≡ o
completed_out f frame o e = rw (e, e) refl
