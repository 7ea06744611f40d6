-- What the commit of a frame counts, and why it is refused for want of memory alone.
use Rattle.std.proofs.Common.{◌≡◌, ℕ, Bool, true, false, map, Option, Some, None, Result, Ok, Err, refl, sym, ap, ◌∙◌}
use Rattle.std.proofs.Common.{subst, if◌then◌else◌}
use Rattle.std.specs.Prelude.{IsOk}
use Rattle.message_values.specs.Found.{nth}
use Rattle.cfb_file.specs.Refusals.{writable}
use Rattle.cfb_file.specs.declared.fault.WriteFault.{WriteFault}
use Rattle.container_model.specs.declared.answer.FrameDocument.{FrameDocument}
use Rattle.container_model.specs.declared.fault.ContainerFault.{ContainerFault}
use Rattle.container_model.specs.declared.fault.ContainerFault.TheVariants.{NoSuch, Busy, NotRunning, InDoubt}
use Rattle.container_model.specs.declared.fault.ContainerFault.TheVariants.{WrongLink, Stale, Full, NumbersSpent}
use Rattle.container_model.specs.declared.fault.ContainerFault.TheVariants.{WrongState, BadFile, BadAnswer}
use Rattle.container_model.specs.declared.fault.ContainerFault.TheVariants.{UnknownClass, NoMemory}
use Rattle.container_model.specs.declared.record.Frame.{Frame}
use Rattle.container_model.specs.Record.{Record, Refuses, Took}
use Rattle.container_model.specs.Saves.{commit_at, commit_done, commit_failed, counted_at, counted_of, document_tree}
use Rattle.container_model.specs.Saves.{done_entry, fitting, fitting_in, frame_document, has_image, held_parts, image}
use Rattle.container_model.specs.Saves.{image_at, is_document, parts_in, failed_at, resolve, resolved_at}
use Rattle.world_host.specs.Files.{is_committing_in, is_doubtful_in}

fits_by : (d saved : FrameDocument) (b : Bool) (told : Result (Unit {0}) WriteFault)
    → ◌≡◌ {A = Result FrameDocument ContainerFault} (if b then fitting_in d told else Err Full) (Ok saved)
    → d ≡ saved
fits_by d saved true (Ok t) e = cc
fits_by d saved true (Err fault) e = cc
fits_by d saved false told e = cc

image_by : (d saved : FrameDocument) (b : Bool) → ◌≡◌ {A = Result FrameDocument ContainerFault}
    (if b then fitting d else Err WrongState) (Ok saved) → d ≡ saved
image_by d saved true e = fits_by d saved (is_document (held_parts d.parts)) (writable (document_tree d)) e
image_by d saved false e = cc

-- a frame whose document is there is there
pub no_image : (r : Record) (f : ℕ) (saved : FrameDocument) → nth r.frames f ≡ None → image r f ≡ Ok saved → ⊥
no_image r f saved none e = (let no : ◌≡◌ {A = Result FrameDocument ContainerFault} (Err NoSuch) (Ok saved) =
    subst (λ (z : Option Frame). image_at r f z ≡ Ok saved) none e in cc)

pub counted_is : (r : Record) (f : ℕ) (frame : Frame) (saved : FrameDocument) → nth r.frames f ≡ Some frame
    → image r f ≡ Ok saved → map (done_entry frame.k) saved.parts ≡ counted_of r f
counted_is r f frame saved there e =
    let at : image_at r f (Some frame) ≡ Ok saved = subst (λ (z : Option Frame). image_at r f z ≡ Ok saved) there e in
    let mine : FrameDocument = frame_document frame (parts_in f r.objects) in
    let same : mine ≡ saved = image_by mine saved (has_image frame.phase) at in
    ap (λ (d : FrameDocument). map (done_entry frame.k) d.parts) (sym same) ∙ ap (counted_at r f) (sym there)

commits_by : (r : Record) (f : ℕ) (frame : Option Frame) (saved : FrameDocument) → is_committing_in frame ≡ true
    → image r f ≡ Ok saved → IsOk (commit_at r f frame)
commits_by r f None saved c e = cc
commits_by r f (Some frame) saved c e = rw (c, e) refl

not_refused : (told : Result Took ContainerFault) (fault : ContainerFault) → IsOk told → told ≡ Err fault → ⊥
not_refused told fault ok e =
    (let no : ◌≡◌ {A = Bool} false true = subst (λ (z : Result Took ContainerFault). IsOk z) e ok in cc)

only_memory : (told : Result Took ContainerFault) (fault : ContainerFault) → IsOk told → Refuses told fault
    → fault ≡ NoMemory
only_memory told NoMemory ok h = refl
only_memory told NoSuch ok h = absurd (not_refused told NoSuch ok h)
only_memory told Busy ok h = absurd (not_refused told Busy ok h)
only_memory told NotRunning ok h = absurd (not_refused told NotRunning ok h)
only_memory told InDoubt ok h = absurd (not_refused told InDoubt ok h)
only_memory told WrongLink ok h = absurd (not_refused told WrongLink ok h)
only_memory told Stale ok h = absurd (not_refused told Stale ok h)
only_memory told Full ok h = absurd (not_refused told Full ok h)
only_memory told NumbersSpent ok h = absurd (not_refused told NumbersSpent ok h)
only_memory told WrongState ok h = absurd (not_refused told WrongState ok h)
only_memory told BadFile ok h = absurd (not_refused told BadFile ok h)
only_memory told BadAnswer ok h = absurd (not_refused told BadAnswer ok h)
only_memory told UnknownClass ok h = absurd (not_refused told UnknownClass ok h)

-- so a commit that is asked for lacks nothing but memory
pub lacks_memory : (r : Record) (f : ℕ) (saved : FrameDocument) (fault : ContainerFault)
    → is_committing_in (nth r.frames f) ≡ true → image r f ≡ Ok saved → Refuses (commit_done r f) fault
    → fault ≡ NoMemory
lacks_memory r f saved fault c e h = only_memory (commit_done r f) fault (commits_by r f (nth r.frames f) saved c e) h

fails_by : (r : Record) (f : ℕ) (frame : Option Frame) → is_committing_in frame ≡ true → IsOk (failed_at r f frame)
fails_by r f None c = cc
fails_by r f (Some frame) c = rw c refl

-- so does one that fails, and one in doubt that is resolved
pub failing_lacks_memory : (r : Record) (f : ℕ) (fault : ContainerFault) → is_committing_in (nth r.frames f) ≡ true
    → Refuses (commit_failed r f) fault → fault ≡ NoMemory
failing_lacks_memory r f fault c h = only_memory (commit_failed r f) fault (fails_by r f (nth r.frames f) c) h

keeps_by : (r : Record) (f : ℕ) (frame : Option Frame) (saved : FrameDocument) → is_doubtful_in frame ≡ true
    → image r f ≡ Ok saved → IsOk (resolved_at r f true frame)
keeps_by r f None saved c e = cc
keeps_by r f (Some frame) saved c e = rw (c, e) refl

pub keeping_lacks_memory : (r : Record) (f : ℕ) (saved : FrameDocument) (fault : ContainerFault)
    → is_doubtful_in (nth r.frames f) ≡ true → image r f ≡ Ok saved → Refuses (resolve r f true) fault
    → fault ≡ NoMemory
keeping_lacks_memory r f saved fault c e h = only_memory (resolve r f true) fault
    (keeps_by r f (nth r.frames f) saved c e) h

drops_by : (r : Record) (f : ℕ) (frame : Option Frame) → is_doubtful_in frame ≡ true
    → IsOk (resolved_at r f false frame)
drops_by r f None c = cc
drops_by r f (Some frame) c = rw c refl

pub dropping_lacks_memory : (r : Record) (f : ℕ) (fault : ContainerFault) → is_doubtful_in (nth r.frames f) ≡ true
    → Refuses (resolve r f false) fault → fault ≡ NoMemory
dropping_lacks_memory r f fault c h = only_memory (resolve r f false) fault (drops_by r f (nth r.frames f) c) h
