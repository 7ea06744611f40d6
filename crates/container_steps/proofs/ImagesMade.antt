-- The document of a frame whose commit is asked or in doubt, and why there is none.
use Rattle.std.proofs.Common.{◌≡◌, ℕ, Bool, true, false, List, Some, None, Result, Ok, Err, get_or, refl, sym, ◌∙◌, ap}
use Rattle.std.proofs.Common.{subst, if◌then◌else◌}
use Rattle.std.specs.Prelude.{is_ok}
use Rattle.message_values.specs.Found.{nth}
use Rattle.cfb_file.specs.declared.fault.WriteFault.{WriteFault}
use Rattle.cfb_file.specs.Refusals.{writable}
use Rattle.container_model.specs.declared.answer.FrameDocument.{FrameDocument}
use Rattle.container_model.specs.declared.fault.ContainerFault.TheVariants.{NoSuch, WrongState, Full}
use Rattle.container_model.specs.declared.record.Frame.{Frame}
use Rattle.container_model.specs.declared.record.Object.{Object}
use Rattle.container_model.specs.Numbered.{IsNth}
use Rattle.container_model.specs.Record.{Record}
use Rattle.container_model.specs.Saves.{document_tree, fitting, fitting_in, frame_document, has_image, held_parts}
use Rattle.container_model.specs.Saves.{image, image_at, is_document, parts_in, session_after}
use Rattle.container_commands.proofs.VerbsPlaced.{frame_here}

-- whether a document fits, as a test
tree_fits : (d : FrameDocument) (told : Result (Unit {0}) WriteFault) → is_ok (fitting_in d told) ≡ true
    → fitting_in d told ≡ Ok d
tree_fits d (Ok t) e = refl
tree_fits d (Err fault) e = absurd (cc)

tree_full : (d : FrameDocument) (told : Result (Unit {0}) WriteFault) → is_ok (fitting_in d told) ≡ false
    → fitting_in d told ≡ Err Full
tree_full d (Ok t) e = absurd (cc)
tree_full d (Err fault) e = refl

if_fits : (d : FrameDocument) (b : Bool) (told : Result (Unit {0}) WriteFault)
    → is_ok (if b then fitting_in d told else Err Full) ≡ true → (if b then fitting_in d told else Err Full) ≡ Ok d
if_fits d true told e = tree_fits d told e
if_fits d false told e = absurd (cc)

if_full : (d : FrameDocument) (b : Bool) (told : Result (Unit {0}) WriteFault)
    → is_ok (if b then fitting_in d told else Err Full) ≡ false → (if b then fitting_in d told else Err Full)
    ≡ Err Full
if_full d true told e = tree_full d told e
if_full d false told e = refl

-- no such frame
pub no_image : (s r : Record) (f : ℕ) (fs : List Frame) → s ≡ r → fs ≡ s.frames → nth fs f ≡ None
    → image r f ≡ Err NoSuch
no_image s r f fs e same none =
    let frames : fs ≡ r.frames = same ∙ ap (λ (t : Record). t.frames) e in
    ap (image_at r f) (ap (λ (ys : List Frame). nth ys f) (sym frames) ∙ none)

-- the frame that stands there
image_here : (s r : Record) (f i : ℕ) (fs : List Frame) (y : Frame) → s ≡ r → fs ≡ s.frames → IsNth f fs i
    → y ≡ get_or s.frames i y → image r f ≡ image_at r f (Some y)
image_here s r f i fs y e same p at =
    let frames : fs ≡ r.frames = same ∙ ap (λ (t : Record). t.frames) e in
    let q : IsNth f r.frames i = subst (λ (ys : List Frame). IsNth f ys i) frames p in
    ap (image_at r f) (q.found ∙ frame_here s r i y e q.fits at)

pub wrong_image : (s r : Record) (f i : ℕ) (fs : List Frame) (y : Frame) → s ≡ r → fs ≡ s.frames → IsNth f fs i
    → y ≡ get_or s.frames i y → has_image y.phase ≡ false → image r f ≡ Err WrongState
wrong_image s r f i fs y e same p at h = image_here s r f i fs y e same p at
    ∙ ap (λ b. if b then fitting (frame_document y (parts_in f r.objects)) else Err WrongState) h

-- of the session that was read, and the objects
abbrev read_document : ℕ → ℕ → List Object → FrameDocument
read_document session f os = record { session = session; parts = parts_in f os }

held : (s r : Record) (f i session : ℕ) (fs : List Frame) (os : List Object) (y : Frame) → s ≡ r → fs ≡ s.frames
    → os ≡ s.objects → session ≡ session_after y.session y.raised → IsNth f fs i → y ≡ get_or s.frames i y
    → has_image y.phase ≡ true
    → image r f ≡ fitting (read_document session f os)
held s r f i session fs os y e same objects read p at h =
    image_here s r f i fs y e same p at
    ∙ (ap (λ b. if b then fitting (frame_document y (parts_in f r.objects)) else Err WrongState) h
    ∙ (ap (λ (xs : List Object). fitting (read_document (session_after y.session y.raised) f xs))
    (sym (objects ∙ ap (λ (t : Record). t.objects) e)) ∙ ap (λ n. fitting (read_document n f os)) (sym read)))

pub full_image : (s r : Record) (f i session : ℕ) (fs : List Frame) (os : List Object) (y : Frame) → s ≡ r
    → fs ≡ s.frames → os ≡ s.objects → session ≡ session_after y.session y.raised → IsNth f fs i
    → y ≡ get_or s.frames i y → has_image y.phase ≡ true
    → is_ok (fitting (read_document session f os)) ≡ false → image r f ≡ Err Full
full_image s r f i session fs os y e same objects read p at h full =
    let d : FrameDocument = read_document session f os in
    held s r f i session fs os y e same objects read p at h ∙ if_full d (is_document (held_parts d.parts))
    (writable (document_tree d)) full

pub fine_image : (s r : Record) (f i session : ℕ) (fs : List Frame) (os : List Object) (y : Frame) → s ≡ r
    → fs ≡ s.frames → os ≡ s.objects → session ≡ session_after y.session y.raised → IsNth f fs i
    → y ≡ get_or s.frames i y → has_image y.phase ≡ true
    → is_ok (fitting (read_document session f os)) ≡ true → image r f ≡ Ok (read_document session f r.objects)
fine_image s r f i session fs os y e same objects read p at h fits =
    let d : FrameDocument = read_document session f os in
    held s r f i session fs os y e same objects read p at h
    ∙ (if_fits d (is_document (held_parts d.parts)) (writable (document_tree d)) fits
    ∙ ap (λ (xs : List Object). Ok (read_document session f xs)) (objects ∙ ap (λ (t : Record). t.objects) e))
