-- A stop: the files that it keeps, and the session document after it.
use Rattle.std.proofs.Common.{◌≡◌, ◌≢◌, ◌++◌, ◌+◌, ◌≤◌, ◌==◌, ℕ, zero, suc, Bool, true, false, List, [], ◌∷◌, Option}
use Rattle.std.proofs.Common.{Some, None, Result, Ok, Err, refl, sym, ap, ◌∙◌, inl, arith, subst, slice_get}
use Rattle.std.proofs.Common.{if◌then◌else◌}
use Rattle.message_values.specs.Found.{find, nth}
use Rattle.container_model.specs.Saves.{image, session_after}
use Rattle.container_model.specs.declared.answer.FrameDocument.{FrameDocument}
use Rattle.container_model.specs.declared.record.Frame.{Frame}
use Rattle.container_numbers.specs.Sessions.{InSession, MayRaise}
use Rattle.world_model.specs.declared.event.Stop.{Stop}
use Rattle.world_model.specs.declared.event.Stop.TheVariants.{NotEnabled}
use Rattle.world_model.specs.declared.logs.File.{File}
use Rattle.world_model.specs.Safe.{Among}
use Rattle.world_model.specs.World.{HoldsDocument, World, file_bytes, file_of, is_file, put_file}
use Rattle.world_facts.proofs.Lookups.{among_old}
use Rattle.world_files.specs.Files.{Apart, Bears}
use Rattle.world_model.specs.SafeStory.{AreOf, IsStopped}
use Rattle.world_model.specs.Story.{Chosen, Epoch, MayChooseAt, Story, document_by, epoch_of, epochs, is_among}
use Rattle.world_model.specs.Story.{made_name}
use Rattle.world_model.specs.Story.{may_stop, passed, past_by, put_kept, stopped}
use Rattle.world_model.specs.declared.moment.Moment.TheVariants as moment
use Rattle.world_stories.specs.Holding.{DocumentStands, HasDocument}
use Rattle.world_stories.proofs.Lists.{each_run}
use Rattle.world_stories.proofs.StoryFiles.{bears_made, found_other, found_put, image_frame, image_session}
use Rattle.world_stories.proofs.StoryFiles.{images_saved}

-- ---- the files that it keeps, the first of the frames of number n
others_kept : (images : ℕ → List ℕ) (fs name : List ℕ) (n : ℕ) (frames : List Frame) (files : List File)
    → ((i : ℕ) (frame : Frame) → slice_get frames i ≡ Some frame → is_among fs (n + i) ≡ true → made_name frame ≢ name)
    → find (is_file name) (put_kept images fs n frames files) ≡ find (is_file name) files
others_kept images fs name n [] files free = refl
others_kept images fs name n (x ∷ xs) files free =
    let later : (i : ℕ) (frame : Frame) → slice_get xs i ≡ Some frame → is_among fs (n + 1 + i) ≡ true
    → made_name frame ≢ name =
    λ i frame at among. free (suc i) frame at
    (subst (λ (m : ℕ). is_among fs m ≡ true) (let e : n + 1 + i ≡ n + suc i = omega arith in e) among) in
    elim (is_among fs n) as (λ b. is_among fs n ≡ b
    → find (is_file name) (put_kept images fs (n + 1) xs (if b then put_file (made_name x) (images n) files
    else files)) ≡ find (is_file name) files) [
      | true ↦ (λ t. others_kept images fs name (n + 1) xs (put_file (made_name x) (images n) files) later
          ∙ found_other (made_name x) name (images n) files
          (λ q. free zero x refl (subst (λ (m : ℕ). is_among fs m ≡ true) (let e : n ≡ n + 0 = omega arith in e)
          t) (sym q)))
      | false ↦ (λ t. others_kept images fs name (n + 1) xs files later)
    ] refl

found_kept : (images : ℕ → List ℕ) (fs : List ℕ) (n : ℕ) (frames : List Frame) (files : List File) (i : ℕ)
    (frame : Frame) → slice_get frames i ≡ Some frame → is_among fs (n + i) ≡ true
    → ((j : ℕ) (other : Frame) → slice_get frames j ≡ Some other → made_name other ≡ made_name frame → j ≡ i)
    → find (is_file (made_name frame)) (put_kept images fs n frames files)
    ≡ Some (record { name = made_name frame; bytes = images (n + i) })
found_kept images fs n [] files i frame at among own = cc
found_kept images fs n (x ∷ xs) files zero frame at among own =
    let is : x ≡ frame = cc in
    let here : n + 0 ≡ n = omega arith in
    let put : find (is_file (made_name frame)) (put_file (made_name x) (images n) files)
    ≡ Some (record { name = made_name frame; bytes = images (n + 0) }) =
    subst (λ (v : Frame). find (is_file (made_name frame)) (put_file (made_name v) (images n) files)
    ≡ Some (record { name = made_name frame; bytes = images (n + 0) })) (sym is)
    (subst (λ (m : ℕ). find (is_file (made_name frame)) (put_file (made_name frame) (images n) files)
    ≡ Some (record { name = made_name frame; bytes = images m })) (sym here)
    (found_put (made_name frame) (images n) files)) in
    ap (λ (b : Bool). find (is_file (made_name frame))
    (put_kept images fs (n + 1) xs (if b then put_file (made_name x) (images n) files else files)))
    (subst (λ (m : ℕ). is_among fs m ≡ true) here among)
    ∙ (others_kept images fs (made_name frame) (n + 1) xs (put_file (made_name x) (images n) files)
    (λ j other g a q. (let z = own (suc j) other g q in absurd (omega arith))) ∙ put)
found_kept images fs n (x ∷ xs) files (suc i) frame at among own =
    let same : n + suc i ≡ n + 1 + i = omega arith in
    let after = if is_among fs n then put_file (made_name x) (images n) files else files in
    subst (λ (m : ℕ). find (is_file (made_name frame)) (put_kept images fs (n + 1) xs after)
    ≡ Some (record { name = made_name frame; bytes = images m })) (sym same)
    (found_kept images fs (n + 1) xs after i frame at (subst (λ (m : ℕ). is_among fs m ≡ true) same among)
    (λ j other g q. (let z = own (suc j) other g q in omega arith)))

one_more : (i : ℕ) → 1 + i ≡ suc i
one_more i = omega arith

pub stop_kept : (w : World) (fs : List ℕ) (images : ℕ → List ℕ) → Apart w.rec.frames → may_stop w.rec fs ≡ true
    → ((f : ℕ) → is_among fs f ≡ true → HoldsDocument w f (images f))
    → (f : ℕ) (frame : Frame) → is_among fs f ≡ true → nth w.rec.frames f ≡ Some frame
    → (saved : FrameDocument) × (image w.rec f ≡ Ok saved) × (bytes : List ℕ)
    × (file_bytes (find (is_file (made_name frame)) (put_kept images fs 1 w.rec.frames w.files)) ≡ Some bytes)
    × AreOf bytes saved
stop_kept w fs images apart may are zero frame among at = cc
stop_kept w fs images apart may are (suc i) frame among at =
    let p = images_saved w fs images may are (suc i) among in
    let found = found_kept images fs 1 w.rec.frames w.files i frame at
    (subst (λ (m : ℕ). is_among fs m ≡ true) (sym (one_more i)) among)
    (λ j other g q. (let z = apart (suc j) (suc i) other frame (made_name frame) g at
    (subst (Bears other) q (bears_made other)) (bears_made frame) in omega arith)) in
    (p.0, p.1, images (suc i), ap file_bytes found ∙ ap (λ (m : ℕ). Some (images m)) (one_more i), p.2)

pub stop_others : (w : World) (fs : List ℕ) (images : ℕ → List ℕ) (name : List ℕ)
    → ((f : ℕ) (frame : Frame) → is_among fs f ≡ true → nth w.rec.frames f ≡ Some frame → made_name frame ≢ name)
    → file_bytes (find (is_file name) (put_kept images fs 1 w.rec.frames w.files)) ≡ file_of w name
stop_others w fs images name free =
    ap file_bytes (others_kept images fs name 1 w.rec.frames w.files
    (λ i frame at among. free (suc i) frame (subst (λ (m : ℕ). is_among fs m ≡ true) (one_more i) among) at))

stop_taken : (b : Bool) (after next : Story) → ◌≡◌ {A = Result Story Stop} (if b then Ok after else Err NotEnabled)
    (Ok next) → (b ≡ true) × (after ≡ next)
stop_taken true after next e = (let same : after ≡ next = cc in (refl, same))
stop_taken false after next e = cc

pub is_stopped : (s : Story) (fs : List ℕ) (choice : Chosen) (next : Story) → Apart s.now.rec.frames
    → MayChooseAt s choice (moment.Stop fs) → passed s choice (moment.Stop fs) ≡ Ok next
    → IsStopped s fs next
is_stopped s fs choice next apart are e =
    let t = stop_taken (may_stop s.now.rec fs) (stopped s choice.images fs) next e in
    subst (IsStopped s fs) t.1 (record {
      kept = λ f frame among at. stop_kept s.now fs choice.images apart t.0 are f frame among at;
      others = λ name free. stop_others s.now fs choice.images name free;
    })

-- ---- the session document
pub first_there : (frames : List Frame) (f : ℕ) (frame : Frame) → nth frames f ≡ Some frame → (x : Frame)
    × (nth frames 1 ≡ Some x)
first_there frames zero frame at = cc
first_there [] (suc i) frame at = cc
first_there (x ∷ xs) (suc i) frame at = (x, refl)

-- frame 1 has at least the session of each run, and a save of it no lesser one
pub document_above : (s : Story) (document : Option (List ℕ)) (frame : Frame) → DocumentStands s document
    → nth s.now.rec.frames 1 ≡ Some frame → (e : Epoch) → Among (epochs s) e
    → e.session ≤ frame.session
document_above s None frame d at = each_run (λ x. x.session ≤ frame.session) s.past (epoch_of s.now)
    (λ x old. absurd (subst (λ xs. Among xs x) d.0 old))
    (let b : s.now.rec.session ≡ 0 = d.1 in let le : s.now.rec.session ≤ frame.session = omega arith in le)
document_above s (Some name) frame d at =
    λ e g. (let a : e.session ≤ d.saved.session = d.above e g in let b : frame.session ≡ d.saved.session =
    (d.framed frame at).1 in omega arith)

pub raises : (session f : ℕ) (frame : Frame) (raised : Option ℕ) → MayRaise session f frame raised
    → frame.session ≤ session_after frame.session raised
raises session f frame None h = omega arith
raises session f frame (Some n) h = (let e : n ≡ frame.session + 1 = h.2 in let le : frame.session ≤ n =
    omega arith in le)

past_known : (w : World) (past : List Epoch) (e : Epoch) → Among (past_by w past) e → Among (past ++ epoch_of w ∷ []) e
past_known w past e h = elim (w.rec.session == 0) as (λ b. Among (if b then past else past ++ epoch_of w ∷ []) e
    → Among (past ++ epoch_of w ∷ []) e) [
      | true ↦ (λ g. among_old past (epoch_of w ∷ []) e g)
      | false ↦ (λ g. g)
    ] h

past_none : (w : World) (past : List Epoch) → past ≡ [] → w.rec.session ≡ 0 → past_by w past ≡ []
past_none w past none unraised = ap (λ (n : ℕ). if n == 0 then past else past ++ epoch_of w ∷ []) unraised ∙ none

module _ (s : Story) (fs : List ℕ) (images : ℕ → List ℕ) where
  abbrev after : Story
  after = stopped s images fs

  above_stopped : (n : ℕ) → ((e : Epoch) → Among (epochs s) e → e.session ≤ n) → (e : Epoch)
      → Among (epochs (stopped s images fs)) e → e.session ≤ n
  above_stopped n h = each_run (λ x. x.session ≤ n) (past_by s.now s.past) (epoch_of after.now)
      (λ x old. h x (past_known s.now s.past x old)) (let le : 0 ≤ n = omega arith in le)

  none_framed : {A : Type 0} (frame : Frame) → nth after.now.rec.frames 1 ≡ Some frame → A
  none_framed frame at = (let z : ◌≡◌ {A = Option Frame} None (Some frame) = at in cc)

  -- a commit of frame 1 that it keeps makes the document
  first_kept : (frame : Frame) → DocumentStands s s.document → Apart s.now.rec.frames → InSession s.now.rec
      → may_stop s.now.rec fs ≡ true
      → ((f : ℕ) → is_among fs f ≡ true → HoldsDocument s.now f (images f))
      → is_among fs 1 ≡ true → nth s.now.rec.frames 1 ≡ Some frame → HasDocument (stopped s images fs) (made_name frame)
  first_kept frame d apart ses may are among at =
      let k = stop_kept s.now fs images apart may are 1 frame among at in
      let im = image_frame s.now.rec 1 (nth s.now.rec.frames 1) k.0 refl k.1 in
      let here : Some im.0 ≡ Some frame = sym im.1 ∙ at in
      let is : im.0 ≡ frame = cc in
      let session : k.0.session ≡ session_after im.0.session im.0.raised = image_session s.now.rec 1 im.0 k.0 im.2 in
      let least : im.0.session ≤ session_after im.0.session im.0.raised =
      raises s.now.rec.session 1 im.0 im.0.raised (ses.raising 1 im.0 im.1) in
      record {
        bytes = k.2;
        file = k.3;
        saved = k.0;
        is = k.4;
        above = above_stopped k.0.session
            (λ e g. (let le : e.session ≤ im.0.session = document_above s s.document im.0 d im.1 e g in
            omega arith));
        framed = λ x there. none_framed x there;
        raised = λ there. absurd (there refl);
      }

  -- else the document stays, as its file does: its name is that of frame 1
  document_stays : (document : Option (List ℕ)) → DocumentStands s document → Apart s.now.rec.frames
      → is_among fs 1 ≡ false → DocumentStands (stopped s images fs) document
  document_stays None d apart other = (past_none s.now s.past d.0 d.1, refl)
  document_stays (Some name) d apart other = record {
    bytes = d.bytes;
    file = stop_others s.now fs images name (λ f frame among at q. (let x = first_there s.now.rec.frames f frame at in
        let one : f ≡ 1 = apart f 1 frame x.0 name at x.1 (subst (Bears frame) q (bears_made frame))
        (inl (d.framed x.0 x.1).0) in
        let there : is_among fs 1 ≡ true = subst (λ (n : ℕ). is_among fs n ≡ true) one among in
        cc)) ∙ d.file;
    saved = d.saved;
    is = d.is;
    above = above_stopped d.saved.session d.above;
    framed = λ x there. none_framed x there;
    raised = λ there. absurd (there refl);
  }

  kept_first : DocumentStands s s.document → Apart s.now.rec.frames → InSession s.now.rec
      → may_stop s.now.rec fs ≡ true → ((f : ℕ) → is_among fs f ≡ true → HoldsDocument s.now f (images f))
      → is_among fs 1 ≡ true → DocumentStands (stopped s images fs) (document_by 1 (nth s.now.rec.frames 1) s.document)
  kept_first d apart ses may are among =
      let p = images_saved s.now fs images may are 1 among in
      let im = image_frame s.now.rec 1 (nth s.now.rec.frames 1) p.0 refl p.1 in
      subst (λ (found : Option Frame). DocumentStands (stopped s images fs) (document_by 1 found s.document))
      (sym im.1) (first_kept im.0 d apart ses may are among im.1)

  pub stop_document : DocumentStands s s.document → Apart s.now.rec.frames → InSession s.now.rec
      → may_stop s.now.rec fs ≡ true → ((f : ℕ) → is_among fs f ≡ true → HoldsDocument s.now f (images f))
      → DocumentStands (stopped s images fs) (stopped s images fs).document
  stop_document d apart ses may are =
      elim (is_among fs 1) as (λ b. is_among fs 1 ≡ b → DocumentStands (stopped s images fs)
      (if b then document_by 1 (nth s.now.rec.frames 1) s.document else s.document)) [
        | true ↦ (λ t. kept_first d apart ses may are t)
        | false ↦ (λ t. document_stays s.document d apart t)
      ] refl
