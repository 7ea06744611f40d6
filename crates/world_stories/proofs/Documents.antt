-- The session document after an event of the present run, and that nothing is saved or made before a session is raised.
use Rattle.std.proofs.Common.{◌≡◌, ◌≢◌, ◌++◌, ◌+◌, ◌≤◌, ℕ, suc, Bool, true, false, List, [], ◌∷◌, length, Option, Some}
use Rattle.std.proofs.Common.{None, is_some, Ok, refl, sym, ap, ◌∙◌, inl, inr, arith, subst, if◌then◌else◌}
use Rattle.std.proofs.lemmas.Bool.Decides.{eqb_tells}
use Rattle.std.proofs.lemmas.Slice.Eq.{bytes_eq-Decides}
use Rattle.message_values.specs.Found.{find, nth, set_nth}
use Rattle.ole_model.specs.Documents.{Doc}
use Rattle.container_frames.specs.Frames.{AreUnraised, Commits, FramesGo, FramesStay, frame_counted, frame_made}
use Rattle.container_frames.specs.Frames.{frame_opened, frames_stay}
use Rattle.container_frames.proofs.Steps.{steps_move_frames}
use Rattle.container_laws.specs.OpenLaws.{IsFileOf}
use Rattle.container_laws.proofs.OpensLaws.{files-give_theirs}
use Rattle.container_model.specs.Commands.{new_frame}
use Rattle.container_model.specs.Inputs.{Input, on_input}
use Rattle.container_model.specs.Opens.{Given, IsReadAs, opened_frame}
use Rattle.container_model.specs.Record.{Record, Took}
use Rattle.container_model.specs.Saves.{commit_made, committed_frame, document, image_at, session_after}
use Rattle.container_model.specs.declared.answer.FrameDocument.{FrameDocument}
use Rattle.container_model.specs.declared.command.Command.{Command}
use Rattle.container_model.specs.declared.command.Command.TheVariants as command
use Rattle.container_model.specs.declared.record.Frame.{Frame}
use Rattle.container_model.specs.declared.record.Phase.TheVariants.{Idle}
use Rattle.container_numbers.specs.Sessions.{InSession, MayRaise}
use Rattle.container_queues.proofs.SteadyLookups.{nth-set_other, nth-set_same}
use Rattle.container_steady.proofs.Opening.{is_opened}
use Rattle.world_model.specs.declared.event.Event.{Event}
use Rattle.world_model.specs.declared.event.Event.TheVariants as event
use Rattle.world_model.specs.declared.logs.Document.{Document}
use Rattle.world_model.specs.declared.logs.File.{File}
use Rattle.world_model.specs.Safe.{Among}
use Rattle.world_model.specs.World.{Choice, HoldsDocument, MayChoose, World, file_bytes, file_of, is_file, put_file}
use Rattle.world_facts.proofs.Lookups.{among_new, among_old, nth_aligned, nth_old, nth_one, nth_set_apart}
use Rattle.world_files.specs.Files.{Apart, Bears, MakesDocument}
use Rattle.world_model.specs.SafeStory.{AreOf}
use Rattle.world_model.specs.Story.{Epoch, Story, committed_by, document_by, epoch_of, epochs, followed, is_it, kept_by}
use Rattle.world_model.specs.Story.{made_name, may_begin, may_command, may_open}
use Rattle.world_stories.specs.Holding.{DocumentStands, HasDocument}
use Rattle.world_stories.specs.Steps.{Counts, CountsBy, IsInputOf, KeepsFirst, Steps, made_by, put_committed, rec_stays}
use Rattle.world_stories.specs.Steps.{rec_steps}
use Rattle.world_stories.proofs.Lists.{each_run}
use Rattle.world_stories.proofs.StoryFiles.{bears_made, found_other, found_put, image_session}
use Rattle.world_stories.proofs.Stopping.{document_above, first_there, raises}

-- ---- a commit that is counted
pub done_counts : (w v : World) (choice : Choice) (f : ℕ) → Steps w v choice (event.Done f) → Counts w v f
done_counts w v choice f (rec_stays none rec keeps) = absurd none
done_counts w v choice f (rec_steps x t input ok rec counts) = subst (CountsBy w v) input counts

pub kept_counts : (w v : World) (choice : Choice) (f : ℕ) → Steps w v choice (event.Resolve f true) → Counts w v f
kept_counts w v choice f (rec_stays none rec keeps) = absurd none
kept_counts w v choice f (rec_steps x t input ok rec counts) = subst (CountsBy w v) input counts

-- ---- the document of a story whose present run goes on
epoch_above : (s : Story) (v : World) (n : ℕ) → ((e : Epoch) → Among (epochs s) e → e.session ≤ n)
    → v.rec.session ≤ n → (e : Epoch) → Among (s.past ++ epoch_of v ∷ []) e → e.session ≤ n
epoch_above s v n h le = each_run (λ x. x.session ≤ n) s.past (epoch_of v)
    (λ x old. h x (among_old s.past (epoch_of s.now ∷ []) x old)) le

present_above : (s : Story) (n : ℕ) → ((e : Epoch) → Among (epochs s) e → e.session ≤ n) → s.now.rec.session ≤ n
present_above s n h = h (epoch_of s.now) (among_new s.past (epoch_of s.now ∷ []) (epoch_of s.now) (inl refl))

-- where its file, frame 1, the session and what was counted of frame 1 stay
stays_in : (s : Story) (v : World) (made : Option (List ℕ)) (kept : List (List ℕ)) (document : Option (List ℕ))
    → DocumentStands s document → v.rec.session ≡ s.now.rec.session
    → KeepsFirst s.now v → ((name : List ℕ) (h : HasDocument s name) → document ≡ Some name
    → file_of v name ≡ file_of s.now name)
    → ((name : List ℕ) (h : HasDocument s name) → document ≡ Some name → (frame : Frame)
    → nth v.rec.frames 1 ≡ Some frame → (frame.name ≡ name) × (frame.session ≡ h.saved.session))
    → DocumentStands (record { now = v; past = s.past; document = made; kept = kept }) document
stays_in s v made kept None d session keeps file framed = (d.0, session ∙ d.1)
stays_in s v made kept (Some name) d session keeps file framed = record {
  bytes = d.bytes;
  file = file name d refl ∙ d.file;
  saved = d.saved;
  is = d.is;
  above = epoch_above s v d.saved.session d.above (let le : s.now.rec.session ≤ d.saved.session =
      present_above s d.saved.session d.above in omega arith);
  framed = framed name d refl;
  raised = λ there. (let r = d.raised (λ z. there (session ∙ z)) in (
    r.0 ∙ sym session,
    record {
      document = r.1.document;
      first = keeps r.1.document r.1.first;
      bears = r.1.bears ∙ sym session;
    },
  ));
}

same_file : (w v : World) (name : List ℕ) → v.files ≡ w.files → file_of v name ≡ file_of w name
same_file w v name e = ap (λ (files : List File). file_bytes (find (is_file name) files)) e

first_in : (r t : Record) (frame : Frame) → t ≡ r → nth t.frames 1 ≡ Some frame → nth r.frames 1 ≡ Some frame
first_in r t frame e at = ap (λ (y : Record). nth y.frames 1) (sym e) ∙ at

session_in : (r t : Record) → t ≡ r → t.session ≡ r.session
session_in r t e = ap (λ (y : Record). y.session) e

unchanged : (s : Story) (v : World) → DocumentStands s s.document → v.rec ≡ s.now.rec → KeepsFirst s.now v
    → v.files ≡ s.now.files
    → DocumentStands (record s { now = v }) s.document
unchanged s v d rec keeps files =
    stays_in s v s.document s.kept s.document d (session_in s.now.rec v.rec rec) keeps
    (λ name h is. same_file s.now v name files)
    (λ name h is frame at. h.framed frame (first_in s.now.rec v.rec frame rec at))

-- ---- steps that make and open no frame, and count none
abbrev IsStill : Input → Type 0
IsStill (Input.Ordered c) = ⊥
IsStill (Input.Opened name w h given) = ⊥
IsStill x = Unit {0}

abbrev Still : World → World → Input → Type 0
Still w v x = IsStill x × ((f : ℕ) → Commits x f → ⊥) × (CountsBy w v x → KeepsFirst w v)

still_stays : (w v : World) (x : Input) (t : Took) → Still w v x → FramesGo w.rec x t
    → FramesStay w.rec.session w.rec.frames t.rec.frames × (t.rec.session ≡ w.rec.session)
still_stays w v x t k (frames_stay stay session) = (stay, session)
still_stays w v x t k (frame_made name a b q frames session) = absurd (subst IsStill q k.0)
still_stays w v x t k (frame_opened name a b d q frames session) = absurd (subst IsStill q k.0)
still_stays w v x t k (frame_counted f frame c at busy made) = absurd (k.1 f c)

stayed : (s : Story) (v : World) (t : Took) → DocumentStands s s.document
    → FramesStay s.now.rec.session s.now.rec.frames t.rec.frames → t.rec.session ≡ s.now.rec.session → v.rec ≡ t.rec
    → KeepsFirst s.now v → v.files ≡ s.now.files → DocumentStands (record s { now = v }) s.document
stayed s v t d stay session rec keeps files =
    stays_in s v s.document s.kept s.document d (session_in t.rec v.rec rec ∙ session) keeps
    (λ name h is. same_file s.now v name files)
    (λ name h is frame at. (let p = stay.from 1 frame (first_in t.rec v.rec frame rec at) in
    let b = h.framed p.0 p.1 in
    (p.2.name ∙ b.0, p.2.session_same ∙ b.1)))

still_step : (s : Story) (v : World) (choice : Choice) (e : Event) → DocumentStands s s.document
    → Steps s.now v choice e
    → ((x : Input) → IsInputOf x choice e → Still s.now v x) → v.files ≡ s.now.files
    → DocumentStands (record s { now = v }) s.document
still_step s v choice e d (rec_stays none rec keeps) still files = unchanged s v d rec keeps files
still_step s v choice e d (rec_steps x t input ok rec counts) still files = (let k = still x input in
    let p = still_stays s.now v x t k (steps_move_frames s.now.rec x t ok) in
    stayed s v t d p.0 p.1 rec (k.2 counts) files)

-- ---- a new frame
none_first : (frames : List Frame) → 1 ≡ suc (length frames) → nth frames 1 ≡ None
none_first [] e = refl
none_first (x ∷ xs) e = absurd (omega arith)

made_first : (frame : Option Frame) (document : Option (List ℕ)) (name : List ℕ)
    → (if is_some frame then true else if is_some document then false else true) ≡ true → frame ≡ None
    → document ≡ Some name → ⊥
made_first (Some x) document name may none there = cc
made_first None None name may none there = cc
made_first None (Some d) name may none there = cc

command_goes : (s : Story) (v : World) (c : Command) (x : Input) (t : Took) → DocumentStands s s.document
    → x ≡ Input.Ordered c → v.rec ≡ t.rec
    → KeepsFirst s.now v → v.files ≡ s.now.files → may_command s c ≡ true → FramesGo s.now.rec x t
    → DocumentStands (record s { now = v }) s.document
command_goes s v c x t d input rec keeps files may (frames_stay stay session) =
    stayed s v t d stay session rec keeps files
command_goes s v c x t d input rec keeps files may (frame_made name w h q frames session) =
    let both : Input.Ordered c ≡ Input.Ordered (command.New name w h) = sym input ∙ q in
    let is : c ≡ command.New name w h = cc in
    let free : may_command s (command.New name w h) ≡ true = ap (may_command s) (sym is) ∙ may in
    stays_in s v s.document s.kept s.document d (session_in t.rec v.rec rec ∙ session) keeps
    (λ name h is. same_file s.now v name files)
    (λ other own there frame at. elim (nth_one s.now.rec.frames (new_frame name w h) 1 frame
    (ap (λ (fs : List Frame). nth fs 1) (sym frames) ∙ first_in t.rec v.rec frame rec at)) [
      | inl old ↦ own.framed frame old
      | inr new ↦ absurd (made_first (nth s.now.rec.frames 1) s.document other free
          (none_first s.now.rec.frames new.1) there)
    ])
command_goes s v c x t d input rec keeps files may (frame_opened name w h given q frames session) =
    (let both : Input.Ordered c ≡ Input.Opened name w h (Given.Holding given) = sym input ∙ q in cc)
command_goes s v c x t d input rec keeps files may (frame_counted f frame counts at busy made) =
    absurd (subst (λ (y : Input). Commits y f) input counts)

command_step : (s : Story) (v : World) (choice : Choice) (c : Command) → DocumentStands s s.document
    → Steps s.now v choice (event.Command c)
    → v.files ≡ s.now.files → may_command s c ≡ true → DocumentStands (record s { now = v }) s.document
command_step s v choice c d (rec_stays none rec keeps) files may = unchanged s v d rec keeps files
command_step s v choice c d (rec_steps x t input ok rec counts) files may =
    command_goes s v c x t d input rec (subst (CountsBy s.now v) input counts) files may
    (steps_move_frames s.now.rec x t ok)

-- ---- a file that is opened
opened_first : (frame : Option Frame) (document : Option (List ℕ)) (name own : List ℕ)
    → (if is_some frame then true else is_it name document) ≡ true → frame ≡ None → document ≡ Some own → own ≡ name
opened_first (Some x) document name own may none there = cc
opened_first None None name own may none there = cc
opened_first None (Some d) name own may none there =
    (let same : d ≡ own = cc in sym same ∙ (bytes_eq-Decides d name).0 may)

held_is : (a b : Doc) → Given.Holding a ≡ Given.Holding b → a ≡ b
held_is a b e = cc

given_is : (w : World) (name : List ℕ) (bytes : List ℕ) (saved : FrameDocument) (given : Given) (d : Doc)
    → file_of w name ≡ Some bytes → AreOf bytes saved → IsReadAs (file_of w name) given
    → given ≡ Given.Holding d → d.session ≡ saved.session
given_is w name bytes saved given d file of read holds =
    let is : IsFileOf bytes saved = record { denotes = of.denotes; holds = of.holds } in
    let one : given ≡ Given.Holding (document saved) = files-give_theirs bytes saved given is
    (subst (λ (x : Option (List ℕ)). IsReadAs x given) file read) in
    ap (λ (y : Doc). y.session) (held_is d (document saved) (sym holds ∙ one))

open_step : (s : Story) (v : World) (choice : Choice) (name : List ℕ) (width height : ℕ)
    → DocumentStands s s.document → Steps s.now v choice (event.Open name width height) → v.files ≡ s.now.files
    → MayChoose s.now choice (event.Open name width height) → may_open s name ≡ true
    → DocumentStands (record s { now = v }) s.document
open_step s v choice name width height d (rec_stays none rec keeps) files read may = unchanged s v d rec keeps files
open_step s v choice name width height d (rec_steps x t input ok rec counts) files read may =
    let o = is_opened s.now.rec name width height choice.given t
    (subst (λ (y : Input). on_input s.now.rec y ≡ Ok t) input ok) in
    stays_in s v s.document s.kept s.document d (session_in t.rec v.rec rec
    ∙ sym (ap (λ (y : Took). y.rec.session) o.made))
    (subst (CountsBy s.now v) input counts) (λ own h is. same_file s.now v own files)
    (λ own h there frame at. elim (nth_one s.now.rec.frames (opened_frame name width height o.d.session) 1 frame
    (ap (λ (y : Took). nth y.rec.frames 1) o.made ∙ first_in t.rec v.rec frame rec at)) [
      | inl old ↦ h.framed frame old
      | inr new ↦ (let is : own ≡ name = opened_first (nth s.now.rec.frames 1) s.document name own may
          (none_first s.now.rec.frames new.1) there in (
            ap (λ (y : Frame). y.name) new.0 ∙ sym is,
            ap (λ (y : Frame). y.session) new.0 ∙ given_is s.now name h.bytes h.saved choice.given o.d
                (ap (file_of s.now) (sym is) ∙ h.file) h.is (read o.unnamed o.size) o.holds,
          ))
    ])

-- ---- a commit that is counted
session_above : (a b : ℕ) (raised : Option ℕ) → a ≤ b → session_after a raised ≤ session_after b raised
session_above a b None h = h
session_above a b (Some n) h = (let same : n ≤ n = omega arith in same)

session_other : (session f : ℕ) (frame : Frame) (raised : Option ℕ) → MayRaise session f frame raised → f ≢ 1
    → session_after session raised ≡ session
session_other session f frame None h other = refl
session_other session f frame (Some n) h other = absurd (other h.1)

-- what a session document was raised to, and the session that was there before
session_raised : (session f : ℕ) (frame : Frame) (raised : Option ℕ) → MayRaise session f frame raised
    → (session ≢ 0 → frame.session ≡ session)
    → session_after session raised ≢ 0 → session_after frame.session raised ≡ session_after session raised
session_raised session f frame None h same there = same there
session_raised session f frame (Some n) h same there = refl

-- frame 1 is of the session of its run
frame_session : (s : Story) (d : Option (List ℕ)) (frame : Frame) → DocumentStands s d
    → nth s.now.rec.frames 1 ≡ Some frame → s.now.rec.session ≢ 0
    → frame.session ≡ s.now.rec.session
frame_session s None frame d at there = absurd (there d.1)
frame_session s (Some name) frame d at there = (d.framed frame at).1 ∙ (d.raised there).0

module _ (s : Story) (v : World) (bytes : List ℕ) (f : ℕ) (d : DocumentStands s s.document)
    (apart : Apart s.now.rec.frames) (ses : InSession s.now.rec)
    (aligned : length s.now.counted ≡ length s.now.rec.frames)
    (c : Counts s.now v f) (of : AreOf bytes c.saved)
    (files : v.files ≡ put_file (made_name c.frame) bytes s.now.files) where
  abbrev frame : Frame
  frame = c.frame

  may_raise : MayRaise s.now.rec.session f c.frame c.frame.raised
  may_raise = ses.raising f c.frame c.at

  raised_session : v.rec.session ≡ session_after s.now.rec.session c.frame.raised
  raised_session = session_in (commit_made s.now.rec f c.frame).rec v.rec c.rec

  in_set : (new : Frame) → nth v.rec.frames 1 ≡ Some new
      → nth (set_nth s.now.rec.frames f (committed_frame c.frame)) 1 ≡ Some new
  in_set new there = first_in (commit_made s.now.rec f c.frame).rec v.rec new c.rec there

  counted_in : (x : Option Document) → nth (set_nth s.now.counted f (Some c.document)) 1 ≡ Some x
      → nth v.counted 1 ≡ Some x
  counted_in x at = ap (λ xs. nth xs 1) c.counted ∙ nth_old (set_nth s.now.counted f (Some c.document)) c.more 1 x at

  first_counted : f ≡ 1 → HasDocument (committed_by s f v) (made_name c.frame)
  first_counted one =
      let first : nth s.now.rec.frames 1 ≡ Some frame = subst (λ (n : ℕ). nth s.now.rec.frames n ≡ Some frame) one
      c.at in
      let session : c.saved.session ≡ session_after c.frame.session c.frame.raised =
      image_session s.now.rec f c.frame c.saved c.imaged in
      let least : c.frame.session ≤ session_after c.frame.session c.frame.raised =
      raises s.now.rec.session f c.frame c.frame.raised may_raise in
      let before : (e : Epoch) → Among (epochs s) e → e.session ≤ c.frame.session =
      document_above s s.document c.frame d first in
      let now : session_after s.now.rec.session c.frame.raised ≤ session_after c.frame.session c.frame.raised =
      session_above s.now.rec.session c.frame.session c.frame.raised (present_above s c.frame.session before) in
      let own = raised_session in
      let there = nth_aligned s.now.rec.frames s.now.counted f c.frame (sym aligned) c.at in
      record {
        bytes = bytes;
        file =
            ap (λ (fs : List File). file_bytes (find (is_file (made_name c.frame)) fs)) files
            ∙ ap file_bytes (found_put (made_name c.frame) bytes s.now.files);
        saved = c.saved;
        is = of;
        above = epoch_above s v c.saved.session
            (λ e g. (let le : e.session ≤ c.frame.session = before e g in omega arith)) (omega arith);
        framed = λ new there. elim (nth_set_apart s.now.rec.frames f 1 (committed_frame c.frame) new
            (in_set new there)) [
              | inl p ↦ (ap (λ (y : Frame). y.name) p.1, ap (λ (y : Frame). y.session) p.1 ∙ sym session)
              | inr p ↦ absurd (p.0 (sym one))
            ];
        raised = λ ne. (let same : c.saved.session ≡ v.rec.session = session
            ∙ (session_raised s.now.rec.session f c.frame c.frame.raised may_raise
            (frame_session s s.document c.frame d first)
            (λ z. ne (own ∙ z)) ∙ sym own) in (
              same,
              record {
                document = c.document;
                first = counted_in (Some c.document)
                    (subst (λ (n : ℕ). nth (set_nth s.now.counted f (Some c.document)) n ≡ Some (Some c.document)) one
                    (nth-set_same s.now.counted f there.0 (Some c.document) there.1));
                bears = c.bears ∙ same;
              },
            ));
      }

  other_counted : f ≢ 1 → DocumentStands (committed_by s f v) s.document
  other_counted other = stays_in s v (document_by f (nth s.now.rec.frames f) s.document)
      (kept_by (nth s.now.rec.frames f) s.kept) s.document d
      (raised_session ∙ session_other s.now.rec.session f c.frame c.frame.raised may_raise other)
      (λ x at. counted_in (Some x) (nth-set_other s.now.counted f 1 (Some c.document) other ∙ at))
      (λ name h there. (let x = first_there s.now.rec.frames f c.frame c.at in
      let free : name ≢ made_name c.frame =
      λ q. other (apart f 1 c.frame x.0 name c.at x.1 (subst (Bears c.frame) (sym q) (bears_made c.frame))
      (inl (h.framed x.0 x.1).0)) in
      ap (λ (fs : List File). file_bytes (find (is_file name) fs)) files
      ∙ ap file_bytes (found_other (made_name c.frame) name bytes s.now.files free)))
      (λ name h there new found. elim (nth_set_apart s.now.rec.frames f 1 (committed_frame c.frame) new
      (in_set new found)) [
        | inl p ↦ absurd (other (sym p.0))
        | inr p ↦ h.framed new p.1
      ])

  counted_document : DocumentStands (committed_by s f v) (document_by f (nth s.now.rec.frames f) s.document)
  counted_document = subst (λ (found : Option Frame). DocumentStands (committed_by s f v)
      (document_by f found s.document)) (sym c.at) (elim (eqb_tells f 1) [
        | inl one ↦ subst (λ (b : Bool). DocumentStands (committed_by s f v) (if b then Some (made_name c.frame)
            else s.document)) (sym one.0) (first_counted one.1)
        | inr other ↦ subst (λ (b : Bool). DocumentStands (committed_by s f v) (if b then Some (made_name c.frame)
            else s.document)) (sym other.0)
            (other_counted other.1)
      ])

commit_step : (s : Story) (v : World) (choice : Choice) (f : ℕ) → DocumentStands s s.document
    → Apart s.now.rec.frames → InSession s.now.rec
    → length s.now.counted ≡ length s.now.rec.frames → Counts s.now v f
    → HoldsDocument s.now f choice.file → v.files ≡ put_committed choice.file (nth s.now.rec.frames f) s.now.files
    → DocumentStands (committed_by s f v) (document_by f (nth s.now.rec.frames f) s.document)
commit_step s v choice f d apart ses aligned c makes files =
    let of = makes c.saved (ap (image_at s.now.rec f) c.at ∙ c.imaged) in
    counted_document s v choice.file f d apart ses aligned c (record { denotes = of.0; holds = of.1 })
    (files ∙ ap (λ (found : Option Frame). put_committed choice.file found s.now.files) c.at)

-- ---- all events
-- what is known of the story's record
pub record Standing (s : Story) : Type 0 where
  pub document : DocumentStands s s.document
  pub apart : Apart s.now.rec.frames
  pub in_session : InSession s.now.rec
  pub aligned : length s.now.counted ≡ length s.now.rec.frames

pub document_follows : (s : Story) (choice : Choice) (e : Event) (v : World) → Standing s → Steps s.now v choice e
    → v.files ≡ made_by s.now choice e s.now.files
    → MakesDocument s.now choice e → MayChoose s.now choice e → may_begin s e ≡ true
    → DocumentStands (followed s e v) (followed s e v).document
document_follows s choice (event.Command c) v k st files makes read may =
    command_step s v choice c k.document st files may
document_follows s choice (event.Deliver p) v k st files makes read may =
    still_step s v choice (event.Deliver p) k.document st
    (λ x input. subst (Still s.now v) (sym input.2) (tt, (λ f c. c), λ c. c)) files
document_follows s choice (event.Forge inc m) v k st files makes read may =
    still_step s v choice (event.Forge inc m) k.document st
    (λ x input. subst (Still s.now v) (sym input.1) (tt, (λ f c. c), λ c. c)) files
document_follows s choice (event.Crash session inc) v k st files makes read may =
    still_step s v choice (event.Crash session inc) k.document st (λ x input. absurd input) files
document_follows s choice (event.Reap inc) v k st files makes read may =
    still_step s v choice (event.Reap inc) k.document st
    (λ x input. subst (Still s.now v) (sym input) (tt, (λ f c. c), λ c. c)) files
document_follows s choice (event.Done f) v k st files makes read may =
    commit_step s v choice f k.document k.apart k.in_session k.aligned (done_counts s.now v choice f st) makes files
document_follows s choice (event.Fail f) v k st files makes read may =
    still_step s v choice (event.Fail f) k.document st
    (λ x input. subst (Still s.now v) (sym input) (tt, (λ f c. c), λ c. c)) files
document_follows s choice (event.Resolve f true) v k st files makes read may =
    commit_step s v choice f k.document k.apart k.in_session k.aligned (kept_counts s.now v choice f st) makes files
document_follows s choice (event.Resolve f false) v k st files makes read may =
    still_step s v choice (event.Resolve f false) k.document st
    (λ x input. subst (Still s.now v) (sym input) (tt, (λ f c. c), λ c. c)) files
document_follows s choice (event.Open name width height) v k st files makes read may =
    open_step s v choice name width height k.document st files read may
document_follows s choice (event.Scribble session inc act) v k st files makes read may =
    still_step s v choice (event.Scribble session inc act) k.document st (λ x input. absurd input) files
document_follows s choice (event.Ask session inc act) v k st files makes read may =
    still_step s v choice (event.Ask session inc act) k.document st (λ x input. absurd input) files

-- ---- before a session is raised
none_before : (session f : ℕ) (frame : Frame) (raised : Option ℕ) → MayRaise session f frame raised
    → session_after session raised ≡ 0 → session ≡ 0
none_before session f frame None h e = e
none_before session f frame (Some n) h e = (let a : n ≡ frame.session + 1 = h.2 in let b : n ≡ 0 = e in
    absurd (omega arith))

goes_unraised : (r : Record) (x : Input) (t : Took) → AreUnraised r → InSession r → FramesGo r x t → AreUnraised t.rec
goes_unraised r x t idle ses (frames_stay stay session) f frame at unraised none =
    (let p = stay.from f frame at in p.2.unraised (idle f p.0 p.1) (sym session ∙ unraised) none)
goes_unraised r x t idle ses (frame_made name w h q frames session) f frame at unraised none =
    elim (nth_one r.frames (new_frame name w h) f frame (ap (λ (fs : List Frame). nth fs f) (sym frames) ∙ at)) [
      | inl old ↦ idle f frame old (sym session ∙ unraised) none
      | inr new ↦ ap (λ (y : Frame). y.phase) new.0
    ]
goes_unraised r x t idle ses (frame_opened name w h d q frames session) f frame at unraised none =
    elim (nth_one r.frames (opened_frame name w h d.session) f frame
    (ap (λ (fs : List Frame). nth fs f) (sym frames) ∙ at)) [
      | inl old ↦ idle f frame old (sym session ∙ unraised) none
      | inr new ↦ ap (λ (y : Frame). y.phase) new.0
    ]
goes_unraised r x t idle ses (frame_counted g counted counts there busy made) f frame at unraised none =
    elim (nth_set_apart r.frames g f (committed_frame counted) frame
    (ap (λ (y : Took). nth y.rec.frames f) made ∙ at)) [
      | inl p ↦ ap (λ (y : Frame). y.phase) p.1
      | inr p ↦ idle f frame p.1 (none_before r.session g counted counted.raised (ses.raising g counted there)
          (ap (λ (y : Took). y.rec.session) made ∙ unraised)) none
    ]

pub unraised_follows : (w v : World) (choice : Choice) (e : Event) → AreUnraised w.rec → InSession w.rec
    → Steps w v choice e → AreUnraised v.rec
unraised_follows w v choice e idle ses (rec_stays none rec keeps) = subst AreUnraised (sym rec) idle
unraised_follows w v choice e idle ses (rec_steps x t input ok rec counts) =
    subst AreUnraised (sym rec) (goes_unraised w.rec x t idle ses (steps_move_frames w.rec x t ok))

goes_none : (r : Record) (x : Input) (t : Took) → InSession r → FramesGo r x t → t.rec.session ≡ 0 → r.session ≡ 0
goes_none r x t ses (frames_stay stay session) unraised = sym session ∙ unraised
goes_none r x t ses (frame_made name w h q frames session) unraised = sym session ∙ unraised
goes_none r x t ses (frame_opened name w h d q frames session) unraised = sym session ∙ unraised
goes_none r x t ses (frame_counted g counted counts there busy made) unraised =
    none_before r.session g counted counted.raised (ses.raising g counted there)
    (ap (λ (y : Took). y.rec.session) made ∙ unraised)

-- a session that there is stays
none_follows : (w v : World) (choice : Choice) (e : Event) → InSession w.rec → Steps w v choice e
    → v.rec.session ≡ 0 → w.rec.session ≡ 0
none_follows w v choice e ses (rec_stays none rec keeps) unraised = sym (session_in w.rec v.rec rec) ∙ unraised
none_follows w v choice e ses (rec_steps x t input ok rec counts) unraised =
    goes_none w.rec x t ses (steps_move_frames w.rec x t ok) (sym (session_in t.rec v.rec rec) ∙ unraised)

raises_one : (r : Record) (f : ℕ) (frame : Frame) (raised : Option ℕ) → AreUnraised r → nth r.frames f ≡ Some frame
    → frame.raised ≡ raised → MayRaise r.session f frame raised
    → frame.phase ≢ Idle → session_after r.session raised ≡ 0 → ⊥
raises_one r f frame None idle at is may busy unraised = busy (idle f frame at unraised is)
raises_one r f frame (Some n) idle at is may busy unraised =
    (let a : n ≡ frame.session + 1 = may.2 in let b : n ≡ 0 = unraised in omega arith)

-- no commit is counted where there is no session after it
none_counted : (w v : World) (f : ℕ) → AreUnraised w.rec → InSession w.rec → Counts w v f → v.rec.session ≡ 0 → ⊥
none_counted w v f idle ses c unraised = raises_one w.rec f c.frame c.frame.raised idle c.at refl
    (ses.raising f c.frame c.at) c.busy
    (sym (session_in (commit_made w.rec f c.frame).rec v.rec c.rec) ∙ unraised)

pub none_made_follows : (w v : World) (choice : Choice) (e : Event) (mine : List File)
    → (w.rec.session ≡ 0 → mine ≡ []) → AreUnraised w.rec
    → InSession w.rec → Steps w v choice e → v.rec.session ≡ 0 → made_by w choice e mine ≡ []
none_made_follows w v choice e mine none idle ses st unraised =
    at e st (none (none_follows w v choice e ses st unraised))
  where
    at : (x : Event) → Steps w v choice x → mine ≡ [] → made_by w choice x mine ≡ []
    at (event.Command c) st h = h
    at (event.Deliver p) st h = h
    at (event.Forge inc m) st h = h
    at (event.Crash session inc) st h = h
    at (event.Reap inc) st h = h
    at (event.Done f) st h = absurd (none_counted w v f idle ses (done_counts w v choice f st) unraised)
    at (event.Fail f) st h = h
    at (event.Resolve f true) st h = absurd (none_counted w v f idle ses (kept_counts w v choice f st) unraised)
    at (event.Resolve f false) st h = h
    at (event.Open name width height) st h = h
    at (event.Scribble session inc act) st h = h
    at (event.Ask session inc act) st h = h
