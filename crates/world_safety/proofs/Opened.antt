-- What the files of a world give where they are opened, and that they hold what both sides counted.
use Rattle.std.proofs.Common.{◌≡◌, ℕ, true, false, List, Option, Some, None, refl, sym, ap, ◌∙◌, subst}
use Rattle.message_values.specs.Found.{find, nth}
use Rattle.container_model.specs.Opens.{Given, IsReadAs}
use Rattle.container_model.specs.Record.{is_doubtful}
use Rattle.container_model.specs.declared.answer.Done.{Done}
use Rattle.container_model.specs.declared.answer.Part.{Part}
use Rattle.container_model.specs.declared.record.Frame.{Frame}
use Rattle.container_laws.specs.OpenLaws.{IsFileOf}
use Rattle.container_laws.proofs.OpensLaws.{files-give_theirs}
use Rattle.world_model.specs.declared.logs.Document.{Document}
use Rattle.world_model.specs.declared.logs.File.{File}
use Rattle.world_model.specs.declared.logs.ServerDone.{ServerDone}
use Rattle.world_model.specs.World.{World, document_in, done_entry, file_bytes, file_of, frame_file_in, is_file}
use Rattle.world_model.specs.Safe.{Among, Commit, committed, GivesCommit, IsKept, IsShared, saved_in, saved_of}
use Rattle.world_files.specs.Files.{Files, IsOfCommit}
use Rattle.world_files.proofs.InTurn.{entry_from, last_is, one_commit}
use Rattle.world_facts.proofs.Lookups.{find_among}

-- the file of a frame that isn't in doubt
file_known : (w : World) (frame : Frame) (file : File) → is_doubtful frame.phase ≡ false → frame.stored ≡ true
    → find (is_file frame.name) w.files ≡ Some file → frame_file_in w (Some frame) ≡ Some file.bytes
file_known w frame file sure stored found = rw (sure, stored, found) refl

pub files_kept : (w : World) → Files w → (f : ℕ) (frame : Frame) (document : Document)
    → nth w.rec.frames f ≡ Some frame → is_doubtful frame.phase ≡ false → nth w.counted f ≡ Some (Some document)
    → IsKept w f document
files_kept w k f frame document at sure c =
    let s = k.filed.file_counted f document frame c at in
    let of : IsFileOf s.file.bytes (saved_of document) = record { denotes = s.denotes; holds = s.holds } in
    record {
      bytes = s.file.bytes;
      file = ap (frame_file_in w) at ∙ file_known w frame s.file sure s.stored s.found;
      denotes = s.denotes;
      counted = s.counted_with;
      again = λ given read. files-give_theirs s.file.bytes (saved_of document) given of read;
    }

-- a save that both sides counted: the document of its commit is in the frame's file, where it is the frame's last one
shared_in : (w : World) (k : Files w) (e : ServerDone) (c : Commit) (p : Part) → Among k.commits.commits c
    → Among c.parts p → record { object = e.object; k = e.k; content = e.content } ≡ done_entry c.k p
    → IsShared w k.commits.commits e
shared_in w k e c p g h is = record {
  commit = c;
  counted = g;
  part = p;
  holds = h;
  same = sym is;
  denoted = λ frame document at sure counted number.
      let last = last_is c.frame k.commits.commits document (sym (k.commits.last c.frame) ∙ ap document_in counted) in
      let same : last.0 ≡ c = one_commit k.commits.commits last.0 c k.commits.bounded.in_turn last.1 g last.2
      (ap (λ (d : Document). d.k) last.3 ∙ (number ∙ ap (λ (d : Done). d.k) is)) in
      let whole : document ≡ committed c = sym last.3 ∙ ap committed same in
      let kept : IsKept w c.frame (committed c) = subst (IsKept w c.frame) whole
      (files_kept w k c.frame frame document at sure counted) in
      (kept.bytes, kept.file, kept.denotes);
}

pub shared_kept : (w : World) (k : Files w) (e : ServerDone)
    → Among w.container_done (record { object = e.object; k = e.k; content = e.content })
    → IsShared w k.commits.commits e
shared_kept w k e g =
    let entry : Done = record { object = e.object; k = e.k; content = e.content } in
    let r = entry_from k.commits.commits entry (subst (λ ds. Among ds entry) k.commits.entries g) in
    shared_in w k e r.0 r.2 r.1 r.3 r.4

-- any file of the world
gives_one : (commits : List Commit) (file : File) (given : Given) → IsOfCommit file commits
    → IsReadAs (Some file.bytes) given → GivesCommit commits given
gives_one commits file given h read =
    let of : IsFileOf file.bytes (saved_in h.commit) = record { denotes = h.denotes; holds = h.holds } in
    subst (GivesCommit commits) (sym (files-give_theirs file.bytes (saved_in h.commit) given of read))
    (h.commit, h.counted, refl)

gives_found : (commits : List Commit) (file : Option File) (given : Given)
    → ((x : File) → file ≡ Some x → IsOfCommit x commits) → IsReadAs (file_bytes file) given
    → GivesCommit commits given
gives_found commits None Given.Missing h read = tt
gives_found commits None Given.Broken h read = absurd read
gives_found commits None (Given.Holding ds) h read = absurd read
gives_found commits (Some file) given h read = gives_one commits file given (h file refl) read

pub files_opened_give : (w : World) → (k : Files w) → (name : List ℕ) (given : Given)
    → IsReadAs (file_of w name) given → GivesCommit k.commits.commits given
files_opened_give w k name given read = gives_found k.commits.commits (find (is_file name) w.files) given
    (λ x e. k.commits.each_counted x (find_among (is_file name) w.files x e)) read
