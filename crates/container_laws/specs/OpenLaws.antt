-- What files give, and that the file of a commit gives its objects again.
use Rattle.std.specs.Prelude.{◌≡◌, ◌≢◌, ◌+◌, ℕ, true, List, length, Option, Some, Ok, Err}
use Rattle.cfb_entries.specs.Tree.{Tree}
use Rattle.cfb_file.specs.Denotes.{Denotes}
use Rattle.ole_model.specs.DocOf.{DocOf}
use Rattle.ole_model.specs.Documents.{Doc}
use Rattle.container_model.specs.declared.answer.FrameDocument.{FrameDocument}
use Rattle.container_model.specs.declared.record.Frame.{Frame}
use Rattle.container_model.specs.declared.fault.ContainerFault.TheVariants.{BadFile}
use Rattle.container_model.specs.Record.{Record, Took}
use Rattle.message_values.specs.Found.{nth}
use Rattle.container_model.specs.Saves.{document, document_tree, frame_document, image, is_document, parts_in}
use Rattle.container_model.specs.Opens.{Given, IsReadAs, opened}
use Rattle.container_queues.specs.Steady.{Steady}

-- What a tree holds is a document within its limits.
abbrev pub HeldIsWithin : Type 0
HeldIsWithin = (t : Tree) (d : Doc) → DocOf t d → is_document d.objects ≡ true

-- A file gives one thing.
abbrev pub FilesGiveOne : Type 0
FilesGiveOne = (file : Option (List ℕ)) (given other : Given) → IsReadAs file given → IsReadAs file other
    → given ≡ other

-- Bytes are the file of a document.
pub record IsFileOf (bytes : List ℕ) (d : FrameDocument) : Type 0 where
  pub denotes : ∥ Denotes bytes (document_tree d) ∥₁
  pub holds : DocOf (document_tree d) (document d)

-- The file of a document gives it.
abbrev pub FilesGiveTheirs : Type 0
FilesGiveTheirs = (bytes : List ℕ) (d : FrameDocument) (given : Given) → IsFileOf bytes d
    → IsReadAs (Some bytes) given → given ≡ Given.Holding (document d)

-- So it is never a bad file, and where it is opened, what the new frame has is that document again, its session and its
-- objects.
pub record IsOpenedAgain (u : Record) (name : List ℕ) (w h : ℕ) (given : Given) (d : FrameDocument) : Type 0 where
  pub good : opened u name w h given ≢ Err BadFile
  pub again : (t : Took) → opened u name w h given ≡ Ok t
      → (frame : Frame) × (nth t.rec.frames (length u.frames + 1) ≡ Some frame)
      × (document (frame_document frame (parts_in (length u.frames + 1) t.rec.objects)) ≡ document d)

abbrev pub CommitsAreOpenedAgain : Type 0
CommitsAreOpenedAgain = (r u : Record) (f : ℕ) (d : FrameDocument) (bytes name : List ℕ) (w h : ℕ) (given : Given)
    → image r f ≡ Ok d → IsFileOf bytes d → IsReadAs (Some bytes) given → Steady u
    → IsOpenedAgain u name w h given d
