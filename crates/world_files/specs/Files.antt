-- The files of a world and the container's log of counted saves: the facts that each event keeps. No reader has to
-- believe them; what they are for stands in Safe.
use Rattle.std.specs.Prelude.{◌≡◌, ◌≢◌, ◌⊎◌, ◌≤◌, ◌<◌, ℕ, true, List, [], ◌∷◌, length, map, Option, Some, ⊤}
use Rattle.std.specs.List.{flat_map}
use Rattle.message_values.specs.Found.{find, nth}
use Rattle.cfb_file.specs.Denotes.{Denotes}
use Rattle.ole_model.specs.DocOf.{DocOf}
use Rattle.container_model.specs.Saves as saves
use Rattle.container_model.specs.Saves.{document_tree}
use Rattle.container_model.specs.declared.answer.Part.{Part}
use Rattle.container_model.specs.declared.record.Frame.{Frame}
use Rattle.container_model.specs.declared.record.Object.{Object}
use Rattle.container_model.specs.declared.record.Phase.TheVariants.{Idle}
use Rattle.container_model.specs.declared.answer.Done.{Done}
use Rattle.world_model.specs.declared.logs.Document.{Document}
use Rattle.world_model.specs.declared.logs.File.{File}
use Rattle.world_model.specs.declared.event.Event.{Event}
use Rattle.world_model.specs.declared.event.Event.TheVariants as event
use Rattle.world_model.specs.World.{Choice, HoldsDocument, World, document_in, done_entry, is_file}
use Rattle.world_model.specs.Safe.{Among, AreInTurn, Commit, CountedOnce, entries_of, last_commit, saved_in, saved_of}

-- the objects by their numbers and frames, which no step changes
pub record Id : Type 0 where
  pub number : ℕ
  pub frame : ℕ

abbrev pub id_of : Object → Id
id_of o = record { number = o.number; frame = o.frame }

-- a number of a save that a frame may have counted
pub record IsBelow (frame : Frame) (n : ℕ) : Type 0 where
  pub last : n ≤ frame.k
  pub under : frame.phase ≢ Idle → n < frame.k

-- a name that a frame bears or asked for
abbrev pub Bears : Frame → List ℕ → Type 0
Bears frame name = (frame.name ≡ name) ⊎ (frame.asked ≡ Some name)

abbrev pub Apart : List Frame → Type 0
Apart frames = (f g : ℕ) (a b : Frame) (name : List ℕ) → nth frames f ≡ Some a → nth frames g ≡ Some b
    → Bears a name → Bears b name → f ≡ g

abbrev pub Distinct : List Id → Type 0
Distinct [] = ⊤
Distinct (x ∷ xs) = ((y : Id) → Among xs y → x.number ≢ y.number) × Distinct xs

-- objects have numbers of their own, which were drawn, and their frames are there; what every container keeps
pub record AreNumbered (frames : List Frame) (ids : List Id) (last_object : ℕ) : Type 0 where
  pub distinct : Distinct ids
  pub drawn : (x : Id) → Among ids x → x.number ≤ last_object
  pub placed : (x : Id) → Among ids x → (frame : Frame) × (nth frames x.frame ≡ Some frame)

-- The container counted saves of objects whose numbers were drawn, each object's below the number of its frame's last
-- one, and none twice.
pub record CountedBounded (frames : List Frame) (ids : List Id) (last_object : ℕ) (dones : List Done) : Type 0 where
  pub counted : (d : Done) → Among dones d → d.object ≤ last_object
  pub below : (x : Id) (d : Done) (frame : Frame) → Among ids x → Among dones d → d.object ≡ x.number
      → nth frames x.frame ≡ Some frame → IsBelow frame d.k
  pub counted_once : CountedOnce dones

-- The file under a frame's name holds the document of its last counted commit, whose contents were counted with it. So
-- it does in a frame in doubt, as a commit that fails changes no file of the world.
pub record IsFiled (files : List File) (frame : Frame) (document : Document) (dones : List Done) : Type 0 where
  pub stored : frame.stored ≡ true
  pub file : File
  pub found : find (is_file frame.name) files ≡ Some file
  pub denotes : ∥ Denotes file.bytes (document_tree (saved_of document)) ∥₁
  pub holds : DocOf (document_tree (saved_of document)) (saves.document (saved_of document))
  pub counted_with : (p : Part) → Among document.parts p → Among dones (done_entry document.k p)

pub record FilesCounted (frames : List Frame) (files : List File) (counted : List (Option Document))
    (dones : List Done) : Type 0 where
  pub aligned : length counted ≡ length frames
  pub names_apart : Apart frames
  pub file_counted : (f : ℕ) (document : Document) (frame : Frame) → nth counted f ≡ Some (Some document)
      → nth frames f ≡ Some frame → IsFiled files frame document dones

-- Commits of objects whose numbers were drawn, for frames that are there. An object that is there still is counted for
-- the frame that it stands in; so no two frames share one. A commit's number is at most that of its frame's last save,
-- and below it while that one isn't counted; so each commit of a frame has a greater number than those before it.
pub record CommitsBounded (frames : List Frame) (ids : List Id) (last_object : ℕ) (commits : List Commit) : Type 0 where
  pub drawn : (c : Commit) (p : Part) → Among commits c → Among c.parts p → p.object ≤ last_object
  pub owned : (x : Id) (c : Commit) (p : Part) → Among ids x → Among commits c → Among c.parts p
      → p.object ≡ x.number → x.frame ≡ c.frame
  pub placed : (c : Commit) → Among commits c → (frame : Frame) × (nth frames c.frame ≡ Some frame)
  pub below : (c : Commit) (frame : Frame) → Among commits c → nth frames c.frame ≡ Some frame → IsBelow frame c.k
  pub in_turn : AreInTurn commits

-- A file that holds the document of one of these commits, whichever frame it was of.
pub record IsOfCommit (file : File) (commits : List Commit) : Type 0 where
  pub commit : Commit
  pub counted : Among commits commit
  pub denotes : ∥ Denotes file.bytes (document_tree (saved_in commit)) ∥₁
  pub holds : DocOf (document_tree (saved_in commit)) (saves.document (saved_in commit))

-- what was counted, commit by commit, and that all files are of these commits
pub record HasCommits (frames : List Frame) (ids : List Id) (last_object : ℕ) (files : List File)
    (counted : List (Option Document)) (dones : List Done) : Type 0 where
  pub commits : List Commit
  pub entries : dones ≡ flat_map entries_of commits
  pub last : (f : ℕ) → document_in (nth counted f) ≡ last_commit f commits
  pub bounded : CommitsBounded frames ids last_object commits
  pub each_counted : (file : File) → Among files file → IsOfCommit file commits

pub record Files (w : World) : Type 0 where
  pub counted_bounded : CountedBounded w.rec.frames (map id_of w.rec.objects) w.rec.last_object w.container_done
  pub filed : FilesCounted w.rec.frames w.files w.counted w.container_done
  pub commits : HasCommits w.rec.frames (map id_of w.rec.objects) w.rec.last_object w.files w.counted w.container_done

-- a frame after a step that isn't a commit; it may ask for no name any more
pub record IsSameFrame (old new : Frame) : Type 0 where
  pub name : new.name ≡ old.name
  pub asked : (name : List ℕ) → new.asked ≡ Some name → old.asked ≡ Some name
  pub stored : new.stored ≡ old.stored
  pub below : (n : ℕ) → IsBelow old n → IsBelow new n

pub record AreSameFrames (old new : List Frame) : Type 0 where
  pub many : length new ≡ length old
  pub from : (f : ℕ) (frame : Frame) → nth new f ≡ Some frame → (before : Frame) × (nth old f ≡ Some before)
      × IsSameFrame before frame

-- Of a commit that is done, or was kept after all, the bytes denote the frame's document; other events make no file.
abbrev pub MakesDocument : World → Choice → Event → Type 0
MakesDocument w choice (event.Done f) = HoldsDocument w f choice.file
MakesDocument w choice (event.Resolve f true) = HoldsDocument w f choice.file
MakesDocument w choice _ = Unit {0}
