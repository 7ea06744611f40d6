-- What holds of every story, whatever happened in it.
use Rattle.std.specs.Prelude.{◌≡◌, ◌≢◌, ◌<◌, ◌≤◌, ◌++◌, ℕ, Bool, true, false, List, [], ◌∷◌, Some, Ok, cond}
use Rattle.std.specs.Prelude.{if◌then◌else◌, ⊤}
use Rattle.std.specs.List.{flat_map}
use Rattle.std.specs.Str.{bytes_eq}
use Rattle.message_values.specs.Found.{nth}
use Rattle.message_values.specs.declared.message.Message.{Message}
use Rattle.message_values.specs.declared.message.Said.{Said}
use Rattle.message_values.specs.declared.message.Said.TheVariants.{Call, Reply, Write, Ask}
use Rattle.message_values.specs.declared.operation.Operation.{Operation}
use Rattle.message_values.specs.declared.answer.Answer.{Answer}
use Rattle.tree_streams.specs.declared.stored.Stored.{Stored}
use Rattle.cfb_file.specs.Denotes.{Denotes}
use Rattle.ole_model.specs.DocOf.{DocOf}
use Rattle.server_model.specs.Server.{Activation}
use Rattle.container_model.specs.Record.{is_doubtful}
use Rattle.container_model.specs.Opens.{Given, IsReadAs}
use Rattle.container_model.specs.Saves as saves
use Rattle.container_model.specs.Saves.{document_tree, image}
use Rattle.container_model.specs.declared.answer.FrameDocument.{FrameDocument}
use Rattle.container_model.specs.declared.answer.Part.{Part}
use Rattle.container_model.specs.declared.record.Frame.{Frame}
use Rattle.container_model.specs.declared.record.Link.{Link}
use Rattle.world_model.specs.declared.event.Event.TheVariants as event
use Rattle.world_model.specs.declared.logs.Document.{Document}
use Rattle.world_model.specs.declared.logs.ServerDone.{ServerDone}
use Rattle.world_model.specs.declared.logs.Taken.{Taken}
use Rattle.world_model.specs.Safe.{Among, AreInTurn, Commit, CountedOnce, GivesCommit, HoldsFrame, IsCounted, IsGranted}
use Rattle.world_model.specs.Safe.{IsHolder, IsHonest, IsKept, IsShared, IsWithin, ServedOnce, WasSent, acts_of}
use Rattle.world_model.specs.Safe.{entries_of, last_commit, links_of, messages}
use Rattle.world_model.specs.World.{Instance, World, called, document_in, done_entry, file_of, in_session}
use Rattle.world_model.specs.declared.moment.Moment.TheVariants as moment
use Rattle.world_model.specs.Story.{Chosen, Epoch, MayChooseAt, Story, as_of, epoch_of, epochs, is_among, made_name}
use Rattle.world_model.specs.Story.{passed}

-- each number is greater than this one, and than those before it
abbrev pub AreRising : ℕ → List Epoch → Type 0
AreRising last [] = ⊤
AreRising last (e ∷ es) = (last < e.session) × AreRising e.session es

-- Its server was started in a run, where a message is a call to it, or its reply.
abbrev pub IsOfServer : List Instance → Said → Type 0
IsOfServer instances (Call inc act n op) = (i : Instance) × (nth instances inc ≡ Some i)
IsOfServer instances (Reply inc act n answer) = (i : Instance) × (nth instances inc ≡ Some i)
IsOfServer instances (Write inc act s number content) = ⊤
IsOfServer instances (Ask inc act g) = ⊤

-- A message of a run that has raised its session.
pub record IsOfRun (s : Story) (m : Message) : Type 0 where
  pub run : Epoch
  pub known : Among (epochs s) run
  pub session : m.session ≡ run.session
  pub raised : 1 ≤ m.session
  pub server : IsOfServer run.instances m.said

-- A session was raised by a counted commit of frame 1, whose document bears it.
pub record IsRaised (commits : List Commit) (session : ℕ) : Type 0 where
  pub commit : Commit
  pub counted : Among commits commit
  pub first : commit.frame ≡ 1
  pub bears : commit.session ≡ session

-- A content that was taken in a session was sent in it, under the storage grant that its record then held open.
pub record IsGrantedIn (w : World) (session : ℕ) (t : Taken) : Type 0 where
  pub granted : IsGranted w t
  pub in_session : granted.message.session ≡ session

-- a save that a server counted stands in one of these commits, with the same content
pub record IsCommitted (commits : List Commit) (d : ServerDone) : Type 0 where
  pub commit : Commit
  pub counted : Among commits commit
  pub part : Part
  pub holds : Among commit.parts part
  pub same : done_entry commit.k part ≡ record { object = d.object; k = d.k; content = d.content }

-- A run, the present one or an earlier one: its servers, which may go on, and what was counted in it, commit by commit.
pub record SafeRun (w : World) (e : Epoch) (commits : List Commit) : Type 0 where
  -- its servers are of its session
  pub servers : (inc : ℕ) (i : Instance) → nth e.instances inc ≡ Some i → (i.core.session ≡ e.session)
      × (1 ≤ i.core.session)
  -- a call acts at most once, and the reply that an activation keeps is the reply to the call of that number
  pub acts_once : (inc act n : ℕ) (op : Operation) (r : Answer) (next : World)
      → WasSent w (in_session e.session (Reply inc act n r))
      → called (as_of w e) e.session inc act n op (nth e.instances inc) ≡ Ok next
      → (next.instances ≡ e.instances) × (next.server_done ≡ e.server_done)
  pub kept_reply : (inc act : ℕ) (a : Activation) (r : Answer) → acts_of e.instances inc act ≡ Some a
      → WasSent w (in_session e.session (Reply inc act a.last r)) → r ≡ a.reply
  -- every content that was taken of an honest server was sent under the storage grant that the record then held open
  pub writes : (t : Taken) → Among e.taken t → IsHonest e.hostile t.inc → IsGrantedIn w e.session t
  -- no save is counted twice, and what an honest server counts the container has counted, with the same content
  pub container_once : CountedOnce e.container_done
  pub server_once : ServedOnce e.server_done
  pub agreed : (d : ServerDone) → Among e.server_done d → IsHonest e.hostile d.inc
      → Among e.container_done (record { object = d.object; k = d.k; content = d.content })
  -- the container counts by commits alone, one after the other
  pub entries : e.container_done ≡ flat_map entries_of commits
  pub last : (f : ℕ) → document_in (nth e.counted f) ≡ last_commit f commits
  pub in_turn : AreInTurn commits
  pub shared : (d : ServerDone) → Among e.server_done d → IsHonest e.hostile d.inc → IsCommitted commits d

-- The present run: who holds its frames, and what their files are.
pub record SafeNow (w : World) (commits : List Commit) : Type 0 where
  -- the content that an object's save was answered by an honest server is the one that its activation keeps for it
  pub answered : (n : ℕ) (l : Link) (content : Stored) → links_of w.rec.objects n ≡ Some l
      → IsHonest w.hostile l.inc → l.saved ≡ Some content
      → (a : Activation) × (acts_of w.instances l.inc l.act ≡ Some a) × (a.saved ≡ Some content)
  -- at most one activation of honest servers that run holds a frame, and the frame names it
  pub one_holder : (f inc act g inc' act' g' : ℕ) → IsHonest w.hostile inc → IsHonest w.hostile inc'
      → HoldsFrame w inc act g f → HoldsFrame w inc' act' g' f → (inc ≡ inc') × (act ≡ act') × (g ≡ g')
  pub holder : (f inc act g : ℕ) → IsHonest w.hostile inc → HoldsFrame w inc act g f → IsHolder w inc act g f
  -- its commits are of frames that are there
  pub counted : IsCounted w commits
  -- whenever both sides count a save, they name one content, which the committed file's bytes denote
  pub shared : (d : ServerDone) → Among w.server_done d → IsHonest w.hostile d.inc → IsShared w commits d
  -- the file of each frame with a counted commit, unless it is in doubt whether a later one was done
  pub files : (f : ℕ) (frame : Frame) (document : Document) → nth w.rec.frames f ≡ Some frame
      → is_doubtful frame.phase ≡ false
      → nth w.counted f ≡ Some (Some document) → IsKept w f document

-- What a file gives where it is opened: the session and the objects of a commit that was counted in some run, all of
-- them and nothing else; of a file that a stop kept, those of a document. It is never a bad one.
abbrev pub is_kept : List ℕ → List (List ℕ) → Bool
is_kept name [] = false
is_kept name (x ∷ xs) = if bytes_eq x name then true else is_kept name xs

abbrev pub GivesSaved : Given → Type 0
GivesSaved Given.Missing = ⊤
GivesSaved Given.Broken = ⊥
GivesSaved (Given.Holding d) = (saved : FrameDocument) × (d ≡ saves.document saved)

abbrev pub GivesCounted : Story → (ℕ → List Commit) → Given → Type 0
GivesCounted s commits given = (e : Epoch) × Among (epochs s) e × GivesCommit (commits e.session) given

abbrev pub Gives : Story → (ℕ → List Commit) → List ℕ → Given → Type 0
Gives s commits name given = cond (is_kept name s.kept) (GivesSaved given) (GivesCounted s commits given)

-- bytes that hold a document
pub record AreOf (bytes : List ℕ) (saved : FrameDocument) : Type 0 where
  pub denotes : ∥ Denotes bytes (document_tree saved) ∥₁
  pub holds : DocOf (document_tree saved) (saves.document saved)

-- There is a session document, and its session is at least this one.
pub record HasSession (s : Story) (session : ℕ) : Type 0 where
  pub name : List ℕ
  pub named : s.document ≡ Some name
  pub bytes : List ℕ
  pub file : file_of s.now name ≡ Some bytes
  pub saved : FrameDocument
  pub is : AreOf bytes saved
  pub above : session ≤ saved.session

-- The present run as a story's next moment found it: its record, its servers and its logs.
pub record IsSameRun (w after : World) : Type 0 where
  pub rec : after.rec ≡ w.rec
  pub epoch : epoch_of after ≡ epoch_of w

-- The same, but that this server is hostile from then on.
pub record IsSameButHostile (w : World) (inc : ℕ) (after : World) : Type 0 where
  pub rec : after.rec ≡ w.rec
  pub epoch : epoch_of after ≡ record (epoch_of w) { hostile = w.hostile ++ inc ∷ [] }

-- A stop makes the image of each commit that the disk has kept the file under the name of that commit, and leaves every
-- other file as it was.
pub record IsStopped (s : Story) (fs : List ℕ) (next : Story) : Type 0 where
  pub kept : (f : ℕ) (frame : Frame) → is_among fs f ≡ true → nth s.now.rec.frames f ≡ Some frame
      → (saved : FrameDocument) × (image s.now.rec f ≡ Ok saved) × (bytes : List ℕ)
      × (file_of next.now (made_name frame) ≡ Some bytes) × AreOf bytes saved
  pub others : (name : List ℕ) → ((f : ℕ) (frame : Frame) → is_among fs f ≡ true
      → nth s.now.rec.frames f ≡ Some frame → made_name frame ≢ name)
      → file_of next.now name ≡ file_of s.now name

pub record SafeStory (s : Story) : Type 0 where
  -- sessions rise, from 1; the present one is 0 until it is raised above them
  pub rising : AreRising 0 s.past
  pub above : (e : Epoch) → Among s.past e → s.now.rec.session ≢ 0 → e.session < s.now.rec.session
  -- every message is of a run that has raised its session, and its numbers are at most the limit
  pub of_runs : (m : Message) → WasSent s.now m → IsOfRun s m
  pub numbered : (m : Message) → WasSent s.now m → IsWithin s.now.rec.numbers m
  -- a call has one answer, however often it is delivered
  pub one_reply : (session inc act n : ℕ) (r q : Answer) → WasSent s.now (in_session session (Reply inc act n r))
      → WasSent s.now (in_session session (Reply inc act n q)) → r ≡ q
  -- the commits of each session
  pub commits : ℕ → List Commit
  pub runs : (e : Epoch) → Among (epochs s) e → SafeRun s.now e (commits e.session)
  pub now : SafeNow s.now (commits s.now.rec.session)
  -- any file, also one that is no frame's any more
  pub opened : (name : List ℕ) (given : Given) → IsReadAs (file_of s.now name) given → Gives s commits name given
  -- each session was raised by a commit that was counted before
  pub raised : (e : Epoch) → Among (epochs s) e → 1 ≤ e.session → IsRaised (commits e.session) e.session
  -- for each session that was raised there is a session document with at least that session, which each later run opens
  -- first
  pub fresh : (e : Epoch) → Among (epochs s) e → 1 ≤ e.session → HasSession s e.session
  pub first : (frame : Frame) (name : List ℕ) → nth s.now.rec.frames 1 ≡ Some frame → s.document ≡ Some name
      → frame.name ≡ name
  -- A message of an earlier session changes neither the record nor a server nor a log of the present run. One that was
  -- forged makes its server hostile, and changes nothing else.
  pub earlier : (p : ℕ) (m : Message) (choice : Chosen) (next : Story) → nth (messages s.now.sent) p ≡ Some m
      → m.session ≢ s.now.rec.session
      → passed s choice (moment.Event (event.Deliver p)) ≡ Ok next → IsSameRun s.now next.now
  pub forged : (inc : ℕ) (m : Message) (choice : Chosen) (next : Story) → m.session ≢ s.now.rec.session
      → passed s choice (moment.Event (event.Forge inc m)) ≡ Ok next → IsSameButHostile s.now inc next.now
  -- and a stop keeps what the disk has kept
  pub stopped : (fs : List ℕ) (choice : Chosen) (next : Story) → MayChooseAt s choice (moment.Stop fs)
      → passed s choice (moment.Stop fs) ≡ Ok next
      → IsStopped s fs next
