-- What holds of every world, whatever happened in it.
use Rattle.std.specs.Prelude.{◌≡◌, ◌≢◌, ◌⊎◌, ◌<◌, ◌≤◌, ◌==◌, ℕ, Bool, true, false, List, [], ◌∷◌, map, Option, Some}
use Rattle.std.specs.Prelude.{None, Ok, if◌then◌else◌, ⊤}
use Rattle.std.specs.List.{flat_map}
use Rattle.message_values.specs.Found.{find, nth}
use Rattle.message_values.specs.declared.message.Message.{Message}
use Rattle.message_values.specs.declared.message.Said.{Said}
use Rattle.message_values.specs.declared.message.Said.TheVariants.{Call, Reply, Write, Ask}
use Rattle.message_values.specs.declared.operation.Operation.{Operation}
use Rattle.message_values.specs.declared.operation.Operation.TheVariants.{UiActivate, Save, SaveCompleted, SaveDropped}
use Rattle.message_values.specs.declared.operation.Operation.TheVariants.{Close}
use Rattle.message_values.specs.declared.answer.Answer.{Answer}
use Rattle.message_values.specs.declared.answer.Answer.TheVariants.{Content}
use Rattle.message_values.specs.declared.answer.Answer.TheVariants as answer
use Rattle.object_state.specs.declared.operations.CloseOption.TheVariants.{SaveIfDirty}
use Rattle.object_state.specs.declared.grant_states.Claim.{Claim}
use Rattle.object_state.specs.declared.grant_states.Tools.{Tools}
use Rattle.object_state.specs.declared.grant_states.GrantState.TheVariants.{Held}
use Rattle.object_state.specs.Grants.{waiting, who}
use Rattle.object_state.specs.declared.persist_states.PersistState.TheVariants.{Normal}
use Rattle.tree_streams.specs.declared.stored.Stored.{Stored}
use Rattle.cfb_file.specs.Denotes.{Denotes}
use Rattle.server_model.specs.Server.{Activation, is_act}
use Rattle.container_model.specs.Record.{is_doubtful, is_object}
use Rattle.container_model.specs.Opens.{Given, IsReadAs}
use Rattle.container_model.specs.Saves as saves
use Rattle.container_model.specs.Saves.{document_tree}
use Rattle.container_model.specs.declared.answer.FrameDocument.{FrameDocument}
use Rattle.container_model.specs.declared.answer.Part.{Part}
use Rattle.container_model.specs.declared.record.Link.{Link}
use Rattle.container_model.specs.declared.record.Object.{Object}
use Rattle.container_model.specs.declared.record.Frame.{Frame}
use Rattle.world_model.specs.declared.life.Life.TheVariants.{Running}
use Rattle.world_model.specs.declared.logs.Sent.{Sent}
use Rattle.world_model.specs.declared.logs.Taken.{Taken}
use Rattle.world_model.specs.declared.logs.View.{View}
use Rattle.container_model.specs.declared.answer.Done.{Done}
use Rattle.world_model.specs.declared.logs.ServerDone.{ServerDone}
use Rattle.world_model.specs.declared.logs.Document.{Document}
use Rattle.world_model.specs.World.{World, Instance, counted_document, delivered, done_entry, file_of, frame_file}
use Rattle.world_model.specs.World.{in_session, owner}

-- A server of which no message was forged: it sends what the server's step says, and nothing else.
abbrev pub is_hostile : List ℕ → ℕ → Bool
is_hostile [] inc = false
is_hostile (h ∷ hostile) inc = if h == inc then true else is_hostile hostile inc

abbrev pub IsHonest : List ℕ → ℕ → Type 0
IsHonest hostile inc = is_hostile hostile inc ≡ false

-- x stands in the list
abbrev pub Among : {A : Type 0} → List A → A → Type 0
Among [] x = ⊥
Among (y ∷ ys) x = (x ≡ y) ⊎ Among ys x

-- Lookups: links by the numbers of their objects, activations by incarnation and number, messages that were sent.
abbrev pub link_at : Option Object → Option Link
link_at None = None
link_at (Some o) = o.link

abbrev pub links_of : List Object → ℕ → Option Link
links_of os n = link_at (find (is_object n) os)

abbrev pub act_at : ℕ → Option Instance → Option Activation
act_at act None = None
act_at act (Some i) = find (is_act act) i.core.acts

abbrev pub acts_of : List Instance → ℕ → ℕ → Option Activation
acts_of is inc act = act_at act (nth is inc)

abbrev pub messages : List Sent → List Message
messages xs = map (λ (x : Sent). x.message) xs

-- what was said, in whichever session
abbrev pub sayings : List Sent → List Said
sayings xs = map (λ (x : Sent). x.message.said) xs

abbrev pub WasSent : World → Message → Type 0
WasSent w m = Among (messages w.sent) m

-- and what was said in the session of the container
abbrev pub WasSaid : World → Said → Type 0
WasSaid w said = WasSent w (in_session w.rec.session said)

-- the number that an operation carries, of a grant or of a save, is at most the limit
abbrev pub CarriesWithin : ℕ → Operation → Type 0
CarriesWithin limit (UiActivate g) = g ≤ limit
CarriesWithin limit (Save k) = k ≤ limit
CarriesWithin limit (SaveCompleted k storage) = k ≤ limit
CarriesWithin limit (SaveDropped k) = k ≤ limit
CarriesWithin limit op = ⊤

-- Every number of a message is at most the limit: those of the server, of the activation, of the call and of what it
-- asks, of the storage grant and of the write, of the grant. What answers and contents say isn't numbered.
abbrev pub IsSaidWithin : ℕ → Said → Type 0
IsSaidWithin limit (Call inc act n op) = (inc ≤ limit) × (act ≤ limit) × (n ≤ limit) × CarriesWithin limit op
IsSaidWithin limit (Reply inc act n answer) = (inc ≤ limit) × (act ≤ limit) × (n ≤ limit)
IsSaidWithin limit (Write inc act s number content) = (inc ≤ limit) × (act ≤ limit) × (s ≤ limit) × (number ≤ limit)
IsSaidWithin limit (Ask inc act g) = (inc ≤ limit) × (act ≤ limit) × (g ≤ limit)

abbrev pub IsWithin : ℕ → Message → Type 0
IsWithin limit m = IsSaidWithin limit m.said

-- no save of an object is counted twice, by the container or by servers
abbrev pub IsAnother : Done → Done → Type 0
IsAnother d e = d.object ≡ e.object → d.k ≢ e.k

abbrev pub CountedOnce : List Done → Type 0
CountedOnce [] = ⊤
CountedOnce (d ∷ ds) = ((e : Done) → Among ds e → IsAnother d e) × CountedOnce ds

abbrev pub IsOther : ServerDone → ServerDone → Type 0
IsOther d e = d.object ≡ e.object → d.k ≢ e.k

abbrev pub ServedOnce : List ServerDone → Type 0
ServedOnce [] = ⊤
ServedOnce (d ∷ ds) = ((e : ServerDone) → Among ds e → IsOther d e) × ServedOnce ds

-- what brought a content, in a session: a write under this storage grant, or the answer to a close
abbrev pub BringsBy : World → ℕ → Said → Taken → Type 0
BringsBy w session (Call inc act n op) t = ⊥
BringsBy w session (Reply inc act n (Content content)) t = (inc ≡ t.inc) × (act ≡ t.act)
    × WasSent w (in_session session (Call inc act n (Close SaveIfDirty)))
BringsBy w session (Reply inc act n answer) t = ⊥
BringsBy w session (Write inc act s number content) t = (inc ≡ t.inc) × (act ≡ t.act) × (s ≡ t.s)
BringsBy w session (Ask inc act g) t = ⊥

abbrev pub Brings : World → Message → Taken → Type 0
Brings w m t = BringsBy w m.session m.said t

-- A content that was taken came with a message that its server sent while the activation was open, its storage open for
-- reading and writing, under this storage grant; and the container's record held the same grant open just before it
-- took it, with no save asked.
pub record IsGranted (w : World) (t : Taken) : Type 0 where
  pub message : Message
  pub place : ℕ
  pub placed : t.place ≡ Some place
  pub delivered : nth (messages w.sent) place ≡ Some message
  pub brings : Brings w message t
  pub sent : (view : View) × Among w.sent (record { message = message; view = Some view }) × (view.opened ≡ true)
      × (view.states.persist.state ≡ Normal) × (view.s ≡ t.s)
  pub held_open : t.persist ≡ Normal
  pub unasked : t.awaits_save ≡ false

-- An activation of a server that runs holds its frame: it belongs to an object of the frame, and has a grant.
pub record HoldsFrame (w : World) (inc act g f : ℕ) : Type 0 where
  pub instance : Instance
  pub hosted : nth w.instances inc ≡ Some instance
  pub runs : instance.life ≡ Running
  pub activation : Activation
  pub known : find (is_act act) instance.core.acts ≡ Some activation
  pub has_grant : activation.g ≡ Some g
  pub object : Object
  pub owned : find (is_object (owner w act)) w.rec.objects ≡ Some object
  pub inside : object.frame ≡ f

-- these tools were the answer to the grant
pub record WasAnswered (w : World) (inc act g : ℕ) (tools : Tools) : Type 0 where
  pub n : ℕ
  pub called : WasSaid w (Call inc act n (UiActivate g))
  pub replied : WasSaid w (Reply inc act n (answer.Tools tools.menus tools.border))

-- Its frame names it, as the one that has it or is to get it or to give it up, and not as the one that waits; and where
-- the frame is held, with the menus and the border that the activation answered to its grant.
pub record IsHolder (w : World) (inc act g f : ℕ) : Type 0 where
  pub frame : Frame
  pub there : nth w.rec.frames f ≡ Some frame
  pub named : who frame.ui.state ≡ Some (record { object = owner w act; act = act; g = g })
  pub unwaiting : (claim : Claim) → waiting frame.ui.state ≡ Some claim → claim.act ≢ act
  pub told : (holder : Claim) (tools : Tools) → frame.ui.state ≡ Held holder tools → WasAnswered w inc act g tools

-- A log of commits: the frame, the number of its save, and the session and the parts of its document.
pub record Commit : Type 0 where
  pub frame : ℕ
  pub k : ℕ
  pub session : ℕ
  pub parts : List Part

-- what the file of a commit holds, and that of a document that was counted
abbrev pub saved_in : Commit → FrameDocument
saved_in c = record { session = c.session; parts = c.parts }

abbrev pub saved_of : Document → FrameDocument
saved_of d = record { session = d.session; parts = d.parts }

abbrev pub entries_of : Commit → List Done
entries_of c = map (done_entry c.k) c.parts

abbrev pub committed : Commit → Document
committed c = record { k = c.k; session = c.session; parts = c.parts }

-- the document of the last commit of a frame
abbrev pub or_else : {A : Type 0} → Option A → Option A → Option A
or_else (Some x) other = Some x
or_else None other = other

abbrev pub commit_of : ℕ → Commit → Option Document
commit_of f c = if c.frame == f then Some (committed c) else None

abbrev pub last_commit : ℕ → List Commit → Option Document
last_commit f [] = None
last_commit f (c ∷ cs) = or_else (last_commit f cs) (commit_of f c)

-- Of two commits the earlier and the later one: a frame's later commit has a greater number, and an object that stands
-- in both is counted for one frame.
pub record Precedes (c d : Commit) : Type 0 where
  pub rising : c.frame ≡ d.frame → c.k < d.k
  pub apart : (p q : Part) → Among c.parts p → Among d.parts q → p.object ≡ q.object → c.frame ≡ d.frame

abbrev pub AreInTurn : List Commit → Type 0
AreInTurn [] = ⊤
AreInTurn (c ∷ cs) = ((d : Commit) → Among cs d → Precedes c d) × AreInTurn cs

-- The container counted these commits, one after the other: what it counted are just their entries, and the document
-- counted for a frame is that of its last commit. Each is of a frame that is there, whose last save has its number or a
-- greater one. A frame's numbers rise, so it has one commit of a number at most; and what is counted of an object is
-- counted for one frame, the one that it stands in as long as it is there.
pub record IsCounted (w : World) (commits : List Commit) : Type 0 where
  pub entries : w.container_done ≡ flat_map entries_of commits
  pub last : (f : ℕ) → counted_document w f ≡ last_commit f commits
  pub placed : (c : Commit) → Among commits c → (frame : Frame) × (nth w.rec.frames c.frame ≡ Some frame)
      × (c.k ≤ frame.k)
  pub in_turn : AreInTurn commits
  pub owned : (c : Commit) (p : Part) (o : Object) → Among commits c → Among c.parts p
      → find (is_object p.object) w.rec.objects ≡ Some o → o.frame ≡ c.frame

-- The file of a frame holds the document of its last counted commit, whose contents are those counted with it. Where it
-- is opened it gives that commit's session and objects again, and nothing else.
pub record IsKept (w : World) (f : ℕ) (document : Document) : Type 0 where
  pub bytes : List ℕ
  pub file : frame_file w f ≡ Some bytes
  pub denotes : ∥ Denotes bytes (document_tree (saved_of document)) ∥₁
  pub counted : (p : Part) → Among document.parts p → Among w.container_done (done_entry document.k p)
  pub again : (given : Given) → IsReadAs (Some bytes) given → given ≡ Given.Holding (saves.document (saved_of document))

-- A save that a server counted as complete: it is counted in one of these commits, with the same content. Where that is
-- the last commit of its frame, which isn't in doubt, the frame's file has bytes that denote the tree of the commit's
-- document.
pub record IsShared (w : World) (commits : List Commit) (e : ServerDone) : Type 0 where
  pub commit : Commit
  pub counted : Among commits commit
  pub part : Part
  pub holds : Among commit.parts part
  pub same : done_entry commit.k part ≡ record { object = e.object; k = e.k; content = e.content }
  pub denoted : (frame : Frame) (document : Document) → nth w.rec.frames commit.frame ≡ Some frame
      → is_doubtful frame.phase ≡ false → nth w.counted commit.frame ≡ Some (Some document) → document.k ≡ e.k
      → (bytes : List ℕ) × (frame_file w commit.frame ≡ Some bytes)
      × ∥ Denotes bytes (document_tree (saved_in commit)) ∥₁

-- What a file gives where it is opened: the session and the objects of one of these commits, all of them and nothing
-- else. It is never a bad one.
abbrev pub GivesCommit : List Commit → Given → Type 0
GivesCommit commits Given.Missing = ⊤
GivesCommit commits Given.Broken = ⊥
GivesCommit commits (Given.Holding d) = (c : Commit) × Among commits c × (d ≡ saves.document (saved_in c))

pub record Safe (w : World) : Type 0 where
  -- a call acts at most once: delivered again once it is answered, it leaves every server as it is and counts nothing
  pub acts_once : (s inc act n : ℕ) (op : Operation) (r : Answer) (next : World)
      → WasSent w (in_session s (Reply inc act n r)) → delivered w (in_session s (Call inc act n op)) ≡ Ok next
      → (next.instances ≡ w.instances) × (next.server_done ≡ w.server_done)
  -- and it has one answer, however often it is delivered
  pub one_reply : (s inc act n : ℕ) (r q : Answer) → WasSent w (in_session s (Reply inc act n r))
      → WasSent w (in_session s (Reply inc act n q)) → r ≡ q
  -- the reply that an activation keeps is the reply to the call of that number
  pub kept_reply : (inc act : ℕ) (a : Activation) (r : Answer) → acts_of w.instances inc act ≡ Some a
      → WasSaid w (Reply inc act a.last r) → r ≡ a.reply
  -- the content that an object's save was answered by an honest server is the one that its activation keeps for it
  pub answered : (n : ℕ) (l : Link) (content : Stored) → links_of w.rec.objects n ≡ Some l
      → IsHonest w.hostile l.inc → l.saved ≡ Some content
      → (a : Activation) × (acts_of w.instances l.inc l.act ≡ Some a) × (a.saved ≡ Some content)
  -- at most one activation of honest servers that run holds a frame, and the frame names it
  pub one_holder : (f inc act g inc' act' g' : ℕ) → IsHonest w.hostile inc → IsHonest w.hostile inc'
      → HoldsFrame w inc act g f → HoldsFrame w inc' act' g' f → (inc ≡ inc') × (act ≡ act') × (g ≡ g')
  pub holder : (f inc act g : ℕ) → IsHonest w.hostile inc → HoldsFrame w inc act g f → IsHolder w inc act g f
  -- every content that was taken of an honest server was sent under the storage grant that the record then held open
  pub writes : (t : Taken) → Among w.taken t → IsHonest w.hostile t.inc → IsGranted w t
  -- no save is counted twice, and what an honest server counts the container has counted, with the same content
  pub container_once : CountedOnce w.container_done
  pub server_once : ServedOnce w.server_done
  pub agreed : (e : ServerDone) → Among w.server_done e → IsHonest w.hostile e.inc
      → Among w.container_done (record { object = e.object; k = e.k; content = e.content })
  -- every message is in the session of the container, and so is every server; before it has one nothing is sent, and
  -- none started
  pub of_session : (m : Message) → WasSent w m → (m.session ≡ w.rec.session) × (1 ≤ m.session)
  pub servers : (inc : ℕ) (i : Instance) → nth w.instances inc ≡ Some i → (i.core.session ≡ w.rec.session)
      × (1 ≤ i.core.session)
  -- every number of a message is at most the limit of the world's numbers
  pub numbered : (m : Message) → WasSent w m → IsWithin w.rec.numbers m
  -- the container counts by commits alone
  pub commits : List Commit
  pub counted : IsCounted w commits
  -- and whenever both sides count a save, they name one content, which the committed file's bytes denote
  pub shared : (e : ServerDone) → Among w.server_done e → IsHonest w.hostile e.inc → IsShared w commits e
  -- the file of each frame with a counted commit, unless it is in doubt whether a later one was done
  pub files : (f : ℕ) (frame : Frame) (document : Document) → nth w.rec.frames f ≡ Some frame
      → is_doubtful frame.phase ≡ false → nth w.counted f ≡ Some (Some document) → IsKept w f document
  -- and any file of the world, also one that is no frame's any more
  pub opened : (name : List ℕ) (given : Given) → IsReadAs (file_of w name) given → GivesCommit commits given
