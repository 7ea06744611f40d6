-- A world: a container, its servers, the messages between them, the files; and what happens in it.
use Rattle.std.specs.Prelude.{◌≡◌, ◌+◌, ◌++◌, ℕ, Bool, true, false, List, [], ◌∷◌, length, map, Option, Some, None}
use Rattle.std.specs.Prelude.{option_map, is_some, Result, Ok, Err, IsOk, if◌then◌else◌, nat_le, ⊤, ◌==◌}
use Rattle.std.specs.Str.{bytes_eq}
use Rattle.std.specs.List.{range_with_len}
use Rattle.message_values.specs.Found.{find, nth, set_nth}
use Rattle.message_values.specs.declared.message.Message.{Message}
use Rattle.message_values.specs.declared.message.Said.{Said}
use Rattle.message_values.specs.declared.message.Said.TheVariants.{Call, Reply, Write, Ask}
use Rattle.message_values.specs.declared.operation.Operation.{Operation}
use Rattle.cfb_file.specs.Denotes.{Denotes}
use Rattle.ole_model.specs.DocOf.{DocOf}
use Rattle.object_core.specs.Kinds.{Kind, class_of}
use Rattle.server_model.specs.Server.{Server, Activation, Served, Told, on_call, wanted, is_act}
use Rattle.server_model.specs.Server as server
use Rattle.server_model.specs.declared.counted.Counted.{Counted}
use Rattle.server_model.specs.declared.fault.ServerFault.{ServerFault}
pub use Rattle.container_model.specs.Record.{without_first}
use Rattle.container_model.specs.Record.{Record, Took, empty, is_doubtful, is_linked}
use Rattle.container_model.specs.Commands.{is_named, is_size, on_command}
use Rattle.container_model.specs.Messages.{on_message, on_reap, awaits_save}
use Rattle.container_model.specs.Opens.{Given, IsReadAs, opened}
pub use Rattle.container_model.specs.Saves.{done_entry}
use Rattle.container_model.specs.Saves.{commit_done, commit_failed, document, document_tree, image, name_after, resolve}
use Rattle.container_model.specs.declared.answer.Action.{Action}
use Rattle.container_model.specs.declared.answer.Action.TheVariants.{Send, Start, End, Commit}
use Rattle.container_model.specs.declared.answer.Answer.{Answer}
use Rattle.container_model.specs.declared.answer.FrameDocument.{FrameDocument}
use Rattle.container_model.specs.declared.command.Command.{Command}
use Rattle.container_model.specs.declared.command.Command.TheVariants as command
use Rattle.container_model.specs.declared.record.Frame.{Frame}
use Rattle.container_model.specs.declared.record.Link.{Link}
use Rattle.container_model.specs.declared.server_link.ServerLink.{ServerLink}
use Rattle.container_model.specs.declared.record.Object.{Object}
use Rattle.container_model.specs.declared.fault.ContainerFault.{ContainerFault}
use Rattle.world_model.specs.declared.logs.View.{View}
use Rattle.world_model.specs.declared.logs.Sent.{Sent}
use Rattle.world_model.specs.declared.logs.Taken.{Taken}
use Rattle.container_model.specs.declared.answer.Done.{Done}
use Rattle.world_model.specs.declared.logs.ServerDone.{ServerDone}
use Rattle.world_model.specs.declared.logs.Document.{Document}
use Rattle.world_model.specs.declared.logs.File.{File}
use Rattle.world_model.specs.declared.logs.Outcome.{Outcome}
use Rattle.world_model.specs.declared.logs.EventAnswer.{EventAnswer}
use Rattle.world_model.specs.declared.logs.EventAnswer.TheVariants as told
use Rattle.world_model.specs.declared.life.Life.{Life}
use Rattle.world_model.specs.declared.life.Life.TheVariants.{Running, Ended, Reaped}
use Rattle.world_model.specs.declared.event.Event.{Event}
use Rattle.world_model.specs.declared.event.Event.TheVariants as event
use Rattle.world_model.specs.declared.event.Stop.{Stop}
use Rattle.world_model.specs.declared.event.Stop.TheVariants.{NotEnabled, OutOfStock, EventLimit, NoMemory}

pub record Instance : Type 0 where
  pub life : Life
  pub core : Server

-- A world. Servers stand by their incarnations, from 1, and stay after their end. The kinds of the objects in stock.
-- All messages that were ever sent, by their places, from 1. The object of each activation that was ever made, by its
-- number, from 1. What each event was answered. The contents that the container took as work contents. What each side
-- counted; and of each frame the document of its last counted commit. The servers, by their incarnations, of which
-- messages were forged.
pub record World : Type 0 where
  pub rec : Record
  pub instances : List Instance
  pub files : List File
  pub stock : List Kind
  pub sent : List Sent
  pub owners : List ℕ
  pub answers : List EventAnswer
  pub taken : List Taken
  pub container_done : List Done
  pub server_done : List ServerDone
  pub counted : List (Option Document)
  pub hostile : List ℕ

abbrev pub empty_world : ℕ → List Kind → World
empty_world numbers stock = record {
  rec = empty numbers;
  instances = [];
  files = [];
  stock = stock;
  sent = [];
  owners = [];
  answers = [];
  taken = [];
  container_done = [];
  server_done = [];
  counted = [];
  hostile = [];
}

-- What is asked of the world by an answer's actions.
abbrev pub messages_of : List Action → List Message
messages_of [] = []
messages_of (Send m ∷ rest) = m ∷ messages_of rest
messages_of (_ ∷ rest) = messages_of rest

-- a server that starts in a session, by its incarnation
abbrev pub started_instance : ℕ → ℕ → ℕ → Instance
started_instance session numbers inc =
    record { life = Running; core = record { session = session; inc = inc; numbers = numbers; acts = [] } }

abbrev pub started_by : ℕ → ℕ → List Action → List Instance
started_by session numbers [] = []
started_by session numbers (Start inc ∷ rest) = started_instance session numbers inc ∷ started_by session numbers rest
started_by session numbers (_ ∷ rest) = started_by session numbers rest

-- a server that is to be ended has ended at once; one that had ended stays so
abbrev pub end_of : Life → Life
end_of Running = Ended
end_of Ended = Ended
end_of Reaped = Reaped

abbrev pub ended_at : ℕ → List Instance → Option Instance → List Instance
ended_at inc instances None = instances
ended_at inc instances (Some i) = set_nth instances inc (record i { life = end_of i.life })

abbrev pub ended_by : List Action → List Instance → List Instance
ended_by [] instances = instances
ended_by (End inc ∷ rest) instances = ended_by rest (ended_at inc instances (nth instances inc))
ended_by (_ ∷ rest) instances = ended_by rest instances

abbrev pub commits_of : List Action → List ℕ
commits_of [] = []
commits_of (Commit f ∷ rest) = f ∷ commits_of rest
commits_of (_ ∷ rest) = commits_of rest

-- the places of so many messages that are sent next
abbrev pub places : List Sent → ℕ → List ℕ
places sent count = range_with_len (length sent + 1) count

abbrev pub outcome_of : List Sent → Answer → Outcome
outcome_of sent a = record {
  frame = a.frame;
  objects = a.objects;
  server = a.server;
  taken = a.taken;
  refused = a.refused;
  no_tools = a.no_tools;
  sent = places sent (length (messages_of a.actions));
  commits = commits_of a.actions;
}

-- a message of the container's
abbrev pub of_container : Message → Sent
of_container m = record { message = m; view = None }

-- a new frame has no counted commit
abbrev pub uncounted : Option ℕ → List (Option Document)
uncounted None = []
uncounted (Some f) = None ∷ []

-- What a step of the container makes of the world; the answer is kept, a refusal too.
abbrev pub joined : World → Took → World
joined w t = record w {
  rec = t.rec;
  instances = ended_by t.answer.actions w.instances ++ started_by t.rec.session t.rec.numbers t.answer.actions;
  sent = w.sent ++ map of_container (messages_of t.answer.actions);
  answers = w.answers ++ told.Took (outcome_of w.sent t.answer) ∷ [];
  counted = w.counted ++ uncounted t.answer.frame;
}

abbrev pub took : World → Result Took ContainerFault → World
took w (Err fault) = record w { answers = w.answers ++ told.Refused fault ∷ [] }
took w (Ok t) = joined w t

-- A command. The object of a new activation is kept.
abbrev pub owners_by : Command → List ℕ
owners_by (command.Run o inc) = o ∷ []
owners_by _ = []

abbrev pub commanded : World → Command → Result Took ContainerFault → World
commanded w c (Err fault) = took w (Err fault)
commanded w c (Ok t) = record (joined w t) { owners = w.owners ++ owners_by c }

-- what is said in a session
abbrev pub in_session : ℕ → Said → Message
in_session session said = record { session = session; said = said }

-- A call at a server that runs: its reply is sent, in the session of the call, with the activation's state just before.
abbrev pub is_open : Activation → Bool
is_open a = is_some a.content

abbrev pub view_of : Activation → View
view_of a = record { opened = is_open a; states = a.states; s = a.s }

abbrev pub view_in : Server → ℕ → Option View
view_in v act = option_map view_of (find (is_act act) v.acts)

abbrev pub nth_or_zero : Option ℕ → ℕ
nth_or_zero None = 0
nth_or_zero (Some n) = n

abbrev pub owner : World → ℕ → ℕ
owner w act = nth_or_zero (nth w.owners act)

abbrev pub counted_by : World → ℕ → Option Counted → List ServerDone
counted_by w inc None = []
counted_by w inc (Some c) = record { inc = inc; object = owner w c.act; k = c.k; content = c.content } ∷ []

abbrev pub quiet_outcome : Outcome
quiet_outcome = record {
  frame = None;
  objects = [];
  server = None;
  taken = false;
  refused = None;
  no_tools = false;
  sent = [];
  commits = [];
}

abbrev pub served : World → ℕ → ℕ → ℕ → ℕ → Instance → List Kind → Result Served ServerFault → World
served w s inc act n i stock (Err fault) = record w { answers = w.answers ++ told.Dropped fault ∷ [] }
served w s inc act n i stock (Ok v) = record w {
  instances = set_nth w.instances inc (record i { core = v.server });
  stock = stock;
  sent = w.sent ++ record { message = in_session s (Reply inc act n v.answer); view = view_in i.core act } ∷ [];
  answers = w.answers ++ told.Took (record quiet_outcome { sent = places w.sent 1 }) ∷ [];
  server_done = w.server_done ++ counted_by w inc v.counted;
}

-- the first object of a class in stock, and the stock without it
abbrev pub is_of : List ℕ → Kind → Bool
is_of class kind = bytes_eq (class_of kind) class

abbrev pub stocked : World → ℕ → ℕ → ℕ → ℕ → Operation → Instance → List ℕ → Option Kind → Result World Stop
stocked w s inc act n op i class None = Err OutOfStock
stocked w s inc act n op i class (Some kind) =
    Ok (served w s inc act n i (without_first (is_of class) w.stock)
    (on_call i.core (in_session s (Call inc act n op)) (Some kind)))

-- a call that makes an activation takes an object out of stock for it
abbrev pub called_wanting : World → ℕ → ℕ → ℕ → ℕ → Operation → Instance → Option (List ℕ) → Result World Stop
called_wanting w s inc act n op i None =
    Ok (served w s inc act n i w.stock (on_call i.core (in_session s (Call inc act n op)) None))
called_wanting w s inc act n op i (Some class) = stocked w s inc act n op i class (find (is_of class) w.stock)

abbrev pub called_in : World → ℕ → ℕ → ℕ → ℕ → Operation → Instance → Life → Result World Stop
called_in w s inc act n op i Running = called_wanting w s inc act n op i
    (wanted i.core (in_session s (Call inc act n op)))
called_in w s inc act n op i _ = Ok (record w { answers = w.answers ++ told.Took quiet_outcome ∷ [] })

-- a call to a server that has ended does nothing
abbrev pub called : World → ℕ → ℕ → ℕ → ℕ → Operation → Option Instance → Result World Stop
called w s inc act n op None = Ok (record w { answers = w.answers ++ told.Took quiet_outcome ∷ [] })
called w s inc act n op (Some i) = called_in w s inc act n op i i.life

-- the server that something is said by, or to, and its link
abbrev pub server_of : Said → ℕ
server_of (Call inc act n op) = inc
server_of (Reply inc act n answer) = inc
server_of (Write inc act s number content) = inc
server_of (Ask inc act g) = inc

abbrev pub link_of : Message → ServerLink
link_of m = record { session = m.session; inc = server_of m.said }

-- Delivery of a message that was sent, for the first time or again.
abbrev pub delivered_said : World → Message → Said → Result World Stop
delivered_said w m (Call inc act n op) = called w m.session inc act n op (nth w.instances inc)
delivered_said w m _ = Ok (took w (on_message w.rec (link_of m) m))

abbrev pub delivered : World → Message → Result World Stop
delivered w m = delivered_said w m m.said

-- what the container's record holds of an object just before it takes a content of it
abbrev pub taken_link : Option ℕ → ℕ → Option Link → List Taken
taken_link p o None = []
taken_link p o (Some l) = record {
  place = p;
  object = o;
  inc = l.inc;
  act = l.act;
  persist = l.states.persist.state;
  s = l.s;
  awaits_save = awaits_save l;
} ∷ []

abbrev pub taken_of : Option ℕ → Option Object → List Taken
taken_of p None = []
taken_of p (Some o) = taken_link p o.number o.link

-- the content of a message, at this place or forged, if the container takes it
abbrev pub taken_by : Record → Option ℕ → ℕ → ℕ → Result Took ContainerFault → List Taken
taken_by r p inc act (Err fault) = []
taken_by r p inc act (Ok t) = if t.answer.taken then taken_of p (find (is_linked inc act) r.objects) else []

-- on the link of a server
abbrev pub taken_said : Record → Option ℕ → ServerLink → Message → Said → List Taken
taken_said r p link m (Call inc act n op) = []
taken_said r p link m (Reply inc act n answer) = taken_by r p inc act (on_message r link m)
taken_said r p link m (Write inc act s number content) = taken_by r p inc act (on_message r link m)
taken_said r p link m (Ask inc act g) = taken_by r p inc act (on_message r link m)

abbrev pub taken_at : Record → Option ℕ → ServerLink → Message → List Taken
taken_at r p link m = taken_said r p link m m.said

abbrev pub with_taken : World → List Taken → Result World Stop → Result World Stop
with_taken w more (Err stop) = Err stop
with_taken w more (Ok after) = Ok (record after { taken = w.taken ++ more })

abbrev pub deliver : World → ℕ → Option Sent → Result World Stop
deliver w p None = Err NotEnabled
deliver w p (Some sent) = with_taken w (taken_at w.rec (Some p) (link_of sent.message) sent.message)
    (delivered w sent.message)

-- A forged message: any message at all, on the link of a server that was started and isn't reaped. The container takes
-- it as one that was delivered, and it isn't among those that were sent. From then on the server is hostile.
abbrev pub link_to : World → ℕ → ServerLink
link_to w inc = record { session = w.rec.session; inc = inc }

abbrev pub forged_on : World → ℕ → Message → World
forged_on w inc m = record (took w (on_message w.rec (link_to w inc) m)) {
  taken =
      w.taken ++ taken_at w.rec None (link_to w inc) m;
  hostile = w.hostile ++ inc ∷ [];
}

abbrev pub forged : World → ℕ → Message → Life → Result World Stop
forged w inc m Reaped = Err NotEnabled
forged w inc m _ = Ok (forged_on w inc m)

abbrev pub forge : World → ℕ → Message → Option Instance → Result World Stop
forge w inc m None = Err NotEnabled
forge w inc m (Some i) = forged w inc m i.life

-- A message of its own accord that a server that runs sends: an activation writes, or asks to be relieved of its frame.
abbrev pub spoken_by : World → ℕ → ℕ → Instance → Result Told ServerFault → World
spoken_by w inc act i (Err fault) = record w { answers = w.answers ++ told.Dropped fault ∷ [] }
spoken_by w inc act i (Ok t) = record w {
  instances = set_nth w.instances inc (record i { core = t.server });
  sent = w.sent ++ record { message = t.message; view = view_in i.core act } ∷ [];
  answers = w.answers ++ told.Took (record quiet_outcome { sent = places w.sent 1 }) ∷ [];
}

abbrev pub spoken : World → ℕ → ℕ → Instance → Life → Result Told ServerFault → Result World Stop
spoken w inc act i Running told = Ok (spoken_by w inc act i told)
spoken w inc act i _ told = Err NotEnabled

abbrev pub scribble : World → ℕ → ℕ → Option Instance → Result World Stop
scribble w inc act None = Err NotEnabled
scribble w inc act (Some i) = spoken w inc act i i.life (server.scribble i.core act)

abbrev pub ask : World → ℕ → ℕ → Option Instance → Result World Stop
ask w inc act None = Err NotEnabled
ask w inc act (Some i) = spoken w inc act i i.life (server.ask_deactivate i.core act)

-- A server that runs crashes.
abbrev pub crashed : World → ℕ → Instance → Life → Result World Stop
crashed w inc i Running =
    Ok (record w {
      instances = set_nth w.instances inc (record i { life = Ended });
      answers = w.answers ++ told.Took quiet_outcome ∷ [];
    })
crashed w inc i _ = Err NotEnabled

abbrev pub crash : World → ℕ → Option Instance → Result World Stop
crash w inc None = Err NotEnabled
crash w inc (Some i) = crashed w inc i i.life

-- The end of a server is told, once it has ended.
abbrev pub ended : World → ℕ → Instance → Life → Result World Stop
ended w inc i Ended = Ok (took (record w { instances = set_nth w.instances inc (record i { life = Reaped }) })
    (on_reap w.rec inc))
ended w inc i _ = Err NotEnabled

abbrev pub reap : World → ℕ → Option Instance → Result World Stop
reap w inc None = Err NotEnabled
reap w inc (Some i) = ended w inc i i.life

-- A commit that is done makes these bytes the file, and keeps the document and what the container counted.
abbrev pub is_file : List ℕ → File → Bool
is_file name file = bytes_eq file.name name

abbrev pub put_file : List ℕ → List ℕ → List File → List File
put_file name bytes [] = record { name = name; bytes = bytes } ∷ []
put_file name bytes (file ∷ files) = if is_file name file then record { name = name; bytes = bytes } ∷ files
    else file ∷ put_file name bytes files

abbrev pub kept_commit : World → ℕ → Frame → FrameDocument → List Done → List ℕ → World
kept_commit w f frame saved done bytes = record w {
  files = put_file (name_after frame.name frame.asked) bytes w.files;
  container_done = w.container_done ++ done;
  counted = set_nth w.counted f (Some (record { k = frame.k; session = saved.session; parts = saved.parts }));
}

-- It happens only where the frame is there, its document can be written and the step is taken.
abbrev pub done_with : World → ℕ → List ℕ → Option Frame → Result FrameDocument ContainerFault
    → Result Took ContainerFault → Result World Stop
done_with w f bytes (Some frame) (Ok saved) (Ok t) = Ok (joined (kept_commit w f frame saved t.counted bytes) t)
done_with w f bytes _ _ _ = Err NotEnabled

abbrev pub done : World → ℕ → List ℕ → Result World Stop
done w f bytes = done_with w f bytes (nth w.rec.frames f) (image w.rec f) (commit_done w.rec f)

-- A step of the container that happens only where it is taken: a commit that fails, and one in doubt that is resolved
-- as lost. No file changes, and nothing is counted.
abbrev pub only_taken : World → Result Took ContainerFault → Result World Stop
only_taken w (Err fault) = Err NotEnabled
only_taken w (Ok t) = Ok (joined w t)

-- A commit in doubt that is resolved as kept acts as one that is done.
abbrev pub resolved : World → ℕ → Bool → List ℕ → Result World Stop
resolved w f true bytes = done_with w f bytes (nth w.rec.frames f) (image w.rec f) (resolve w.rec f true)
resolved w f false bytes = only_taken w (resolve w.rec f false)

-- What happens at a server of this session: as yet a world has those of its container's session alone.
abbrev pub in_run : World → ℕ → Result World Stop → Result World Stop
in_run w s outcome = if s == w.rec.session then outcome else Err NotEnabled

-- What the definitions leave open in a step: of a commit that is done, or resolved as kept, the bytes that it makes the
-- file; of a file that is opened, what it gives.
pub record Choice : Type 0 where
  pub file : List ℕ
  pub given : Given

abbrev pub making : List ℕ → Choice
making bytes = record { file = bytes; given = Given.Missing }

abbrev pub giving : Given → Choice
giving given = record { file = []; given = given }

-- for the events that leave nothing open
abbrev pub no_choice : Choice
no_choice = making []

-- What an event makes of the world, with this choice.
abbrev pub happened : World → Choice → Event → Result World Stop
happened w choice (event.Command c) = Ok (commanded w c (on_command w.rec c))
happened w choice (event.Deliver p) = deliver w p (nth w.sent p)
happened w choice (event.Forge inc m) = forge w inc m (nth w.instances inc)
happened w choice (event.Crash s inc) = in_run w s (crash w inc (nth w.instances inc))
happened w choice (event.Reap inc) = reap w inc (nth w.instances inc)
happened w choice (event.Done f) = done w f choice.file
happened w choice (event.Fail f) = only_taken w (commit_failed w.rec f)
happened w choice (event.Resolve f is_kept) = resolved w f is_kept choice.file
happened w choice (event.Open name width height) = Ok (took w (opened w.rec name width height choice.given))
happened w choice (event.Scribble s inc act) = in_run w s (scribble w inc act (nth w.instances inc))
happened w choice (event.Ask s inc act) = in_run w s (ask w inc act (nth w.instances inc))

-- no more events than these are taken
abbrev pub MOST_EVENTS : ℕ
MOST_EVENTS = 10000

abbrev pub limited : World → Result World Stop → Result World Stop
limited w (Err stop) = Err stop
limited w (Ok after) = if nat_le MOST_EVENTS (length w.answers) then Err EventLimit else Ok after

abbrev pub step : World → Choice → Event → Result World Stop
step w choice e = limited w (happened w choice e)

-- The file of a name.
abbrev pub file_bytes : Option File → Option (List ℕ)
file_bytes None = None
file_bytes (Some file) = Some file.bytes

abbrev pub file_of : World → List ℕ → Option (List ℕ)
file_of w name = file_bytes (find (is_file name) w.files)

-- These bytes hold the document that a frame's commit saves: they denote its tree, and the tree holds it.
abbrev pub HoldsDocument : World → ℕ → List ℕ → Type 0
HoldsDocument w f bytes = (saved : FrameDocument) → image w.rec f ≡ Ok saved → ∥ Denotes bytes (document_tree saved) ∥₁
    × DocOf (document_tree saved) (document saved)

-- What may be chosen: bytes that hold the document, where a commit makes them the file; what a file is read as, where
-- it is looked at, as its name is no frame's and the size is one. Other events leave nothing open.
abbrev pub MayChoose : World → Choice → Event → Type 0
MayChoose w choice (event.Done f) = HoldsDocument w f choice.file
MayChoose w choice (event.Resolve f true) = HoldsDocument w f choice.file
MayChoose w choice (event.Open name width height) = is_named name w.rec.frames ≡ false → is_size width height ≡ true
    → IsReadAs (file_of w name) choice.given
MayChoose w choice _ = ⊤

-- The worlds that these events reach; they differ in the bytes of files alone.
abbrev pub Run : World → List Event → World → Type 0
Run w [] after = after ≡ w
Run w (e ∷ es) after = (choice : Choice) × (next : World) × MayChoose w choice e × (step w choice e ≡ Ok next)
    × Run next es after

-- A run stops before an event that can't be taken, or for want of memory before one that could.
abbrev pub StopsFor : {A : Type 0} → Result A Stop → Stop → Type 0
StopsFor told NoMemory = IsOk told
StopsFor told stop = told ≡ Err stop

abbrev pub StopsAt : World → Event → Stop → Type 0
StopsAt w e stop = (choice : Choice) → StopsFor (step w choice e) stop

-- The file of a frame, where it is known which: not while it is in doubt whether its last commit was done.
abbrev pub frame_file_in : World → Option Frame → Option (List ℕ)
frame_file_in w None = None
frame_file_in w (Some frame) = if is_doubtful frame.phase then None else if frame.stored then file_of w frame.name
    else None

abbrev pub frame_file : World → ℕ → Option (List ℕ)
frame_file w f = frame_file_in w (nth w.rec.frames f)

-- The document of a frame's last counted commit.
abbrev pub document_in : Option (Option Document) → Option Document
document_in None = None
document_in (Some document) = document

abbrev pub counted_document : World → ℕ → Option Document
counted_document w f = document_in (nth w.counted f)
