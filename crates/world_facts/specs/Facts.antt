-- The facts that each event keeps, so that every world is safe: the numbers that were drawn, calls and replies, and the
-- counts of saves. What every container keeps by itself stands in `Steady`.
use Rattle.std.specs.Prelude.{◌≡◌, ◌⊎◌, ◌≤◌, ◌<◌, ◌+◌, ℕ, Bool, List, length, Option, Some, None, Ok}
use Rattle.message_values.specs.Found.{nth}
use Rattle.message_values.specs.Operations.{op_of}
use Rattle.message_values.specs.declared.message.Said.{Said}
use Rattle.message_values.specs.declared.message.Said.TheVariants.{Call, Reply}
use Rattle.message_values.specs.declared.operation.Operation.{Operation}
use Rattle.message_values.specs.declared.operation.Operation.TheVariants.{InitNew, Load, InPlace, UiActivate}
use Rattle.message_values.specs.declared.operation.Operation.TheVariants.{UiDeactivate, InPlaceDeactivate, OpenWindow}
use Rattle.message_values.specs.declared.operation.Operation.TheVariants.{Edit, Save, HandsOff, SaveCompleted}
use Rattle.message_values.specs.declared.operation.Operation.TheVariants.{SaveDropped, Close}
use Rattle.message_values.specs.declared.answer.Answer.{Answer}
use Rattle.message_values.specs.declared.answer.Answer.TheVariants as told
use Rattle.object_state.specs.Both as both
use Rattle.object_state.specs.declared.both_states.States.{States}
use Rattle.object_state.specs.declared.operations.CloseOption.TheVariants.{SaveIfDirty, NoSave}
use Rattle.tree_streams.specs.declared.stored.Stored.{Stored}
use Rattle.server_model.specs.Server.{Activation}
use Rattle.container_model.specs.Messages.{next_s}
use Rattle.container_model.specs.declared.record.Link.{Link}
use Rattle.world_model.specs.declared.life.Life.{Life}
use Rattle.world_model.specs.declared.life.Life.TheVariants.{Running}
use Rattle.container_model.specs.declared.answer.Done.{Done}
use Rattle.world_model.specs.declared.logs.ServerDone.{ServerDone}
use Rattle.world_model.specs.Safe.{Among, ServedOnce}
use Rattle.world_facts.specs.Words.{Links, Acts, Lives, IsHonest, Issued, IsLinked, IsOpen, IsClosed}

-- Numbers that were drawn: the log of owners has the object of each activation that was made, so a new one has no call,
-- no reply and no activation yet.
pub record Drawn (links : Links) (acts : Acts) (lives : Lives) (sent : List Said) (owners : List ℕ) (last_act : ℕ) :
    Type 0 where
  pub many : length owners ≡ last_act
  -- activations of links, of calls and of servers are among those drawn
  pub acts_drawn : (inc act : ℕ) (a : Activation) → acts inc act ≡ Some a → act ≤ last_act
  -- an activation was called
  pub acts_called : (inc act : ℕ) (a : Activation) → acts inc act ≡ Some a → 1 ≤ a.last
  pub calls_drawn : (inc act n : ℕ) (op : Operation) → Among sent (Call inc act n op) → act ≤ last_act
  -- the object that an activation was made for; so no activation has two links
  pub calls_named : (o : ℕ) (l : Link) → links o ≡ Some l → nth owners l.act ≡ Some o
  -- the servers are those of the record
  pub servers_told : (o : ℕ) (l : Link) → links o ≡ Some l → (life : Life) × (lives l.inc ≡ Some life)
  pub calls_told : (inc act n : ℕ) (op : Operation) → Among sent (Call inc act n op) → (life : Life)
      × (lives inc ≡ Some life)

-- Calls of a linked activation: none past its last, and the last one is the pending one.
pub record CallsBounded (links : Links) (sent : List Said) : Type 0 where
  pub bounded : (o inc n : ℕ) (op : Operation) (l : Link) → links o ≡ Some l → Among sent (Call inc l.act n op)
      → (inc ≡ l.inc) × (n ≤ l.last)
  pub pending : (o inc : ℕ) (op asked : Operation) (l : Link) → links o ≡ Some l → l.pending ≡ Some asked
      → Among sent (Call inc l.act l.last op) → op ≡ asked

-- open, and at these states and this grant, which are the link's
pub record IsEven (v : States) (s : ℕ) (a : Activation) : Type 0 where
  pub opened : IsOpen a
  pub states : a.states ≡ v
  pub grant : a.s ≡ s

-- after an operation of the tables: at their states, and at the grant that comes with it
pub record HasStepped (v : States) (s : ℕ) (op : Operation) (a : Activation) : Type 0 where
  pub states : both.step v (op_of op) ≡ Ok a.states
  pub grant : a.s ≡ next_s op s

abbrev pub HasDone : States → ℕ → Operation → Activation → Type 0
HasDone v s op a = IsOpen a × HasStepped v s op a

-- What an activation made of the pending operation, by what it answered. No other answer comes about.
abbrev pub Did : States → ℕ → Operation → Activation → Answer → Type 0
Did v s (InitNew class) a told.Done = HasDone v s (InitNew class) a
Did v s (InitNew class) a (told.Refused why) = a.content ≡ None
Did v s (Load class content) a told.Done = HasDone v s (Load class content) a
Did v s (Load class content) a (told.Refused why) = a.content ≡ None
Did v s (Edit bytes) a told.Done = HasDone v s (Edit bytes) a
Did v s (Edit bytes) a (told.Refused why) = IsEven v s a
Did v s (Save k) a (told.Content c) = HasDone v s (Save k) a × (a.saved ≡ Some c)
Did v s InPlace a told.Done = HasDone v s InPlace a
Did v s (UiActivate g) a (told.Tools menus border) = HasDone v s (UiActivate g) a × (a.g ≡ Some g)
Did v s UiDeactivate a told.Done = HasDone v s UiDeactivate a × (a.g ≡ None)
Did v s InPlaceDeactivate a told.Done = HasDone v s InPlaceDeactivate a
Did v s OpenWindow a told.Done = HasDone v s OpenWindow a
Did v s HandsOff a told.Done = HasDone v s HandsOff a
Did v s (SaveCompleted k storage) a told.Done = HasDone v s (SaveCompleted k storage) a
Did v s (SaveDropped k) a told.Done = HasDone v s (SaveDropped k) a
Did v s (Close SaveIfDirty) a (told.Content c) = (a.content ≡ None) × HasStepped v s (Close SaveIfDirty) a
Did v s (Close NoSave) a told.Done = (a.content ≡ None) × HasStepped v s (Close NoSave) a
Did v s op a answer = ⊥

-- A linked activation of an honest server: not begun yet; level with its link; behind the pending call; or ahead of its
-- reply.
pub data InStep (l : Link) : Option Activation → Type 0 where
  not_begun : (op : Operation) → l.last ≡ 1 → l.states ≡ both.loaded → l.s ≡ 0 → l.pending ≡ Some op → InStep l None
  level : (a : Activation) → l.pending ≡ None → a.last ≡ l.last → IsEven l.states l.s a → InStep l (Some a)
  behind : (a : Activation) (op : Operation) → l.pending ≡ Some op → a.last + 1 ≡ l.last → IsEven l.states l.s a
      → InStep l (Some a)
  ahead : (a : Activation) (op : Operation) → l.pending ≡ Some op → a.last ≡ l.last → Did l.states l.s op a a.reply
      → InStep l (Some a)

abbrev pub InSteps : List ℕ → Links → Acts → Type 0
InSteps hostile links acts = (o : ℕ) (l : Link) → links o ≡ Some l → IsHonest hostile l.inc
    → InStep l (acts l.inc l.act)

-- the last call that an activation has acted on: none yet, where it isn't known
abbrev pub last_acted : Option Activation → ℕ
last_acted None = 0
last_acted (Some a) = a.last

-- No call was sent to an activation of an honest server that is more than one ahead of the last call that it has acted
-- on. This asks for no link and no server that runs, so it stays when both have ended.
abbrev pub OneAhead : List ℕ → Acts → List Said → Type 0
OneAhead hostile acts sent = (inc act n : ℕ) (op : Operation) → IsHonest hostile inc
    → Among sent (Call inc act n op) → n ≤ last_acted (acts inc act) + 1

-- At an honest server that runs, an activation that it knows, or that it was called with, and that no link has, is
-- closed for good; so no call acts after its activation's end.
pub record UnlinkedClosed (hostile : List ℕ) (links : Links) (acts : Acts) (lives : Lives) (sent : List Said) : Type
    0 where
  pub called : (inc act n : ℕ) (op : Operation) → IsHonest hostile inc → lives inc ≡ Some Running
      → Among sent (Call inc act n op) → IsLinked links inc act ⊎ IsClosed (acts inc act)
  pub known : (inc act : ℕ) (a : Activation) → IsHonest hostile inc → lives inc ≡ Some Running
      → acts inc act ≡ Some a → IsLinked links inc act ⊎ (a.content ≡ None)

-- Replies that servers sent, hostile ones too, since they compare a server with what it really sent: the kept one was
-- sent as the reply to the last call, a reply is of an activation that came so far, and no call has two.
pub record Replies (acts : Acts) (sent : List Said) : Type 0 where
  pub reply_numbered : (inc act : ℕ) (a : Activation) → acts inc act ≡ Some a
      → Among sent (Reply inc act a.last a.reply)
  pub replies_kept : (inc act n : ℕ) (r : Answer) → Among sent (Reply inc act n r)
      → (a : Activation) × (acts inc act ≡ Some a) × (n ≤ a.last) × (n ≡ a.last → r ≡ a.reply)
  pub one_reply : (inc act n : ℕ) (r q : Answer) → Among sent (Reply inc act n r) → Among sent (Reply inc act n q)
      → r ≡ q

-- the content that an object's save was answered is the one that its activation keeps
abbrev pub HasSaved : Stored → Option Activation → Type 0
HasSaved c None = ⊥
HasSaved c (Some a) = a.saved ≡ Some c

abbrev pub SavedSame : List ℕ → Links → Acts → Type 0
SavedSame hostile links acts = (o : ℕ) (l : Link) (c : Stored) → links o ≡ Some l → IsHonest hostile l.inc
    → l.saved ≡ Some c → HasSaved c (acts l.inc l.act)

-- The counts of saves on both sides. What an activation is told of as completed, or will be, the container counted; it
-- is told once; and until the activation takes it, it keeps the content that was counted.
pub record Counts (hostile : List ℕ) (links : Links) (acts : Acts) (sent : List Said) (owners : List ℕ)
    (counted : List Done) (served : List ServerDone) : Type 0 where
  pub completed_counted : (inc act n k : ℕ) (storage : Bool) → Issued links sent inc act n (SaveCompleted k storage)
      → (d : Done) × Among counted d × (nth owners act ≡ Some d.object) × (d.k ≡ k)
  pub completed_once : (inc act n inc' act' n' k o : ℕ) (storage storage' : Bool)
      → Issued links sent inc act n (SaveCompleted k storage)
      → Issued links sent inc' act' n' (SaveCompleted k storage')
      → nth owners act ≡ Some o → nth owners act' ≡ Some o → (inc ≡ inc') × (act ≡ act') × (n ≡ n')
  pub completed_content : (inc act n k o : ℕ) (storage : Bool) (a : Activation)
      → Issued links sent inc act n (SaveCompleted k storage) → IsHonest hostile inc → acts inc act ≡ Some a
      → IsOpen a → a.last < n → nth owners act ≡ Some o
      → (c : Stored) × (a.saved ≡ Some c) × Among counted (record { object = o; k = k; content = c })
  -- what a server counts it was called for, and the container counted it with the same content
  pub server_called : (e : ServerDone) → Among served e
      → (act n : ℕ) × (storage : Bool) × (a : Activation)
      × Among sent (Call e.inc act n (SaveCompleted e.k storage)) × (nth owners act ≡ Some e.object)
      × (acts e.inc act ≡ Some a) × (n ≤ a.last)
  pub server_once : ServedOnce served
  pub server_counted : (e : ServerDone) → Among served e → IsHonest hostile e.inc
      → Among counted (record { object = e.object; k = e.k; content = e.content })

-- All of them together.
pub record Facts (hostile : List ℕ) (links : Links) (acts : Acts) (lives : Lives) (sent : List Said)
    (owners : List ℕ) (last_act : ℕ) (counted : List Done) (served : List ServerDone) : Type 0 where
  pub drawn : Drawn links acts lives sent owners last_act
  pub calls : CallsBounded links sent
  pub in_step : InSteps hostile links acts
  pub one_ahead : OneAhead hostile acts sent
  pub unlinked : UnlinkedClosed hostile links acts lives sent
  pub replies : Replies acts sent
  pub saved_same : SavedSame hostile links acts
  pub counts : Counts hostile links acts sent owners counted served
