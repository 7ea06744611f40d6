-- The shapes of change, over the lookups. An event of the world is a list of these; each fact is kept once by each.
use Rattle.std.specs.Prelude.{Bool, true, ◌≡◌, ◌≢◌, ◌⊎◌, ◌+◌, ℕ, List, [], ◌∷◌, ◌++◌, Option, Some, None, Ok, slice_get}
use Rattle.std.specs.Prelude.{⊤}
use Rattle.message_values.specs.Found.{nth}
use Rattle.message_values.specs.declared.message.Said.{Said}
use Rattle.message_values.specs.Operations.{op_of}
use Rattle.message_values.specs.declared.message.Said.TheVariants.{Call, Reply, Write, Ask}
use Rattle.message_values.specs.declared.answer.Answer.{Answer}
use Rattle.object_state.specs.Both as both
use Rattle.object_state.specs.declared.both_states.States.{States}
use Rattle.server_model.specs.Server.{Activation}
use Rattle.server_model.specs.declared.counted.Counted.{Counted}
use Rattle.message_values.specs.declared.operation.Operation.{Operation}
use Rattle.message_values.specs.declared.operation.Operation.TheVariants.{InitNew, Load, UiActivate, UiDeactivate, Save}
use Rattle.message_values.specs.declared.operation.Operation.TheVariants.{SaveCompleted}
use Rattle.tree_streams.specs.declared.stored.Stored.{Stored}
use Rattle.container_model.specs.Commands.{begun_link}
use Rattle.container_model.specs.declared.record.Link.{Link}
use Rattle.world_model.specs.declared.life.Life.{Life}
use Rattle.world_model.specs.declared.life.Life.TheVariants.{Running}
use Rattle.container_model.specs.declared.answer.Done.{Done}
use Rattle.world_model.specs.declared.logs.ServerDone.{ServerDone}
use Rattle.world_model.specs.World.{nth_or_zero}
use Rattle.world_model.specs.Safe.{Among, is_hostile}
use Rattle.world_facts.specs.Words.{Links, Acts, Lives, IsHonest, IsOpen, IsClosed}
use Rattle.world_facts.specs.Facts.{InStep, HasSaved, Did}

-- the same activation and calls, whose save is as it was or over
pub record IsSame (before after : Link) : Type 0 where
  pub session : after.session ≡ before.session
  pub inc : after.inc ≡ before.inc
  pub act : after.act ≡ before.act
  pub last : after.last ≡ before.last
  pub pending : after.pending ≡ before.pending
  pub states : after.states ≡ before.states
  pub s : after.s ≡ before.s
  pub saved : (after.saved ≡ before.saved) ⊎ (after.saved ≡ None)

-- the same activation, called with an operation where nothing was pending
pub record IsCalled (before after : Link) (op : Operation) : Type 0 where
  pub session : after.session ≡ before.session
  pub inc : after.inc ≡ before.inc
  pub act : after.act ≡ before.act
  pub free : before.pending ≡ None
  pub last : after.last ≡ before.last + 1
  pub pending : after.pending ≡ Some op
  pub states : after.states ≡ before.states
  pub s : after.s ≡ before.s
  pub saved : (after.saved ≡ before.saved) ⊎ (after.saved ≡ None)

-- Asks: of each object an operation is asked or none. It is sent where nothing is pending, and waits behind all else
-- otherwise. What is asked of whom is told by a predicate.
pub data AskedAt (Asks : Operation → Type 0) (before after : Option Link) (news : List Said) : Type 0 where
  none : before ≡ None → after ≡ None → news ≡ [] → AskedAt Asks before after news
  stays : (l m : Link) → before ≡ Some l → after ≡ Some m → IsSame l m → m.waiting ≡ l.waiting → news ≡ []
      → AskedAt Asks before after news
  queues : (l m : Link) (op pending : Operation) → before ≡ Some l → after ≡ Some m → IsSame l m
      → l.pending ≡ Some pending → m.waiting ≡ l.waiting ++ op ∷ [] → Asks op → news ≡ []
      → AskedAt Asks before after news
  sends : (l m : Link) (op : Operation) → before ≡ Some l → after ≡ Some m → IsCalled l m op → l.waiting ≡ []
      → m.waiting ≡ [] → Asks op → news ≡ Call m.inc m.act m.last op ∷ [] → AskedAt Asks before after news

pub record AsksAll (Asks : ℕ → Operation → Type 0) (links after : Links) (more : List Said) : Type 0 where
  pub news : ℕ → List Said
  pub each : (o : ℕ) → AskedAt (Asks o) (links o) (after o) (news o)
  pub from : (m : Said) → Among more m → (o : ℕ) × Among (news o) m

-- no end of a save is told
abbrev pub IsQuiet : Operation → Type 0
IsQuiet op = (k : ℕ) (storage : _) → op ≡ SaveCompleted k storage → ⊥

-- Counts: the save of number k is counted of some objects, each with the content that its save was answered, and each
-- of them that has an activation is told of it. These entries are new in the container's log.
abbrev pub IsTold : Links → ℕ → List Done → ℕ → Operation → Type 0
IsTold links k fresh o op = (storage : Bool) × (op ≡ SaveCompleted k storage)
    × ((l : Link) → links o ≡ Some l → (c : Stored) × (l.saved ≡ Some c)
    × Among fresh (record { object = o; k = k; content = c }))

pub record CountsAll (links after : Links) (counted : List Done) (k : ℕ) (fresh : List Done) (more : List Said) :
    Type 0 where
  pub tells : AsksAll (IsTold links k fresh) links after more
  pub apart : (d e : Done) → Among counted d → Among fresh e → d.object ≡ e.object → d.k ≡ k → ⊥

-- Settles: the pending operation of one object was answered, and nothing else of its queue changed. What a hostile
-- server answered says nothing of its activation.
pub record Settles (hostile : List ℕ) (links after : Links) (acts : Acts) (o : ℕ) : Type 0 where
  pub before : Link
  pub link : Link
  pub was : links o ≡ Some before
  pub is : after o ≡ Some link
  pub others : (n : ℕ) → n ≢ o → after n ≡ links n
  pub session : link.session ≡ before.session
  pub inc : link.inc ≡ before.inc
  pub act : link.act ≡ before.act
  pub last : link.last ≡ before.last
  pub pending : link.pending ≡ None
  pub waiting : link.waiting ≡ before.waiting
  pub in_step : IsHonest hostile link.inc → InStep link (acts link.inc link.act)
  pub saved : IsHonest hostile link.inc → (c : _) → link.saved ≡ Some c → HasSaved c (acts link.inc link.act)

-- Sends next: the first operation that waits at one object is sent, by the number that it had.
pub record SendsNext (links after : Links) (o : ℕ) (more : List Said) : Type 0 where
  pub before : Link
  pub link : Link
  pub op : Operation
  pub rest : List Operation
  pub was : links o ≡ Some before
  pub is : after o ≡ Some link
  pub others : (n : ℕ) → n ≢ o → after n ≡ links n
  pub called : IsCalled before link op
  pub waited : before.waiting ≡ op ∷ rest
  pub waiting : link.waiting ≡ rest
  pub sends : more ≡ Call link.inc link.act link.last op ∷ []

-- Begins: an object without a link gets one, with a number that was drawn now, and its first call is sent.
pub record Begins (links after : Links) (lives : Lives) (owners : List ℕ) (last_act o : ℕ) (more : List Said) : Type
    0 where
  pub session : ℕ
  pub inc : ℕ
  pub op : Operation
  pub was : links o ≡ None
  pub is : after o ≡ Some (begun_link session inc (last_act + 1) op)
  pub others : (n : ℕ) → n ≢ o → after n ≡ links n
  pub quiet : IsQuiet op
  pub owner : nth owners (last_act + 1) ≡ Some o
  pub hosted : (life : Life) × (lives inc ≡ Some life)
  pub sends : more ≡ Call inc (last_act + 1) 1 op ∷ []

-- Ends: links go, each for one of these reasons; all others are as they were.
pub data MayGo (hostile : List ℕ) (acts : Acts) (lives : Lives) (l : Link) : Type 0 where
  is_closed : IsClosed (acts l.inc l.act) → MayGo hostile acts lives l
  is_over : lives l.inc ≢ Some Running → MayGo hostile acts lives l
  of_hostile : is_hostile hostile l.inc ≡ true → MayGo hostile acts lives l

pub record EndsSome (hostile : List ℕ) (links after : Links) (acts : Acts) (lives : Lives) : Type 0 where
  pub each : (o : ℕ) → (after o ≡ links o)
      ⊎ ((after o ≡ None) × ((l : Link) → links o ≡ Some l → MayGo hostile acts lives l))

-- Starts or ends: a server is started, which has no activations yet, or one that ran has ended. All activations stay.
pub record StartsOrEnds (acts after : Acts) (lives now : Lives) : Type 0 where
  pub same : (inc act : ℕ) → after inc act ≡ acts inc act
  pub there : (inc : ℕ) (life : Life) → lives inc ≡ Some life → (later : Life) × (now inc ≡ Some later)
  pub runs : (inc : ℕ) (life : Life) → lives inc ≡ Some life → now inc ≡ Some Running → lives inc ≡ Some Running
  pub hosted : (inc act : ℕ) (a : Activation) → acts inc act ≡ Some a → (life : Life) × (lives inc ≡ Some life)

-- an operation that makes an activation
abbrev pub IsFirst : Operation → Type 0
IsFirst (InitNew class) = ⊤
IsFirst (Load class content) = ⊤
IsFirst op = ⊥

-- an operation that gives an activation its frame's menus and border, or takes them
abbrev pub MovesGrant : Operation → Type 0
MovesGrant (UiActivate g) = ⊤
MovesGrant UiDeactivate = ⊤
MovesGrant op = ⊥

-- one activation is another one
pub record IsChanged (acts after : Acts) (inc act : ℕ) (a : Activation) : Type 0 where
  pub here : after inc act ≡ Some a
  pub others : (i x : ℕ) → (i ≡ inc → x ≡ act → ⊥) → after i x ≡ acts i x

-- What the next call makes of an open activation, where the tables take its operation and it isn't a first one; only a
-- save changes the content that is kept, and a save is counted with just that. A grant is given and taken by its own
-- operations alone.
pub record Makes (before : Activation) (op : Operation) (after : Activation) (r : Answer)
    (counted : Option Counted) : Type 0 where
  pub last : after.last ≡ before.last + 1
  pub reply : after.reply ≡ r
  pub did : (v : States) → both.step before.states (op_of op) ≡ Ok v → (IsFirst op → ⊥)
      → Did before.states before.s op after r
  pub saved : ((k : ℕ) × (op ≡ Save k)) ⊎ (after.saved ≡ before.saved)
  pub counts : (v : Counted) → counted ≡ Some v → (storage : Bool) × (op ≡ SaveCompleted v.k storage)
      × (before.saved ≡ Some v.content)
  pub grant : MovesGrant op ⊎ (after.g ≡ before.g)

-- Acts, or answers again: a server takes call n of an activation. It is the last one again, or the next one of an open
-- activation, or a first one of an activation that it doesn't know.
pub data ActsOn (acts : Acts) (inc act n : ℕ) (op : Operation) (after : Activation) (r : Answer)
    (counted : Option Counted) : Type 0 where
  again : acts inc act ≡ Some after → n ≡ after.last → r ≡ after.reply → counted ≡ None
      → ActsOn acts inc act n op after r counted
  next : (before : Activation) → acts inc act ≡ Some before → n ≡ before.last + 1 → IsOpen before
      → Makes before op after r counted → ActsOn acts inc act n op after r counted
  makes : acts inc act ≡ None → n ≡ 1 → IsFirst op → after.last ≡ 1 → after.reply ≡ r → Did both.loaded 0 op after r
      → counted ≡ None → after.g ≡ None → ActsOn acts inc act n op after r counted

-- What a container's record keeps by itself, as far as a server's step leans on it: the tables take what is pending, a
-- first call is alone, and where a save is asked its content is not answered and no end of a save waits.
pub record IsReady (links : Links) : Type 0 where
  pub runs : (o : ℕ) (l : Link) (op : Operation) → links o ≡ Some l → l.pending ≡ Some op → (v : States)
      × (both.step l.states (op_of op) ≡ Ok v)
  pub first : (o : ℕ) (l : Link) (op : Operation) → links o ≡ Some l → l.pending ≡ Some op → IsFirst op
      → (l.last ≡ 1) × (l.waiting ≡ [])
  pub saving : (o k : ℕ) (l : Link) → links o ≡ Some l → l.pending ≡ Some (Save k) → l.saved ≡ None
  pub apart : (o k j i : ℕ) (storage : Bool) (l : Link) → links o ≡ Some l → l.pending ≡ Some (Save k)
      → slice_get l.waiting i ≡ Some (SaveCompleted j storage) → ⊥

-- what a server counts with a call
abbrev pub entries_of : ℕ → ℕ → List ℕ → Option Counted → List ServerDone
entries_of inc act owners None = []
entries_of inc act owners (Some v) = record {
  inc = inc;
  object = nth_or_zero (nth owners act);
  k = v.k;
  content = v.content;
} ∷ []

-- Tells: activations are as they were, but for the number of the last content that one of them wrote.
pub record IsAlike (a b : Activation) : Type 0 where
  pub last : b.last ≡ a.last
  pub reply : b.reply ≡ a.reply
  pub states : b.states ≡ a.states
  pub saved : b.saved ≡ a.saved
  pub s : b.s ≡ a.s
  pub g : b.g ≡ a.g
  pub closed : a.content ≡ None → b.content ≡ None
  pub opened : IsOpen a → IsOpen b
  pub was_open : IsOpen b → IsOpen a

abbrev pub Alike : Option Activation → Option Activation → Type 0
Alike None None = ⊤
Alike None (Some b) = ⊥
Alike (Some a) None = ⊥
Alike (Some a) (Some b) = IsAlike a b

abbrev pub Tells : Acts → Acts → Type 0
Tells acts after = (inc act : ℕ) → Alike (acts inc act) (after inc act)

-- neither a call nor a reply
abbrev pub IsOwn : Said → Type 0
IsOwn (Call inc act n op) = ⊥
IsOwn (Reply inc act n answer) = ⊥
IsOwn (Write inc act s w content) = ⊤
IsOwn (Ask inc act g) = ⊤
