-- What a server does with a call.
use Rattle.std.specs.Prelude.{◌≡◌, ◌+◌, ℕ, Bool, true, false, List, [], ◌∷◌, ◌++◌, length, Option, Some, None}
use Rattle.std.specs.Prelude.{option_map, is_some, ◌&&◌, Result, Ok, Err, IsOk, cond, nat_eq, nat_le}
use Rattle.std.specs.Str.{bytes_eq}
use Rattle.object_state.specs.Both as both
use Rattle.object_state.specs.declared.both_states.States.{States}
use Rattle.object_state.specs.declared.faults.StateFault.{StateFault}
use Rattle.object_state.specs.declared.operations.CloseOption.{CloseOption}
use Rattle.object_state.specs.declared.operations.CloseOption.TheVariants.{SaveIfDirty, NoSave}
use Rattle.object_state.specs.Persists.{may_write}
use Rattle.tree_streams.specs.declared.stored.Stored.{Stored}
use Rattle.object_core.specs.Content.{Content, stored}
use Rattle.object_core.specs.Kinds.{Kind, kind_of, class_of, empty, menus_of, border_of}
use Rattle.object_core.specs.Objects as object
use Rattle.object_core.specs.declared.fault.EmbedFault.{EmbedFault}
use Rattle.object_core.specs.declared.fault.EmbedFault.TheVariants as embed
use Rattle.message_values.specs.Operations.{op_of}
use Rattle.message_values.specs.Refusals.{of_state}
use Rattle.message_values.specs.declared.operation.Operation.{Operation}
use Rattle.message_values.specs.declared.operation.Operation.TheVariants.{InitNew, Load, UiActivate, UiDeactivate, Edit}
use Rattle.message_values.specs.declared.operation.Operation.TheVariants.{Save, SaveCompleted, SaveDropped, Close}
use Rattle.message_values.specs.declared.refusal.Refusal.{Refusal}
use Rattle.message_values.specs.declared.refusal.Refusal.TheVariants.{BadEdit, BadContent, TooBig}
use Rattle.message_values.specs.declared.answer.Answer.{Answer}
use Rattle.message_values.specs.declared.answer.Answer.TheVariants as answer
use Rattle.message_values.specs.declared.message.Message.{Message}
use Rattle.message_values.specs.declared.message.Said.{Said}
use Rattle.message_values.specs.declared.message.Said.TheVariants.{Call, Reply, Write, Ask}
use Rattle.message_values.specs.Found.{find, put}
use Rattle.server_model.specs.Pictures.{picture_of}
use Rattle.server_model.specs.declared.activation_view.ActivationView.{ActivationView}
pub use Rattle.server_model.specs.declared.counted.Counted.{Counted}
use Rattle.server_model.specs.declared.hold.Hold.{Hold}
use Rattle.server_model.specs.declared.fault.ServerFault.{ServerFault}
use Rattle.server_model.specs.declared.fault.ServerFault.TheVariants.{WrongIncarnation, Ignored, NumbersSpent}
use Rattle.server_model.specs.declared.fault.ServerFault.TheVariants.{NeedObject, WrongClass, NoMemory}

-- An activation of an object. It has a content while it is open; what it was and what it answered last stay known.
pub record Activation : Type 0 where
  pub act : ℕ
  pub class : List ℕ
  pub content : Option Content
  pub last : ℕ
  pub reply : Answer
  pub states : States
  pub saved : Option Stored
  pub s : ℕ
  pub w : ℕ
  pub g : Option ℕ

-- A server: its session and its incarnation, the limit of its numbers, its activations in the order in which they were
-- made.
pub record Server : Type 0 where
  pub session : ℕ
  pub inc : ℕ
  pub numbers : ℕ
  pub acts : List Activation

abbrev pub is_act : ℕ → Activation → Bool
is_act act a = nat_eq a.act act

-- what is stored of a content: the streams that hold it, and its picture as it is written
abbrev pub stored_of : Content → Stored
stored_of c = record { streams = stored c; picture = picture_of c }

-- the refusals of an object; the definitions know no want of memory
abbrev pub refusal_of : EmbedFault → Refusal
refusal_of embed.BadEdit = BadEdit
refusal_of embed.BadContent = BadContent
refusal_of embed.TooBig = TooBig
refusal_of embed.NoMemory = TooBig

-- An activation after a call, its answer, and the save that it counted.
pub record Acted : Type 0 where
  pub activation : Activation
  pub answer : Answer
  pub counted : Option Counted

abbrev pub answers : Activation → Answer → Acted
answers a told = record { activation = record a { last = a.last + 1; reply = told }; answer = told; counted = None }

abbrev pub counts : Activation → ℕ → Acted → Option Stored → Acted
counts a k acted None = acted
counts a k acted (Some c) = record acted { counted = Some (record { act = a.act; k = k; content = c }) }

-- a refused InitNew or Load closes the activation
abbrev pub refuses : Activation → Operation → Refusal → Acted
refuses a (InitNew class) why = answers (record a { content = None }) (answer.Refused why)
refuses a (Load class content) why = answers (record a { content = None }) (answer.Refused why)
refuses a op why = answers a (answer.Refused why)

abbrev pub edits : Activation → States → Result Content EmbedFault → Acted
edits a v (Ok c) = answers (record a { states = v; content = Some c }) answer.Done
edits a v (Err fault) = answers (record a { states = v }) (answer.Refused (refusal_of fault))

abbrev pub closes : Activation → States → Content → CloseOption → Acted
closes a v c SaveIfDirty = answers (record a { states = v; content = None }) (answer.Content (stored_of c))
closes a v c NoSave = answers (record a { states = v; content = None }) answer.Done

-- what an operation does that the tables take, to an activation with this content
abbrev pub does : Activation → Content → States → Operation → Acted
does a c v (Edit bytes) = edits a v (object.edit c bytes)
does a c v (Save k) = answers (record a { states = v; saved = Some (stored_of c) }) (answer.Content (stored_of c))
does a c v (SaveCompleted k storage) = counts a k (answers (record a { states = v; s = a.s + 1 }) answer.Done) a.saved
does a c v (SaveDropped k) = answers (record a { states = v; s = a.s + 1 }) answer.Done
does a c v (UiActivate grant) = answers (record a { states = v; g = Some grant })
    (answer.Tools (menus_of (kind_of c)) (border_of (kind_of c)))
does a c v UiDeactivate = answers (record a { states = v; g = None }) answer.Done
does a c v (Close option) = closes a v c option
does a c v op = answers (record a { states = v }) answer.Done

abbrev pub acted : Activation → Content → Operation → Result States StateFault → Acted
acted a c op (Err fault) = refuses a op (of_state fault)
acted a c op (Ok v) = does a c v op

-- call n of an activation: the next of an open one acts, the last is answered again
abbrev pub next_call : Activation → Operation → Option Content → Result Acted ServerFault
next_call a op None = Err Ignored
next_call a op (Some c) = Ok (acted a c op (both.step a.states (op_of op)))

abbrev pub known_call : Activation → ℕ → Operation → Result Acted ServerFault
known_call a n op =
    cond (nat_eq n a.last) (Ok (record { activation = a; answer = a.reply; counted = None }))
    (cond (nat_eq n (a.last + 1)) (next_call a op a.content) (Err Ignored))

-- The class that a call begins an activation of, where it is a first one.
abbrev pub begun_class : ℕ → Operation → Option (List ℕ)
begun_class n (InitNew class) = cond (nat_eq n 1) (Some class) None
begun_class n (Load class content) = cond (nat_eq n 1) (Some class) None
begun_class n op = None

-- the content that an object begins with
abbrev pub begun_content : Kind → Operation → Result Content EmbedFault
begun_content kind (Load class content) = object.load kind content.streams
begun_content kind op = Ok (empty kind)

abbrev pub fresh : ℕ → List ℕ → Activation
fresh act class = record {
  act = act;
  class = class;
  content = None;
  last = 0;
  reply = answer.Done;
  states = both.loaded;
  saved = None;
  s = 0;
  w = 0;
  g = None;
}

abbrev pub states_or : States → Result States StateFault → States
states_or v (Ok u) = u
states_or v (Err fault) = v

-- the tables take a first InitNew or Load
abbrev pub begun_states : Operation → States
begun_states op = states_or both.loaded (both.step both.loaded (op_of op))

abbrev pub begins : ℕ → List ℕ → Operation → Result Content EmbedFault → Acted
begins act class op (Err fault) = answers (fresh act class) (answer.Refused (refusal_of fault))
begins act class op (Ok c) =
    answers (record (fresh act class) { content = Some c; states = begun_states op; s = 1 }) answer.Done

-- A server after a call, its answer, the save that it counted, and whether the object handed in was used.
pub record Served : Type 0 where
  pub server : Server
  pub answer : Answer
  pub counted : Option Counted
  pub used : Bool

abbrev pub after_known : Server → ℕ → Result Acted ServerFault → Result Served ServerFault
after_known v act (Err fault) = Err fault
after_known v act (Ok b) =
    Ok (record {
      server = record v { acts = put (is_act act) b.activation v.acts };
      answer = b.answer;
      counted = b.counted;
      used = false;
    })

abbrev pub after_begun : Server → Acted → Result Served ServerFault
after_begun v b = Ok (record {
  server = record v { acts = v.acts ++ b.activation ∷ [] };
  answer = b.answer;
  counted = None;
  used = true;
})

abbrev pub is_class : Kind → List ℕ → Bool
is_class kind class = bytes_eq (class_of kind) class

-- the object that was handed in, by its kind
abbrev pub offered : Server → ℕ → List ℕ → Operation → Option Kind → Result Served ServerFault
offered v act class op None = Err NeedObject
offered v act class op (Some kind) =
    cond (is_class kind class) (after_begun v (begins act class op (begun_content kind op))) (Err WrongClass)

abbrev pub unknown_call : Server → ℕ → Operation → Option Kind → Option (List ℕ) → Result Served ServerFault
unknown_call v act op box None = Err Ignored
unknown_call v act op box (Some class) = cond (nat_le v.numbers (length v.acts)) (Err NumbersSpent)
    (offered v act class op box)

abbrev pub called : Server → ℕ → ℕ → Operation → Option Kind → Option Activation → Result Served ServerFault
called v act n op box None = unknown_call v act op box (begun_class n op)
called v act n op box (Some a) = after_known v act (known_call a n op)

-- it is this server's, by session and incarnation
abbrev pub is_for : Server → ℕ → ℕ → Bool
is_for v session inc = nat_eq session v.session && nat_eq inc v.inc

abbrev pub on_said : Server → ℕ → Said → Option Kind → Result Served ServerFault
on_said v session (Call inc act n op) box = cond (is_for v session inc)
    (called v act n op box (find (is_act act) v.acts)) (Err WrongIncarnation)
on_said v session said box = Err Ignored

-- The server's step: what a message does, with an object handed in or none.
abbrev pub on_call : Server → Message → Option Kind → Result Served ServerFault
on_call v m box = on_said v m.session m.said box

-- what a server says, in its session
abbrev pub from_server : Server → Said → Message
from_server v said = record { session = v.session; said = said }

-- What a server sends of its own accord: a message, and the server after it.
pub record Told : Type 0 where
  pub server : Server
  pub message : Message

abbrev pub writes : Server → Activation → Content → Result Told ServerFault
writes v a c = cond (nat_le v.numbers a.w) (Err NumbersSpent)
    (Ok (record {
      server = record v { acts = put (is_act a.act) (record a { w = a.w + 1 }) v.acts };
      message = from_server v (Write v.inc a.act a.s (a.w + 1) (stored_of c));
    }))

abbrev pub scribbled_open : Server → Activation → Option Content → Result Told ServerFault
scribbled_open v a None = Err Ignored
scribbled_open v a (Some c) = cond (may_write a.states.persist.state) (writes v a c) (Err Ignored)

abbrev pub scribbled : Server → Option Activation → Result Told ServerFault
scribbled v None = Err Ignored
scribbled v (Some a) = scribbled_open v a a.content

-- an open activation that may write into its storage does so
abbrev pub scribble : Server → ℕ → Result Told ServerFault
scribble v act = scribbled v (find (is_act act) v.acts)

abbrev pub asks : Server → Activation → Option ℕ → Result Told ServerFault
asks v a None = Err Ignored
asks v a (Some g) = Ok (record { server = v; message = from_server v (Ask v.inc a.act g) })

abbrev pub asked : Server → Option Activation → Result Told ServerFault
asked v None = Err Ignored
asked v (Some a) = asks v a a.g

-- an activation that has a grant asks to be relieved of it
abbrev pub ask_deactivate : Server → ℕ → Result Told ServerFault
ask_deactivate v act = asked v (find (is_act act) v.acts)

-- a call answers what it is told to, or that no memory is left where it would have succeeded
abbrev pub Refuses : {A : Type 0} → Result A ServerFault → ServerFault → Type 0
Refuses told NoMemory = IsOk told
Refuses told fault = told ≡ Err fault

-- The class of the object that a call needs, where it makes an activation.
abbrev pub wanted_unknown : Server → Option (List ℕ) → Option Activation → Option (List ℕ)
wanted_unknown v class (Some a) = None
wanted_unknown v class None = cond (nat_le v.numbers (length v.acts)) None class

abbrev pub wanted_by : Server → ℕ → Said → Option (List ℕ)
wanted_by v session (Call inc act n op) = cond (is_for v session inc)
    (wanted_unknown v (begun_class n op) (find (is_act act) v.acts)) None
wanted_by v session said = None

abbrev pub wanted : Server → Message → Option (List ℕ)
wanted v m = wanted_by v m.session m.said

-- The reply to a call, in its session.
abbrev pub said_back : Said → Answer → Said
said_back (Call inc act n op) told = Reply inc act n told
said_back said told = said

abbrev pub reply_to : Message → Answer → Message
reply_to m told = record { session = m.session; said = said_back m.said told }

-- A call was taken: the server after it, the reply, and the save that it counted.
abbrev pub Takes : Server → Message → Option Kind → Server → Message → Option Counted → Type 0
Takes v m box after reply counted =
    (told : Answer)
    × (on_call v m box
    ≡ Ok (record { server = after; answer = told; counted = counted; used = is_some (wanted v m) }))
    × (reply ≡ reply_to m told)

-- what comes back of an object that was handed in
abbrev pub unless_wanted : {A : Type 0} → Option (List ℕ) → Option A → Option A
unless_wanted None box = box
unless_wanted (Some class) box = None

-- A message of the server's own accord was told: the server after it, and the message.
abbrev pub Tells : Result Told ServerFault → Server → Message → Type 0
Tells told after message = told ≡ Ok (record { server = after; message = message })

-- the reply that is kept of an activation
abbrev pub kept_reply : Server → Activation → Message
kept_reply v a = from_server v (Reply v.inc a.act a.last a.reply)

abbrev pub last_reply : Server → ℕ → Option Message
last_reply v act = option_map (kept_reply v) (find (is_act act) v.acts)

-- what is seen of an activation, but for its content
abbrev pub view_of : Activation → ActivationView
view_of a = record {
  class = a.class;
  opened = is_some a.content;
  states = a.states;
  s = a.s;
  last = a.last;
  g = a.g;
  w = a.w;
}

-- The activations that have a grant, each with its grant, by rising number.
abbrev pub place_hold : Hold → List Hold → List Hold
place_hold h [] = h ∷ []
place_hold h (x ∷ xs) = cond (nat_le h.act x.act) (h ∷ x ∷ xs) (x ∷ place_hold h xs)

abbrev pub add_hold : ℕ → Option ℕ → List Hold → List Hold
add_hold act None holds = holds
add_hold act (Some g) holds = place_hold (record { act = act; g = g }) holds

abbrev pub holds_of : List Activation → List Hold
holds_of [] = []
holds_of (a ∷ rest) = add_hold a.act a.g (holds_of rest)
