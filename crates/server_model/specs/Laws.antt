-- Laws of servers, in the subject's own words.
use Rattle.std.specs.Prelude.{◌≡◌, ◌≢◌, ℕ, true, false, List, [], ◌∷◌, Option, Some, None, Result, Ok, Err}
use Rattle.object_core.specs.Kinds.{Kind, class_of}
use Rattle.message_values.specs.declared.operation.Operation.{Operation}
use Rattle.message_values.specs.declared.message.Message.{Message}
use Rattle.message_values.specs.declared.message.Said.TheVariants.{Call}
use Rattle.message_values.specs.Found.{find}
use Rattle.server_model.specs.Server.{Activation, Server, Served, is_act, on_call, wanted}
use Rattle.server_model.specs.declared.fault.ServerFault.{ServerFault}

abbrev pub after : Server → Result Served ServerFault → Server
after v (Err fault) = v
after v (Ok told) = told.server

-- the server after messages, each with an object handed in or none
abbrev pub after_all : Server → List (Message × Option Kind) → Server
after_all v [] = v
after_all v (m ∷ ms) = after_all (after v (on_call v m.0 m.1)) ms

abbrev pub activation : ℕ → Server → Option Activation
activation act v = find (is_act act) v.acts

-- a call that was taken never acts again, whatever comes between
abbrev pub ActsOnce : Type 0
ActsOnce = (v : Server) (session inc act n : ℕ) (op other : Operation) (box more : Option Kind) (told : Served)
    (ms : List (Message × Option Kind))
    → on_call v (record { session = session; said = Call inc act n op }) box ≡ Ok told
    → (again : Served) → on_call (after_all told.server ms)
    (record { session = session; said = Call inc act n other }) more ≡ Ok again
    → again.server ≡ after_all told.server ms

-- an activation that is closed stays closed, and so is never made again
abbrev pub ClosedForGood : Type 0
ClosedForGood = (v : Server) (act : ℕ) (a : Activation) (ms : List (Message × Option Kind))
    → activation act v ≡ Some a → a.content ≡ None
    → activation act (after_all v ms) ≡ Some a

-- messages for other activations leave this one as it is
abbrev pub OthersStay : Type 0
OthersStay = (v : Server) (session inc act other n : ℕ) (op : Operation) (box : Option Kind)
    → act ≢ other → activation other
    (after v (on_call v (record { session = session; said = Call inc act n op }) box)) ≡ activation other v

-- a message of another session does nothing, whatever it says
abbrev pub OtherSessionsStay : Type 0
OtherSessionsStay = (v : Server) (m : Message) (box : Option Kind) → m.session ≢ v.session
    → after v (on_call v m box) ≡ v

-- and a message that is taken is of the server's session
abbrev pub TakenInSession : Type 0
TakenInSession = (v : Server) (m : Message) (box : Option Kind) (told : Served) → on_call v m box ≡ Ok told
    → m.session ≡ v.session

-- a message that wants no object uses none: it does the same with one as without
abbrev pub UnwantedUnused : Type 0
UnwantedUnused = (v : Server) (m : Message) (box : Option Kind) → wanted v m ≡ None
    → (on_call v m box ≡ on_call v m None) × ((told : Served) → on_call v m box ≡ Ok told → told.used ≡ false)

-- a message that wants an object of a class takes one of it, and uses it
abbrev pub WantedUsed : Type 0
WantedUsed = (v : Server) (m : Message) (class : List ℕ) (kind : Kind) → wanted v m ≡ Some class → class ≡ class_of kind
    → (told : Served) × (on_call v m (Some kind) ≡ Ok told) × (told.used ≡ true)
