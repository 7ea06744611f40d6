-- What an activation does with an operation, where it is open.
use Rattle.std.specs.Prelude.{◌≡◌, ◌+◌, ℕ, Option, Some, None, is_some, false, Result, Ok, Err, List, length, cond}
use Rattle.std.specs.Prelude.{nat_le}
use Rattle.object_state.specs.Persists.{may_write}
use Rattle.object_state.specs.declared.both_states.States.{States}
use Rattle.tree_streams.specs.declared.stored.Stored.{Stored}
use Rattle.object_core.specs.Content.{Content}
use Rattle.message_values.specs.declared.operation.Operation.{Operation}
use Rattle.message_values.specs.declared.answer.Answer.{Answer}
use Rattle.server_model.specs.declared.counted.Counted.{Counted}
use Rattle.server_model.specs.declared.fault.ServerFault.{ServerFault}
use Rattle.server_model.specs.declared.fault.ServerFault.TheVariants.{Ignored, NumbersSpent}
use Rattle.message_values.specs.declared.message.Message.{Message}
use Rattle.message_values.specs.declared.message.Said.{Said}
use Rattle.message_values.specs.declared.message.Said.TheVariants.{Reply, Write}
use Rattle.object_core.specs.Kinds.{Kind}
use Rattle.server_model.specs.Server.{Activation, Acted, Server, called, begun_class, does, from_server, stored_of}
use Rattle.server_model.specs.Server.{wanted_unknown}

-- an operation that the tables take
abbrev pub does_open : Activation → States → Operation → Option Content → Result Acted ServerFault
does_open a v op None = Err Ignored
does_open a v op (Some c) = Ok (does a c v op)

-- the same of the content that it has
abbrev pub does_now : Activation → States → Operation → Result Acted ServerFault
does_now a v op = does_open a v op a.content

-- what is stored of the content
abbrev pub stored_open : Option Content → Result Stored ServerFault
stored_open None = Err Ignored
stored_open (Some c) = Ok (stored_of c)

-- the activation after a call, the answer, and the save that was counted
abbrev pub Acts : Result Acted ServerFault → Activation → Answer → Option Counted → Type 0
Acts told after answer counted = told ≡ Ok (record { activation = after; answer = answer; counted = counted })

-- a call for this server was taken, where its activation is this one or none
abbrev pub TakesCall : Server → ℕ → ℕ → Operation → Option Kind → Option Activation → Server → Message
    → Option Counted → Type 0
TakesCall v act n op box a after reply counted =
    (told : Answer)
    × (called v act n op box a
    ≡ Ok (record {
      server = after;
      answer = told;
      counted = counted;
      used = is_some (wanted_unknown v (begun_class n op) a);
    }))
    × (reply ≡ from_server v (Reply v.inc act n told))

-- a call of a known activation was taken, which uses no object, whatever is handed in
abbrev pub TakesKnown : Server → ℕ → ℕ → Operation → Option Activation → Server → Answer → Option Counted → Type 0
TakesKnown v act n op a after told counted =
    (box : Option Kind) → called v act n op box a
    ≡ Ok (record { server = after; answer = told; counted = counted; used = false })

-- the class that a call begins an activation of, where the server may have one more
abbrev pub first_class : Server → Option (List ℕ) → Result (List ℕ) ServerFault
first_class v None = Err Ignored
first_class v (Some class) = cond (nat_le v.numbers (length v.acts)) (Err NumbersSpent) (Ok class)

-- an activation after a write of its own accord, and what is said
pub record Written : Type 0 where
  pub activation : Activation
  pub said : Said

abbrev pub write_open : ℕ → ℕ → Activation → Option Content → Result Written ServerFault
write_open inc numbers a None = Err Ignored
write_open inc numbers a (Some c) =
    cond (may_write a.states.persist.state)
    (cond (nat_le numbers a.w) (Err NumbersSpent)
    (Ok (record { activation = record a { w = a.w + 1 }; said = Write inc a.act a.s (a.w + 1) (stored_of c) })))
    (Err Ignored)

abbrev pub Writes : Result Written ServerFault → Activation → Said → Type 0
Writes told after said = told ≡ Ok (record { activation = after; said = said })
