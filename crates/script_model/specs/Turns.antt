-- What a link is sent: the calls that are pending for its server, and a Turn.
use Rattle.std.specs.Prelude.{◌≡◌, ◌==◌, ◌++◌, ℕ, List, [], ◌∷◌, if◌then◌else◌}
use Rattle.message_values.specs.declared.message.Message.{Message}
use Rattle.message_values.specs.declared.message.Said.{Said}
use Rattle.message_values.specs.declared.message.Said.TheVariants.{Call, Reply, Write, Ask}
use Rattle.container_model.specs.Record.{Record}
use Rattle.container_model.specs.Replies.{pending_calls}
use Rattle.message_model.specs.declared.frame.Frame.TheVariants as frame
use Rattle.message_model.specs.Spelling.{spell}
use Rattle.script_model.specs.Events.{Event, Started, Connected, Sent, Heard, Ended, Opened, Found, Shut, Stepped}
use Rattle.script_model.specs.Containers.{record_of}

-- the server that a message is to or from
abbrev pub server_of : Said → ℕ
server_of (Call inc act n op) = inc
server_of (Reply inc act n answer) = inc
server_of (Write inc act s w content) = inc
server_of (Ask inc act g) = inc

-- the byte forms of those messages of a server, one after the other, in their order
abbrev pub spelled_to : ℕ → List Message → List ℕ
spelled_to inc [] = []
spelled_to inc (m ∷ ms) = if server_of m.said == inc then spell (frame.Message m) ++ spelled_to inc ms
    else spelled_to inc ms

-- a server's turn
abbrev pub turn_of : Record → ℕ → List ℕ
turn_of r inc = spelled_to inc (pending_calls r.objects) ++ spell frame.Turn

-- All that was sent were turns of the container as it then was.
abbrev pub AreTurns : {D : Type 0} → List (Event D) → Type 0
AreTurns [] = Unit {0}
AreTurns (Sent inc bytes ok ∷ es) = (bytes ≡ turn_of (record_of es) inc) × AreTurns es
AreTurns (Started session inc ok ∷ es) = AreTurns es
AreTurns (Connected inc ok ∷ es) = AreTurns es
AreTurns (Heard inc bytes ok ∷ es) = AreTurns es
AreTurns (Ended inc ∷ es) = AreTurns es
AreTurns (Opened name disk ∷ es) = AreTurns es
AreTurns (Found name disk ∷ es) = AreTurns es
AreTurns (Shut name disk ∷ es) = AreTurns es
AreTurns (Stepped step ∷ es) = AreTurns es
