-- The message that bytes are.
use Rattle.std.specs.Prelude.{◌≡◌, ◌&&◌, ℕ, List, length, take, drop, get_or, nat_le, cond, Option, Some, None}
use Rattle.std.specs.Str.{bytes_eq}
use Rattle.message_values.specs.declared.message.Message.{Message}
use Rattle.message_model.specs.declared.codes.Kind.{Kind}
use Rattle.message_model.specs.declared.frame.Frame.{Frame}
use Rattle.message_model.specs.declared.frame.Frame.TheVariants as frame
use Rattle.message_model.specs.Codes.{kind_of}
use Rattle.message_model.specs.Frames.{IsFrame, MOST_BODY}
use Rattle.message_model.specs.Reading.{read_body}
use Rattle.message_model.specs.Spelling.{head, spell}

-- the frame of a kind and a body, if they are one
abbrev pub framed : Option Kind → List ℕ → Option Frame
framed None body = None
framed (Some kind) body = read_body kind body

-- a body behind a front, which is the head of a body of this number and length
abbrev pub frame_of : List ℕ → ℕ → List ℕ → Option Frame
frame_of front number body = cond (nat_le (length body) MOST_BODY && bytes_eq front (head number (length body)))
    (framed (kind_of number) body) None

-- the frame whose byte form these bytes are, all of them
abbrev pub frame_in : List ℕ → Option Frame
frame_in bytes = frame_of (take 10 bytes) (get_or bytes 5 0) (drop 10 bytes)

-- a turn is no message
abbrev pub message_of : Option Frame → Option Message
message_of None = None
message_of (Some (frame.Message m)) = Some m
message_of (Some frame.Turn) = None

-- the message whose byte form these bytes are, all of them
abbrev pub message_in : List ℕ → Option Message
message_in bytes = message_of (frame_in bytes)

-- These bytes are the byte form of a message that may be sent, or of none.
abbrev pub IsForm : List ℕ → Option Message → Type 0
IsForm bytes None = (m : Message) → IsFrame (frame.Message m) → bytes ≡ spell (frame.Message m) → ⊥
IsForm bytes (Some m) = IsFrame (frame.Message m) × (bytes ≡ spell (frame.Message m))
