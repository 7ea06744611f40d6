-- Room that is taken before objects are asked to give their storages away.
use Rattle.std.specs.Prelude.{◌≡◌, ◌≤◌, ◌<◌, ◌+◌, ◌==◌, ℕ, Bool, true, false, List, [], ◌∷◌, length, Option, Some, None}
use Rattle.std.specs.Prelude.{is_some, if◌then◌else◌, vec_capacity}
use Rattle.message_values.specs.declared.message.Message.{Message}
use Rattle.message_values.specs.declared.operation.Operation.{Operation}
use Rattle.container_model.specs.declared.record.Frame.{Frame}
use Rattle.container_model.specs.declared.record.Link.{Link}
use Rattle.container_model.specs.declared.record.Object.{Object}
use Rattle.container_model.specs.declared.record.Phase.{Phase}
use Rattle.container_model.specs.declared.record.Phase.TheVariants.{Saving}
use Rattle.container_model.specs.Record.{asked_sent}
use Rattle.container_model.specs.Room.{IfLinked}
use Rattle.container_grants.specs.declared.rooms.FrameRooms.{FrameRooms}
use Rattle.container_grants.specs.declared.rooms.Room.{Room}

-- a frame is saving under another name
abbrev pub is_leaving_at : Phase → Option (List ℕ) → Bool
is_leaving_at Saving asked = is_some asked
is_leaving_at phase asked = false

abbrev pub is_leaving : Frame → Bool
is_leaving frame = is_leaving_at frame.phase frame.asked

-- an activation may be asked for so many operations more, and one, and the room has place for all that wait then
pub record IsRoomyFor (more : ℕ) (room : Room) (l : Link) : Type 0 where
  pub empty : room.waiting.items ≡ []
  pub place : length l.waiting + more < vec_capacity room.waiting
  pub number : l.last + length l.waiting + more ≤ 2000000

-- the same of an object of the frame of number f
abbrev pub HasPlace : ℕ → ℕ → Object → Room → Type 0
HasPlace more f o room = o.frame ≡ f → IfLinked (IsRoomyFor more room) o.link

abbrev pub HavePlaces : ℕ → ℕ → List Object → List Room → Type 0
HavePlaces more f [] [] = Unit {0}
HavePlaces more f [] (room ∷ rooms) = ⊥
HavePlaces more f (o ∷ os) [] = ⊥
HavePlaces more f (o ∷ os) (room ∷ rooms) = HasPlace more f o room × HavePlaces more f os rooms

-- the same of all frames that are saving under other names, the first of them of number f
abbrev pub AllHavePlaces : ℕ → ℕ → List Frame → List Object → List FrameRooms → Type 0
AllHavePlaces more f [] os [] = Unit {0}
AllHavePlaces more f [] os (q ∷ qs) = ⊥
AllHavePlaces more f (frame ∷ frames) os [] = ⊥
AllHavePlaces more f (frame ∷ frames) os (q ∷ qs) = (is_leaving frame ≡ true → HavePlaces more f os q.rooms.items)
    × AllHavePlaces more (f + 1) frames os qs

-- how many activations have no call pending: so many calls may be sent at once
abbrev pub free_at : Option Operation → ℕ
free_at None = 1
free_at (Some op) = 0

abbrev pub free_link : Option Link → ℕ
free_link None = 0
free_link (Some l) = free_at l.pending

abbrev pub free : List Object → ℕ
free [] = 0
free (o ∷ os) = free_link o.link + free os

-- what is sent to one object of the frame that is asked
abbrev pub sent_by : ℕ → Operation → Object → List Message
sent_by f op o = if o.frame == f then asked_sent op o.link else []
