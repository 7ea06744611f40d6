-- What a server makes of a whole link.
use Rattle.std.specs.Prelude.{◌≡◌, ◌+◌, ◌<◌, ◌≤◌, ℕ, List, [], ◌∷◌, ◌++◌, Option, Some, None, length, true, false, Bool}
use Rattle.std.specs.Io.KnownBytes.{Appends, Consumes, IsAtEnd}
use Rattle.object_core.specs.Content.{Content}
use Rattle.object_core.specs.Kinds.{Kind}
use Rattle.message_values.specs.declared.message.Message.{Message}
use Rattle.message_model.specs.declared.fault.WireFault.{WireFault}
use Rattle.message_model.specs.declared.frame.Frame.{Frame}
use Rattle.message_model.specs.declared.frame.Frame.TheVariants as frame
use Rattle.message_model.specs.Frames.{Reads}
use Rattle.server_model.specs.Server.{is_class, wanted}
use Rattle.server_core.specs.declared.server.Seat.{Seat}
use Rattle.server_links.specs.Turns.{Turn, given, met, turned}
use Rattle.server_links.specs.View.{AppendsFront, AreFirst, IsAt, MOST_READS, MOST_TURNS}
use Rattle.server_links.specs.declared.serving.Advance.{Advance}
use Rattle.server_links.specs.declared.serving.Advance.TheVariants as advance
use Rattle.server_links.specs.declared.serving.Serving.{Serving}
use Rattle.server_links.specs.declared.serving.End.{End}
use Rattle.server_links.specs.declared.serving.End.TheVariants.{Faulty, LastRead, Unread, Closed, Unwritten, LastTurn}
use Rattle.server_links.specs.declared.link.Pause.{Pause}
use Rattle.server_links.specs.declared.link.Pause.TheVariants.{Wants, Over, Long}

-- Which object is handed in for a message, where an object of each class that is made is always at hand: where the
-- server wants one of a class, one of that class, or none where that class isn't made; else none.
abbrev pub IsHandedIn : (made : List ℕ → Bool) → (wanted : Option (List ℕ)) → Option Kind → Type 0
IsHandedIn made None box = box ≡ None
IsHandedIn made (Some class) None = made class ≡ false
IsHandedIn made (Some class) (Some kind) = is_class kind class ≡ true

-- Which object may be offered for a call that wants one of this class: one of it, and any where that class isn't made.
abbrev pub MayOffer : (made : List ℕ → Bool) → Kind → (class : List ℕ) → Type 0
MayOffer made kind class = is_class kind class ≡ false → made class ≡ false

-- What a server makes of frames, from a turn on: the bytes that it writes, and the turn that it then is in. Of a
-- message it makes its step, with the object that was handed in for it or none, and writes nothing yet. At a Turn it
-- writes what the turn has come to, and begins the next one.
pub data Serves (made : List ℕ → Bool) : Turn → List Frame → List ℕ → Turn → Type 0 where
  none : {t : Turn} → Serves made t [] [] t
  message : {t u : Turn} {m : Message} {frames : List Frame} {bytes : List ℕ} (box : Option Kind)
      → IsHandedIn made (wanted t.server m) box
      → Serves made (met t m box) frames bytes u → Serves made t (frame.Message m ∷ frames) bytes u
  turn : {t u : Turn} {frames : List Frame} {bytes : List ℕ} → Serves made (turned t) frames bytes u
      → Serves made t (frame.Turn ∷ frames) (given t ++ bytes) u

-- how many Turns are among frames
abbrev pub turns_in : List Frame → ℕ
turns_in [] = 0
turns_in (frame.Message m ∷ frames) = turns_in frames
turns_in (frame.Turn ∷ frames) = turns_in frames + 1

-- more frames than a link ever has: 2^63
abbrev pub MANY_FRAMES : ℕ
MANY_FRAMES = 9223372036854775808

-- the first turn of a link, of a server that stands so
abbrev pub link_begun : Turn → Turn
link_begun t = record { server = t.server; out = []; edited = [] }

-- the pause that a step ends in, if any
abbrev pub pause_of : Advance → Option Pause
pause_of (advance.Wants class) = Some (Wants class)
pause_of (advance.Over end) = Some (Over end)
pause_of advance.Met = None
pause_of advance.Turned = None
pause_of advance.Read = None

-- what a server is left as, at a turn, where so much was read and so many frames were taken of it
abbrev pub Leaving : Type 1
Leaving = Turn → List ℕ → List Frame → Type 0

-- A link began at a turn, with some bytes to be read and some that were written, where those are known. These bytes
-- were read of it in all, these frames taken, and these bytes written: those that the server makes of the frames. It is
-- left as the frames leave it.
pub record HasServed (Left : Leaving) (made : List ℕ → Bool) (began : Turn)
    (unread_before unread held_before held : Option (List ℕ)) : Type 0 where
  pub fed : List ℕ
  pub taken : List Frame
  pub bytes : List ℕ
  pub now : Turn
  pub read : Consumes unread_before unread fed
  pub at : Left now fed taken
  pub serves : Serves made began taken bytes now
  pub written : Appends held_before held bytes
  pub turns : turns_in taken ≤ MOST_TURNS

-- what is left where one more frame was taken, which isn't served, and leaves this turn
abbrev pub And : Leaving → Frame → (Turn → Turn) → Leaving
And Left f next now fed taken = Left (next now) fed (taken ++ f ∷ [])

-- The last frame is a Turn, and of what it is answered with only a front may be written. The frames before it were
-- served.
pub record IsUnwritten (Left : Leaving) (made : List ℕ → Bool) (began : Turn)
    (unread_before unread held_before held : Option (List ℕ)) : Type 0 where
  pub before : Option (List ℕ)
  pub served : HasServed (And Left frame.Turn turned) made began unread_before unread held_before before
  pub part : AppendsFront before held (given served.now)
  pub turns : turns_in served.taken < MOST_TURNS

-- No whole frame is left of what was read, and its rest shows this fault, or none.
abbrev pub HasServedAll : Option WireFault → Leaving → (List ℕ → Bool) → Turn
    → (unread_before unread held_before held : Option (List ℕ)) → Type 0
HasServedAll fault Left made began unread_before unread held_before held =
    (s : HasServed Left made began unread_before unread held_before held) × Reads s.fed s.taken fault

-- The link is over.
abbrev pub HasEnded : End → Leaving → (List ℕ → Bool) → Turn
    → (unread_before unread held_before held : Option (List ℕ)) → Type 0
HasEnded (Faulty fault) Left made began unread_before unread held_before held =
    HasServedAll (Some fault) Left made began unread_before unread held_before held
HasEnded LastRead Left made began unread_before unread held_before held =
    HasServedAll None Left made began unread_before unread held_before held
HasEnded Unread Left made began unread_before unread held_before held =
    HasServedAll None Left made began unread_before unread held_before held
HasEnded Closed Left made began unread_before unread held_before held =
    HasServedAll None Left made began unread_before unread held_before held × IsAtEnd unread
HasEnded Unwritten Left made began unread_before unread held_before held =
    IsUnwritten Left made began unread_before unread held_before held
HasEnded LastTurn Left made began unread_before unread held_before held =
    (s : HasServed Left made began unread_before unread held_before held) × (turns_in s.taken ≡ MOST_TURNS)

-- For what memory was wanted: for the frame that comes next, or for a piece that was read, as no frame was whole.
pub data LacksAt (fed : List ℕ) (taken : List Frame) : Type 0 where
  for_frame : (f : Frame) → AreFirst fed (taken ++ f ∷ []) → LacksAt fed taken
  for_piece : (before piece : List ℕ) → fed ≡ before ++ piece → Reads before taken None → LacksAt fed taken

abbrev pub Lacking : Leaving
Lacking now fed taken = LacksAt fed taken

-- Memory was wanted on a link: the frames before were served, and nothing was written of the one that memory was wanted
-- for.
abbrev pub HasLacked : (made : List ℕ → Bool) → Turn → (unread_before unread held_before held : Option (List ℕ))
    → Type 0
HasLacked made began unread_before unread held_before held =
    (s : HasServed Lacking made began unread_before unread held_before held) × (turns_in s.taken < MOST_TURNS)

-- `content` says what the object in a seat contains.
module _ {X : Type 0} {V : X → Type 0} (content : Seat X V → Content) where
  -- The link goes on.
  pub record IsUnderway (v : Serving X V) (made : List ℕ → Bool) (began : Turn)
      (unread_before unread held_before held : Option (List ℕ)) : Type 0 where
    pub served : HasServed (IsAt content v) made began unread_before unread held_before held
    pub counted : turns_in served.taken ≡ v.turns
    pub more : v.turns < MOST_TURNS
    pub reads : v.reads ≤ MOST_READS

  -- The last frame is a message that wants an object of this class, and waits for it. The frames before it were served.
  pub record IsWaiting (v : Serving X V) (made : List ℕ → Bool) (began : Turn)
      (unread_before unread held_before held : Option (List ℕ)) (class : List ℕ) : Type 0 where
    pub message : Message
    pub served : HasServed (And (IsAt content v) (frame.Message message) (λ t. t)) made began unread_before unread
        held_before held
    pub wants : wanted served.now.server message ≡ Some class
    pub waits : v.wanting ≡ Some message
    pub counted : turns_in served.taken ≡ v.turns
    pub more : v.turns < MOST_TURNS
    pub reads : v.reads ≤ MOST_READS

  -- Why a link is left for now: it wants an object, and where none of that class is made it goes on without; it is
  -- over; it goes on, and more frames came than ever do.
  abbrev pub Pauses : Pause → Serving X V → (List ℕ → Bool) → Turn
      → (unread_before unread held_before held : Option (List ℕ)) → Type 0
  Pauses (Wants class) v made began unread_before unread held_before held =
      (made class ≡ false → IsUnderway v made began unread_before unread held_before held)
      × IsWaiting v made began unread_before unread held_before held class
  Pauses (Over end) v made began unread_before unread held_before held =
      HasEnded end (IsAt content v) made began unread_before unread held_before held
  Pauses Long v made began unread_before unread held_before held =
      (s : IsUnderway v made began unread_before unread held_before held) × (MANY_FRAMES ≤ length s.served.taken)
