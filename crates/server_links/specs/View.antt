-- A server on a link, as it is seen.
use Rattle.std.specs.Prelude.{◌≡◌, ◌+◌, ◌<◌, ◌≤◌, ℕ, List, [], ◌∷◌, ◌++◌, Option, Some, None, length, map, take}
use Rattle.std.specs.Io.KnownBytes.{Appends, Consumes, IsAtEnd, Keeps}
use Rattle.std.specs.List.{AllByRecursion}
use Rattle.object_core.specs.Content.{Content}
use Rattle.message_values.specs.declared.message.Message.{Message}
use Rattle.message_model.specs.declared.fault.WireFault.{WireFault}
use Rattle.message_model.specs.declared.frame.Frame.{Frame}
use Rattle.message_model.specs.declared.frame.Frame.TheVariants as frame
use Rattle.message_model.specs.Frames.{IsFrame, Reads}
use Rattle.message_model.specs.Spelling.{joined}
use Rattle.message_bytes.specs.Fronts.{Stands}
use Rattle.server_model.specs.Server.{Server, wanted}
use Rattle.server_core.specs.View.{seen}
use Rattle.server_core.specs.declared.server.Seat.{Seat}
use Rattle.server_links.specs.Turns.{Turn, given, met, turned}
use Rattle.server_links.specs.declared.serving.Serving.{Serving}
use Rattle.server_links.specs.declared.serving.Advance.{Advance}
use Rattle.server_links.specs.declared.serving.Advance.TheVariants.{Met, Turned, Read, Wants, Over}
use Rattle.server_links.specs.declared.serving.End.{End}
use Rattle.server_links.specs.declared.serving.End.TheVariants.{Faulty, LastRead, Unread, Closed, Unwritten, LastTurn}

-- whether its server was started
abbrev pub IsStarted : {X : Type 0} {V : X → Type 0} → Serving X V → Type 0
IsStarted v = length v.servers.items ≡ 1

-- No server was started, nothing was read, and nothing is to be written; no turn and no read is counted.
pub record IsNew {X : Type 0} {V : X → Type 0} (v : Serving X V) : Type 0 where
  pub none : length v.servers.items ≡ 0
  pub out : v.out.items ≡ []
  pub edited : v.edited.items ≡ []
  pub read : Stands v.decoder [] []
  pub turns : v.turns ≡ 0
  pub reads : v.reads ≡ 0

-- A link has at most so many turns, and a turn at most so many reads.
abbrev pub MOST_TURNS : ℕ
MOST_TURNS = 1000

abbrev pub MOST_READS : ℕ
MOST_READS = 1000000

-- How the turns of a link and the reads of a turn are counted: before, and after.
abbrev pub Counts : Advance → (turns_before reads_before turns reads : ℕ) → Type 0
Counts Met turns_before reads_before turns reads = (turns ≡ turns_before) × (reads ≡ reads_before)
Counts (Wants class) turns_before reads_before turns reads = (turns ≡ turns_before) × (reads ≡ reads_before)
Counts Turned turns_before reads_before turns reads = (turns ≡ turns_before + 1) × (turns < MOST_TURNS) × (reads ≡ 0)
Counts Read turns_before reads_before turns reads = (turns ≡ turns_before) × (reads ≡ reads_before + 1)
    × (reads ≤ MOST_READS)
Counts (Over LastRead) turns_before reads_before turns reads = MOST_READS ≤ reads_before
Counts (Over LastTurn) turns_before reads_before turns reads = MOST_TURNS ≤ turns_before + 1
Counts (Over (Faulty fault)) turns_before reads_before turns reads = Unit {0}
Counts (Over Unread) turns_before reads_before turns reads = Unit {0}
Counts (Over Closed) turns_before reads_before turns reads = Unit {0}
Counts (Over Unwritten) turns_before reads_before turns reads = Unit {0}

-- known bytes grow by a front of these
abbrev pub AppendsFront : Option (List ℕ) → Option (List ℕ) → List ℕ → Type 0
AppendsFront before after bytes = (k : ℕ) × Appends before after (take k bytes)

-- Where it isn't read, what there is to be read is as it was.
abbrev pub LeavesReader : {R : Type 0} → Advance → (before after : R) → Type 0
LeavesReader Met before after = after ≡ before
LeavesReader (Wants class) before after = after ≡ before
LeavesReader Turned before after = after ≡ before
LeavesReader (Over (Faulty fault)) before after = after ≡ before
LeavesReader (Over LastRead) before after = after ≡ before
LeavesReader (Over Unwritten) before after = after ≡ before
LeavesReader (Over LastTurn) before after = after ≡ before
LeavesReader Read before after = Unit {0}
LeavesReader (Over Unread) before after = Unit {0}
LeavesReader (Over Closed) before after = Unit {0}

-- Where no turn is given back, what was written is as it was.
abbrev pub LeavesWriter : {W : Type 0} → Advance → (before after : W) → Type 0
LeavesWriter Met before after = after ≡ before
LeavesWriter (Wants class) before after = after ≡ before
LeavesWriter Read before after = after ≡ before
LeavesWriter (Over (Faulty fault)) before after = after ≡ before
LeavesWriter (Over LastRead) before after = after ≡ before
LeavesWriter (Over Unread) before after = after ≡ before
LeavesWriter (Over Closed) before after = after ≡ before
LeavesWriter Turned before after = Unit {0}
LeavesWriter (Over Unwritten) before after = Unit {0}
LeavesWriter (Over LastTurn) before after = Unit {0}

-- These frames are the first of what was read.
pub record AreFirst (fed : List ℕ) (frames : List Frame) : Type 0 where
  pub rest : List ℕ
  pub whole : fed ≡ joined frames ++ rest
  pub each : AllByRecursion IsFrame frames

-- Memory was wanted in a step: for the frame that came next, and nothing was read; or for a piece that was read, as no
-- frame was whole.
pub data Lacks (fed : List ℕ) (taken : List Frame) (before after : Option (List ℕ)) : Type 0 where
  for_frame : (f : Frame) → AreFirst fed (taken ++ f ∷ []) → after ≡ before → Lacks fed taken before after
  for_piece : (piece : List ℕ) → Reads fed taken None → Consumes before after piece → Lacks fed taken before after

-- `content` says what the object in a seat contains.
module _ {X : Type 0} {V : X → Type 0} (content : Seat X V → Content) where
  -- the server, once it is started
  abbrev pub servers_of : Serving X V → List Server
  servers_of v = map (λ s. seen content s.core) v.servers.items

  -- It has come so far in a turn.
  pub record IsIn (v : Serving X V) (t : Turn) : Type 0 where
    pub server : servers_of v ≡ t.server ∷ []
    pub out : v.out.items ≡ t.out
    pub edited : v.edited.items ≡ t.edited

  -- It has come so far on a link of which these bytes were read in all, and these frames taken.
  pub record IsAt (v : Serving X V) (t : Turn) (fed : List ℕ) (taken : List Frame) : Type 0 where
    pub turn : IsIn v t
    pub read : Stands v.decoder fed taken

  -- A message came next that wants no object: the turn goes on by the server's step.
  pub record IsMet (v : Serving X V) (t : Turn) (fed : List ℕ) (taken : List Frame) : Type 0 where
    pub message : Message
    pub unwanted : wanted t.server message ≡ None
    pub after : IsAt v (met t message None) fed (taken ++ frame.Message message ∷ [])

  -- A message came next that wants an object of this class, and waits for it.
  pub record Awaits (v : Serving X V) (t : Turn) (fed : List ℕ) (taken : List Frame) (class : List ℕ) : Type 0 where
    pub message : Message
    pub wants : wanted t.server message ≡ Some class
    pub waits : v.wanting ≡ Some message
    pub after : IsAt v t fed (taken ++ frame.Message message ∷ [])

  -- A Turn came next: the answers were written, what was edited, and a Turn.
  pub record IsTurned (v : Serving X V) (t : Turn) (fed : List ℕ) (taken : List Frame)
      (before after : Option (List ℕ)) : Type 0 where
    pub gives : Appends before after (given t)
    pub next : IsAt v (turned t) fed (taken ++ frame.Turn ∷ [])

  -- Behind the frames that were taken none is whole; the rest shows this fault, or none.
  pub record IsOut (v : Serving X V) (t : Turn) (fed : List ℕ) (taken : List Frame) (fault : Option WireFault) :
      Type 0 where
    pub at : IsAt v t fed taken
    pub reads : Reads fed taken fault

  -- No frame was whole, and more was read.
  pub record IsRead (v : Serving X V) (t : Turn) (fed : List ℕ) (taken : List Frame)
      (before after : Option (List ℕ)) : Type 0 where
    pub reads : Reads fed taken None
    pub piece : List ℕ
    pub consumed : Consumes before after piece
    pub next : IsAt v t (fed ++ piece) taken

  -- The link is over: what came shows a fault; no frame was whole, and the turn had its most reads, or a read failed,
  -- or nothing more comes; a Turn came next, and of what it is answered with only a front may be written, or it was the
  -- last that a link may have.
  abbrev pub IsOver : End → Serving X V → Turn → List ℕ → List Frame
      → (unread_before unread held_before held : Option (List ℕ)) → Type 0
  IsOver (Faulty fault) v t fed taken unread_before unread held_before held = IsOut v t fed taken (Some fault)
  IsOver LastRead v t fed taken unread_before unread held_before held = IsOut v t fed taken None
  IsOver Unread v t fed taken unread_before unread held_before held = IsOut v t fed taken None
      × Keeps unread_before unread
  IsOver Closed v t fed taken unread_before unread held_before held = IsOut v t fed taken None
      × Consumes unread_before unread [] × IsAtEnd unread
  IsOver Unwritten v t fed taken unread_before unread held_before held =
      IsAt v (turned t) fed (taken ++ frame.Turn ∷ []) × AppendsFront held_before held (given t)
  IsOver LastTurn v t fed taken unread_before unread held_before held = IsTurned v t fed taken held_before held

  -- How far a link came, with what was to be read of it and what was written to it, before and after.
  abbrev pub Advances : Advance → Serving X V → Turn → List ℕ → List Frame
      → (unread_before unread held_before held : Option (List ℕ)) → Type 0
  Advances Met v t fed taken unread_before unread held_before held = IsMet v t fed taken
  Advances (Wants class) v t fed taken unread_before unread held_before held = Awaits v t fed taken class
  Advances Turned v t fed taken unread_before unread held_before held = IsTurned v t fed taken held_before held
  Advances Read v t fed taken unread_before unread held_before held = IsRead v t fed taken unread_before unread
  Advances (Over end) v t fed taken unread_before unread held_before held =
      IsOver end v t fed taken unread_before unread held_before held
