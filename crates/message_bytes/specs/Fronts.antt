-- What stands at the front of bytes, and how a decoder stands.
use Rattle.std.specs.Prelude.{◌≡◌, ◌≢◌, ◌⊎◌, ◌<◌, ◌≤◌, ℕ, List, [], ◌∷◌, ◌++◌, length, take, drop, Option, Some, None}
use Rattle.std.specs.Prelude.{Result, Ok, Err}
use Rattle.std.specs.List.{AllByRecursion}
use Rattle.message_model.specs.declared.codes.Kind.{Kind}
use Rattle.message_drafts.specs.Opens.{Form}
use Rattle.message_bytes.specs.Holding.{Holds, IsBody, IsHead, Rest}
use Rattle.message_bytes.specs.declared.front.Head.{Head}
use Rattle.message_bytes.specs.declared.front.Head.TheVariants.{Short, Bad, Body}
use Rattle.message_bytes.specs.declared.front.Front.{Front}
use Rattle.message_bytes.specs.declared.front.Front.TheVariants as front
use Rattle.message_bytes.specs.declared.decoder.Decoder.{Decoder}
use Rattle.message_model.specs.declared.fault.WireFault.{WireFault}
use Rattle.message_model.specs.declared.fault.WireFault.TheVariants.{TooLong, BadField, NoMemory}
use Rattle.message_model.specs.declared.frame.Frame.{Frame}
use Rattle.message_model.specs.Frames.{IsFrame, MOST_BODY, Reads, number_in, shown, shown_length}
use Rattle.message_model.specs.Spelling.{spell, joined}

abbrev pub HeadIs : Head → List ℕ → Type 0
HeadIs Short bytes = (length bytes < 10) × (shown bytes ≡ None)
HeadIs (Bad fault) bytes = (fault ≢ BadField) × ((more : List ℕ) → shown (bytes ++ more) ≡ Some fault)
HeadIs (Body kind len) bytes = IsHead kind len bytes

-- the four bytes of a length, behind the rest of a head
abbrev pub LengthIs : Head → Kind → List ℕ → Type 0
LengthIs Short kind bytes = (length bytes < 4) × (shown_length bytes ≡ None)
LengthIs (Bad fault) kind bytes = (fault ≡ TooLong) × ((more : List ℕ) → shown_length (bytes ++ more) ≡ Some fault)
LengthIs (Body k len) kind bytes = (k ≡ kind) × (4 ≤ length bytes) × (number_in (take 4 bytes) ≡ len)
    × (len ≤ MOST_BODY)

-- no frame's byte form begins these bytes
abbrev pub BeginsNone : List ℕ → Type 0
BeginsNone bytes = (f : Frame) (more : List ℕ) → IsFrame f → bytes ≡ spell f ++ more → ⊥

-- these bytes show this fault, whatever follows
pub record IsFaulty (fault : WireFault) (bytes : List ℕ) : Type 0 where
  pub stays : (more : List ℕ) → shown (bytes ++ more) ≡ Some fault
  pub none : (more : List ℕ) → BeginsNone (bytes ++ more)

-- a frame's byte form, and n bytes in all
pub record IsWhole (f : Frame) (n : ℕ) (bytes : List ℕ) : Type 0 where
  pub frame : IsFrame f
  pub some : 0 < n
  pub within : n ≤ length bytes
  pub spelled : take n bytes ≡ spell f

abbrev pub FrontIs : Front → List ℕ → Type 0
FrontIs front.Partial bytes = shown bytes ≡ None
FrontIs (front.Whole f n) bytes = IsWhole f n bytes
FrontIs (front.Faulty fault) bytes = IsFaulty fault bytes

-- what is kept of the bytes behind the last whole frame
abbrev pub Keeps : Option WireFault → Rest → List ℕ → Type 0
Keeps None kept rest = Holds kept rest × (shown rest ≡ None)
Keeps (Some fault) kept rest = IsFaulty fault rest

-- A decoder that was fed these bytes in all, and handed out these frames.
pub record Stands (d : Decoder) (fed : List ℕ) (taken : List Frame) : Type 0 where
  pub rest : List ℕ
  pub whole : fed ≡ joined (taken ++ d.waiting.items) ++ rest
  pub each : AllByRecursion IsFrame (taken ++ d.waiting.items)
  pub keeps : Keeps d.fault d.bytes rest

-- the frames that are handed out are read, and more of them may come, and then this fault or none
abbrev pub AreRead : List ℕ → List Frame → Option WireFault → Type 0
AreRead fed taken fault = (more : List Frame) × Reads fed (taken ++ more) fault

-- What feed does: a piece that shows no fault; want of memory, which changes nothing; or the fault that is shown.
abbrev pub Feeds : Result (Unit {0}) WireFault → List ℕ → List ℕ → List Frame → Decoder → Type 0
Feeds (Ok u) fed piece taken new = Stands new (fed ++ piece) taken × AreRead (fed ++ piece) taken None
Feeds (Err fault) fed piece taken new =
    ((fault ≡ NoMemory) × Stands new fed taken)
    ⊎ (Stands new (fed ++ piece) taken × AreRead (fed ++ piece) taken (Some fault))

-- What next does: the next frame, that there is none yet, or the fault behind the last one.
abbrev pub HandsOut : Result (Option Frame) WireFault → List ℕ → List Frame → Decoder → Type 0
HandsOut (Ok (Some f)) fed taken new = Stands new fed (taken ++ f ∷ [])
    × ((fault : Option WireFault) × AreRead fed (taken ++ f ∷ []) fault)
HandsOut (Ok None) fed taken new = Stands new fed taken × Reads fed taken None
HandsOut (Err fault) fed taken new = Stands new fed taken × Reads fed taken (Some fault)

-- Frames that were put behind others: those that so many of these bytes spell.
pub record Took (old new : List Frame) (bytes : List ℕ) (used : ℕ) : Type 0 where
  pub added : List Frame
  pub grew : new ≡ old ++ added
  pub each : AllByRecursion IsFrame added
  pub parts : bytes ≡ joined added ++ drop used bytes
  pub within : used ≤ length bytes

abbrev pub Ends : Option WireFault → List ℕ → Type 0
Ends None rest = shown rest ≡ None
Ends (Some fault) rest = IsFaulty fault rest

-- Frames that were put behind others: those at the front of these bytes; and what is kept of the bytes behind them.
pub record Leaves (old new : List Frame) (bytes : List ℕ) (kept : Rest) (fault : Option WireFault) : Type 0 where
  pub added : List Frame
  pub grew : new ≡ old ++ added
  pub each : AllByRecursion IsFrame added
  pub rest : List ℕ
  pub parts : bytes ≡ joined added ++ rest
  pub keeps : Keeps fault kept rest

-- the same of a piece behind what was kept
abbrev pub Fed : Rest → Rest → List Frame → List Frame → List ℕ → Option WireFault → Type 0
Fed kept after old new piece fault = (rest : List ℕ) → Holds kept rest → shown rest ≡ None
    → Leaves old new (rest ++ piece) after fault

-- A body of which these bytes came: it goes on, or something stands behind it.
abbrev pub Grows : {X : Type 0} → (X → Rest) → (X → Option WireFault) → Option X → Form → List Frame → List Frame
    → List ℕ → Type 0
Grows kept fault None body old new bytes = (new ≡ old) × IsBody body bytes × (shown bytes ≡ None)
Grows kept fault (Some x) body old new bytes = Leaves old new bytes (kept x) (fault x)
