-- Which frames have a byte form, and what bytes are as frames.
use Rattle.std.specs.Prelude.{◌≡◌, ◌<◌, ◌^◌, ℕ, Bool, true, cond, ◌&&◌, List, [], ◌∷◌, ◌++◌, length, Option, Some, None}
use Rattle.std.specs.Prelude.{is_some, nat_lt, nat_le, nat_eq, IsTrue}
use Rattle.std.specs.Int.{w32, from_le_bytes}
use Rattle.std.specs.List.{AllByRecursion}
use Rattle.cfb_names.specs.Names.{IsName}
use Rattle.tree_streams.specs.Limits.{is_within}
use Rattle.object_state.specs.MenuTexts.{is_menu_text}
use Rattle.tree_streams.specs.Streams.{AreInOrder}
use Rattle.tree_streams.specs.declared.streams.NamedStream.{NamedStream}
use Rattle.tree_streams.specs.declared.stored.Stored.{Stored}
use Rattle.message_values.specs.declared.operation.Operation.{Operation}
use Rattle.message_values.specs.declared.operation.Operation.TheVariants.{InitNew, Load, UiActivate, Edit, Save}
use Rattle.message_values.specs.declared.operation.Operation.TheVariants.{SaveCompleted, SaveDropped}
use Rattle.message_values.specs.declared.answer.Answer.{Answer}
use Rattle.message_values.specs.declared.answer.Answer.TheVariants.{Content, Tools}
use Rattle.message_values.specs.declared.message.Said.{Said}
use Rattle.message_values.specs.declared.message.Said.TheVariants.{Call, Reply, Write, Ask}
use Rattle.message_model.specs.declared.fault.WireFault.{WireFault}
use Rattle.message_model.specs.declared.fault.WireFault.TheVariants.{BadMagic, BadVersion, BadKind, TooLong, BadField}
use Rattle.message_model.specs.declared.frame.Frame.{Frame}
use Rattle.message_model.specs.declared.frame.Frame.TheVariants.{Message, Turn}
use Rattle.message_model.specs.Codes.{kind_of}
use Rattle.message_model.specs.Spelling.{spell, joined}

-- the greatest length of an edit
abbrev pub MOST_EDIT : ℕ
MOST_EDIT = 65536

-- A frame may be sent where no number in it is 0, an edit has at most 65,536 bytes, and a content may be stored.
abbrev pub operation_fits : Operation → Bool
operation_fits (Load class content) = is_within content
operation_fits (UiActivate grant) = nat_lt 0 grant
operation_fits (Edit bytes) = nat_le (length bytes) MOST_EDIT
operation_fits (Save save) = nat_lt 0 save
operation_fits (SaveCompleted save storage) = nat_lt 0 save
operation_fits (SaveDropped save) = nat_lt 0 save
operation_fits _ = true

abbrev pub answer_fits : Answer → Bool
answer_fits (Content content) = is_within content
answer_fits _ = true

abbrev pub said_fits : Said → Bool
said_fits (Call inc act n op) = nat_lt 0 inc && (nat_lt 0 act && (nat_lt 0 n && operation_fits op))
said_fits (Reply inc act n told) = nat_lt 0 inc && (nat_lt 0 act && (nat_lt 0 n && answer_fits told))
said_fits (Write inc act s w content) =
    nat_lt 0 inc && (nat_lt 0 act && (nat_lt 0 s && (nat_lt 0 w && is_within content)))
said_fits (Ask inc act g) = nat_lt 0 inc && (nat_lt 0 act && nat_lt 0 g)

abbrev pub fits : Frame → Bool
fits (Message m) = nat_lt 0 m.session && said_fits m.said
fits Turn = true

-- What the types of the code give of each frame: numbers have four bytes, class ids 16, names are names in order, and
-- menu texts are printable.
pub record IsContent (s : Stored) : Type 0 where
  pub names : AllByRecursion (λ (t : NamedStream). IsName t.name) s.streams
  pub order : AreInOrder s.streams

abbrev pub IsOperation : Operation → Type 0
IsOperation (InitNew class) = length class ≡ 16
IsOperation (Load class content) = (length class ≡ 16) × IsContent content
IsOperation (UiActivate grant) = grant < 2 ^ 32
IsOperation (Save save) = save < 2 ^ 32
IsOperation (SaveCompleted save storage) = save < 2 ^ 32
IsOperation (SaveDropped save) = save < 2 ^ 32
IsOperation _ = Unit {0}

abbrev pub IsAnswer : Answer → Type 0
IsAnswer (Content content) = IsContent content
IsAnswer (Tools m border) =
    IsTrue (is_menu_text m.edit) × IsTrue (is_menu_text m.object) × IsTrue (is_menu_text m.help)
    × (length border ≡ 4) × AllByRecursion (λ n. n < 2 ^ 16) border
IsAnswer _ = Unit {0}

abbrev pub IsSaid : Said → Type 0
IsSaid (Call inc act n op) = (inc < 2 ^ 32) × (act < 2 ^ 32) × (n < 2 ^ 32) × IsOperation op
IsSaid (Reply inc act n told) = (inc < 2 ^ 32) × (act < 2 ^ 32) × (n < 2 ^ 32) × IsAnswer told
IsSaid (Write inc act s w content) = (inc < 2 ^ 32) × (act < 2 ^ 32) × (s < 2 ^ 32) × (w < 2 ^ 32) × IsContent content
IsSaid (Ask inc act g) = (inc < 2 ^ 32) × (act < 2 ^ 32) × (g < 2 ^ 32)

abbrev pub IsValue : Frame → Type 0
IsValue (Message m) = (m.session < 2 ^ 32) × IsSaid m.said
IsValue Turn = Unit {0}

pub record IsFrame (f : Frame) : Type 0 where
  pub value : IsValue f
  pub fits_all : fits f ≡ true

-- a number of four bytes
unfoldable pub number_in : List ℕ → ℕ
number_in bytes = from_le_bytes w32 bytes

-- the greatest length of a body
abbrev pub MOST_BODY : ℕ
MOST_BODY = 1048576

-- What bytes show that begin with no frame's byte form: another beginning by their fourth byte, another version by
-- their fifth, another kind by their sixth, a body that is too long by their tenth, and a body that is none by its last
-- byte.
abbrev pub shown_body : ℕ → List ℕ → Option WireFault
shown_body len rest = cond (nat_lt MOST_BODY len) (Some TooLong) (cond (nat_lt (length rest) len) None (Some BadField))

abbrev pub shown_length : List ℕ → Option WireFault
shown_length (a ∷ b ∷ c ∷ d ∷ rest) = shown_body (number_in (a ∷ b ∷ c ∷ d ∷ [])) rest
shown_length _ = None

abbrev pub shown_kind : List ℕ → Option WireFault
shown_kind [] = None
shown_kind (kind ∷ rest) = cond (is_some (kind_of kind)) (shown_length rest) (Some BadKind)

abbrev pub shown_version : List ℕ → Option WireFault
shown_version [] = None
shown_version (version ∷ rest) = cond (nat_eq version 2) (shown_kind rest) (Some BadVersion)

abbrev pub shown : List ℕ → Option WireFault
shown (a ∷ b ∷ c ∷ d ∷ rest) = cond (nat_eq a 79 && (nat_eq b 76 && (nat_eq c 67 && nat_eq d 77)))
    (shown_version rest) (Some BadMagic)
shown _ = None

-- What bytes are as frames: these frames, one after another, and then bytes that begin with no frame's byte form, which
-- show a fault or none.
pub record Reads (bytes : List ℕ) (frames : List Frame) (fault : Option WireFault) : Type 0 where
  pub rest : List ℕ
  pub whole : bytes ≡ joined frames ++ rest
  pub each : AllByRecursion IsFrame frames
  pub last : (f : Frame) (more : List ℕ) → IsFrame f → rest ≡ spell f ++ more → ⊥
  pub shows : shown rest ≡ fault

-- no byte form of a frame is a proper prefix of another's
abbrev pub SpellingsAreApart : Type 0
SpellingsAreApart = (f g : Frame) (more : List ℕ) → IsFrame f → IsFrame g → spell f ++ more ≡ spell g
    → (more ≡ []) × (f ≡ g)

-- bytes are read in one way, so frames are the longest list whose byte forms, joined, are a prefix
abbrev pub ReadingIsOne : Type 0
ReadingIsOne = (bytes : List ℕ) (fs gs : List Frame) (e d : Option WireFault) → Reads bytes fs e → Reads bytes gs d
    → (fs ≡ gs) × (e ≡ d)

abbrev pub FramesAreLongest : Type 0
FramesAreLongest =
    (bytes : List ℕ) (fs gs : List Frame) (fault : Option WireFault) (more : List ℕ) → Reads bytes fs fault
    → AllByRecursion IsFrame gs → bytes ≡ joined gs ++ more
    → (others : List Frame) × (fs ≡ gs ++ others)

-- what was spelled is read again
abbrev pub SpelledIsRead : Type 0
SpelledIsRead = (fs : List Frame) → AllByRecursion IsFrame fs → Reads (joined fs) fs None
