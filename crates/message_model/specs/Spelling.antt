-- The one byte form of a frame: `OLCM`, the version 2, its kind, the length of its body in four bytes, and its body.
-- All numbers stand with their low bytes first. The body of a message begins with its session.
use Rattle.std.specs.Prelude.{ℕ, Bool, true, false, List, [], ◌∷◌, ◌++◌, length}
use Rattle.std.specs.Int.{w16, w32, to_le_bytes}
use Rattle.object_state.specs.declared.operations.CloseOption.{CloseOption}
use Rattle.object_state.specs.declared.operations.CloseOption.TheVariants.{SaveIfDirty, NoSave}
use Rattle.object_state.specs.declared.menu_texts.Menus.{Menus}
use Rattle.tree_streams.specs.declared.streams.NamedStream.{NamedStream}
use Rattle.tree_streams.specs.declared.stored.Stored.{Stored}
use Rattle.message_values.specs.Refusals.{code_of}
use Rattle.message_values.specs.declared.operation.Operation.{Operation}
use Rattle.message_values.specs.declared.operation.Operation.TheVariants.{InitNew, Load, InPlace, UiActivate}
use Rattle.message_values.specs.declared.operation.Operation.TheVariants.{UiDeactivate, InPlaceDeactivate, OpenWindow}
use Rattle.message_values.specs.declared.operation.Operation.TheVariants.{Edit, Save, HandsOff, SaveCompleted}
use Rattle.message_values.specs.declared.operation.Operation.TheVariants.{SaveDropped, Close}
use Rattle.message_values.specs.declared.answer.Answer.{Answer}
use Rattle.message_values.specs.declared.answer.Answer.TheVariants.{Done, Refused, Content, Tools}
use Rattle.message_values.specs.declared.message.Said.{Said}
use Rattle.message_values.specs.declared.message.Said.TheVariants.{Call, Reply, Write, Ask}
use Rattle.message_model.specs.declared.frame.Frame.{Frame}
use Rattle.message_model.specs.declared.frame.Frame.TheVariants.{Message, Turn}

-- a number in four bytes, and in two
unfoldable pub four_bytes : ℕ → List ℕ
four_bytes n = to_le_bytes w32 n

unfoldable pub two_bytes : ℕ → List ℕ
two_bytes n = to_le_bytes w16 n

-- bytes behind their length in four bytes
abbrev pub blob : List ℕ → List ℕ
blob bytes = four_bytes (length bytes) ++ bytes

-- a name or a text behind its length in one byte
abbrev pub text : List ℕ → List ℕ
text bytes = length bytes ∷ bytes

abbrev pub streams : List NamedStream → List ℕ
streams [] = []
streams (s ∷ ss) = text s.name ++ (blob s.bytes ++ streams ss)

-- a content: how many streams, these, and the picture
abbrev pub stored : Stored → List ℕ
stored s = length s.streams ∷ (streams s.streams ++ blob s.picture)

abbrev pub flag : Bool → ℕ
flag false = 0
flag true = 1

abbrev pub option_number : CloseOption → ℕ
option_number SaveIfDirty = 0
option_number NoSave = 1

-- an operation, its number first
abbrev pub operation : Operation → List ℕ
operation (InitNew class) = 1 ∷ class
operation (Load class content) = 2 ∷ (class ++ stored content)
operation InPlace = 3 ∷ []
operation (UiActivate grant) = 4 ∷ four_bytes grant
operation UiDeactivate = 5 ∷ []
operation InPlaceDeactivate = 6 ∷ []
operation OpenWindow = 7 ∷ []
operation (Edit bytes) = 8 ∷ blob bytes
operation (Save save) = 9 ∷ four_bytes save
operation HandsOff = 10 ∷ []
operation (SaveCompleted save storage) = 11 ∷ (four_bytes save ++ flag storage ∷ [])
operation (SaveDropped save) = 12 ∷ four_bytes save
operation (Close option) = 13 ∷ option_number option ∷ []

-- widths in two bytes each
abbrev pub widths : List ℕ → List ℕ
widths [] = []
widths (n ∷ ns) = two_bytes n ++ widths ns

abbrev pub menus : Menus → List ℕ
menus m = text m.edit ++ (text m.object ++ text m.help)

-- an answer, its number first
abbrev pub answer : Answer → List ℕ
answer Done = 0 ∷ []
answer (Refused refusal) = 1 ∷ code_of refusal ∷ []
answer (Content content) = 2 ∷ stored content
answer (Tools m border) = 3 ∷ (text m.edit ++ (text m.object ++ (text m.help ++ widths border)))

-- a kind's number, and a body
abbrev pub said_kind : Said → ℕ
said_kind (Call inc act n op) = 1
said_kind (Reply inc act n told) = 2
said_kind (Write inc act s w content) = 3
said_kind (Ask inc act g) = 4

abbrev pub kind : Frame → ℕ
kind (Message m) = said_kind m.said
kind Turn = 5

abbrev pub said_body : Said → List ℕ
said_body (Call inc act n op) = four_bytes inc ++ (four_bytes act ++ (four_bytes n ++ operation op))
said_body (Reply inc act n told) = four_bytes inc ++ (four_bytes act ++ (four_bytes n ++ answer told))
said_body (Write inc act s w content) = four_bytes inc
    ++ (four_bytes act ++ (four_bytes s ++ (four_bytes w ++ stored content)))
said_body (Ask inc act g) = four_bytes inc ++ (four_bytes act ++ four_bytes g)

abbrev pub body : Frame → List ℕ
body (Message m) = four_bytes m.session ++ said_body m.said
body Turn = []

-- "OLCM"
abbrev pub MAGIC : List ℕ
MAGIC = 79 ∷ 76 ∷ 67 ∷ 77 ∷ []

-- the ten bytes before a body of this kind and length
abbrev pub head : ℕ → ℕ → List ℕ
head kind len = 79 ∷ 76 ∷ 67 ∷ 77 ∷ 2 ∷ kind ∷ four_bytes len

abbrev pub spell : Frame → List ℕ
spell frame = head (kind frame) (length (body frame)) ++ body frame

-- frames one after another
abbrev pub joined : List Frame → List ℕ
joined [] = []
joined (f ∷ fs) = spell f ++ joined fs
