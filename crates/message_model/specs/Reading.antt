-- Reading a body from left to right, all of it.
use Rattle.std.specs.Prelude.{ℕ, zero, suc, ◌-◌, Bool, true, false, cond, ◌&&◌, not, List, [], ◌∷◌, ◌++◌, length, take}
use Rattle.std.specs.Prelude.{drop, Option, Some, None, Result, Ok, Err, nat_lt, nat_le}
use Rattle.std.specs.Int.{w16, from_le_bytes}
use Rattle.cfb_names.specs.declared.fault.DirFault.{DirFault}
use Rattle.cfb_names.specs.Names.{name_read}
use Rattle.tree_streams.specs.Limits.{MOST_BYTES, MOST_STREAMS, is_ole_name}
use Rattle.object_state.specs.MenuTexts.{is_menu_text}
use Rattle.object_state.specs.declared.operations.CloseOption.{CloseOption}
use Rattle.object_state.specs.declared.operations.CloseOption.TheVariants.{SaveIfDirty, NoSave}
use Rattle.tree_streams.specs.Streams.{is_next}
use Rattle.tree_streams.specs.declared.streams.NamedStream.{NamedStream}
use Rattle.tree_streams.specs.declared.stored.Stored.{Stored}
use Rattle.message_values.specs.declared.operation.Operation.{Operation}
use Rattle.message_values.specs.declared.operation.Operation.TheVariants as op
use Rattle.message_values.specs.declared.answer.Answer.{Answer}
use Rattle.message_values.specs.declared.answer.Answer.TheVariants as ans
use Rattle.message_values.specs.declared.message.Said.TheVariants.{Call, Reply, Write, Ask}
use Rattle.message_model.specs.declared.frame.Frame.{Frame}
use Rattle.message_model.specs.declared.frame.Frame.TheVariants.{Message, Turn}
use Rattle.message_model.specs.declared.codes.Kind.{Kind}
use Rattle.message_model.specs.declared.codes.Kind.TheVariants as kind
use Rattle.message_model.specs.declared.codes.OperationCode.{OperationCode}
use Rattle.message_model.specs.declared.codes.OperationCode.TheVariants as code
use Rattle.message_model.specs.declared.codes.AnswerCode.{AnswerCode}
use Rattle.message_model.specs.declared.codes.AnswerCode.TheVariants as said
use Rattle.message_model.specs.Codes.{operation_code_of, answer_code_of, refusal_of}
use Rattle.message_model.specs.Frames.{MOST_EDIT, number_in}

-- what makes a frame of the rest of a body, if anything does
abbrev pub Reader : Type 0
Reader = List ℕ → Option Frame

-- nothing more, and this frame
abbrev pub whole : Frame → Reader
whole f [] = Some f
whole f (b ∷ bs) = None

abbrev pub bad : Reader
bad bytes = None

-- a number of bytes
unfoldable pub bytes : ℕ → (List ℕ → Reader) → Reader
bytes n k xs = cond (nat_lt (length xs) n) None (k (take n xs) (drop n xs))

abbrev pub byte : (ℕ → Reader) → Reader
byte k [] = None
byte k (b ∷ xs) = k b xs

-- a number that isn't 0
abbrev pub nonzero : (ℕ → Reader) → ℕ → Reader
nonzero k n = cond (nat_lt 0 n) (k n) bad

unfoldable pub number : (ℕ → Reader) → Reader
number k = bytes 4 (λ bs. nonzero k (number_in bs))

-- bytes behind their length, at most so many
abbrev pub sized : ℕ → (List ℕ → Reader) → ℕ → Reader
sized most k n = cond (nat_le n most) (bytes n k) bad

unfoldable pub blob : ℕ → (List ℕ → Reader) → Reader
blob most k = bytes 4 (λ bs. sized most k (number_in bs))

-- a byte that stands for something
abbrev pub some : {A : Type 0} → (A → Reader) → Option A → Reader
some k None = bad
some k (Some a) = k a

abbrev pub named : (List ℕ → Reader) → Result (List ℕ) DirFault → Reader
named k (Ok name) = k name
named k (Err e) = bad

-- a name behind its length
abbrev pub name_of : (List ℕ → Reader) → ℕ → Reader
name_of k n = cond (nat_le 1 n && nat_le n 31) (bytes n (λ bs. named k (name_read bs))) bad

abbrev pub name : (List ℕ → Reader) → Reader
name k = byte (name_of k)

-- a stream may follow these under this name
abbrev pub may_follow : List NamedStream → List ℕ → Bool
may_follow streams name = is_next streams name && not (is_ole_name name)

-- so many more streams behind these, in so much room
unfoldable pub more : ℕ → List NamedStream → ℕ → (List NamedStream → ℕ → Reader) → Reader
more zero streams room k = k streams room
more (suc left) streams room k =
    name (λ n. cond (may_follow streams n)
    (blob room (λ bs. more left (streams ++ record { name = n; bytes = bs } ∷ []) (room - length bs) k)) bad)

-- then the picture
abbrev pub pictured : (Stored → Reader) → List NamedStream → ℕ → Reader
pictured k streams room = blob room (λ bs. k (record { streams = streams; picture = bs }))

abbrev pub counted : (Stored → Reader) → ℕ → Reader
counted k n = cond (nat_le n MOST_STREAMS) (more n [] MOST_BYTES (pictured k)) bad

abbrev pub stored : (Stored → Reader) → Reader
stored k = byte (counted k)

abbrev pub flag_of : ℕ → Option Bool
flag_of zero = Some false
flag_of (suc zero) = Some true
flag_of (suc (suc n)) = None

abbrev pub option_of : ℕ → Option CloseOption
option_of zero = Some SaveIfDirty
option_of (suc zero) = Some NoSave
option_of (suc (suc n)) = None

-- an operation behind its number
unfoldable pub operation : OperationCode → (Operation → Reader) → Reader
operation code.InitNew k = bytes 16 (λ class. k (op.InitNew class))
operation code.Load k = bytes 16 (λ class. stored (λ content. k (op.Load class content)))
operation code.InPlace k = k op.InPlace
operation code.UiActivate k = number (λ grant. k (op.UiActivate grant))
operation code.UiDeactivate k = k op.UiDeactivate
operation code.InPlaceDeactivate k = k op.InPlaceDeactivate
operation code.OpenWindow k = k op.OpenWindow
operation code.Edit k = blob MOST_EDIT (λ bs. k (op.Edit bs))
operation code.Save k = number (λ save. k (op.Save save))
operation code.HandsOff k = k op.HandsOff
operation code.SaveCompleted k =
    number (λ save. byte (λ b. some (λ storage. k (op.SaveCompleted save storage)) (flag_of b)))
operation code.SaveDropped k = number (λ save. k (op.SaveDropped save))
operation code.Close k = byte (λ b. some (λ option. k (op.Close option)) (option_of b))

-- a menu text behind its length
abbrev pub texted : (List ℕ → Reader) → List ℕ → Reader
texted k bs = cond (is_menu_text bs) (k bs) bad

abbrev pub text_of : (List ℕ → Reader) → ℕ → Reader
text_of k n = cond (nat_le n 16) (bytes n (texted k)) bad

abbrev pub text : (List ℕ → Reader) → Reader
text k = byte (text_of k)

unfoldable pub width_in : List ℕ → ℕ
width_in bs = from_le_bytes w16 bs

-- four widths in eight bytes
abbrev pub widths_in : List ℕ → List ℕ
widths_in bs = width_in (take 2 bs) ∷ width_in (take 2 (drop 2 bs)) ∷ width_in (take 2 (drop 4 bs))
    ∷ width_in (drop 6 bs) ∷ []

unfoldable pub tools : (Answer → Reader) → Reader
tools k = text (λ edit. text (λ object. text (λ help.
    bytes 8 (λ bs. k (ans.Tools (record { edit = edit; object = object; help = help }) (widths_in bs))))))

unfoldable pub answer : AnswerCode → (Answer → Reader) → Reader
answer said.Done k = k ans.Done
answer said.Refused k = byte (λ b. some (λ refusal. k (ans.Refused refusal)) (refusal_of b))
answer said.Content k = stored (λ content. k (ans.Content content))
answer said.Tools k = tools k

-- what is said of each kind, behind the session that it is said in
abbrev pub call_in : ℕ → Reader
call_in session =
    number
    (λ inc. number
    (λ act. number
    (λ n. byte
    (λ b. some (λ c. operation c (λ o. whole (Message (record { session = session; said = Call inc act n o }))))
    (operation_code_of b)))))

abbrev pub reply_in : ℕ → Reader
reply_in session =
    number
    (λ inc. number
    (λ act. number
    (λ n. byte
    (λ b. some (λ c. answer c (λ a. whole (Message (record { session = session; said = Reply inc act n a }))))
    (answer_code_of b)))))

abbrev pub write_in : ℕ → Reader
write_in session =
    number
    (λ inc. number
    (λ act. number
    (λ s. number
    (λ w. stored
    (λ content. whole (Message (record { session = session; said = Write inc act s w content })))))))

abbrev pub ask_in : ℕ → Reader
ask_in session =
    number
    (λ inc. number (λ act. number (λ g. whole (Message (record { session = session; said = Ask inc act g })))))

-- a body of a kind
unfoldable pub read_body : Kind → Reader
read_body kind.Call = number call_in
read_body kind.Reply = number reply_in
read_body kind.Write = number write_in
read_body kind.Ask = number ask_in
read_body kind.Turn = whole Turn
