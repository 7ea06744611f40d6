-- Operations and answers: what was spelled is read, and what is read was spelled.
use Rattle.std.proofs.Common.{◌≡◌, ℕ, zero, suc, ◌^◌, ◌<◌, Bool, true, false, cond, List, [], ◌∷◌, ◌++◌, length, Option}
use Rattle.std.proofs.Common.{Some, None, refl, sym, ap, ◌∙◌, append_assoc, arith, lit<, nat_le, nat_eq}
use Rattle.std.specs.Prelude.{IsTrue}
use Rattle.std.specs.List.{AllByRecursion, list_all}
use Rattle.std.proofs.lemmas.Bool.{eqb-true}
use Rattle.object_state.specs.MenuTexts.{is_menu_text}
use Rattle.object_state.specs.Printable.{is_printable}
use Rattle.object_state.specs.declared.operations.CloseOption.{CloseOption}
use Rattle.object_state.specs.declared.operations.CloseOption.TheVariants.{SaveIfDirty, NoSave}
use Rattle.object_state.specs.declared.menu_texts.Menus.{Menus}
use Rattle.message_values.specs.Refusals.{code_of}
use Rattle.message_values.specs.declared.refusal.Refusal.{Refusal}
use Rattle.message_values.specs.declared.refusal.Refusal.TheVariants as refusal
use Rattle.message_values.specs.declared.operation.Operation.{Operation}
use Rattle.message_values.specs.declared.operation.Operation.TheVariants as op
use Rattle.message_values.specs.declared.answer.Answer.{Answer}
use Rattle.message_values.specs.declared.answer.Answer.TheVariants as ans
use Rattle.message_model.specs.declared.frame.Frame.{Frame}
use Rattle.message_model.specs.declared.codes.Kind.{Kind}
use Rattle.message_model.specs.declared.codes.OperationCode.{OperationCode}
use Rattle.message_model.specs.declared.codes.OperationCode.TheVariants as code
use Rattle.message_model.specs.declared.codes.AnswerCode.{AnswerCode}
use Rattle.message_model.specs.declared.codes.AnswerCode.TheVariants as said
use Rattle.message_model.specs.Codes.{listed, kinds, kind_of, kind_number, operations, operation_code_of}
use Rattle.message_model.specs.Codes.{operation_number, answers, answer_code_of, answer_number, refusals, refusal_of}
use Rattle.message_model.specs.Spelling as spelling
use Rattle.message_model.specs.Spelling.{two_bytes, four_bytes, flag, option_number, widths}
use Rattle.message_model.specs.Frames.{operation_fits, answer_fits, IsOperation, IsAnswer}
use Rattle.message_model.specs.Reading.{Reader, bad, bytes, byte, number, some, flag_of, option_of, stored, operation}
use Rattle.message_model.specs.Reading.{texted, text_of, text, widths_in, tools, answer}
use Rattle.message_model.proofs.Fields.{chosen, first_of, le_told, le_passes, some_is, IsBytes, bytes_again}
use Rattle.message_model.proofs.Fields.{bytes_found, Taken, TakenByte, byte_found, TakenNumber, number_again}
use Rattle.message_model.proofs.Fields.{number_found, TakenBlob, blob_again, blob_found, tested, width_in-two_bytes}
use Rattle.message_model.proofs.Fields.{two_bytes-width_in, width_in-below}
use Rattle.message_model.proofs.Contents.{stored_again, stored_found, TakenContent}

-- ---- tables

pub Numbered : {A : Type 0} → (A → ℕ) → List (ℕ × A) → Type 0
Numbered number [] = Unit {0}
Numbered number (e ∷ es) = (e.0 ≡ number e.1) × Numbered number es

pub listed_found : {A : Type 0} (number : A → ℕ) (es : List (ℕ × A)) (n : ℕ) (a : A) → Numbered number es
    → listed es n ≡ Some a → n ≡ number a
unfolding Numbered
listed_found number [] n a ok h = absurd cc
listed_found number (e ∷ es) n a ok h =
    chosen (n ≡ number a) (nat_eq n e.0) (Some e.1) (listed es n) (Some a) h
    (λ same found. eqb-true n e.0 same ∙ ok.0 ∙ ap number (some_is e.1 a found))
    (λ other found. listed_found number es n a ok.1 found)

pub kind_found : (n : ℕ) (k : Kind) → kind_of n ≡ Some k → n ≡ kind_number k
unfolding Numbered
kind_found n k h = listed_found kind_number kinds n k (refl, (refl, (refl, (refl, (refl, tt))))) h

pub operation_code_found : (n : ℕ) (c : OperationCode) → operation_code_of n ≡ Some c → n ≡ operation_number c
unfolding Numbered
operation_code_found n c h =
    listed_found operation_number operations n c
    (refl, (refl, (refl, (refl, (refl, (refl, (refl, (refl, (refl, (refl, (refl, (refl, (refl, tt))))))))))))) h

pub answer_code_found : (n : ℕ) (c : AnswerCode) → answer_code_of n ≡ Some c → n ≡ answer_number c
unfolding Numbered
answer_code_found n c h = listed_found answer_number answers n c (refl, (refl, (refl, (refl, tt)))) h

pub refusal_found : (n : ℕ) (r : Refusal) → refusal_of n ≡ Some r → n ≡ code_of r
unfolding Numbered
refusal_found n r h = listed_found code_of refusals n r
    (refl, (refl, (refl, (refl, (refl, (refl, (refl, (refl, (refl, tt))))))))) h

pub refusal_again : (r : Refusal) → refusal_of (code_of r) ≡ Some r
refusal_again refusal.BadEdit = refl
refusal_again refusal.BadContent = refl
refusal_again refusal.TooBig = refl
refusal_again refusal.AlreadyInitialized = refl
refusal_again refusal.NotInitialized = refl
refusal_again refusal.Scribble = refl
refusal_again refusal.HandsOff = refl
refusal_again refusal.NeedsStorage = refl
refusal_again refusal.WrongState = refl

pub flag_found : (n : ℕ) (b : Bool) → flag_of n ≡ Some b → n ≡ flag b
flag_found zero b h = ap flag (some_is false b h)
flag_found (suc zero) b h = ap flag (some_is true b h)
flag_found (suc (suc n)) b h = absurd cc

pub flag_again : (b : Bool) → flag_of (flag b) ≡ Some b
flag_again false = refl
flag_again true = refl

pub option_found : (n : ℕ) (o : CloseOption) → option_of n ≡ Some o → n ≡ option_number o
option_found zero o h = ap option_number (some_is SaveIfDirty o h)
option_found (suc zero) o h = ap option_number (some_is NoSave o h)
option_found (suc (suc n)) o h = absurd cc

pub option_again : (o : CloseOption) → option_of (option_number o) ≡ Some o
option_again SaveIfDirty = refl
option_again NoSave = refl

pub record TakenSome {A : Type 0} (k : A → Reader) (o : Option A) (xs : List ℕ) (f : Frame) : Type 0 where
  pub value : A
  pub is : o ≡ Some value
  pub next : k value xs ≡ Some f

pub some_found : {A : Type 0} (k : A → Reader) (o : Option A) (xs : List ℕ) (f : Frame) → some k o xs ≡ Some f
    → TakenSome k o xs f
some_found k None xs f e = absurd cc
some_found k (Some a) xs f e = record { value = a; is = refl; next = e }

-- ---- operations

pub record TakenOperation (c : OperationCode) (k : Operation → Reader) (xs : List ℕ) (f : Frame) : Type 0 where
  pub value : Operation
  pub rest : List ℕ
  pub parts : operation_number c ∷ xs ≡ spelling.operation value ++ rest
  pub fits_all : operation_fits value ≡ true
  pub valid : IsOperation value
  pub next : k value rest ≡ Some f

pub operation_found : (c : OperationCode) (k : Operation → Reader) (xs : List ℕ) (f : Frame) → IsBytes xs
    → operation c k xs ≡ Some f → TakenOperation c k xs f
unfolding operation
operation_found code.InitNew k xs f are e =
    let t : Taken (λ class. k (op.InitNew class)) 16 xs f = bytes_found 16 (λ class. k (op.InitNew class)) xs f are e in
    record {
      value = op.InitNew t.front;
      rest = t.rest;
      parts = ap (λ a. 1 ∷ a) t.parts;
      fits_all = refl;
      valid = t.len;
      next = t.next;
    }
operation_found code.Load k xs f are e =
    let t : Taken (λ class. stored (λ content. k (op.Load class content))) 16 xs f =
    bytes_found 16 (λ class. stored (λ content. k (op.Load class content))) xs f are e in
    let s : TakenContent (λ content. k (op.Load t.front content)) t.rest f =
    stored_found (λ content. k (op.Load t.front content)) t.rest f t.rest_bytes t.next in
    record {
      value = op.Load t.front s.value;
      rest = s.rest;
      parts = ap (λ a. 2 ∷ a) (t.parts ∙ ap (λ a. t.front ++ a) s.parts
          ∙ sym (append_assoc t.front (spelling.stored s.value) s.rest));
      fits_all = s.within;
      valid = (t.len, s.is_content);
      next = s.next;
    }
operation_found code.InPlace k xs f are e = record {
  value = op.InPlace;
  rest = xs;
  parts = refl;
  fits_all = refl;
  valid = tt;
  next = e;
}
operation_found code.UiActivate k xs f are e =
    let n : TakenNumber (λ m. k (op.UiActivate m)) xs f = number_found (λ m. k (op.UiActivate m)) xs f are e in
    record {
      value = op.UiActivate n.value;
      rest = n.rest;
      parts = ap (λ a. 4 ∷ a) n.parts;
      fits_all = n.some;
      valid = n.small;
      next = n.next;
    }
operation_found code.UiDeactivate k xs f are e = record {
  value = op.UiDeactivate;
  rest = xs;
  parts = refl;
  fits_all = refl;
  valid = tt;
  next = e;
}
operation_found code.InPlaceDeactivate k xs f are e =
    record { value = op.InPlaceDeactivate; rest = xs; parts = refl; fits_all = refl; valid = tt; next = e }
operation_found code.OpenWindow k xs f are e = record {
  value = op.OpenWindow;
  rest = xs;
  parts = refl;
  fits_all = refl;
  valid = tt;
  next = e;
}
operation_found code.Edit k xs f are e =
    let b : TakenBlob 65536 (λ bs. k (op.Edit bs)) xs f = blob_found 65536 (λ bs. k (op.Edit bs)) xs f are e in
    record {
      value = op.Edit b.value;
      rest = b.rest;
      parts = ap (λ a. 8 ∷ a) b.parts;
      fits_all = le_passes (length b.value) 65536 b.short;
      valid = tt;
      next = b.next;
    }
operation_found code.Save k xs f are e =
    let n : TakenNumber (λ m. k (op.Save m)) xs f = number_found (λ m. k (op.Save m)) xs f are e in
    record {
      value = op.Save n.value;
      rest = n.rest;
      parts = ap (λ a. 9 ∷ a) n.parts;
      fits_all = n.some;
      valid = n.small;
      next = n.next;
    }
operation_found code.HandsOff k xs f are e = record {
  value = op.HandsOff;
  rest = xs;
  parts = refl;
  fits_all = refl;
  valid = tt;
  next = e;
}
operation_found code.SaveCompleted k xs f are e =
    let k2 : ℕ → ℕ → Reader = λ m b. some (λ storage. k (op.SaveCompleted m storage)) (flag_of b) in
    let n : TakenNumber (λ m. byte (k2 m)) xs f = number_found (λ m. byte (k2 m)) xs f are e in
    let b : TakenByte (k2 n.value) n.rest f = byte_found (k2 n.value) n.rest f n.rest_bytes n.next in
    let s : TakenSome (λ storage. k (op.SaveCompleted n.value storage)) (flag_of b.value) b.rest f =
    some_found (λ storage. k (op.SaveCompleted n.value storage)) (flag_of b.value) b.rest f b.next in
    record {
      value = op.SaveCompleted n.value s.value;
      rest = b.rest;
      parts = ap (λ a. 11 ∷ a) (n.parts ∙ ap (λ a. four_bytes n.value ++ a)
          (b.parts ∙ ap (λ m. m ∷ b.rest) (flag_found b.value s.value s.is))
          ∙ sym (append_assoc (four_bytes n.value) (flag s.value ∷ []) b.rest));
      fits_all = n.some;
      valid = n.small;
      next = s.next;
    }
operation_found code.SaveDropped k xs f are e =
    let n : TakenNumber (λ m. k (op.SaveDropped m)) xs f = number_found (λ m. k (op.SaveDropped m)) xs f are e in
    record {
      value = op.SaveDropped n.value;
      rest = n.rest;
      parts = ap (λ a. 12 ∷ a) n.parts;
      fits_all = n.some;
      valid = n.small;
      next = n.next;
    }
operation_found code.Close k xs f are e =
    let k2 : ℕ → Reader = λ b. some (λ option. k (op.Close option)) (option_of b) in
    let b : TakenByte k2 xs f = byte_found k2 xs f are e in
    let s : TakenSome (λ option. k (op.Close option)) (option_of b.value) b.rest f =
    some_found (λ option. k (op.Close option)) (option_of b.value) b.rest f b.next in
    record {
      value = op.Close s.value;
      rest = b.rest;
      parts = ap (λ a. 13 ∷ a) (b.parts ∙ ap (λ m. m ∷ b.rest) (option_found b.value s.value s.is));
      fits_all = refl;
      valid = tt;
      next = s.next;
    }

-- what follows the number of an operation, and the numbers of its code
abbrev pub code_in : Operation → OperationCode
code_in (op.InitNew class) = code.InitNew
code_in (op.Load class content) = code.Load
code_in op.InPlace = code.InPlace
code_in (op.UiActivate grant) = code.UiActivate
code_in op.UiDeactivate = code.UiDeactivate
code_in op.InPlaceDeactivate = code.InPlaceDeactivate
code_in op.OpenWindow = code.OpenWindow
code_in (op.Edit bs) = code.Edit
code_in (op.Save save) = code.Save
code_in op.HandsOff = code.HandsOff
code_in (op.SaveCompleted save storage) = code.SaveCompleted
code_in (op.SaveDropped save) = code.SaveDropped
code_in (op.Close option) = code.Close

abbrev pub operation_at : (Operation → Reader) → ℕ → Reader
operation_at k b = some (λ c. operation c k) (operation_code_of b)

pub operation_again : (k : Operation → Reader) (o : Operation) (rest : List ℕ) → operation_fits o ≡ true
    → IsOperation o → byte (operation_at k) (spelling.operation o ++ rest) ≡ k o rest
unfolding operation
operation_again k (op.InitNew class) rest fit valid = bytes_again 16 (λ c. k (op.InitNew c)) class rest valid
operation_again k (op.Load class content) rest fit valid =
    ap (bytes 16 (λ c. stored (λ s. k (op.Load c s)))) (append_assoc class (spelling.stored content) rest)
    ∙ bytes_again 16 (λ c. stored (λ s. k (op.Load c s))) class (spelling.stored content ++ rest) valid.0
    ∙ stored_again (λ s. k (op.Load class s)) content rest valid.1 fit
operation_again k op.InPlace rest fit valid = refl
operation_again k (op.UiActivate grant) rest fit valid = number_again (λ m. k (op.UiActivate m)) grant rest fit valid
operation_again k op.UiDeactivate rest fit valid = refl
operation_again k op.InPlaceDeactivate rest fit valid = refl
operation_again k op.OpenWindow rest fit valid = refl
operation_again k (op.Edit bs) rest fit valid = blob_again 65536 (λ b. k (op.Edit b)) bs rest
    (le_told (length bs) 65536 fit) (lit< tt)
operation_again k (op.Save save) rest fit valid = number_again (λ m. k (op.Save m)) save rest fit valid
operation_again k op.HandsOff rest fit valid = refl
operation_again k (op.SaveCompleted save storage) rest fit valid =
    let k2 : ℕ → ℕ → Reader = λ m b. some (λ s. k (op.SaveCompleted m s)) (flag_of b) in
    ap (number (λ m. byte (k2 m))) (append_assoc (four_bytes save) (flag storage ∷ []) rest)
    ∙ number_again (λ m. byte (k2 m)) save (flag storage ∷ rest) fit valid
    ∙ ap (λ o. some (λ s. k (op.SaveCompleted save s)) o rest) (flag_again storage)
operation_again k (op.SaveDropped save) rest fit valid = number_again (λ m. k (op.SaveDropped m)) save rest fit valid
operation_again k (op.Close option) rest fit valid = ap (λ o. some (λ c. k (op.Close c)) o rest) (option_again option)

-- ---- answers

pub text_again : (k : List ℕ → Reader) (t rest : List ℕ) → is_menu_text t ≡ true
    → text k (spelling.text t ++ rest) ≡ k t rest
text_again k t rest h =
    ap (λ b. cond b (bytes (length t) (texted k)) bad (t ++ rest))
    (first_of (nat_le (length t) 16) (list_all is_printable t) h)
    ∙ bytes_again (length t) (texted k) t rest refl
    ∙ ap (λ b. cond b (k t) bad rest) h

pub record TakenText (k : List ℕ → Reader) (xs : List ℕ) (f : Frame) : Type 0 where
  pub value : List ℕ
  pub rest : List ℕ
  pub parts : xs ≡ spelling.text value ++ rest
  pub valid : is_menu_text value ≡ true
  pub rest_bytes : IsBytes rest
  pub next : k value rest ≡ Some f

pub text_found : (k : List ℕ → Reader) (xs : List ℕ) (f : Frame) → IsBytes xs → text k xs ≡ Some f → TakenText k xs f
text_found k xs f are e =
    let b : TakenByte (text_of k) xs f = byte_found (text_of k) xs f are e in
    let h = tested (nat_le b.value 16) (bytes b.value (texted k)) b.rest f b.next in
    let t : Taken (texted k) b.value b.rest f = bytes_found b.value (texted k) b.rest f b.rest_bytes h.1 in
    let q = tested (is_menu_text t.front) (k t.front) t.rest f t.next in
    record {
      value = t.front;
      rest = t.rest;
      parts = b.parts ∙ ap (λ a. b.value ∷ a) t.parts ∙ ap (λ n. n ∷ (t.front ++ t.rest)) (sym t.len);
      valid = q.0;
      rest_bytes = t.rest_bytes;
      next = q.1;
    }

pub pair_bytes : (a b : ℕ) → a < 256 → b < 256 → IsBytes (a ∷ b ∷ [])
pair_bytes a b p q zero = p
pair_bytes a b p q (suc zero) = q
pair_bytes a b p q (suc (suc i)) = lit< tt

abbrev pub Small : List ℕ → Type 0
Small ns = AllByRecursion (λ n. n < 2 ^ 16) ns

pub widths_again : (ns : List ℕ) → length ns ≡ 4 → Small ns → widths_in (widths ns) ≡ ns
unfolding two_bytes
widths_again [] len small = absurd (omega arith)
widths_again (a ∷ []) len small = absurd (omega arith)
widths_again (a ∷ b ∷ []) len small = absurd (omega arith)
widths_again (a ∷ b ∷ c ∷ []) len small = absurd (omega arith)
widths_again (a ∷ b ∷ c ∷ d ∷ []) len small =
    λ i. width_in-two_bytes a small.0 i ∷ width_in-two_bytes b small.1.0 i ∷ width_in-two_bytes c small.1.1.0 i
    ∷ width_in-two_bytes d small.1.1.1.0 i ∷ []
widths_again (a ∷ b ∷ c ∷ d ∷ e ∷ ns) len small = absurd (omega arith)

pub length-widths : (ns : List ℕ) → length ns ≡ 4 → length (widths ns) ≡ 8
unfolding two_bytes
length-widths [] len = absurd (omega arith)
length-widths (a ∷ []) len = absurd (omega arith)
length-widths (a ∷ b ∷ []) len = absurd (omega arith)
length-widths (a ∷ b ∷ c ∷ []) len = absurd (omega arith)
length-widths (a ∷ b ∷ c ∷ d ∷ []) len = refl
length-widths (a ∷ b ∷ c ∷ d ∷ e ∷ ns) len = absurd (omega arith)

pub record IsSpelledWidths (bs : List ℕ) : Type 0 where
  pub spelled : widths (widths_in bs) ≡ bs
  pub small : Small (widths_in bs)

pub widths_found : (bs : List ℕ) → length bs ≡ 8 → IsBytes bs → IsSpelledWidths bs
widths_found [] len are = absurd (omega arith)
widths_found (a ∷ []) len are = absurd (omega arith)
widths_found (a ∷ b ∷ []) len are = absurd (omega arith)
widths_found (a ∷ b ∷ c ∷ []) len are = absurd (omega arith)
widths_found (a ∷ b ∷ c ∷ d ∷ []) len are = absurd (omega arith)
widths_found (a ∷ b ∷ c ∷ d ∷ e ∷ []) len are = absurd (omega arith)
widths_found (a ∷ b ∷ c ∷ d ∷ e ∷ f ∷ []) len are = absurd (omega arith)
widths_found (a ∷ b ∷ c ∷ d ∷ e ∷ f ∷ g ∷ []) len are = absurd (omega arith)
widths_found (a ∷ b ∷ c ∷ d ∷ e ∷ f ∷ g ∷ h ∷ []) len are =
    let p = pair_bytes a b (are 0) (are 1) in
    let q = pair_bytes c d (are 2) (are 3) in
    let r = pair_bytes e f (are 4) (are 5) in
    let s = pair_bytes g h (are 6) (are 7) in
    record {
      spelled = λ i. two_bytes-width_in (a ∷ b ∷ []) refl p i
          ++ (two_bytes-width_in (c ∷ d ∷ []) refl q i
          ++ (two_bytes-width_in (e ∷ f ∷ []) refl r i ++ (two_bytes-width_in (g ∷ h ∷ []) refl s i ++ [])));
      small = (
        width_in-below (a ∷ b ∷ []) p,
        (width_in-below (c ∷ d ∷ []) q, (width_in-below (e ∷ f ∷ []) r, (width_in-below (g ∷ h ∷ []) s, tt))),
      );
    }
widths_found (a ∷ b ∷ c ∷ d ∷ e ∷ f ∷ g ∷ h ∷ i ∷ bs) len are = absurd (omega arith)

abbrev pub menus_of : List ℕ → List ℕ → List ℕ → Menus
menus_of edit object help = record { edit = edit; object = object; help = help }

abbrev pub behind_help : (Answer → Reader) → List ℕ → List ℕ → List ℕ → List ℕ → Reader
behind_help k edit object help bs = k (ans.Tools (menus_of edit object help) (widths_in bs))

abbrev pub behind_object : (Answer → Reader) → List ℕ → List ℕ → List ℕ → Reader
behind_object k edit object help = bytes 8 (behind_help k edit object help)

abbrev pub behind_edit : (Answer → Reader) → List ℕ → List ℕ → Reader
behind_edit k edit object = text (behind_object k edit object)

abbrev pub behind_all : (Answer → Reader) → List ℕ → Reader
behind_all k edit = text (behind_edit k edit)

pub record TakenAnswer (c : AnswerCode) (k : Answer → Reader) (xs : List ℕ) (f : Frame) : Type 0 where
  pub value : Answer
  pub rest : List ℕ
  pub parts : answer_number c ∷ xs ≡ spelling.answer value ++ rest
  pub fits_all : answer_fits value ≡ true
  pub valid : IsAnswer value
  pub next : k value rest ≡ Some f

pub is_true : (b : Bool) → b ≡ true → IsTrue b
is_true b h = h

pub told_true : (b : Bool) → IsTrue b → b ≡ true
told_true b h = h

pub regrouped : (a b c d e : List ℕ) → a ++ (b ++ (c ++ (d ++ e))) ≡ (a ++ (b ++ (c ++ d))) ++ e
regrouped a b c d e =
    sym (append_assoc a (b ++ (c ++ d)) e ∙ ap (λ x. a ++ x)
    (append_assoc b (c ++ d) e ∙ ap (λ x. b ++ x) (append_assoc c d e)))

pub tools_found : (k : Answer → Reader) (xs : List ℕ) (f : Frame) → IsBytes xs → tools k xs ≡ Some f
    → TakenAnswer said.Tools k xs f
unfolding tools
tools_found k xs f are e =
    let t1 : TakenText (behind_all k) xs f = text_found (behind_all k) xs f are e in
    let t2 : TakenText (behind_edit k t1.value) t1.rest f = text_found (behind_edit k t1.value) t1.rest f
    t1.rest_bytes t1.next in
    let t3 : TakenText (behind_object k t1.value t2.value) t2.rest f =
    text_found (behind_object k t1.value t2.value) t2.rest f t2.rest_bytes t2.next in
    let b : Taken (behind_help k t1.value t2.value t3.value) 8 t3.rest f =
    bytes_found 8 (behind_help k t1.value t2.value t3.value) t3.rest f t3.rest_bytes t3.next in
    let w : IsSpelledWidths b.front = widths_found b.front b.len b.front_bytes in
    record {
      value = ans.Tools (menus_of t1.value t2.value t3.value) (widths_in b.front);
      rest = b.rest;
      parts = ap (λ a. 3 ∷ a) (t1.parts ∙ ap (λ a. spelling.text t1.value ++ a)
          (t2.parts ∙ ap (λ a. spelling.text t2.value ++ a)
          (t3.parts ∙ ap (λ a. spelling.text t3.value ++ a) (b.parts ∙ ap (λ a. a ++ b.rest) (sym w.spelled))))
          ∙ regrouped (spelling.text t1.value) (spelling.text t2.value) (spelling.text t3.value)
          (widths (widths_in b.front)) b.rest);
      fits_all = refl;
      valid = (is_true _ t1.valid, is_true _ t2.valid, is_true _ t3.valid, refl, w.small);
      next = b.next;
    }

pub tools_again : (k : Answer → Reader) (m : Menus) (border rest : List ℕ) → IsAnswer (ans.Tools m border)
    → tools k ((spelling.text m.edit ++ (spelling.text m.object ++ (spelling.text m.help ++ widths border)))
    ++ rest) ≡ k (ans.Tools m border) rest
unfolding tools
tools_again k m border rest valid =
    ap (text (behind_all k))
    (sym (regrouped (spelling.text m.edit) (spelling.text m.object) (spelling.text m.help) (widths border)
    rest))
    ∙ text_again (behind_all k) m.edit (spelling.text m.object ++ (spelling.text m.help ++ (widths border ++ rest)))
    (told_true _ valid.0)
    ∙ text_again (behind_edit k m.edit) m.object (spelling.text m.help ++ (widths border ++ rest)) (told_true _ valid.1)
    ∙ text_again (behind_object k m.edit m.object) m.help (widths border ++ rest) (told_true _ valid.2)
    ∙ bytes_again 8 (behind_help k m.edit m.object m.help) (widths border) rest (length-widths border valid.3)
    ∙ ap (λ w. k (ans.Tools m w) rest) (widths_again border valid.3 valid.4)

pub answer_found : (c : AnswerCode) (k : Answer → Reader) (xs : List ℕ) (f : Frame) → IsBytes xs
    → answer c k xs ≡ Some f → TakenAnswer c k xs f
unfolding answer
answer_found said.Done k xs f are e = record {
  value = ans.Done;
  rest = xs;
  parts = refl;
  fits_all = refl;
  valid = tt;
  next = e;
}
answer_found said.Refused k xs f are e =
    let k2 : ℕ → Reader = λ b. some (λ r. k (ans.Refused r)) (refusal_of b) in
    let b : TakenByte k2 xs f = byte_found k2 xs f are e in
    let s : TakenSome (λ r. k (ans.Refused r)) (refusal_of b.value) b.rest f =
    some_found (λ r. k (ans.Refused r)) (refusal_of b.value) b.rest f b.next in
    record {
      value = ans.Refused s.value;
      rest = b.rest;
      parts = ap (λ a. 1 ∷ a) (b.parts ∙ ap (λ m. m ∷ b.rest) (refusal_found b.value s.value s.is));
      fits_all = refl;
      valid = tt;
      next = s.next;
    }
answer_found said.Content k xs f are e =
    let s : TakenContent (λ content. k (ans.Content content)) xs f =
    stored_found (λ content. k (ans.Content content)) xs f are e in
    record {
      value = ans.Content s.value;
      rest = s.rest;
      parts = ap (λ a. 2 ∷ a) s.parts;
      fits_all = s.within;
      valid = s.is_content;
      next = s.next;
    }
answer_found said.Tools k xs f are e = tools_found k xs f are e

abbrev pub answer_at : (Answer → Reader) → ℕ → Reader
answer_at k b = some (λ c. answer c k) (answer_code_of b)

pub answer_again : (k : Answer → Reader) (a : Answer) (rest : List ℕ) → answer_fits a ≡ true → IsAnswer a
    → byte (answer_at k) (spelling.answer a ++ rest) ≡ k a rest
unfolding answer
answer_again k ans.Done rest fit valid = refl
answer_again k (ans.Refused r) rest fit valid = ap (λ o. some (λ s. k (ans.Refused s)) o rest) (refusal_again r)
answer_again k (ans.Content content) rest fit valid = stored_again (λ s. k (ans.Content s)) content rest valid fit
answer_again k (ans.Tools m border) rest fit valid = tools_again k m border rest valid
