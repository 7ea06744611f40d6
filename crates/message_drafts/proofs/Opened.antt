-- The first fields of a body.
use Rattle.std.proofs.Common.{◌≡◌, ℕ, zero, suc, ◌-◌, ◌+◌, ◌<◌, ◌≤◌, Bool, true, false, cond, ◌&&◌, List, [], ◌∷◌, ◌++◌}
use Rattle.std.proofs.Common.{length, take, drop, Option, Some, None, refl, sym, ap, ◌∙◌, append_assoc, arith, rules}
use Rattle.std.proofs.Common.{nat_le, nat_lt, inl, inr}
use Rattle.std.proofs.lemmas.Bool.{cases_lt}
use Rattle.std.proofs.lemmas.List.{length-append, length-drop}
use Rattle.object_state.specs.MenuTexts.{is_menu_text}
use Rattle.message_values.specs.declared.operation.Operation.{Operation}
use Rattle.message_values.specs.declared.operation.Operation.TheVariants as op
use Rattle.message_values.specs.declared.answer.Answer.{Answer}
use Rattle.message_values.specs.declared.answer.Answer.TheVariants as ans
use Rattle.message_values.specs.declared.message.Said.TheVariants.{Call, Reply}
use Rattle.message_model.specs.declared.frame.Frame.{Frame}
use Rattle.message_model.specs.declared.codes.Kind.{Kind}
use Rattle.message_model.specs.declared.codes.Kind.TheVariants as kind
use Rattle.message_model.specs.declared.codes.OperationCode.{OperationCode}
use Rattle.message_model.specs.declared.codes.OperationCode.TheVariants as code
use Rattle.message_model.specs.declared.codes.AnswerCode.{AnswerCode}
use Rattle.message_model.specs.declared.codes.AnswerCode.TheVariants as said
use Rattle.message_model.specs.Codes.{answer_code_of, operation_code_of, refusal_of}
use Rattle.message_model.specs.Frames.{number_in}
use Rattle.message_model.specs.Reading.{Reader, answer, ask_in, bad, byte, bytes, call_in, flag_of, more, nonzero}
use Rattle.message_model.specs.Reading.{number, operation, option_of, read_body, reply_in, some, text, text_of, texted}
use Rattle.message_model.specs.Reading.{tools, whole, write_in}
use Rattle.message_model.proofs.Fields.{bytes_again, le_passes}
use Rattle.message_model.proofs.Bodies.{heard}
use Rattle.message_drafts.specs.declared.draft.Draft.{Draft}
use Rattle.message_drafts.specs.declared.draft.Opening.{Opening}
use Rattle.message_drafts.specs.declared.draft.Opening.TheVariants as opening
use Rattle.message_drafts.specs.Drafts.{Advances, last, resume}
use Rattle.message_drafts.specs.Opens.{Comes, Opens, OpensLoad, OpensSaid, form, reads, room_of}
use Rattle.message_drafts.proofs.Plans.{bytes_long, bytes_short}

-- ---- numbers

nonzero_some : (k : ℕ → Reader) (n : ℕ) (ys : List ℕ) → 0 < n → nonzero k n ys ≡ k n ys
nonzero_some k n ys lt = let b : nat_lt 0 n ≡ true = search rules in ap (λ (c : Bool). cond c (k n) bad ys) b

pub number_on : (k : ℕ → Reader) (a rest ys : List ℕ) (n : ℕ) → length a ≡ 4 → number_in a ≡ n → 0 < n
    → number k ((a ++ rest) ++ ys) ≡ k n (rest ++ ys)
unfolding number
number_on k a rest ys n four is lt =
    ap (bytes 4 (λ bs. nonzero k (number_in bs))) (append_assoc a rest ys)
    ∙ bytes_again 4 (λ bs. nonzero k (number_in bs)) a (rest ++ ys) four
    ∙ ap (λ (m : ℕ). nonzero k m (rest ++ ys)) is
    ∙ nonzero_some k n (rest ++ ys) lt

pub number_zero : (k : ℕ → Reader) (a rest ys : List ℕ) (n : ℕ) → length a ≡ 4 → number_in a ≡ n → n ≡ 0
    → number k ((a ++ rest) ++ ys) ≡ None
unfolding number
number_zero k a rest ys n four is none =
    ap (bytes 4 (λ bs. nonzero k (number_in bs))) (append_assoc a rest ys)
    ∙ bytes_again 4 (λ bs. nonzero k (number_in bs)) a (rest ++ ys) four
    ∙ ap (λ (m : ℕ). nonzero k m (rest ++ ys)) (is ∙ none)

pub bytes_on : (n : ℕ) (k : List ℕ → Reader) (a rest ys : List ℕ) → length a ≡ n
    → bytes n k ((a ++ rest) ++ ys) ≡ k a (rest ++ ys)
bytes_on n k a rest ys len = ap (bytes n k) (append_assoc a rest ys) ∙ bytes_again n k a (rest ++ ys) len

-- ---- readers that take at most so many bytes

abbrev pub Short : ℕ → Reader → Type 0
Short n r = (zs : List ℕ) → n < length zs → r zs ≡ None

short_whole : (f : Frame) → Short 0 (whole f)
short_whole f [] lt = absurd (omega arith)
short_whole f (b ∷ zs) lt = refl

short_less : (n m : ℕ) (r : Reader) → n ≤ m → Short n r → Short m r
short_less n m r le h zs lt = h zs (omega arith)

short_bytes : (n m : ℕ) (k : List ℕ → Reader) → ((a : List ℕ) → Short m (k a)) → Short (n + m) (bytes n k)
short_bytes n m k h zs lt =
    elim (cases_lt (length zs) n) [
      | inl short ↦ bytes_short n k zs short
      | inr le ↦ bytes_long n k zs le ∙ h (take n zs) (drop n zs) (omega (arith, length-drop n zs))
    ]

short_byte : (m : ℕ) (k : ℕ → Reader) → ((b : ℕ) → Short m (k b)) → Short (1 + m) (byte k)
short_byte m k h [] lt = refl
short_byte m k h (b ∷ zs) lt = h b zs (omega arith)

short_bad : (m : ℕ) → Short m bad
short_bad m zs lt = refl

short_cond : (m : ℕ) (b : Bool) (r : Reader) → Short m r → Short m (cond b r bad)
short_cond m true r h = h
short_cond m false r h = short_bad m

short_number : (m : ℕ) (k : ℕ → Reader) → ((n : ℕ) → Short m (k n)) → Short (4 + m) (number k)
unfolding number
short_number m k h = short_bytes 4 m (λ bs. nonzero k (number_in bs))
    (λ a. short_cond m (nat_lt 0 (number_in a)) (k (number_in a)) (h (number_in a)))

short_some : {A : Type 0} (m : ℕ) (k : A → Reader) (o : Option A) → ((a : A) → Short m (k a)) → Short m (some k o)
short_some m k None h = short_bad m
short_some m k (Some a) h = h a

short_text_of : (m : ℕ) (k : List ℕ → Reader) (n : ℕ) → ((t : List ℕ) → Short m (k t)) → Short (16 + m) (text_of k n)
short_text_of m k n h zs lt =
    elim (cases_lt 16 n) [
      | inl above ↦ (let b : nat_le n 16 ≡ false = search rules in
          ap (λ (c : Bool). cond c (bytes n (texted k)) bad zs) b)
      | inr le ↦ short_cond (n + m) (nat_le n 16) (bytes n (texted k))
          (short_bytes n m (texted k) (λ a. short_cond m (is_menu_text a) (k a) (h a))) zs (omega arith)
    ]

short_text : (m : ℕ) (k : List ℕ → Reader) → ((t : List ℕ) → Short m (k t)) → Short (17 + m) (text k)
short_text m k h zs lt = short_byte (16 + m) (text_of k) (λ n. short_text_of m k n h) zs (omega arith)

-- ---- operations and answers without a blob

pub no_operation : (c : OperationCode) (g : Operation → Frame) → (c ≡ code.Load → ⊥) → (c ≡ code.Edit → ⊥)
    → Short 59 (operation c (λ o. whole (g o)))
unfolding operation
no_operation code.InitNew g p q = short_less 16 59 _ (omega arith)
    (short_bytes 16 0 (λ class. whole (g (op.InitNew class))) (λ a. short_whole (g (op.InitNew a))))
no_operation code.Load g p q = absurd (p refl)
no_operation code.InPlace g p q = short_less 0 59 _ (omega arith) (short_whole (g op.InPlace))
no_operation code.UiActivate g p q = short_less 4 59 _ (omega arith)
    (short_number 0 (λ n. whole (g (op.UiActivate n))) (λ n. short_whole (g (op.UiActivate n))))
no_operation code.UiDeactivate g p q = short_less 0 59 _ (omega arith) (short_whole (g op.UiDeactivate))
no_operation code.InPlaceDeactivate g p q = short_less 0 59 _ (omega arith) (short_whole (g op.InPlaceDeactivate))
no_operation code.OpenWindow g p q = short_less 0 59 _ (omega arith) (short_whole (g op.OpenWindow))
no_operation code.Edit g p q = absurd (q refl)
no_operation code.Save g p q = short_less 4 59 _ (omega arith)
    (short_number 0 (λ n. whole (g (op.Save n))) (λ n. short_whole (g (op.Save n))))
no_operation code.HandsOff g p q = short_less 0 59 _ (omega arith) (short_whole (g op.HandsOff))
no_operation code.SaveCompleted g p q =
    short_less 5 59 _ (omega arith)
    (short_number 1 (λ n. byte (λ b. some (λ s. whole (g (op.SaveCompleted n s))) (flag_of b)))
    (λ n. short_byte 0 (λ b. some (λ s. whole (g (op.SaveCompleted n s))) (flag_of b))
    (λ b. short_some 0 (λ s. whole (g (op.SaveCompleted n s))) (flag_of b)
    (λ s. short_whole (g (op.SaveCompleted n s))))))
no_operation code.SaveDropped g p q = short_less 4 59 _ (omega arith)
    (short_number 0 (λ n. whole (g (op.SaveDropped n))) (λ n. short_whole (g (op.SaveDropped n))))
no_operation code.Close g p q =
    short_less 1 59 _ (omega arith) (short_byte 0 (λ b. some (λ o. whole (g (op.Close o))) (option_of b))
    (λ b. short_some 0 (λ o. whole (g (op.Close o))) (option_of b) (λ o. short_whole (g (op.Close o)))))

pub no_answer : (c : AnswerCode) (g : Answer → Frame) → (c ≡ said.Content → ⊥) → Short 59 (answer c (λ a. whole (g a)))
unfolding answer tools
no_answer said.Done g p = short_less 0 59 _ (omega arith) (short_whole (g ans.Done))
no_answer said.Refused g p =
    short_less 1 59 _ (omega arith) (short_byte 0 (λ b. some (λ r. whole (g (ans.Refused r))) (refusal_of b))
    (λ b. short_some 0 (λ r. whole (g (ans.Refused r))) (refusal_of b) (λ r. short_whole (g (ans.Refused r)))))
no_answer said.Content g p = absurd (p refl)
no_answer said.Tools g p =
    short_text 42 _
    (λ edit. short_text 25 _ (λ object. short_text 8 _ (λ help. short_bytes 8 0 _ (λ bs. short_whole _))))

-- ---- kinds without a blob

pub no_ask : (zs : List ℕ) → 76 < length zs → read_body kind.Ask zs ≡ None
unfolding read_body
no_ask zs lt = short_number 12 _
    (λ session. short_number 8 _ (λ inc. short_number 4 _ (λ act. short_number 0 _ (λ g. short_whole _)))) zs
    (omega arith)

pub no_turn : (zs : List ℕ) → 76 < length zs → read_body kind.Turn zs ≡ None
unfolding read_body
no_turn [] lt = absurd (omega arith)
no_turn (b ∷ zs) lt = refl

-- ---- a call or a reply, by its operation or answer

abbrev call_code : ℕ → ℕ → ℕ → ℕ → OperationCode → Reader
call_code session inc act n c = operation c (λ o. whole (heard session (Call inc act n o)))

abbrev call_by : ℕ → ℕ → ℕ → ℕ → ℕ → Reader
call_by session inc act n b = some (call_code session inc act n) (operation_code_of b)

pub call_is : (session inc act n b : ℕ) (c : OperationCode) (xs r1 r2 r3 r4 : List ℕ)
    → ((k : ℕ → Reader) (ys : List ℕ) → number k (xs ++ ys) ≡ k inc (r1 ++ ys))
    → ((k : ℕ → Reader) (ys : List ℕ) → number k (r1 ++ ys) ≡ k act (r2 ++ ys))
    → ((k : ℕ → Reader) (ys : List ℕ) → number k (r2 ++ ys) ≡ k n (r3 ++ ys))
    → ((k : ℕ → Reader) (ys : List ℕ) → byte k (r3 ++ ys) ≡ k b (r4 ++ ys)) → operation_code_of b ≡ Some c
    → (ys : List ℕ) → call_in session (xs ++ ys) ≡ operation c (λ o. whole (heard session (Call inc act n o)))
    (r4 ++ ys)
call_is session inc act n b c xs r1 r2 r3 r4 p1 p2 p3 p4 e ys =
    p1 (λ i. number (λ a. number (λ m. byte (call_by session i a m)))) ys
    ∙ p2 (λ a. number (λ m. byte (call_by session inc a m))) ys
    ∙ p3 (λ m. byte (call_by session inc act m)) ys
    ∙ p4 (call_by session inc act n) ys
    ∙ ap (λ o. some (call_code session inc act n) o (r4 ++ ys)) e

abbrev reply_code : ℕ → ℕ → ℕ → ℕ → AnswerCode → Reader
reply_code session inc act n c = answer c (λ a. whole (heard session (Reply inc act n a)))

abbrev reply_by : ℕ → ℕ → ℕ → ℕ → ℕ → Reader
reply_by session inc act n b = some (reply_code session inc act n) (answer_code_of b)

pub reply_is : (session inc act n b : ℕ) (c : AnswerCode) (xs r1 r2 r3 r4 : List ℕ)
    → ((k : ℕ → Reader) (ys : List ℕ) → number k (xs ++ ys) ≡ k inc (r1 ++ ys))
    → ((k : ℕ → Reader) (ys : List ℕ) → number k (r1 ++ ys) ≡ k act (r2 ++ ys))
    → ((k : ℕ → Reader) (ys : List ℕ) → number k (r2 ++ ys) ≡ k n (r3 ++ ys))
    → ((k : ℕ → Reader) (ys : List ℕ) → byte k (r3 ++ ys) ≡ k b (r4 ++ ys)) → answer_code_of b ≡ Some c
    → (ys : List ℕ) → reply_in session (xs ++ ys) ≡ answer c (λ a. whole (heard session (Reply inc act n a))) (r4 ++ ys)
reply_is session inc act n b c xs r1 r2 r3 r4 p1 p2 p3 p4 e ys =
    p1 (λ i. number (λ a. number (λ m. byte (reply_by session i a m)))) ys
    ∙ p2 (λ a. number (λ m. byte (reply_by session inc a m))) ys
    ∙ p3 (λ m. byte (reply_by session inc act m)) ys
    ∙ p4 (reply_by session inc act n) ys
    ∙ ap (λ o. some (reply_code session inc act n) o (r4 ++ ys)) e

-- a load, whose class and count come
pub load_opens : {X : Type 0} (o : X → Opening) (left : X → ℕ) (rest : X → List ℕ) (r : Option X)
    (session inc act n : ℕ) (xs behind : List ℕ)
    → ((ys : List ℕ) → call_in session (xs ++ ys) ≡ operation code.Load
    (λ p. whole (heard session (Call inc act n p))) (behind ++ ys))
    → OpensLoad o left rest r session inc act n behind → OpensSaid o left rest r (call_in session) xs
load_opens o left rest (Some x) session inc act n xs behind is opens = λ ys. is ys ∙ opens ys
load_opens o left rest None session inc act n xs behind is opens = λ ys lt. is ys ∙ opens ys

-- an edit
pub edit_opens : (session inc act n : ℕ) (xs : List ℕ)
    → operation code.Edit (λ p. whole (heard session (Call inc act n p))) xs
    ≡ more 0 [] 65536 (last (opening.Edit session inc act n)) xs
unfolding operation more
edit_opens session inc act n xs = refl

-- ---- a session, and what is said behind it

-- no frame where no session comes
pub no_session : (k : Kind) (xs : List ℕ) → ((r : ℕ → Reader) (ys : List ℕ) → number r (xs ++ ys) ≡ None)
    → (ys : List ℕ) → 76 < length (xs ++ ys) → read_body k (xs ++ ys) ≡ None
unfolding read_body
no_session kind.Call xs none ys lt = none call_in ys
no_session kind.Reply xs none ys lt = none reply_in ys
no_session kind.Write xs none ys lt = none write_in ys
no_session kind.Ask xs none ys lt = none ask_in ys
no_session kind.Turn xs none ys lt = no_turn (xs ++ ys) lt

pub call_said : (zs : List ℕ) → read_body kind.Call zs ≡ number call_in zs
unfolding read_body
call_said zs = refl

pub reply_said : (zs : List ℕ) → read_body kind.Reply zs ≡ number reply_in zs
unfolding read_body
reply_said zs = refl

pub write_said : (zs : List ℕ) → read_body kind.Write zs ≡ number write_in zs
unfolding read_body
write_said zs = refl

pub said_opens : {X : Type 0} (o : X → Opening) (left : X → ℕ) (rest : X → List ℕ) (r : Option X) (kind : Kind)
    (said_in : ℕ → Reader) (session : ℕ) (xs behind : List ℕ)
    → ((zs : List ℕ) → read_body kind zs ≡ number said_in zs)
    → ((k : ℕ → Reader) (ys : List ℕ) → number k (xs ++ ys) ≡ k session (behind ++ ys))
    → length behind + 4 ≡ length xs
    → OpensSaid o left rest r (said_in session) behind → Opens o left rest r kind xs
said_opens o left rest (Some x) kind said_in session xs behind is first shorter opens = λ ys. is (xs ++ ys)
    ∙ first said_in ys ∙ opens ys
said_opens o left rest None kind said_in session xs behind is first shorter opens =
    λ ys lt. is (xs ++ ys) ∙ first said_in ys
    ∙ opens ys (omega (arith, lt, shorter, length-append xs ys, length-append behind ys))

-- ---- a body whose first fields came

pub comes_bad : (kind : Kind) (len : ℕ) (front : List ℕ) (d : Draft) → 76 < len → length front ≤ len
    → ((ys : List ℕ) → 76 < length (front ++ ys) → read_body kind (front ++ ys) ≡ None)
    → d.plan.to_come ≡ len - length front → ((ys : List ℕ) → resume d ys ≡ None) → Comes kind len front (form d)
unfolding resume reads
comes_bad kind len front d long within none to_come bad = record {
  count = omega (arith, to_come);
  same = λ ys size. none ys (omega (arith, to_come, size, length-append front ys)) ∙ sym (bad ys);
}

pub comes_opened : (kind : Kind) (len : ℕ) (front rest : List ℕ) (o : Opening) (left : ℕ) (d e : Draft)
    → length rest ≤ length front → length front ≤ len
    → ((ys : List ℕ) → read_body kind (front ++ ys) ≡ more left [] (room_of o) (last o) (rest ++ ys))
    → d.plan.to_come ≡ len - (length front - length rest)
    → ((ys : List ℕ) → resume d ys ≡ more left [] (room_of o) (last o) ys)
    → Advances d e rest → Comes kind len front (form e)
unfolding resume reads
comes_opened kind len front rest o left d e shorter within opens to_come begun goes =
    let count : d.plan.to_come ≡ length rest + e.plan.to_come = goes.count in
    record {
      count = omega (arith, to_come, count);
      same = λ ys size. opens ys ∙ sym (begun (rest ++ ys)) ∙ goes.same ys size;
    }
