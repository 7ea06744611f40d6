-- Bodies: what was spelled is read, and what is read was spelled.
use Rattle.std.proofs.Common.{◌≡◌, ◌<◌, ◌^◌, ℕ, true, ◌&&◌, List, [], ◌∷◌, ◌++◌, Some, refl, sym, ap, subst, ◌∙◌}
use Rattle.std.proofs.Common.{nat_lt}
use Rattle.std.proofs.lemmas.List.{append-nil}
use Rattle.tree_streams.specs.Limits.{is_within}
use Rattle.tree_streams.specs.declared.stored.Stored.{Stored}
use Rattle.message_values.specs.declared.operation.Operation.{Operation}
use Rattle.message_values.specs.declared.answer.Answer.{Answer}
use Rattle.message_values.specs.declared.message.Said.{Said}
use Rattle.message_values.specs.declared.message.Said.TheVariants.{Call, Reply, Write, Ask}
use Rattle.message_model.specs.declared.frame.Frame.{Frame}
use Rattle.message_model.specs.declared.frame.Frame.TheVariants.{Message, Turn}
use Rattle.message_model.specs.declared.codes.Kind.{Kind}
use Rattle.message_model.specs.declared.codes.Kind.TheVariants as kind
use Rattle.message_model.specs.Codes.{kind_of, kind_number, operation_code_of, answer_code_of}
use Rattle.message_model.specs.Spelling as spelling
use Rattle.message_model.specs.Spelling.{four_bytes}
use Rattle.message_model.specs.Frames.{operation_fits, answer_fits, said_fits, IsSaid, IsFrame}
use Rattle.message_model.specs.Reading.{Reader, whole, byte, number, stored, operation, answer, call_in, reply_in}
use Rattle.message_model.specs.Reading.{write_in, ask_in, read_body}
use Rattle.message_model.proofs.Fields.{both, first_of, second_of, some_is, IsBytes, TakenByte, byte_found, whole_found}
use Rattle.message_model.proofs.Fields.{TakenNumber, number_again, number_found}
use Rattle.message_model.proofs.Contents.{stored_again, stored_found, TakenContent}
use Rattle.message_model.proofs.Operations.{operation_code_found, answer_code_found, TakenSome, some_found}
use Rattle.message_model.proofs.Operations.{TakenOperation, operation_found, operation_at, operation_again, TakenAnswer}
use Rattle.message_model.proofs.Operations.{answer_found, answer_at, answer_again}

-- ---- bodies

pub record IsRead (k : Kind) (xs : List ℕ) (f : Frame) : Type 0 where
  pub body_is : xs ≡ spelling.body f
  pub kind_is : spelling.kind f ≡ kind_number k
  pub frame : IsFrame f

-- a frame's kind
abbrev pub said_kind_in : Said → Kind
said_kind_in (Call inc act n o) = kind.Call
said_kind_in (Reply inc act n a) = kind.Reply
said_kind_in (Write inc act s w content) = kind.Write
said_kind_in (Ask inc act g) = kind.Ask

abbrev pub kind_in : Frame → Kind
kind_in (Message m) = said_kind_in m.said
kind_in Turn = kind.Turn

said_kind_in-number : (x : Said) → spelling.said_kind x ≡ kind_number (said_kind_in x)
said_kind_in-number (Call inc act n o) = refl
said_kind_in-number (Reply inc act n a) = refl
said_kind_in-number (Write inc act s w content) = refl
said_kind_in-number (Ask inc act g) = refl

pub kind_in-number : (f : Frame) → spelling.kind f ≡ kind_number (kind_in f)
kind_in-number (Message m) = said_kind_in-number m.said
kind_in-number Turn = refl

pub kind_again : (k : Kind) → kind_of (kind_number k) ≡ Some k
kind_again kind.Call = refl
kind_again kind.Reply = refl
kind_again kind.Write = refl
kind_again kind.Ask = refl
kind_again kind.Turn = refl

pub same_kind : (j k : Kind) → kind_number j ≡ kind_number k → j ≡ k
same_kind j k e = some_is j k (sym (kind_again j) ∙ ap kind_of e ∙ kind_again k)

-- a message as a frame
abbrev pub heard : ℕ → Said → Frame
heard session x = Message (record { session = session; said = x })

said_again : (session : ℕ) (x : Said) → nat_lt 0 session ≡ true → session < 2 ^ 32 → said_fits x ≡ true → IsSaid x
    → read_body (said_kind_in x) (four_bytes session ++ spelling.said_body x) ≡ Some (heard session x)
unfolding read_body
said_again session (Call inc act n o) some small fit valid =
    let k3 : ℕ → ℕ → ℕ → Operation → Reader = λ a b c d. whole (heard session (Call a b c d)) in
    let r1 = second_of (nat_lt 0 inc) (nat_lt 0 act && (nat_lt 0 n && operation_fits o)) fit in
    let r2 = second_of (nat_lt 0 act) (nat_lt 0 n && operation_fits o) r1 in
    number_again call_in session (spelling.said_body (Call inc act n o)) some small
    ∙ number_again (λ a. number (λ b. number (λ c. byte (operation_at (k3 a b c))))) inc
    (four_bytes act ++ (four_bytes n ++ spelling.operation o)) (first_of (nat_lt 0 inc) _ fit) valid.0
    ∙ number_again (λ b. number (λ c. byte (operation_at (k3 inc b c)))) act (four_bytes n ++ spelling.operation o)
    (first_of (nat_lt 0 act) _ r1) valid.1
    ∙ number_again (λ c. byte (operation_at (k3 inc act c))) n (spelling.operation o) (first_of (nat_lt 0 n) _ r2)
    valid.2
    ∙ ap (byte (operation_at (k3 inc act n))) (sym (append-nil (spelling.operation o)))
    ∙ operation_again (k3 inc act n) o [] (second_of (nat_lt 0 n) _ r2) valid.3
said_again session (Reply inc act n a) some small fit valid =
    let k3 : ℕ → ℕ → ℕ → Answer → Reader = λ x y z d. whole (heard session (Reply x y z d)) in
    let r1 = second_of (nat_lt 0 inc) (nat_lt 0 act && (nat_lt 0 n && answer_fits a)) fit in
    let r2 = second_of (nat_lt 0 act) (nat_lt 0 n && answer_fits a) r1 in
    number_again reply_in session (spelling.said_body (Reply inc act n a)) some small
    ∙ number_again (λ x. number (λ y. number (λ z. byte (answer_at (k3 x y z))))) inc
    (four_bytes act ++ (four_bytes n ++ spelling.answer a)) (first_of (nat_lt 0 inc) _ fit) valid.0
    ∙ number_again (λ y. number (λ z. byte (answer_at (k3 inc y z)))) act (four_bytes n ++ spelling.answer a)
    (first_of (nat_lt 0 act) _ r1) valid.1
    ∙ number_again (λ z. byte (answer_at (k3 inc act z))) n (spelling.answer a) (first_of (nat_lt 0 n) _ r2) valid.2
    ∙ ap (byte (answer_at (k3 inc act n))) (sym (append-nil (spelling.answer a)))
    ∙ answer_again (k3 inc act n) a [] (second_of (nat_lt 0 n) _ r2) valid.3
said_again session (Write inc act s w content) some small fit valid =
    let k4 : ℕ → ℕ → ℕ → ℕ → Stored → Reader = λ a b c d x. whole (heard session (Write a b c d x)) in
    let r1 = second_of (nat_lt 0 inc) (nat_lt 0 act && (nat_lt 0 s && (nat_lt 0 w && is_within content))) fit in
    let r2 = second_of (nat_lt 0 act) (nat_lt 0 s && (nat_lt 0 w && is_within content)) r1 in
    let r3 = second_of (nat_lt 0 s) (nat_lt 0 w && is_within content) r2 in
    number_again write_in session (spelling.said_body (Write inc act s w content)) some small
    ∙ number_again (λ a. number (λ b. number (λ c. number (λ d. stored (k4 a b c d))))) inc
    (four_bytes act ++ (four_bytes s ++ (four_bytes w ++ spelling.stored content)))
    (first_of (nat_lt 0 inc) _ fit) valid.0
    ∙ number_again (λ b. number (λ c. number (λ d. stored (k4 inc b c d)))) act
    (four_bytes s ++ (four_bytes w ++ spelling.stored content)) (first_of (nat_lt 0 act) _ r1) valid.1
    ∙ number_again (λ c. number (λ d. stored (k4 inc act c d))) s (four_bytes w ++ spelling.stored content)
    (first_of (nat_lt 0 s) _ r2) valid.2
    ∙ number_again (λ d. stored (k4 inc act s d)) w (spelling.stored content) (first_of (nat_lt 0 w) _ r3) valid.3
    ∙ ap (stored (k4 inc act s w)) (sym (append-nil (spelling.stored content)))
    ∙ stored_again (k4 inc act s w) content [] valid.4 (second_of (nat_lt 0 w) _ r3)
said_again session (Ask inc act g) some small fit valid =
    let k3 : ℕ → ℕ → ℕ → Reader = λ a b c. whole (heard session (Ask a b c)) in
    let r1 = second_of (nat_lt 0 inc) (nat_lt 0 act && nat_lt 0 g) fit in
    number_again ask_in session (spelling.said_body (Ask inc act g)) some small
    ∙ number_again (λ a. number (λ b. number (k3 a b))) inc (four_bytes act ++ four_bytes g)
    (first_of (nat_lt 0 inc) _ fit) valid.0
    ∙ number_again (λ b. number (k3 inc b)) act (four_bytes g) (first_of (nat_lt 0 act) _ r1) valid.1
    ∙ ap (number (k3 inc act)) (sym (append-nil (four_bytes g)))
    ∙ number_again (k3 inc act) g [] (second_of (nat_lt 0 act) _ r1) valid.2

pub body_again : (f : Frame) → IsFrame f → read_body (kind_in f) (spelling.body f) ≡ Some f
unfolding read_body
body_again (Message m) h = said_again m.session m.said (first_of (nat_lt 0 m.session) (said_fits m.said) h.fits_all)
    h.value.0 (second_of (nat_lt 0 m.session) (said_fits m.said) h.fits_all) h.value.1
body_again Turn h = refl

three : (a b c d : List ℕ) → d ≡ [] → a ++ (b ++ (c ++ d)) ≡ a ++ (b ++ c)
three a b c d e = ap (λ x. a ++ (b ++ (c ++ x))) e ∙ ap (λ x. a ++ (b ++ x)) (append-nil c)

read_call : (xs : List ℕ) (f : Frame) → IsBytes xs → read_body kind.Call xs ≡ Some f → IsRead kind.Call xs f
unfolding read_body
read_call xs f are e =
    let t0 : TakenNumber call_in xs f = number_found call_in xs f are e in
    let session : ℕ = t0.value in
    let k3 : ℕ → ℕ → ℕ → Operation → Reader = λ a b c d. whole (heard session (Call a b c d)) in
    let t1 : TakenNumber (λ a. number (λ b. number (λ c. byte (operation_at (k3 a b c))))) t0.rest f =
    number_found (λ a. number (λ b. number (λ c. byte (operation_at (k3 a b c))))) t0.rest f t0.rest_bytes
    t0.next in
    let inc : ℕ = t1.value in
    let t2 : TakenNumber (λ b. number (λ c. byte (operation_at (k3 inc b c)))) t1.rest f =
    number_found (λ b. number (λ c. byte (operation_at (k3 inc b c)))) t1.rest f t1.rest_bytes t1.next in
    let act : ℕ = t2.value in
    let t3 : TakenNumber (λ c. byte (operation_at (k3 inc act c))) t2.rest f =
    number_found (λ c. byte (operation_at (k3 inc act c))) t2.rest f t2.rest_bytes t2.next in
    let n : ℕ = t3.value in
    let b : TakenByte (operation_at (k3 inc act n)) t3.rest f = byte_found (operation_at (k3 inc act n)) t3.rest f
    t3.rest_bytes t3.next in
    let s : TakenSome (λ c. operation c (k3 inc act n)) (operation_code_of b.value) b.rest f =
    some_found (λ c. operation c (k3 inc act n)) (operation_code_of b.value) b.rest f b.next in
    let o : TakenOperation s.value (k3 inc act n) b.rest f = operation_found s.value (k3 inc act n) b.rest f
    b.rest_bytes s.next in
    let w = whole_found (heard session (Call inc act n o.value)) o.rest f o.next in
    let code_is : b.value ∷ b.rest ≡ spelling.operation o.value ++ o.rest =
    ap (λ m. m ∷ b.rest) (operation_code_found b.value s.value s.is) ∙ o.parts in
    let body_is : xs ≡ spelling.body (heard session (Call inc act n o.value)) =
    t0.parts ∙ ap (λ a. four_bytes session ++ a)
    (t1.parts ∙ ap (λ a. four_bytes inc ++ a)
    (t2.parts ∙ ap (λ a. four_bytes act ++ a)
    (t3.parts ∙ ap (λ a. four_bytes n ++ a) (b.parts ∙ code_is ∙ ap (λ a. spelling.operation o.value ++ a) w.0
    ∙ append-nil (spelling.operation o.value))))) in
    let made : IsRead kind.Call xs (heard session (Call inc act n o.value)) = record {
      body_is = body_is;
      kind_is = refl;
      frame = record {
        value = (t0.small, (t1.small, t2.small, t3.small, o.valid));
        fits_all = both (nat_lt 0 session) _ t0.some
            (both (nat_lt 0 inc) _ t1.some
            (both (nat_lt 0 act) _ t2.some (both (nat_lt 0 n) _ t3.some o.fits_all)));
      };
    } in
    subst (IsRead kind.Call xs) w.1 made

read_reply : (xs : List ℕ) (f : Frame) → IsBytes xs → read_body kind.Reply xs ≡ Some f → IsRead kind.Reply xs f
unfolding read_body
read_reply xs f are e =
    let t0 : TakenNumber reply_in xs f = number_found reply_in xs f are e in
    let session : ℕ = t0.value in
    let k3 : ℕ → ℕ → ℕ → Answer → Reader = λ a b c d. whole (heard session (Reply a b c d)) in
    let t1 : TakenNumber (λ a. number (λ b. number (λ c. byte (answer_at (k3 a b c))))) t0.rest f =
    number_found (λ a. number (λ b. number (λ c. byte (answer_at (k3 a b c))))) t0.rest f t0.rest_bytes
    t0.next in
    let inc : ℕ = t1.value in
    let t2 : TakenNumber (λ b. number (λ c. byte (answer_at (k3 inc b c)))) t1.rest f =
    number_found (λ b. number (λ c. byte (answer_at (k3 inc b c)))) t1.rest f t1.rest_bytes t1.next in
    let act : ℕ = t2.value in
    let t3 : TakenNumber (λ c. byte (answer_at (k3 inc act c))) t2.rest f =
    number_found (λ c. byte (answer_at (k3 inc act c))) t2.rest f t2.rest_bytes t2.next in
    let n : ℕ = t3.value in
    let b : TakenByte (answer_at (k3 inc act n)) t3.rest f = byte_found (answer_at (k3 inc act n)) t3.rest f
    t3.rest_bytes t3.next in
    let s : TakenSome (λ c. answer c (k3 inc act n)) (answer_code_of b.value) b.rest f =
    some_found (λ c. answer c (k3 inc act n)) (answer_code_of b.value) b.rest f b.next in
    let o : TakenAnswer s.value (k3 inc act n) b.rest f = answer_found s.value (k3 inc act n) b.rest f b.rest_bytes
    s.next in
    let w = whole_found (heard session (Reply inc act n o.value)) o.rest f o.next in
    let code_is : b.value ∷ b.rest ≡ spelling.answer o.value ++ o.rest =
    ap (λ m. m ∷ b.rest) (answer_code_found b.value s.value s.is) ∙ o.parts in
    let body_is : xs ≡ spelling.body (heard session (Reply inc act n o.value)) =
    t0.parts ∙ ap (λ a. four_bytes session ++ a)
    (t1.parts ∙ ap (λ a. four_bytes inc ++ a)
    (t2.parts ∙ ap (λ a. four_bytes act ++ a)
    (t3.parts ∙ ap (λ a. four_bytes n ++ a) (b.parts ∙ code_is ∙ ap (λ a. spelling.answer o.value ++ a) w.0
    ∙ append-nil (spelling.answer o.value))))) in
    let made : IsRead kind.Reply xs (heard session (Reply inc act n o.value)) = record {
      body_is = body_is;
      kind_is = refl;
      frame = record {
        value = (t0.small, (t1.small, t2.small, t3.small, o.valid));
        fits_all = both (nat_lt 0 session) _ t0.some
            (both (nat_lt 0 inc) _ t1.some
            (both (nat_lt 0 act) _ t2.some (both (nat_lt 0 n) _ t3.some o.fits_all)));
      };
    } in
    subst (IsRead kind.Reply xs) w.1 made

read_write : (xs : List ℕ) (f : Frame) → IsBytes xs → read_body kind.Write xs ≡ Some f → IsRead kind.Write xs f
unfolding read_body
read_write xs f are e =
    let t0 : TakenNumber write_in xs f = number_found write_in xs f are e in
    let session : ℕ = t0.value in
    let k4 : ℕ → ℕ → ℕ → ℕ → Stored → Reader = λ a b c d x. whole (heard session (Write a b c d x)) in
    let t1 : TakenNumber (λ a. number (λ b. number (λ c. number (λ d. stored (k4 a b c d))))) t0.rest f =
    number_found (λ a. number (λ b. number (λ c. number (λ d. stored (k4 a b c d))))) t0.rest f t0.rest_bytes
    t0.next in
    let inc : ℕ = t1.value in
    let t2 : TakenNumber (λ b. number (λ c. number (λ d. stored (k4 inc b c d)))) t1.rest f =
    number_found (λ b. number (λ c. number (λ d. stored (k4 inc b c d)))) t1.rest f t1.rest_bytes t1.next in
    let act : ℕ = t2.value in
    let t3 : TakenNumber (λ c. number (λ d. stored (k4 inc act c d))) t2.rest f =
    number_found (λ c. number (λ d. stored (k4 inc act c d))) t2.rest f t2.rest_bytes t2.next in
    let s : ℕ = t3.value in
    let t4 : TakenNumber (λ d. stored (k4 inc act s d)) t3.rest f =
    number_found (λ d. stored (k4 inc act s d)) t3.rest f t3.rest_bytes t3.next in
    let w : ℕ = t4.value in
    let c : TakenContent (k4 inc act s w) t4.rest f = stored_found (k4 inc act s w) t4.rest f t4.rest_bytes t4.next in
    let h = whole_found (heard session (Write inc act s w c.value)) c.rest f c.next in
    let body_is : xs ≡ spelling.body (heard session (Write inc act s w c.value)) =
    t0.parts ∙ ap (λ a. four_bytes session ++ a)
    (t1.parts ∙ ap (λ a. four_bytes inc ++ a)
    (t2.parts ∙ ap (λ a. four_bytes act ++ a)
    (t3.parts ∙ ap (λ a. four_bytes s ++ a)
    (t4.parts ∙ ap (λ a. four_bytes w ++ a) (c.parts ∙ ap (λ a. spelling.stored c.value ++ a) h.0
    ∙ append-nil (spelling.stored c.value)))))) in
    let made : IsRead kind.Write xs (heard session (Write inc act s w c.value)) = record {
      body_is = body_is;
      kind_is = refl;
      frame = record {
        value = (t0.small, (t1.small, t2.small, t3.small, t4.small, c.is_content));
        fits_all = both (nat_lt 0 session) _ t0.some
            (both (nat_lt 0 inc) _ t1.some
            (both (nat_lt 0 act) _ t2.some (both (nat_lt 0 s) _ t3.some (both (nat_lt 0 w) _ t4.some c.within))));
      };
    } in
    subst (IsRead kind.Write xs) h.1 made

read_ask : (xs : List ℕ) (f : Frame) → IsBytes xs → read_body kind.Ask xs ≡ Some f → IsRead kind.Ask xs f
unfolding read_body
read_ask xs f are e =
    let t0 : TakenNumber ask_in xs f = number_found ask_in xs f are e in
    let session : ℕ = t0.value in
    let k3 : ℕ → ℕ → ℕ → Reader = λ a b c. whole (heard session (Ask a b c)) in
    let t1 : TakenNumber (λ a. number (λ b. number (k3 a b))) t0.rest f =
    number_found (λ a. number (λ b. number (k3 a b))) t0.rest f t0.rest_bytes t0.next in
    let inc : ℕ = t1.value in
    let t2 : TakenNumber (λ b. number (k3 inc b)) t1.rest f = number_found (λ b. number (k3 inc b)) t1.rest f
    t1.rest_bytes t1.next in
    let act : ℕ = t2.value in
    let t3 : TakenNumber (k3 inc act) t2.rest f = number_found (k3 inc act) t2.rest f t2.rest_bytes t2.next in
    let g : ℕ = t3.value in
    let h = whole_found (heard session (Ask inc act g)) t3.rest f t3.next in
    let body_is : xs ≡ spelling.body (heard session (Ask inc act g)) =
    t0.parts ∙ ap (λ a. four_bytes session ++ a)
    (t1.parts ∙ ap (λ a. four_bytes inc ++ a)
    (t2.parts ∙ ap (λ a. four_bytes act ++ a) (t3.parts ∙ ap (λ a. four_bytes g ++ a) h.0
    ∙ append-nil (four_bytes g)))) in
    let made : IsRead kind.Ask xs (heard session (Ask inc act g)) = record {
      body_is = body_is;
      kind_is = refl;
      frame = record {
        value = (t0.small, (t1.small, t2.small, t3.small));
        fits_all = both (nat_lt 0 session) _ t0.some
            (both (nat_lt 0 inc) _ t1.some (both (nat_lt 0 act) _ t2.some t3.some));
      };
    } in
    subst (IsRead kind.Ask xs) h.1 made

pub body_found : (k : Kind) (xs : List ℕ) (f : Frame) → IsBytes xs → read_body k xs ≡ Some f → IsRead k xs f
unfolding read_body
body_found kind.Call xs f are e = read_call xs f are e
body_found kind.Reply xs f are e = read_reply xs f are e
body_found kind.Write xs f are e = read_write xs f are e
body_found kind.Ask xs f are e = read_ask xs f are e
body_found kind.Turn xs f are e =
    let h = whole_found Turn xs f e in
    let made : IsRead kind.Turn xs Turn = record {
      body_is = h.0;
      kind_is = refl;
      frame = record { value = tt; fits_all = refl };
    } in
    subst (IsRead kind.Turn xs) h.1 made
