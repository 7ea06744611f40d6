-- How long bodies are.
use Rattle.std.proofs.Common.{◌≡◌, ℕ, suc, ◌+◌, ◌*◌, ◌≤◌, true, ◌&&◌, List, [], ◌∷◌, ◌++◌, length, refl, arith, lit≤}
use Rattle.std.proofs.Common.{nat_le, nat_lt}
use Rattle.std.specs.Prelude.{not}
use Rattle.std.specs.List.{list_all}
use Rattle.std.proofs.lemmas.List.{length-append}
use Rattle.tree_streams.specs.Limits.{is_within, has_ole_name, total}
use Rattle.object_state.specs.MenuTexts.{is_menu_text}
use Rattle.object_state.specs.Printable.{is_printable}
use Rattle.tree_streams.specs.declared.streams.NamedStream.{NamedStream}
use Rattle.tree_streams.specs.declared.stored.Stored.{Stored}
use Rattle.message_values.specs.declared.operation.Operation.{Operation}
use Rattle.message_values.specs.declared.operation.Operation.TheVariants as op
use Rattle.message_values.specs.declared.answer.Answer.{Answer}
use Rattle.message_values.specs.declared.answer.Answer.TheVariants as ans
use Rattle.message_values.specs.declared.message.Said.{Said}
use Rattle.message_values.specs.declared.message.Said.TheVariants.{Call, Reply, Write, Ask}
use Rattle.message_model.specs.declared.frame.Frame.{Frame}
use Rattle.message_model.specs.declared.frame.Frame.TheVariants.{Message, Turn}
use Rattle.message_model.specs.Spelling.{two_bytes, four_bytes, blob, text, streams, stored, flag, operation, widths}
use Rattle.message_model.specs.Spelling.{answer, said_body, body}
use Rattle.message_model.specs.Frames.{operation_fits, answer_fits, said_fits, IsOperation, IsAnswer, IsSaid, IsFrame}
use Rattle.message_model.proofs.Fields.{first_of, second_of, le_told, length-two_bytes, length-four_bytes}
use Rattle.message_model.proofs.Contents.{Names}

length-two : (a b : List ℕ) (m n : ℕ) → length a ≤ m → length b ≤ n → length (a ++ b) ≤ m + n
length-two a b m n p q = omega (arith, length-append a b)

length-number : (n : ℕ) → length (four_bytes n) ≤ 4
length-number n = omega (arith, length-four_bytes n)

length-blob : (bs : List ℕ) → length (blob bs) ≤ 4 + length bs
length-blob bs = length-two (four_bytes (length bs)) bs 4 (length bs) (length-number (length bs)) (omega arith)

length-streams : (ss : List NamedStream) → Names ss → length (streams ss) ≤ 36 * length ss + total ss
length-streams [] names = omega arith
length-streams (s ∷ ss) names =
    let short : length s.name ≤ 31 = names.0.short in
    let others : length (streams ss) ≤ 36 * length ss + total ss = length-streams ss names.1 in
    let bytes : length (blob s.bytes) ≤ 4 + length s.bytes = length-blob s.bytes in
    let two : length (blob s.bytes ++ streams ss) ≡ length (blob s.bytes) + length (streams ss) =
    length-append (blob s.bytes) (streams ss) in
    let all : length (text s.name ++ (blob s.bytes ++ streams ss)) ≡ length (text s.name)
    + length (blob s.bytes ++ streams ss) = length-append (text s.name) (blob s.bytes ++ streams ss) in
    let one : length (text s.name) ≡ suc (length s.name) = refl in
    let more : 36 * length (s ∷ ss) ≡ 36 + 36 * length ss = omega arith in
    omega arith

pub length-stored : (s : Stored) → Names s.streams → is_within s ≡ true → length (stored s) ≤ 262437
length-stored s names within =
    let few : length s.streams ≤ 8 =
    le_told _ _ (first_of (nat_le (length s.streams) 8)
    (nat_le (total s.streams + length s.picture) 262144 && not (has_ole_name s.streams)) within) in
    let others = second_of (nat_le (length s.streams) 8)
    (nat_le (total s.streams + length s.picture) 262144 && not (has_ole_name s.streams)) within in
    let room : total s.streams + length s.picture ≤ 262144 =
    le_told _ _ (first_of (nat_le (total s.streams + length s.picture) 262144) (not (has_ole_name s.streams))
    others) in
    let ls : length (streams s.streams) ≤ 36 * length s.streams + total s.streams = length-streams s.streams names in
    let lp : length (blob s.picture) ≤ 4 + length s.picture = length-blob s.picture in
    let all : length (streams s.streams ++ blob s.picture) ≡ length (streams s.streams) + length (blob s.picture) =
    length-append (streams s.streams) (blob s.picture) in
    let one : length (stored s) ≡ suc (length (streams s.streams ++ blob s.picture)) = refl in
    omega arith

length-operation : (o : Operation) → operation_fits o ≡ true → IsOperation o → length (operation o) ≤ 300000
length-operation (op.InitNew class) fit valid = let one : length (operation (op.InitNew class))
    ≡ suc (length class) = refl in let l : length class ≡ 16 = valid in omega arith
length-operation (op.Load class content) fit valid =
    let l : length class ≡ 16 = valid.0 in
    let s : length (stored content) ≤ 262437 = length-stored content valid.1.names fit in
    let two : length (class ++ stored content) ≡ length class + length (stored content) =
    length-append class (stored content) in
    let one : length (operation (op.Load class content)) ≡ suc (length (class ++ stored content)) = refl in
    omega arith
length-operation op.InPlace fit valid = lit≤ tt
length-operation (op.UiActivate grant) fit valid = let l = length-number grant in omega (arith, l)
length-operation op.UiDeactivate fit valid = lit≤ tt
length-operation op.InPlaceDeactivate fit valid = lit≤ tt
length-operation op.OpenWindow fit valid = lit≤ tt
length-operation (op.Edit bs) fit valid = let s : length bs ≤ 65536 = le_told (length bs) 65536 fit in
    let l = length-blob bs in omega (arith, l)
length-operation (op.Save save) fit valid = let l = length-number save in omega (arith, l)
length-operation op.HandsOff fit valid = lit≤ tt
length-operation (op.SaveCompleted save storage) fit valid = let l =
    length-two (four_bytes save) (flag storage ∷ []) 4 1 (length-number save) (lit≤ tt) in omega (arith, l)
length-operation (op.SaveDropped save) fit valid = let l = length-number save in omega (arith, l)
length-operation (op.Close option) fit valid = lit≤ tt

pub length-widths : (ns : List ℕ) → length (widths ns) ≡ 2 * length ns
length-widths [] = refl
length-widths (n ∷ ns) = omega (arith, length-append (two_bytes n) (widths ns), length-two_bytes n, length-widths ns)

length-text : (t : List ℕ) → is_menu_text t ≡ true → length (text t) ≤ 17
length-text t h = let s : length t ≤ 16 = le_told (length t) 16
    (first_of (nat_le (length t) 16) (list_all is_printable t) h) in omega arith

length-answer : (a : Answer) → answer_fits a ≡ true → IsAnswer a → length (answer a) ≤ 300000
length-answer ans.Done fit valid = lit≤ tt
length-answer (ans.Refused r) fit valid = lit≤ tt
length-answer (ans.Content content) fit valid = let l = length-stored content valid.names fit in omega (arith, l)
length-answer (ans.Tools m border) fit valid =
    let w : length (widths border) ≤ 8 = omega (arith, length-widths border, valid.3) in
    let l = length-two (text m.edit) (text m.object ++ (text m.help ++ widths border)) 17 42
    (length-text m.edit valid.0) (length-two (text m.object) (text m.help ++ widths border) 17 25
    (length-text m.object valid.1) (length-two (text m.help) (widths border) 17 8 (length-text m.help valid.2)
    w)) in
    omega (arith, l)

with_three : (a b c : ℕ) (x : List ℕ) → length x ≤ 300000
    → length (four_bytes a ++ (four_bytes b ++ (four_bytes c ++ x))) ≤ 300012
with_three a b c x h = length-two (four_bytes a) (four_bytes b ++ (four_bytes c ++ x)) 4 300008 (length-number a)
    (length-two (four_bytes b) (four_bytes c ++ x) 4 300004 (length-number b)
    (length-two (four_bytes c) x 4 300000 (length-number c) h))

wider : (n m : ℕ) → n ≤ m → m ≤ 1048572 → n ≤ 1048572
wider n m p q = omega arith

length-said : (x : Said) → said_fits x ≡ true → IsSaid x → length (said_body x) ≤ 1048572
length-said (Call inc act n o) fit valid =
    let r1 = second_of (nat_lt 0 inc) (nat_lt 0 act && (nat_lt 0 n && operation_fits o)) fit in
    let r2 = second_of (nat_lt 0 act) (nat_lt 0 n && operation_fits o) r1 in
    wider _ _ (with_three inc act n (operation o) (length-operation o (second_of (nat_lt 0 n) _ r2) valid.3)) (lit≤ tt)
length-said (Reply inc act n a) fit valid =
    let r1 = second_of (nat_lt 0 inc) (nat_lt 0 act && (nat_lt 0 n && answer_fits a)) fit in
    let r2 = second_of (nat_lt 0 act) (nat_lt 0 n && answer_fits a) r1 in
    wider _ _ (with_three inc act n (answer a) (length-answer a (second_of (nat_lt 0 n) _ r2) valid.3)) (lit≤ tt)
length-said (Write inc act s w content) fit valid =
    let r1 = second_of (nat_lt 0 inc) (nat_lt 0 act && (nat_lt 0 s && (nat_lt 0 w && is_within content))) fit in
    let r2 = second_of (nat_lt 0 act) (nat_lt 0 s && (nat_lt 0 w && is_within content)) r1 in
    let r3 = second_of (nat_lt 0 s) (nat_lt 0 w && is_within content) r2 in
    let c : length (stored content) ≤ 262437 = length-stored content valid.4.names (second_of (nat_lt 0 w) _ r3) in
    let l : length (four_bytes w ++ stored content) ≤ 300000 =
    omega (arith, length-append (four_bytes w) (stored content), length-four_bytes w) in
    wider _ _ (with_three inc act s (four_bytes w ++ stored content) l) (lit≤ tt)
length-said (Ask inc act g) fit valid =
    wider _ 12 (length-two (four_bytes inc) (four_bytes act ++ four_bytes g) 4 8 (length-number inc)
    (length-two (four_bytes act) (four_bytes g) 4 4 (length-number act) (length-number g))) (lit≤ tt)

-- a frame's body isn't too long
pub length-body : (f : Frame) → IsFrame f → length (body f) ≤ 1048576
length-body (Message m) h =
    length-two (four_bytes m.session) (said_body m.said) 4 1048572 (length-number m.session)
    (length-said m.said (second_of (nat_lt 0 m.session) (said_fits m.said) h.fits_all) h.value.1)
length-body Turn h = lit≤ tt
