-- Bytes that are read as a message are its byte form, and no others are.
use Rattle.std.proofs.Common.{◌≡◌, ◌&&◌, ◌<◌, ◌≤◌, ℕ, true, false, List, ◌∷◌, ◌++◌, length, take, drop, get_or, nat_le}
use Rattle.std.proofs.Common.{bytes_eq, cond, Option, Some, None, refl, sym, ap, ◌∙◌, arith}
use Rattle.std.proofs.lemmas.List.{take_at, drop_at, take-append-drop, length-take}
use Rattle.std.proofs.lemmas.Slice.Eq.{bytes_eq-Decides}
use Rattle.message_values.specs.declared.message.Message.{Message}
use Rattle.message_model.specs.declared.codes.Kind.{Kind}
use Rattle.message_model.specs.declared.frame.Frame.{Frame}
use Rattle.message_model.specs.declared.frame.Frame.TheVariants as frame
use Rattle.message_model.specs.Codes.{kind_of}
use Rattle.message_model.specs.Frames.{IsFrame, MOST_BODY}
use Rattle.message_model.specs.Spelling as spelling
use Rattle.message_model.specs.Spelling.{body, four_bytes, head, spell}
use Rattle.message_model.proofs.Bodies.{IsRead, body_again, body_found, kind_again, kind_in, kind_in-number}
use Rattle.message_model.proofs.Fields.{IsBytes, IsBytes-drop, both, chosen, second_of, le_passes, length-four_bytes}
use Rattle.message_model.proofs.Lengths.{length-body}
use Rattle.message_model.proofs.Operations.{kind_found}
use Rattle.text_worlds.specs.Forged.{IsForm, framed, frame_in, frame_of, message_in, message_of}

-- what is read is the frame's form
form_framed : (n : ℕ) (kind : Option Kind) (rest : List ℕ) (f : Frame) → IsBytes rest → kind_of n ≡ kind
    → framed kind rest ≡ Some f → IsFrame f × (rest ≡ body f) × (n ≡ spelling.kind f)
form_framed n None rest f are k e = absurd cc
form_framed n (Some kind) rest f are k e =
    let r : IsRead kind rest f = body_found kind rest f are e in
    (r.frame, r.body_is, kind_found n kind k ∙ sym r.kind_is)

pub form_read : (bytes : List ℕ) (f : Frame) → IsBytes bytes → frame_in bytes ≡ Some f → IsFrame f × (bytes ≡ spell f)
form_read bytes f are e =
    chosen (IsFrame f × (bytes ≡ spell f)) (nat_le (length (drop 10 bytes)) MOST_BODY && bytes_eq (take 10 bytes)
    (head (get_or bytes 5 0) (length (drop 10 bytes)))) (framed (kind_of (get_or bytes 5 0)) (drop 10 bytes))
    None (Some f) e
    (λ t told.
    let front : take 10 bytes ≡ head (get_or bytes 5 0) (length (drop 10 bytes)) =
    (bytes_eq-Decides (take 10 bytes) (head (get_or bytes 5 0) (length (drop 10 bytes)))).0
    (second_of (nat_le (length (drop 10 bytes)) MOST_BODY) _ t) in
    let r = form_framed (get_or bytes 5 0) (kind_of (get_or bytes 5 0)) (drop 10 bytes) f
    (IsBytes-drop 10 bytes are) refl told in (
      r.0,
      sym (take-append-drop 10 bytes) ∙ ap (λ a. a ++ drop 10 bytes) front
          ∙ ap (λ n. head n (length (drop 10 bytes)) ++ drop 10 bytes) r.2
          ∙ ap (λ b. head (spelling.kind f) (length b) ++ b) r.1,
    ))
    (λ t none. absurd cc)

-- a frame's form is read as it
pub form_again : (f : Frame) → IsFrame f → frame_in (spell f) ≡ Some f
form_again f is =
    let len : length (body f) ≤ 1048576 = length-body f is in
    let behind : drop 4 (four_bytes (length (body f)) ++ body f) ≡ body f =
    drop_at (four_bytes (length (body f))) (body f) 4 (length-four_bytes (length (body f))) in
    let cells : take 4 (four_bytes (length (body f)) ++ body f) ≡ four_bytes (length (body f)) =
    take_at (four_bytes (length (body f))) (body f) 4 (length-four_bytes (length (body f))) in
    let front : take 10 (spell f) ≡ head (spelling.kind f) (length (body f)) =
    ap (λ a. 79 ∷ 76 ∷ 67 ∷ 77 ∷ 2 ∷ spelling.kind f ∷ a) cells in
    let parts : frame_of (take 10 (spell f)) (spelling.kind f) (drop 10 (spell f))
    ≡ frame_of (head (spelling.kind f) (length (body f))) (spelling.kind f) (body f) =
    ap (λ a. frame_of a (spelling.kind f) (drop 10 (spell f))) front
    ∙ ap (frame_of (head (spelling.kind f) (length (body f))) (spelling.kind f)) behind in
    let holds = both (nat_le (length (body f)) MOST_BODY)
    (bytes_eq (head (spelling.kind f) (length (body f))) (head (spelling.kind f) (length (body f))))
    (le_passes (length (body f)) MOST_BODY len)
    ((bytes_eq-Decides (head (spelling.kind f) (length (body f))) (head (spelling.kind f) (length (body f)))).1
    refl) in
    let kind : kind_of (spelling.kind f) ≡ Some (kind_in f) = ap kind_of (kind_in-number f) ∙ kind_again (kind_in f) in
    parts ∙ ap (λ b. cond b (framed (kind_of (spelling.kind f)) (body f)) None) holds
    ∙ ap (λ k. framed k (body f)) kind ∙ body_again f is

of_message : (told : Option Frame) (m : Message) → Some m ≡ message_of told → told ≡ Some (frame.Message m)
of_message None m e = absurd cc
of_message (Some (frame.Message x)) m e = cc
of_message (Some frame.Turn) m e = absurd cc

-- so is a message's form, and nothing else
pub is_form : (bytes : List ℕ) (m : Option Message) → IsBytes bytes → m ≡ message_in bytes → IsForm bytes m
is_form bytes None are e = λ m is same. let told : ◌≡◌ {A = Option Message} None (Some m) = e ∙ ap message_in same
    ∙ ap message_of (form_again (frame.Message m) is) in absurd cc
is_form bytes (Some m) are e = form_read bytes (frame.Message m) are (of_message (frame_in bytes) m e)

-- too few bytes, and too many, are none
pub short_none : (bytes : List ℕ) → length bytes < 10 → frame_in bytes ≡ None
short_none bytes few =
    elim (nat_le (length (drop 10 bytes)) MOST_BODY && bytes_eq (take 10 bytes)
    (head (get_or bytes 5 0) (length (drop 10 bytes)))) as (λ b. nat_le (length (drop 10 bytes)) MOST_BODY &&
    bytes_eq (take 10 bytes) (head (get_or bytes 5 0) (length (drop 10 bytes))) ≡ b
    → cond b (framed (kind_of (get_or bytes 5 0)) (drop 10 bytes)) None ≡ None) [
      | true ↦
          λ t. absurd (let front =
          ap length ((bytes_eq-Decides (take 10 bytes) (head (get_or bytes 5 0) (length (drop 10 bytes)))).0
          (second_of (nat_le (length (drop 10 bytes)) MOST_BODY) _ t)) in
          omega (arith, front, length-take 10 bytes, length-four_bytes (length (drop 10 bytes))))
      | false ↦ λ t. refl
    ] refl
