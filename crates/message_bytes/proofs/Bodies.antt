-- The body of a frame of which some bytes came.
use Rattle.std.proofs.Common.{◌≡◌, ℕ, suc, zero, ◌+◌, ◌-◌, ◌<◌, ◌≤◌, List, [], ◌∷◌, ◌++◌, length, get_or, take, drop}
use Rattle.std.proofs.Common.{Option, Some, None, refl, sym, ap, subst, ◌∙◌, append_assoc, arith, rules, inl, inr}
use Rattle.std.proofs.lemmas.Bool.{cases_lt}
use Rattle.std.proofs.lemmas.List.{append-nil, take-append-le, drop-append-le, take_all, length-append, length-drop}
use Rattle.std.proofs.lemmas.List.{length-take}
use Rattle.message_model.specs.declared.codes.Kind.{Kind}
use Rattle.message_model.specs.declared.fault.WireFault.{WireFault}
use Rattle.message_model.specs.declared.fault.WireFault.TheVariants.{BadField}
use Rattle.message_model.specs.declared.frame.Frame.{Frame}
use Rattle.message_model.specs.Codes.{kind_number}
use Rattle.message_model.specs.Frames.{number_in, shown}
use Rattle.message_model.specs.Reading.{read_body}
use Rattle.message_model.proofs.Fields.{IsBytes}
use Rattle.message_drafts.specs.Opens.{Comes, Follows, Form, reads}
use Rattle.message_bytes.specs.Fronts.{IsFaulty, IsWhole}
use Rattle.message_bytes.specs.Holding.{IsHead, IsBody}
use Rattle.message_bytes.proofs.Fronts.{partial_body, whole_front, faulty_body}

IsBytes-append : (xs ys : List ℕ) → IsBytes xs → IsBytes ys → IsBytes (xs ++ ys)
IsBytes-append [] ys p q i = q i
IsBytes-append (x ∷ xs) ys p q zero = p zero
IsBytes-append (x ∷ xs) ys p q (suc i) = IsBytes-append xs ys (λ j. p (suc j)) q i

-- a head stays, whatever comes
head_more : (k : Kind) (len : ℕ) (xs ys : List ℕ) → IsHead k len xs → IsHead k len (xs ++ ys)
head_more k len xs ys h =
    let long : 10 ≤ length xs = h.long in
    let cells : take 4 (drop 6 (xs ++ ys)) ≡ take 4 (drop 6 xs) = ap (take 4) (drop-append-le 6 xs ys (omega arith))
    ∙ take-append-le 4 (drop 6 xs) ys (omega (arith, length-drop 6 xs)) in
    record {
      long = omega (arith, length-append xs ys);
      parts = take-append-le 10 xs ys long ∙ h.parts
          ∙ ap (λ (c : List ℕ). 79 ∷ 76 ∷ 67 ∷ 77 ∷ 2 ∷ kind_number k ∷ c) (sym cells);
      says = ap number_in cells ∙ h.says;
      short = h.short;
    }

-- a body that was opened
pub body_opened : (k : Kind) (len : ℕ) (bytes : List ℕ) (b : Form) → IsBytes bytes → IsHead k len bytes
    → Comes k len (drop 10 bytes) b → IsBody b bytes
body_opened k len bytes b are head comes = record { kind = k; len = len; head = head; comes = comes; range = are }

-- a body that goes on
pub body_grew : (b e : Form) (bytes piece : List ℕ) → IsBytes piece → IsBody b bytes → Follows b e piece
    → IsBody e (bytes ++ piece)
body_grew b e bytes piece are h f =
    let long : 10 ≤ length bytes = h.head.long in
    let behind : drop 10 (bytes ++ piece) ≡ drop 10 bytes ++ piece = drop-append-le 10 bytes piece long in
    let first : length (drop 10 bytes) + b.to_come ≡ h.len = h.comes.count in
    let then : b.to_come ≡ length piece + e.to_come = f.count in
    record {
      kind = h.kind;
      len = h.len;
      head = head_more h.kind h.len bytes piece h.head;
      comes = record {
        count = omega (arith, first, then, ap length behind, length-append (drop 10 bytes) piece);
        same = λ ys size.
            ap (λ (x : List ℕ). read_body h.kind (x ++ ys)) behind
            ∙ ap (read_body h.kind) (append_assoc (drop 10 bytes) piece ys)
            ∙ h.comes.same (piece ++ ys) (omega (arith, then, size, length-append piece ys))
            ∙ f.same ys size;
      };
      range = IsBytes-append bytes piece h.range are;
    }

-- a body that isn't whole shows no fault
pub body_partial : (b : Form) (bytes : List ℕ) → IsBody b bytes → 0 < b.to_come → shown bytes ≡ None
body_partial b bytes h some =
    let long : 10 ≤ length bytes = h.head.long in
    let count : length (drop 10 bytes) + b.to_come ≡ h.len = h.comes.count in
    partial_body h.kind h.len bytes h.range h.head (omega (arith, count, length-drop 10 bytes))

pub body_goes_on : (b e : Form) (bytes piece : List ℕ) → IsBytes piece → IsBody b bytes → Follows b e piece
    → length piece < b.to_come → IsBody e (bytes ++ piece) × (shown (bytes ++ piece) ≡ None)
body_goes_on b e bytes piece are h f few =
    let grew : IsBody e (bytes ++ piece) = body_grew b e bytes piece are h f in
    let count : b.to_come ≡ length piece + e.to_come = f.count in
    (grew, body_partial e (bytes ++ piece) grew (omega (arith, count)))

-- a body whose last bytes came
record Ended (b : Form) (bytes front : List ℕ) (f : Option Frame) (h : IsBody b bytes) : Type 0 where
  len_is : 10 + h.len ≡ length (bytes ++ front)
  enough : h.len ≤ length (bytes ++ front) - 10
  head : IsHead h.kind h.len (bytes ++ front)
  are : IsBytes (bytes ++ front)
  read : read_body h.kind (take h.len (drop 10 (bytes ++ front))) ≡ f

ended : (b : Form) (bytes front : List ℕ) (f : Option Frame) → IsBytes front → (h : IsBody b bytes)
    → length front ≡ b.to_come → f ≡ reads b front → Ended b bytes front f h
ended b bytes front f are h size made =
    let long : 10 ≤ length bytes = h.head.long in
    let count : length (drop 10 bytes) + b.to_come ≡ h.len = h.comes.count in
    let all : length (bytes ++ front) ≡ 10 + h.len =
    omega (arith, count, size, length-append bytes front, length-drop 10 bytes) in
    let behind : drop 10 (bytes ++ front) ≡ drop 10 bytes ++ front = drop-append-le 10 bytes front long in
    let whole : take h.len (drop 10 (bytes ++ front)) ≡ drop 10 (bytes ++ front) =
    take_all h.len (drop 10 (bytes ++ front)) (omega (arith, all, length-drop 10 (bytes ++ front))) in
    record {
      len_is = sym all;
      enough = omega (arith, all);
      head = head_more h.kind h.len bytes front h.head;
      are = IsBytes-append bytes front h.range are;
      read = ap (read_body h.kind) (whole ∙ behind) ∙ h.comes.same front size ∙ sym made;
    }

pub body_whole : (b : Form) (bytes front : List ℕ) (f : Frame) → IsBytes front → IsBody b bytes
    → length front ≡ b.to_come → Some f ≡ reads b front → IsWhole f (length (bytes ++ front)) (bytes ++ front)
body_whole b bytes front f are h size made =
    let e : Ended b bytes front (Some f) h = ended b bytes front (Some f) are h size made in
    subst (λ (n : ℕ). IsWhole f n (bytes ++ front)) e.len_is
    (whole_front h.kind h.len (bytes ++ front) f e.are e.head e.enough e.read)

pub body_faulty : (b : Form) (bytes front : List ℕ) → IsBytes front → IsBody b bytes → length front ≡ b.to_come
    → None ≡ reads b front → IsFaulty BadField (bytes ++ front)
body_faulty b bytes front are h size made =
    let e : Ended b bytes front None h = ended b bytes front None are h size made in
    faulty_body h.kind h.len (bytes ++ front) e.are e.head e.enough e.read
