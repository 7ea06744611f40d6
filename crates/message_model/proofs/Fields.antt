-- Fields: what was spelled is read, and what is read was spelled.
use Rattle.std.proofs.Common.{◌≡◌, ℕ, suc, ◌+◌, ◌^◌, ◌<◌, ◌≤◌, Bool, true, false, cond, ◌&&◌, List, [], ◌∷◌, ◌++◌}
use Rattle.std.proofs.Common.{length, get_or, take, drop, Some, None, refl, sym, ap, ◌∙◌, append_assoc, arith, rules}
use Rattle.std.proofs.Common.{nat_le, nat_lt, inl, inr}
use Rattle.std.proofs.lemmas.Bool.{cases_lt, ltb-false, le-ltb}
use Rattle.std.proofs.lemmas.List.{take_at, drop_at, take-append-drop, length-append, length-take, get_or-drop}
use Rattle.std.proofs.lemmas.List.{get_or-take, get_or_past}
use Rattle.std.proofs.lemmas.Nat.{le_bytes_2, le_bytes_4, from_le_bytes-to_le_bytes_2, from_le_bytes-to_le_bytes_4}
use Rattle.message_model.specs.declared.frame.Frame.{Frame}
use Rattle.message_model.specs.Spelling as spelling
use Rattle.message_model.specs.Spelling.{two_bytes, four_bytes}
use Rattle.message_model.specs.Frames.{number_in}
use Rattle.message_model.specs.Reading.{Reader, bad, whole, bytes, byte, nonzero, number, sized, blob, width_in}

-- ---- tests

pub chosen : {A : Type 0} (P : Type 0) (b : Bool) (x y z : A) → cond b x y ≡ z → (b ≡ true → x ≡ z → P)
    → (b ≡ false → y ≡ z → P) → P
chosen P true x y z e p q = p refl e
chosen P false x y z e p q = q refl e

pub both : (a b : Bool) → a ≡ true → b ≡ true → (a && b) ≡ true
both true true p q = refl
both true false p q = absurd cc
both false b p q = absurd cc

pub first_of : (a b : Bool) → (a && b) ≡ true → a ≡ true
first_of true b h = refl
first_of false b h = absurd cc

pub second_of : (a b : Bool) → (a && b) ≡ true → b ≡ true
second_of true b h = h
second_of false b h = absurd cc

pub le_told : (a b : ℕ) → nat_le a b ≡ true → a ≤ b
le_told a b h = search rules

pub le_passes : (a b : ℕ) → a ≤ b → nat_le a b ≡ true
le_passes a b h = search rules

pub some_is : {A : Type 0} (x y : A) → Some x ≡ Some y → x ≡ y
some_is x y h = cc

-- ---- bytes

abbrev pub IsBytes : List ℕ → Type 0
IsBytes xs = (i : ℕ) → get_or xs i 0 < 256

pub IsBytes-drop : (n : ℕ) (xs : List ℕ) → IsBytes xs → IsBytes (drop n xs)
IsBytes-drop n xs h i = rw get_or-drop (h (n + i))

pub IsBytes-take : (n : ℕ) (xs : List ℕ) → IsBytes xs → IsBytes (take n xs)
IsBytes-take n xs h i =
    elim (cases_lt i n) [
      | inl lt ↦ rw (get_or-take n xs i 0 lt) (h i)
      | inr le ↦ rw (get_or_past (take n xs) i 0 (omega (arith, length-take n xs))) (omega arith)
    ]

pub IsBytes-rest : (b : ℕ) (xs : List ℕ) → IsBytes (b ∷ xs) → IsBytes xs
IsBytes-rest b xs h i = h (suc i)

pub bytes_again : (n : ℕ) (k : List ℕ → Reader) (a rest : List ℕ) → length a ≡ n → bytes n k (a ++ rest) ≡ k a rest
unfolding bytes
bytes_again n k a rest len =
    let long : nat_lt (length (a ++ rest)) n ≡ false = le-ltb _ _ (omega (arith, length-append a rest)) in
    rw (long, take_at a rest n len, drop_at a rest n len) refl

pub record Taken (k : List ℕ → Reader) (n : ℕ) (xs : List ℕ) (f : Frame) : Type 0 where
  pub front : List ℕ
  pub rest : List ℕ
  pub parts : xs ≡ front ++ rest
  pub len : length front ≡ n
  pub front_bytes : IsBytes front
  pub rest_bytes : IsBytes rest
  pub next : k front rest ≡ Some f

pub bytes_found : (n : ℕ) (k : List ℕ → Reader) (xs : List ℕ) (f : Frame) → IsBytes xs → bytes n k xs ≡ Some f
    → Taken k n xs f
unfolding bytes
bytes_found n k xs f are e =
    chosen (Taken k n xs f) (nat_lt (length xs) n) None (k (take n xs) (drop n xs)) (Some f) e
    (λ short none. absurd cc)
    (λ long found.
    let enough : n ≤ length xs = ltb-false _ _ long in
    record {
      front = take n xs;
      rest = drop n xs;
      parts = sym (take-append-drop n xs);
      len = omega (arith, length-take n xs);
      front_bytes = IsBytes-take n xs are;
      rest_bytes = IsBytes-drop n xs are;
      next = found;
    })

pub record TakenByte (k : ℕ → Reader) (xs : List ℕ) (f : Frame) : Type 0 where
  pub value : ℕ
  pub rest : List ℕ
  pub parts : xs ≡ value ∷ rest
  pub small : value < 256
  pub rest_bytes : IsBytes rest
  pub next : k value rest ≡ Some f

pub byte_found : (k : ℕ → Reader) (xs : List ℕ) (f : Frame) → IsBytes xs → byte k xs ≡ Some f → TakenByte k xs f
byte_found k [] f are e = absurd cc
byte_found k (b ∷ xs) f are e = record {
  value = b;
  rest = xs;
  parts = refl;
  small = are 0;
  rest_bytes = IsBytes-rest b xs are;
  next = e;
}

pub whole_found : (g : Frame) (xs : List ℕ) (f : Frame) → whole g xs ≡ Some f → (xs ≡ []) × (g ≡ f)
whole_found g [] f e = (refl, some_is g f e)
whole_found g (b ∷ xs) f e = absurd cc

-- ---- numbers

pub length-four_bytes : (n : ℕ) → length (four_bytes n) ≡ 4
unfolding four_bytes
length-four_bytes n = refl

pub length-two_bytes : (n : ℕ) → length (two_bytes n) ≡ 2
unfolding two_bytes
length-two_bytes n = refl

pub number_in-four_bytes : (n : ℕ) → n < 2 ^ 32 → number_in (four_bytes n) ≡ n
unfolding four_bytes number_in
number_in-four_bytes n lt = from_le_bytes-to_le_bytes_4 n lt

pub four_bytes-number_in : (bs : List ℕ) → length bs ≡ 4 → IsBytes bs → four_bytes (number_in bs) ≡ bs
unfolding four_bytes number_in
four_bytes-number_in bs len are = le_bytes_4 bs _ len are refl

pub number_in-below : (bs : List ℕ) → IsBytes bs → number_in bs < 2 ^ 32
unfolding number_in
number_in-below bs are = omega (arith, are 0, are 1, are 2, are 3)

pub width_in-two_bytes : (n : ℕ) → n < 2 ^ 16 → width_in (two_bytes n) ≡ n
unfolding two_bytes width_in
width_in-two_bytes n lt = from_le_bytes-to_le_bytes_2 n lt

pub two_bytes-width_in : (bs : List ℕ) → length bs ≡ 2 → IsBytes bs → two_bytes (width_in bs) ≡ bs
unfolding two_bytes width_in
two_bytes-width_in bs len are = le_bytes_2 bs _ len are refl

pub width_in-below : (bs : List ℕ) → IsBytes bs → width_in bs < 2 ^ 16
unfolding width_in
width_in-below bs are = omega (arith, are 0, are 1)

pub number_again : (k : ℕ → Reader) (n : ℕ) (rest : List ℕ) → nat_lt 0 n ≡ true → n < 2 ^ 32
    → number k (four_bytes n ++ rest) ≡ k n rest
unfolding number
number_again k n rest some small =
    bytes_again 4 (λ bs. nonzero k (number_in bs)) (four_bytes n) rest (length-four_bytes n)
    ∙ ap (λ m. nonzero k m rest) (number_in-four_bytes n small)
    ∙ ap (λ b. cond b (k n) bad rest) some

pub record TakenNumber (k : ℕ → Reader) (xs : List ℕ) (f : Frame) : Type 0 where
  pub value : ℕ
  pub rest : List ℕ
  pub parts : xs ≡ four_bytes value ++ rest
  pub some : nat_lt 0 value ≡ true
  pub small : value < 2 ^ 32
  pub rest_bytes : IsBytes rest
  pub next : k value rest ≡ Some f

-- a test before a reader
pub tested : (b : Bool) (r : Reader) (xs : List ℕ) (f : Frame) → cond b r bad xs ≡ Some f → (b ≡ true) × (r xs ≡ Some f)
tested true r xs f e = (refl, e)
tested false r xs f e = absurd cc

pub number_found : (k : ℕ → Reader) (xs : List ℕ) (f : Frame) → IsBytes xs → number k xs ≡ Some f → TakenNumber k xs f
unfolding number
number_found k xs f are e =
    let t : Taken (λ bs. nonzero k (number_in bs)) 4 xs f = bytes_found 4 (λ bs. nonzero k (number_in bs)) xs f are e in
    let h : (nat_lt 0 (number_in t.front) ≡ true) × (k (number_in t.front) t.rest ≡ Some f) =
    tested (nat_lt 0 (number_in t.front)) (k (number_in t.front)) t.rest f t.next in
    record {
      value = number_in t.front;
      rest = t.rest;
      parts = t.parts ∙ ap (λ (a : List ℕ). a ++ t.rest) (sym (four_bytes-number_in t.front t.len t.front_bytes));
      some = h.0;
      small = number_in-below t.front t.front_bytes;
      rest_bytes = t.rest_bytes;
      next = h.1;
    }

-- ---- blobs

pub blob_again : (most : ℕ) (k : List ℕ → Reader) (bs rest : List ℕ) → length bs ≤ most → most < 2 ^ 32
    → blob most k (spelling.blob bs ++ rest) ≡ k bs rest
unfolding blob
blob_again most k bs rest le lt =
    ap (bytes 4 (λ ns. sized most k (number_in ns))) (append_assoc (four_bytes (length bs)) bs rest)
    ∙ bytes_again 4 (λ ns. sized most k (number_in ns)) (four_bytes (length bs)) (bs ++ rest)
    (length-four_bytes (length bs))
    ∙ ap (λ n. sized most k n (bs ++ rest)) (number_in-four_bytes (length bs) (omega arith))
    ∙ ap (λ b. cond b (bytes (length bs) k) bad (bs ++ rest)) (le_passes (length bs) most le)
    ∙ bytes_again (length bs) k bs rest refl

pub record TakenBlob (most : ℕ) (k : List ℕ → Reader) (xs : List ℕ) (f : Frame) : Type 0 where
  pub value : List ℕ
  pub rest : List ℕ
  pub parts : xs ≡ spelling.blob value ++ rest
  pub short : length value ≤ most
  pub rest_bytes : IsBytes rest
  pub next : k value rest ≡ Some f

pub blob_found : (most : ℕ) (k : List ℕ → Reader) (xs : List ℕ) (f : Frame) → IsBytes xs → blob most k xs ≡ Some f
    → TakenBlob most k xs f
unfolding blob
blob_found most k xs f are e =
    let t : Taken (λ ns. sized most k (number_in ns)) 4 xs f = bytes_found 4 (λ ns. sized most k (number_in ns)) xs
    f are e in
    let n : ℕ = number_in t.front in
    let h : (nat_le n most ≡ true) × (bytes n k t.rest ≡ Some f) = tested (nat_le n most) (bytes n k) t.rest f t.next in
    let u : Taken k n t.rest f = bytes_found n k t.rest f t.rest_bytes h.1 in
    let len : t.front ≡ four_bytes (length u.front) = sym (four_bytes-number_in t.front t.len t.front_bytes)
    ∙ ap four_bytes (sym u.len) in
    let le : n ≤ most = le_told n most h.0 in
    record {
      value = u.front;
      rest = u.rest;
      parts = t.parts ∙ ap (λ (a : List ℕ). t.front ++ a) u.parts ∙ ap (λ (a : List ℕ). a ++ (u.front ++ u.rest))
          len ∙ sym (append_assoc (four_bytes (length u.front)) u.front u.rest);
      short = omega (arith, u.len);
      rest_bytes = u.rest_bytes;
      next = u.next;
    }
