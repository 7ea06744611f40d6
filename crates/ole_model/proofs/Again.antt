-- What is written is read again.
use Rattle.std.proofs.Common.{◌≡◌, ◌<◌, ◌≤◌, ◌+◌, ◌-◌, ◌^◌, ◌++◌, ◌∷◌, ◌∙◌, ◌&&◌, ℕ, List, [], Bool, true, false, cond}
use Rattle.std.proofs.Common.{not, nat_eq, nat_lt, nat_le, Ok, Some, None, length, take, drop, get_or, refl, sym, ap}
use Rattle.std.proofs.Common.{arith, rules, append_assoc, length-append, lit<}
use Rattle.std.specs.Int.{w32, to_le_bytes}
use Rattle.std.proofs.lemmas.Nat.{from_le_bytes-to_le_bytes_4}
use Rattle.std.proofs.lemmas.List.{take_all}
use Rattle.std.proofs.lemmas.Bool.Decides.{nat_tests}
use Rattle.ole_model.specs.CompObjs.{comp_obj_bytes, header, user_type_behind, user_type_read}
use Rattle.ole_model.specs.Fields.{behind_format, characters, format, map_ok, number, on_ok, string, string_bytes}
use Rattle.ole_model.specs.Laws.{LinesAreReadAgain, OleIsReadAgain, UserTypeIsReadAgain}
use Rattle.ole_model.specs.Presentations.{are_lines, lines_read, picture, presentation, presentation_bytes, size_of}
use Rattle.ole_model.specs.Presentations.{whole_lines}
use Rattle.ole_model.proofs.Tests.{cond_false, is_le, not_lt}

pub take-front : (xs ys : List ℕ) → take (length xs) (xs ++ ys) ≡ xs
take-front [] ys = refl
take-front (x ∷ xs) ys = ap (λ zs. x ∷ zs) (take-front xs ys)

pub drop-front : (xs ys : List ℕ) → drop (length xs) (xs ++ ys) ≡ ys
drop-front [] ys = refl
drop-front (x ∷ xs) ys = drop-front xs ys

pub at-end : (xs ys : List ℕ) (y : ℕ) → get_or (xs ++ y ∷ ys) (length xs) 0 ≡ y
at-end [] ys y = refl
at-end (x ∷ xs) ys y = at-end xs ys y

-- a number
pub number-written : (n : ℕ) (rest : List ℕ) → n < 2 ^ 32 → number (to_le_bytes w32 n ++ rest) ≡ Ok (n, rest)
number-written n rest h =
    cond_false _ _ _ (not_lt (length (to_le_bytes w32 n ++ rest)) 4 (omega arith))
    ∙ ap (λ m. Ok (m, rest)) (from_le_bytes-to_le_bytes_4 n h)

-- a string of at least one character
characters-written : (xs rest : List ℕ) (size : ℕ) → size ≡ length xs + 1
    → characters size (xs ++ 0 ∷ rest) ≡ Ok (xs, rest)
characters-written xs rest size e =
    let long : size ≤ length (xs ++ 0 ∷ rest) = simp length-append (omega arith) in
    let back : size - 1 ≡ length xs = omega arith in
    let some : nat_eq size 0 ≡ false = grind (arith, nat_tests) in
    let closed : get_or (xs ++ 0 ∷ rest) (size - 1) 0 ≡ 0 = rw back (at-end xs rest 0) in
    let behind : drop size (xs ++ 0 ∷ rest) ≡ rest =
    ap (λ n. drop n (xs ++ 0 ∷ rest)) (e ∙ sym (length-append xs (0 ∷ [])))
    ∙ ap (drop (length (xs ++ 0 ∷ []))) (sym (append_assoc xs (0 ∷ []) rest))
    ∙ drop-front (xs ++ 0 ∷ []) rest in
    cond_false _ _ _ some
    ∙ cond_false _ _ _ (not_lt (length (xs ++ 0 ∷ rest)) size long)
    ∙ cond_false _ _ _ (ap (λ n. not (nat_eq n 0)) closed)
    ∙ ap (λ ys. Ok (ys, drop size (xs ++ 0 ∷ rest))) (ap (λ n. take n (xs ++ 0 ∷ rest)) back ∙ take-front xs (0 ∷ rest))
    ∙ ap (λ ys. Ok (xs, ys)) behind

pub string-written : (xs rest : List ℕ) → length xs < 0xFFFFFFFF → string (string_bytes xs ++ rest) ≡ Ok (xs, rest)
string-written [] rest h = ap (on_ok (λ f. characters f.0 f.1)) (number-written 0 rest (lit< tt))
string-written (x ∷ xs) rest h =
    let ys : List ℕ = x ∷ xs in
    let fits : length ys + 1 < 2 ^ 32 = omega arith in
    let bytes : string_bytes ys ++ rest ≡ to_le_bytes w32 (length ys + 1) ++ (ys ++ 0 ∷ rest) =
    append_assoc (to_le_bytes w32 (length ys + 1)) (ys ++ 0 ∷ []) rest
    ∙ ap (λ zs. to_le_bytes w32 (length ys + 1) ++ zs) (append_assoc ys (0 ∷ []) rest) in
    ap string bytes ∙ ap (on_ok (λ f. characters f.0 f.1)) (number-written (length ys + 1) (ys ++ 0 ∷ rest) fits)
    ∙ characters-written ys rest (length ys + 1) refl

pub format-written : (rest : List ℕ) → format (string_bytes [] ++ rest) ≡ Ok rest
format-written rest = ap (on_ok (λ f. behind_format f.0 f.1)) (number-written 0 rest (lit< tt))

pub ole_again : OleIsReadAgain
ole_again = refl

behind-header : (class rest : List ℕ) → length class ≡ 16 → drop 28 (header ++ (class ++ rest)) ≡ rest
behind-header class rest h = ap (λ n. drop n (class ++ rest)) (sym h) ∙ drop-front class rest

behind-is : (bytes : List ℕ) → user_type_behind bytes ≡ on_ok (λ u. map_ok (λ r. u.0) (format u.1)) (string bytes)
unfolding user_type_behind
behind-is bytes = refl

pub user_type_again : UserTypeIsReadAgain
user_type_again class user h l =
    let last : List ℕ = string_bytes [] ++ string_bytes [] in
    let rest : List ℕ = string_bytes user ++ last in
    let long : 28 ≤ length (header ++ (class ++ rest)) = simp length-append (omega (arith, h)) in
    let whole : comp_obj_bytes class user ≡ header ++ (class ++ rest) = simp append_assoc in
    ap user_type_read whole
    ∙ cond_false _ _ _ (not_lt (length (header ++ (class ++ rest))) 28 long)
    ∙ ap user_type_behind (behind-header class rest h)
    ∙ behind-is rest
    ∙ ap (on_ok (λ u. map_ok (λ r. u.0) (format u.1))) (string-written user last l)
    ∙ ap (map_ok (λ r. user)) (format-written (string_bytes []))

-- a picture
pub and_left : (a b : Bool) → a && b ≡ true → a ≡ true
and_left true b h = refl
and_left false b h = h

pub and_right : (a b : Bool) → a && b ≡ true → b ≡ true
and_right true b h = h
and_right false b h = absurd (search rules)

written : (b : Bool) (x y : List ℕ) → cond b (Some x) None ≡ Some y → (b ≡ true) × (x ≡ y)
written true x y h = (refl, cc)
written false x y h = absurd (search rules)

whole-written : (lines : List ℕ) → are_lines lines ≡ true → whole_lines (length lines) lines ≡ Some lines
unfolding whole_lines
whole-written lines h =
    let t : take (length lines) lines ≡ lines = take_all (length lines) lines (omega arith) in
    ap (λ ls. cond (nat_le (length lines) (length lines) && are_lines ls) (Some ls) None) t
    ∙ ap (λ b. cond (b && are_lines lines) (Some lines) None) (is_le (length lines) (length lines) (omega arith))
    ∙ ap (λ b. cond b (Some lines) None) h

size-written : (lines : List ℕ) → length lines < 2 ^ 32 → size_of (take 48 (presentation_bytes lines)) ≡ length lines
unfolding size_of
size-written lines h = from_le_bytes-to_le_bytes_4 (length lines) h

lines-again : (lines : List ℕ) → are_lines lines ≡ true → length lines < 2 ^ 32
    → lines_read (presentation_bytes lines) ≡ Some lines
lines-again lines h l =
    cond_false _ _ _ (not_lt (length (presentation_bytes lines)) 48 (omega arith))
    ∙ ap (λ n. whole_lines n lines) (size-written lines l)
    ∙ whole-written lines h

pub lines_again : LinesAreReadAgain
lines_again lines bytes e =
    let w = written (are_lines lines && nat_lt (length lines) 0x100000000) (presentation_bytes lines) bytes e in
    let l : length lines < 2 ^ 32 =
    grind (arith, nat_tests, and_right (are_lines lines) (nat_lt (length lines) 0x100000000) w.0) in
    ap presentation (sym w.1) ∙ ap (picture (presentation_bytes lines))
    (lines-again lines (and_left (are_lines lines) (nat_lt (length lines) 0x100000000) w.0) l)
    ∙ refl
