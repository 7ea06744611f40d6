-- Lines that are read piece by piece.
use Rattle.std.proofs.Common.{◌≡◌, ◌≤◌, ◌+◌, ◌++◌, ℕ, Bool, true, false, cond, List, [], ◌∷◌, Option, Some, None}
use Rattle.std.proofs.Common.{IfSome, length, take, length-append, append_assoc, append-nil, refl, sym, ap, subst, ◌∙◌}
use Rattle.std.proofs.Common.{arith, nat_eq, eq-eqb, true≢false}
use Rattle.std.specs.Io.{StartsWith}
use Rattle.std.specs.Io.BufRead.{DropsConsumable}
use Rattle.std.specs.Io.KnownBytes.{Consumes, Keeps}
use Rattle.std.specs.List.{onto_first, join_with_byte}
use Rattle.std.proofs.BufReadLemmas.{Consumes_shown}
use Rattle.std.proofs.KnownBytes.{Consumes-trans}
use Rattle.std.proofs.Transfers.{starts_with_length}
use Rattle.std.proofs.lemmas.List.Splits.{slice_split-cons_yes, slice_split-cons_no, join_with_byte-slice_split}
use Rattle.text_words.specs.Words.{lines}
use Rattle.text_words.proofs.Cuts.{pieces-joined, pieces-known}
use Rattle.text_io.specs.Input.{most}
use Rattle.text_io.specs.Lines.{asking, is_skipped}
use Rattle.text_io.specs.Reading.{HasNoLineFeed, LeavesLine, MayRefuseBytes, TakesPiece, left_asking}
use Rattle.text_io.specs.declared.input.InputFault.{InputFault}
use Rattle.text_io.specs.declared.input.InputFault.TheVariants.{Unreadable, TooBig, NoMemory}
use Rattle.text_io.specs.declared.reading.Passed.{Passed}

is_feed : ℕ → Bool
is_feed b = nat_eq b 10

-- ---- lines without a line feed
plain-append : (xs ys : List ℕ) → HasNoLineFeed xs → HasNoLineFeed ys → HasNoLineFeed (xs ++ ys)
plain-append [] ys p q = q
plain-append (x ∷ xs) ys p q = (p.0, plain-append xs ys p.1 q)

plain-line : (xs : List ℕ) → HasNoLineFeed xs → lines xs ≡ xs ∷ []
plain-line [] p = refl
plain-line (x ∷ xs) p = slice_split-cons_no (λ b. nat_eq b 10) x xs p.0 ∙ ap (onto_first x) (plain-line xs p.1)

line-before : (xs ys : List ℕ) → HasNoLineFeed xs → lines (xs ++ 10 ∷ ys) ≡ xs ∷ lines ys
line-before [] ys p = slice_split-cons_yes (λ b. nat_eq b 10) 10 ys (eq-eqb 10 10 refl)
line-before (x ∷ xs) ys p = slice_split-cons_no (λ b. nat_eq b 10) x (xs ++ 10 ∷ ys) p.0
    ∙ ap (onto_first x) (line-before xs ys p.1)

-- ---- what a cut at a line feed gives
abbrev is_some_list : List (List ℕ) → Bool
is_some_list [] = false
is_some_list (p ∷ ps) = true

some-of : (ls : List (List ℕ)) → is_some_list ls ≡ true → (P : Type 0)
    → ((q : List ℕ) (qs : List (List ℕ)) → ls ≡ q ∷ qs → P) → P
some-of [] is P f = absurd (true≢false (sym is))
some-of (q ∷ qs) is P f = f q qs refl

onto-plain : (x : ℕ) (q p : List ℕ) (qs ps : List (List ℕ)) → HasNoLineFeed q → nat_eq x 10 ≡ false
    → onto_first x (q ∷ qs) ≡ p ∷ ps → HasNoLineFeed p
onto-plain x q p qs ps others at h = let same : x ∷ q ≡ p = cc in subst HasNoLineFeed same (at, others)

first-plain : (xs p : List ℕ) (ps : List (List ℕ)) → lines xs ≡ p ∷ ps → HasNoLineFeed p
first-plain [] p ps is = let same : [] ≡ p = cc in subst HasNoLineFeed same tt
first-plain (x ∷ xs) p ps is =
    (elim (nat_eq x 10) as (λ b. nat_eq x 10 ≡ b → cond b ([] ∷ lines xs) (onto_first x (lines xs)) ≡ p ∷ ps
    → HasNoLineFeed p) [
      | true ↦ λ at h. let same : [] ≡ p = cc in subst HasNoLineFeed same tt
      | false ↦ λ at h. some-of (lines xs) (pieces-known 10 xs is_some_list true (λ q qs e. refl)) (HasNoLineFeed p)
          (λ q qs e. onto-plain x q p qs ps (first-plain xs q qs e) at (ap (onto_first x) (sym e) ∙ h))
    ]) refl is

cut-at : (xs piece rest : List ℕ) → lines xs ≡ piece ∷ lines rest → xs ≡ piece ++ 10 ∷ rest
cut-at xs piece rest is =
    sym (join_with_byte-slice_split 10 xs) ∙ ap (join_with_byte 10) is
    ∙ pieces-joined 10 rest (λ ps. join_with_byte 10 (piece ∷ ps)) (piece ++ 10 ∷ rest)
    (λ p ps e. ap (λ l. piece ++ 10 ∷ l) e)

not-cut : (xs piece : List ℕ) → lines xs ≡ piece ∷ [] → xs ≡ piece
not-cut xs piece is = sym (join_with_byte-slice_split 10 xs) ∙ ap (join_with_byte 10) is

-- ---- faults
pub refused-shown : (known : Option (List ℕ)) (shown : List ℕ) (bytes taken : ℕ) (fault : InputFault)
    → taken ≤ length shown → IfSome known (λ xs. StartsWith xs shown)
    → MayRefuseBytes (bytes + taken) fault → IfSome known (λ text. MayRefuseBytes (bytes + length text) fault)
refused-shown None shown bytes taken fault within front told = tt
refused-shown (Some xs) shown bytes taken Unreadable within front told = tt
refused-shown (Some xs) shown bytes taken TooBig within front told =
    omega (arith, within, told, starts_with_length xs shown front)
refused-shown (Some xs) shown bytes taken NoMemory within front told = tt

pub refused-behind : (known left : Option (List ℕ)) (done : List ℕ) (before now : ℕ) (fault : InputFault)
    → Consumes known left done → now ≡ before + length done
    → IfSome left (λ text. MayRefuseBytes (now + length text) fault)
    → IfSome known (λ text. MayRefuseBytes (before + length text) fault)
refused-behind None left done before now fault read counted told = tt
refused-behind (Some xs) None done before now fault read counted told = absurd read
refused-behind (Some xs) (Some ys) done before now Unreadable read counted told = tt
refused-behind (Some xs) (Some ys) done before now TooBig read counted told =
    omega (arith, counted, told, ap length read, length-append done ys)
refused-behind (Some xs) (Some ys) done before now NoMemory read counted told = tt

-- ---- pieces
take-front : (xs ys : List ℕ) → take (length xs) (xs ++ ys) ≡ xs
take-front [] ys = refl
take-front (x ∷ xs) ys = ap (λ l. x ∷ l) (take-front xs ys)

-- what is shown begins with a line
module _ (old new : Passed) (before after shown piece : List ℕ) (known kept left : Option (List ℕ))
    (buffered : Option ℕ)
    (front : IfSome known (λ xs. StartsWith xs shown)) (end : IfSome known (λ xs. length shown ≡ 0 → xs ≡ []))
    (fill : Keeps known kept)
    (fits : IfSome known (λ _. IfSome buffered (λ n. length shown ≤ n))) (put : after ≡ before ++ piece) where
  pub takes-last : (rest : List ℕ) → lines shown ≡ piece ∷ lines rest → new.bytes ≡ old.bytes + (length piece + 1)
      → DropsConsumable kept left buffered (length piece + 1)
      → TakesPiece old new before after (10 ∷ []) known left
  takes-last rest is counted drops =
      let whole : shown ≡ (piece ++ 10 ∷ []) ++ rest = cut-at shown piece rest is
      ∙ sym (append_assoc piece (10 ∷ []) rest) in
      let long : length (piece ++ 10 ∷ []) ≡ length piece + 1 = length-append piece (10 ∷ []) in
      let taken : take (length piece + 1) shown ≡ piece ++ 10 ∷ [] =
      ap (take (length piece + 1)) whole ∙ ap (λ n. take n ((piece ++ 10 ∷ []) ++ rest)) (sym long)
      ∙ take-front (piece ++ 10 ∷ []) rest in
      let within : length piece + 1 ≤ length shown =
      omega (arith, ap length whole, length-append (piece ++ 10 ∷ []) rest, long) in
      record {
        piece = piece;
        kept = put;
        plain = first-plain shown piece (lines rest) is;
        counted = counted ∙ ap (λ n. old.bytes + n) (sym long);
        taken = subst (Consumes known left) taken
            (Consumes_shown known kept left buffered shown (length piece + 1) within front end fill fits drops).0;
      }

  pub takes-front : lines shown ≡ piece ∷ [] → new.bytes ≡ old.bytes + length piece
      → DropsConsumable kept left buffered (length piece)
      → TakesPiece old new before after [] known left
  takes-front is counted drops =
      let whole : shown ≡ piece = not-cut shown piece is in
      let same : piece ++ [] ≡ piece = append-nil piece in
      let taken : take (length piece) shown ≡ piece ++ [] =
      ap (take (length piece)) (whole ∙ sym same) ∙ take-front piece [] ∙ sym same in
      let within : length piece ≤ length shown = omega (arith, ap length whole) in
      record {
        piece = piece;
        kept = put;
        plain = first-plain shown piece [] is;
        counted = counted ∙ ap (λ l. old.bytes + length l) (sym same);
        taken = subst (Consumes known left) taken
            (Consumes_shown known kept left buffered shown (length piece) within front end fill fits drops).0;
      }

pub last-within : (shown piece rest : List ℕ) → lines shown ≡ piece ∷ lines rest → length piece + 1 ≤ length shown
last-within shown piece rest is = omega (arith, ap length (cut-at shown piece rest is), length-append piece (10 ∷ rest))

pub front-within : (shown piece : List ℕ) → lines shown ≡ piece ∷ [] → length piece ≤ length shown
front-within shown piece is = omega (arith, ap length (not-cut shown piece is))

pub nothing-shown : (known : Option (List ℕ)) (shown piece : List ℕ)
    → IfSome known (λ xs. length shown ≡ 0 → xs ≡ []) → lines shown ≡ piece ∷ [] → length piece ≡ 0
    → IfSome known (λ xs. xs ≡ [])
nothing-shown None shown piece end is none = tt
nothing-shown (Some xs) shown piece end is none = end (ap length (not-cut shown piece is) ∙ none)

-- ---- lines
known-lines : (n : ℕ) (text line : List ℕ) (rest : List ℕ) → lines text ≡ line ∷ lines rest
    → asking n (lines text) ≡ cond (is_skipped line) (asking (n + 1) (lines rest))
    ((n, line) ∷ asking (n + 1) (lines rest))
known-lines n text line rest is = ap (asking n) is

is-line : (old last : Passed) (text line rest : List ℕ) → last.lines ≡ old.lines + 1
    → left_asking old text ≡ cond (is_skipped line) (asking (old.lines + 1 + 1) (lines rest))
    ((old.lines + 1, line) ∷ asking (old.lines + 1 + 1) (lines rest))
    → left_asking old text ≡ cond (is_skipped line) (left_asking last rest) ((last.lines, line) ∷ left_asking last rest)
is-line old last text line rest next told =
    subst (λ n. left_asking old text ≡ cond (is_skipped line) (asking (n + 1) (lines rest))
    ((n, line) ∷ asking (n + 1) (lines rest))) (sym next) told

-- some of a line was read
pub record IsWithin (old now : Passed) (line : List ℕ) (known left : Option (List ℕ)) : Type 0 where
  pub few : now.bytes ≤ most
  pub plain : HasNoLineFeed line
  pub counted : now.bytes ≡ old.bytes + length line
  pub read : Consumes known left line

module _ (old mid new : Passed) (before after : List ℕ) (known left behind : Option (List ℕ))
    (plain : HasNoLineFeed before) (read : Consumes known left before)
    (so_far : mid.bytes ≡ old.bytes + length before) (few : new.bytes ≤ most) where
  pub nothing-more : after ≡ before → new.bytes ≡ mid.bytes → Consumes left behind []
      → IsWithin old new after known behind
  nothing-more same count more = record {
    few = few;
    plain = subst HasNoLineFeed (sym same) plain;
    counted = omega (arith, count, so_far, ap length same);
    read = subst (Consumes known behind) (append-nil before ∙ sym same)
        (Consumes-trans known left behind before [] read more);
  }

  pub some-more : TakesPiece mid new before after [] left behind → IsWithin old new after known behind
  some-more t =
      let whole : before ++ (t.piece ++ []) ≡ after = ap (λ l. before ++ l) (append-nil t.piece) ∙ sym t.kept in
      record {
        few = few;
        plain = subst HasNoLineFeed (sym t.kept) (plain-append before t.piece plain t.plain);
        counted = omega (arith, t.counted, so_far, ap length whole, length-append before (t.piece ++ []));
        read = subst (Consumes known behind) whole
            (Consumes-trans known left behind before (t.piece ++ []) read t.taken);
      }

-- a line with its line feed was read
module _ (old mid new last : Passed) (before after : List ℕ) (known left behind : Option (List ℕ))
    (plain : HasNoLineFeed before) (read : Consumes known left before)
    (so_far : mid.bytes ≡ old.bytes + length before) (next : last.lines ≡ old.lines + 1) where
  pub line-read : TakesPiece mid new before after (10 ∷ []) left behind → last.bytes ≡ new.bytes
      → IfSome known (λ text. LeavesLine true old last after text behind)
  line-read t same = known-read known behind (Consumes-trans known left behind before (t.piece ++ 10 ∷ []) read t.taken)
    where
      known-read : (known behind : Option (List ℕ)) → Consumes known behind (before ++ (t.piece ++ 10 ∷ []))
          → IfSome known (λ text. LeavesLine true old last after text behind)
      known-read None behind all = tt
      known-read (Some text) None all = absurd all
      known-read (Some text) (Some rest) all =
          let whole : HasNoLineFeed after = subst HasNoLineFeed (sym t.kept)
          (plain-append before t.piece plain t.plain) in
          let is : text ≡ after ++ 10 ∷ rest =
          all ∙ append_assoc before (t.piece ++ 10 ∷ []) rest ∙ ap (λ l. before ++ l)
          (append_assoc t.piece (10 ∷ []) rest) ∙ sym (append_assoc before t.piece (10 ∷ rest))
          ∙ ap (λ l. l ++ 10 ∷ rest) (sym t.kept) in
          record {
            rest = rest;
            left = refl;
            counted = omega (
              arith,
              same,
              t.counted,
              so_far,
              ap length all,
              length-append
                  (before ++ (t.piece ++ 10 ∷ [])) rest,
              length-append before (t.piece ++ 10 ∷ []),
            );
            told = is-line old last text after rest next
                (known-lines (old.lines + 1) text after rest (ap lines is ∙ line-before after rest whole));
          }

  -- the last line was, which has none
  pub last-read : mid.bytes ≡ last.bytes → Consumes left behind [] → IfSome left (λ xs. xs ≡ [])
      → IfSome known (λ text. LeavesLine true old last before text behind)
  last-read same more end = known-read known left behind read more end
    where
      known-read : (known left behind : Option (List ℕ)) → Consumes known left before → Consumes left behind []
          → IfSome left (λ xs. xs ≡ [])
          → IfSome known (λ text. LeavesLine true old last before text behind)
      known-read None left behind all more end = tt
      known-read (Some text) None behind all more end = absurd all
      known-read (Some text) (Some xs) None all more end = absurd more
      known-read (Some text) (Some xs) (Some rest) all more end =
          let is : text ≡ before = all ∙ ap (λ l. before ++ l) end ∙ append-nil before in
          record {
            rest = [];
            left = ap Some (sym more ∙ end);
            counted = omega (arith, same, so_far, ap length is);
            told = is-line old last text before [] next (ap (λ t. asking (old.lines + 1) (lines t)) is
                ∙ ap (asking (old.lines + 1)) (plain-line before plain));
          }

-- no line was left
empty : (xs : List ℕ) → length xs ≡ 0 → xs ≡ []
empty [] h = refl
empty (x ∷ xs) h = absurd (omega (arith, h))

pub none-read : (old last : Passed) (before line : List ℕ) (known left behind : Option (List ℕ))
    → Consumes known left before → length before ≡ 0 → last.bytes ≡ old.bytes
    → Consumes left behind [] → IfSome left (λ xs. xs ≡ [])
    → IfSome known (λ text. LeavesLine false old last line text behind)
none-read old last before line None left behind all none same more end = tt
none-read old last before line (Some text) None behind all none same more end = absurd all
none-read old last before line (Some text) (Some xs) None all none same more end = absurd more
none-read old last before line (Some text) (Some xs) (Some rest) all none same more end =
    let is : text ≡ [] = all ∙ ap (λ l. before ++ l) end ∙ append-nil before ∙ empty before none in
    record {
      rest = [];
      left = ap Some (sym more ∙ end);
      counted = omega (arith, same, ap length is);
      told = (is, refl);
    }

-- ---- the next line that asks for something
-- lines that say nothing were skipped
pub record Skips (old now : Passed) (text : List ℕ) (known : Option (List ℕ)) : Type 0 where
  pub rest : List ℕ
  pub left : known ≡ Some rest
  pub counted : now.bytes + length rest ≡ old.bytes + length text
  pub same : left_asking old text ≡ left_asking now rest
