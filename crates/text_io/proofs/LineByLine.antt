-- Lines of a text, one after another.
use Rattle.std.proofs.Common.{◌≡◌, ◌≤◌, ◌<◌, ◌+◌, ◌++◌, ℕ, zero, suc, true, false, List, [], ◌∷◌, Option, Some, None}
use Rattle.std.proofs.Common.{Result, Ok, Err, cond, length, take, drop, slice_get, refl, sym, ap, ◌∙◌, subst, arith}
use Rattle.std.proofs.Common.{append-nil, nat_eq, add-zero, rules}
use Rattle.std.specs.Prelude.{IsOk, IsSome}
use Rattle.std.proofs.lemmas.List.{take-append-drop, length-take}
use Rattle.std.proofs.lemmas.List.Splits.{length-slice_split}
use Rattle.std.proofs.lemmas.List.Sums.{count_by-le-length}
use Rattle.text_words.specs.Words.{pieces}
use Rattle.text_io.specs.Lines.{is_skipped, put_first, lines_read}
use Rattle.text_io.specs.declared.lines.SyntaxFault.{SyntaxFault}
use Rattle.text_io.specs.declared.lines.SyntaxFault.TheVariants.{Bad}

-- there are no more pieces than bytes, and one
pub length-pieces : (c : ℕ) (text : List ℕ) → length (pieces c text) ≤ length text + 1
length-pieces c text = omega (
  arith,
  length-slice_split (λ b. nat_eq b c) text,
  count_by-le-length (λ b. nat_eq b c)
      text,
)

-- where a line stands of which so many stand before
pub record Stands (ls : List (List ℕ)) (k : ℕ) (line : List ℕ) (rest : List (List ℕ)) : Type 0 where
  pub before : k < length ls
  pub here : slice_get ls k ≡ Some line
  pub upto : take (k + 1) ls ≡ take k ls ++ line ∷ []
  pub behind : drop (k + 1) ls ≡ rest

pub is_empty : {A : Type 0} {x : A} {xs : List A} → ◌≡◌ {A = List A} [] (x ∷ xs) → ⊥
is_empty h = search rules

pub stands : (ls : List (List ℕ)) (k : ℕ) (line : List ℕ) (rest : List (List ℕ)) → drop k ls ≡ line ∷ rest
    → Stands ls k line rest
stands [] zero line rest left = absurd (is_empty left)
stands [] (suc k) line rest left = absurd (is_empty left)
stands (x ∷ xs) zero line rest left =
    let first : x ≡ line = cc in
    let others : xs ≡ rest = cc in
    record { before = omega arith; here = ap Some first; upto = ap (λ l. l ∷ []) first; behind = others }
stands (x ∷ xs) (suc k) line rest left =
    let deeper : Stands xs k line rest = stands xs k line rest left in
    let next : suc k + 1 ≡ suc (k + 1) = omega arith in
    record {
      before = omega (arith, deeper.before);
      here = deeper.here;
      upto = ap (λ n. take n (x ∷ xs)) next ∙ ap (λ ls. x ∷ ls) deeper.upto;
      behind = ap (λ n. drop n (x ∷ xs)) next ∙ deeper.behind;
    }

-- what some lines ask for, before what others do
abbrev pub behind : {A E : Type 0} → Result (List A) E → Result (List A) E → Result (List A) E
behind (Err e) others = Err e
behind (Ok xs) (Ok ys) = Ok (xs ++ ys)
behind (Ok xs) (Err e) = Err e

module _ {A : Type 0} (read : ℕ → List ℕ → Option A) where
  pub behind-first : (n : ℕ) (asked : Option A) (xs ys : Result (List A) (ℕ × SyntaxFault))
      → put_first n asked (behind xs ys) ≡ behind (put_first n asked xs) ys
  behind-first n None xs ys = refl
  behind-first n (Some a) (Ok xs) (Ok ys) = refl
  behind-first n (Some a) (Ok xs) (Err e) = refl
  behind-first n (Some a) (Err e) ys = refl

  pub behind-none : (ys : Result (List A) (ℕ × SyntaxFault)) → behind (Ok []) ys ≡ ys
  behind-none (Ok ys) = refl
  behind-none (Err e) = refl

  lines_read-append : (n : ℕ) (xs ys : List (List ℕ)) → lines_read read n (xs ++ ys)
      ≡ behind (lines_read read n xs) (lines_read read (n + length xs) ys)
  lines_read-append n [] ys = ap (λ m. lines_read read m ys) (sym (add-zero n))
      ∙ sym (behind-none (lines_read read (n + 0) ys))
  lines_read-append n (line ∷ xs) ys =
      let next : n + 1 + length xs ≡ n + length (line ∷ xs) = omega arith in
      let others : lines_read read (n + 1) (xs ++ ys) ≡ behind (lines_read read (n + 1) xs)
      (lines_read read (n + length (line ∷ xs)) ys) = lines_read-append (n + 1) xs ys
      ∙ ap (λ m. behind (lines_read read (n + 1) xs) (lines_read read m ys)) next in
      ap (λ r. cond (is_skipped line) r (put_first n (read n line) r)) others
      ∙ (elim (is_skipped line) as (λ b. cond b
      (behind (lines_read read (n + 1) xs) (lines_read read (n + length (line ∷ xs)) ys))
      (put_first n (read n line)
      (behind (lines_read read (n + 1) xs) (lines_read read (n + length (line ∷ xs)) ys)))
      ≡ behind (cond b (lines_read read (n + 1) xs) (put_first n (read n line) (lines_read read (n + 1) xs)))
      (lines_read read (n + length (line ∷ xs)) ys)) [
        | true ↦ refl
        | false ↦ behind-first n (read n line) (lines_read read (n + 1) xs)
            (lines_read read (n + length (line ∷ xs)) ys)
      ])

  -- one more line
  turn : (ls : List (List ℕ)) (k : ℕ) (line : List ℕ) (rest : List (List ℕ)) (front : List A)
      → drop k ls ≡ line ∷ rest → lines_read read 1 (take k ls) ≡ Ok front
      → lines_read read 1 (take (k + 1) ls) ≡ behind (Ok front) (lines_read read (k + 1) (line ∷ []))
  turn ls k line rest front left so =
      let at : Stands ls k line rest = stands ls k line rest left in
      let number : 1 + length (take k ls) ≡ k + 1 = omega (arith, length-take k ls, at.before) in
      ap (lines_read read 1) at.upto ∙ lines_read-append 1 (take k ls) (line ∷ [])
      ∙ ap (λ r. behind r (lines_read read (1 + length (take k ls)) (line ∷ []))) so
      ∙ ap (λ m. behind (Ok front) (lines_read read m (line ∷ []))) number

  pub skipped : (ls : List (List ℕ)) (k : ℕ) (line : List ℕ) (rest : List (List ℕ)) (front : List A)
      → drop k ls ≡ line ∷ rest → lines_read read 1 (take k ls) ≡ Ok front
      → is_skipped line ≡ true → lines_read read 1 (take (k + 1) ls) ≡ Ok front
  skipped ls k line rest front left so says =
      turn ls k line rest front left so
      ∙ ap (λ b. behind (Ok front) (cond b (Ok []) (put_first (k + 1) (read (k + 1) line) (Ok [])))) says
      ∙ ap Ok (append-nil front)

  pub read_more : (ls : List (List ℕ)) (k : ℕ) (line : List ℕ) (rest : List (List ℕ)) (front : List A) (a : A)
      → drop k ls ≡ line ∷ rest → lines_read read 1 (take k ls) ≡ Ok front
      → is_skipped line ≡ false → Some a ≡ read (k + 1) line → lines_read read 1 (take (k + 1) ls)
      ≡ Ok (front ++ a ∷ [])
  read_more ls k line rest front a left so says is =
      turn ls k line rest front left so
      ∙ ap (λ b. behind (Ok front) (cond b (Ok []) (put_first (k + 1) (read (k + 1) line) (Ok [])))) says
      ∙ ap (λ t. behind (Ok front) (put_first (k + 1) t (Ok []))) (sym is)

  refused-here : (n : ℕ) (asked : Option A) (others : Result (List A) (ℕ × SyntaxFault)) → None ≡ asked
      → put_first n asked others ≡ Err (n, Bad)
  refused-here n asked others is = ap (λ t. put_first n t others) (sym is)

  -- the first line that is outside the grammar
  pub bad : (ls : List (List ℕ)) (k : ℕ) (line : List ℕ) (rest : List (List ℕ)) (front : List A)
      → drop k ls ≡ line ∷ rest → lines_read read 1 (take k ls) ≡ Ok front
      → is_skipped line ≡ false → None ≡ read (k + 1) line → lines_read read 1 ls ≡ Err (k + 1, Bad)
  bad ls k line rest front left so says is =
      let at : Stands ls k line rest = stands ls k line rest left in
      let number : 1 + length (take k ls) ≡ k + 1 = omega (arith, length-take k ls, at.before) in
      ap (lines_read read 1) (sym (take-append-drop k ls)) ∙ lines_read-append 1 (take k ls) (drop k ls)
      ∙ ap (λ r. behind r (lines_read read (1 + length (take k ls)) (drop k ls))) so
      ∙ ap (λ m. behind (Ok front) (lines_read read m (drop k ls))) number
      ∙ ap (λ l. behind (Ok front) (lines_read read (k + 1) l)) left
      ∙ ap
      (λ b. behind (Ok front) (cond b (lines_read read (k + 1 + 1) rest)
      (put_first (k + 1) (read (k + 1) line) (lines_read read (k + 1 + 1) rest)))) says
      ∙ ap (behind (Ok front)) (refused-here (k + 1) (read (k + 1) line) (lines_read read (k + 1 + 1) rest) is)

  no_value : IsSome {T = A} None → ⊥
  no_value h = search rules

  pub some_of : (asked : Option A) → IsSome asked → (a : A) × (Some a ≡ asked)
  some_of (Some a) is = (a, refl)
  some_of None is = absurd (no_value is)

  pub some_is : (asked : Option A) (a : A) → Some a ≡ asked → IsSome asked
  some_is asked a is = let P : Option A → Type 0 = IsSome in subst P is refl

  pub ok_is : (r : Result (List A) (ℕ × SyntaxFault)) (xs : List A) → r ≡ Ok xs → IsOk r
  ok_is r xs is = let P : Result (List A) (ℕ × SyntaxFault) → Type 0 = IsOk in subst P (sym is) refl
