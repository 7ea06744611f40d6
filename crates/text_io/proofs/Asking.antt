-- The lines of a text that ask for something.
use Rattle.std.proofs.Common.{◌≡◌, ◌+◌, ◌-◌, ◌++◌, ℕ, suc, Bool, true, false, List, [], ◌∷◌, Option, Some, None, Result}
use Rattle.std.proofs.Common.{Ok, Err, cond, take, slice_get, refl, sym, ap, ◌∙◌, append-nil, append_assoc, arith}
use Rattle.std.specs.Prelude.{IsSome}
use Rattle.text_words.specs.Words.{lines}
use Rattle.text_io.specs.Lines.{asking, is_skipped, put_first, lines_read, MayLackMemory}
use Rattle.text_io.specs.declared.lines.SyntaxFault.{SyntaxFault}
use Rattle.text_io.specs.declared.lines.SyntaxFault.TheVariants.{Bad}
use Rattle.text_io.proofs.LineByLine.{behind, behind-first, behind-none, is_empty, ok_is, some_of}

-- what lines ask for that are not skipped, or the first of them that is outside the grammar
abbrev pub asked : {A : Type 0} → (ℕ → List ℕ → Option A) → List (ℕ × List ℕ) → Result (List A) (ℕ × SyntaxFault)
asked read [] = Ok []
asked read ((n, line) ∷ others) = put_first n (read n line) (asked read others)

no_middle : {A : Type 0} (front : List A) (x : A) (back : List A) → ◌≡◌ {A = List A} [] (front ++ x ∷ back) → ⊥
no_middle [] x back h = is_empty h
no_middle (y ∷ front) x back h = is_empty h

-- where a line that asks for something stands
record StandsAt (m : ℕ) (ls : List (List ℕ)) (gone : List (ℕ × List ℕ)) (n : ℕ) (line : List ℕ) : Type 0 where
  at : ℕ
  number : n ≡ m + at
  here : slice_get ls at ≡ Some line
  asks : is_skipped line ≡ false
  upto : asking m (take (at + 1) ls) ≡ gone ++ (n, line) ∷ []

-- the lines behind the first are known
stands-behind : (skipped : Bool) (m : ℕ) (x : List ℕ) (xs : List (List ℕ))
    → ((gone : List (ℕ × List ℕ)) (n : ℕ) (line : List ℕ) (rest : List (ℕ × List ℕ))
    → asking (m + 1) xs ≡ gone ++ (n, line) ∷ rest → StandsAt (m + 1) xs gone n line)
    → (gone : List (ℕ × List ℕ)) (n : ℕ) (line : List ℕ) (rest : List (ℕ × List ℕ)) → is_skipped x ≡ skipped
    → cond skipped (asking (m + 1) xs) ((m, x) ∷ asking (m + 1) xs) ≡ gone ++ (n, line) ∷ rest
    → StandsAt m (x ∷ xs) gone n line
stands-behind true m x xs others gone n line rest says is =
    let deeper : StandsAt (m + 1) xs gone n line = others gone n line rest is in
    let next : suc deeper.at + 1 ≡ suc (deeper.at + 1) = omega arith in
    record {
      at = suc deeper.at;
      number = omega (arith, deeper.number);
      here = deeper.here;
      asks = deeper.asks;
      upto = ap (λ k. asking m (take k (x ∷ xs))) next
          ∙ ap (λ b. cond b (asking (m + 1) (take (deeper.at + 1) xs))
          ((m, x) ∷ asking (m + 1) (take (deeper.at + 1) xs))) says
          ∙ deeper.upto;
    }
stands-behind false m x xs others [] n line rest says is =
    let first : ◌≡◌ {A = ℕ × List ℕ} (m, x) (n, line) = cc in
    let one : m ≡ n = ap (λ p. p.0) first in
    let same : x ≡ line = ap (λ p. p.1) first in
    record {
      at = 0;
      number = omega (arith, one);
      here = ap Some same;
      asks = sym (ap is_skipped same) ∙ says;
      upto = ap (λ b. cond b [] ((m, x) ∷ [])) says ∙ ap (λ k. (k, x) ∷ []) one ∙ ap (λ l. (n, l) ∷ []) same;
    }
stands-behind false m x xs others (y ∷ gone) n line rest says is =
    let first : (m, x) ≡ y = cc in
    let back : asking (m + 1) xs ≡ gone ++ (n, line) ∷ rest = cc in
    let deeper : StandsAt (m + 1) xs gone n line = others gone n line rest back in
    let next : suc deeper.at + 1 ≡ suc (deeper.at + 1) = omega arith in
    record {
      at = suc deeper.at;
      number = omega (arith, deeper.number);
      here = deeper.here;
      asks = deeper.asks;
      upto = ap (λ k. asking m (take k (x ∷ xs))) next
          ∙ ap (λ b. cond b (asking (m + 1) (take (deeper.at + 1) xs))
          ((m, x) ∷ asking (m + 1) (take (deeper.at + 1) xs))) says
          ∙ ap (λ z. z ∷ asking (m + 1) (take (deeper.at + 1) xs)) first
          ∙ ap (λ zs. y ∷ zs) deeper.upto;
    }

stands-at : (m : ℕ) (ls : List (List ℕ)) (gone : List (ℕ × List ℕ)) (n : ℕ) (line : List ℕ)
    (rest : List (ℕ × List ℕ)) → asking m ls ≡ gone ++ (n, line) ∷ rest → StandsAt m ls gone n line
stands-at m [] gone n line rest is = absurd (no_middle gone (n, line) rest is)
stands-at m (x ∷ xs) gone n line rest is = stands-behind (is_skipped x) m x xs (stands-at (m + 1) xs) gone n line
    rest refl is

module _ {A : Type 0} (read : ℕ → List ℕ → Option A) where
  -- only these lines are read
  pub read-asking : (n : ℕ) (ls : List (List ℕ)) → lines_read read n ls ≡ asked read (asking n ls)
  read-asking n [] = refl
  read-asking n (line ∷ ls) =
      ap (λ r. cond (is_skipped line) r (put_first n (read n line) r)) (read-asking (n + 1) ls)
      ∙ (elim (is_skipped line) as (λ b. cond b (asked read (asking (n + 1) ls))
      (put_first n (read n line) (asked read (asking (n + 1) ls)))
      ≡ asked read (cond b (asking (n + 1) ls) ((n, line) ∷ asking (n + 1) ls))) [ true ↦ refl | false ↦ refl ])

  pub asked-append : (xs ys : List (ℕ × List ℕ)) → asked read (xs ++ ys) ≡ behind (asked read xs) (asked read ys)
  asked-append [] ys = sym (behind-none read (asked read ys))
  asked-append ((n, line) ∷ xs) ys =
      ap (put_first n (read n line)) (asked-append xs ys) ∙ behind-first read n (read n line) (asked read xs)
      (asked read ys)

  -- some lines of a text ask for these things, and others are left
  pub asked-so-far : (text : List ℕ) (gone left : List (ℕ × List ℕ)) (front : List A)
      → asking 1 (lines text) ≡ gone ++ left → asked read gone ≡ Ok front
      → lines_read read 1 (lines text) ≡ behind (Ok front) (asked read left)
  asked-so-far text gone left front parts so =
      read-asking 1 (lines text) ∙ ap (asked read) parts ∙ asked-append gone left
      ∙ ap (λ r. behind r (asked read left)) so

  -- one more of them
  pub asked-turn : (gone : List (ℕ × List ℕ)) (n : ℕ) (line : List ℕ) (front : List A) (a : A)
      → asked read gone ≡ Ok front → Some a ≡ read n line
      → asked read (gone ++ (n, line) ∷ []) ≡ Ok (front ++ a ∷ [])
  asked-turn gone n line front a so is =
      asked-append gone ((n, line) ∷ [])
      ∙ ap (λ r. behind r (put_first n (read n line) (Ok []))) so
      ∙ ap (λ t. behind (Ok front) (put_first n t (Ok []))) (sym is)

  -- memory ran out at a line within the grammar
  pub lacking_at : (text : List ℕ) (gone : List (ℕ × List ℕ)) (n : ℕ) (line : List ℕ) (rest : List (ℕ × List ℕ))
      (front : List A) → asking 1 (lines text) ≡ gone ++ (n, line) ∷ rest
      → asked read gone ≡ Ok front → IsSome (read n line) → MayLackMemory read text n
  lacking_at text gone n line rest front parts so within =
      let stands : StandsAt 1 (lines text) gone n line = stands-at 1 (lines text) gone n line rest parts in
      let one = some_of read (read n line) within in
      let place : n - 1 ≡ stands.at = omega (arith, stands.number) in
      let count : n ≡ stands.at + 1 = omega (arith, stands.number) in
      let upto : List (List ℕ) = take n (lines text) in
      record {
        line = line;
        stands = ap (slice_get (lines text)) place ∙ stands.here;
        asks = stands.asks;
        within = ok_is read (lines_read read 1 upto) (front ++ one.0 ∷ []) (
            read-asking 1 upto
            ∙ ap (λ k. asked read (asking 1 (take k (lines text)))) count
            ∙ ap (asked read) stands.upto
            ∙ asked-turn gone n line front one.0 so one.1);
      }

  -- the first line that is outside the grammar
  pub bad-at : (text : List ℕ) (gone : List (ℕ × List ℕ)) (n : ℕ) (line : List ℕ) (rest : List (ℕ × List ℕ))
      (front : List A) → asking 1 (lines text) ≡ gone ++ (n, line) ∷ rest
      → asked read gone ≡ Ok front → None ≡ read n line → lines_read read 1 (lines text) ≡ Err (n, Bad)
  bad-at text gone n line rest front parts so is =
      asked-so-far text gone ((n, line) ∷ rest) front parts so
      ∙ ap (λ t. behind (Ok front) (put_first n t (asked read rest))) (sym is)

  -- all lines were read
  pub all-asked : (text : List ℕ) (gone left : List (ℕ × List ℕ)) (front : List A)
      → asking 1 (lines text) ≡ gone ++ left → asked read gone ≡ Ok front → left ≡ []
      → lines_read read 1 (lines text) ≡ Ok front
  all-asked text gone left front parts so none =
      asked-so-far text gone left front parts so ∙ ap (λ rest. behind (Ok front) (asked read rest)) none
      ∙ ap Ok (append-nil front)

-- one line more is behind us
pub one-more : {A : Type 0} (all gone left : List A) (x : A) (rest : List A) → all ≡ gone ++ left → left ≡ x ∷ rest
    → all ≡ (gone ++ x ∷ []) ++ rest
one-more all gone left x rest parts taken = parts ∙ ap (λ l. gone ++ l) taken ∙ sym (append_assoc gone (x ∷ []) rest)
