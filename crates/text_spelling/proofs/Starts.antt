-- Names that texts begin with.
use Rattle.std.proofs.Common.{◌≡◌, ◌≤◌, ◌<◌, ◌+◌, ◌++◌, ◌||◌, ℕ, suc, Bool, false, cond, List, [], ◌∷◌, Some, Ok}
use Rattle.std.proofs.Common.{length, take, drop, get_or, refl, sym, ap, ◌∙◌, arith, rules, nat_eq, nat_le, add-one}
use Rattle.std.proofs.lemmas.Bool.Decides.{nat_tests}
use Rattle.std.proofs.Math.Seq.{split_at}
use Rattle.std.specs.List.{list_any, All}
use Rattle.std.proofs.lemmas.List.Elements.{All-cons, All-nil}
use Rattle.std.proofs.lemmas.List.Splits.{slice_split_at}
use Rattle.cfb_names.specs.Names.{IsName, is_forbidden}
use Rattle.text_words.specs.Words.{words}
use Rattle.text_spelling.specs.Words.{is_hidden}
use Rattle.text_words.specs.Spelled.{byte_hex}
use Rattle.text_spelling.specs.Paths.{is_special, name_text, path_read}
use Rattle.text_spelling.proofs.Spelled.{neither, path-spelled}

-- no byte is special
abbrev ArePlain : List ℕ → Type 0
ArePlain bytes = list_any is_special bytes ≡ false

shown : (c : ℕ) → is_special c ≡ false → is_hidden c ≡ false
shown c h = (neither (is_hidden c) (is_forbidden c) (neither (is_hidden c || is_forbidden c) (nat_le 128 c) h).0).0

allowed : (c : ℕ) → is_special c ≡ false → is_forbidden c ≡ false
allowed c h = (neither (is_hidden c) (is_forbidden c) (neither (is_hidden c || is_forbidden c) (nat_le 128 c) h).0).1

ascii : (c : ℕ) → is_special c ≡ false → nat_le 128 c ≡ false
ascii c h = (neither (is_hidden c || is_forbidden c) (nat_le 128 c) h).1

other : (c : ℕ) → is_special c ≡ false → nat_eq c 32 ≡ false
other c h = let s = shown c h in grind (arith, nat_tests)

-- what no plain byte passes no list of them passes
none_pass : (p : ℕ → Bool) → ((c : ℕ) → is_special c ≡ false → p c ≡ false) → (bytes : List ℕ) → ArePlain bytes
    → list_any p bytes ≡ false
none_pass p none [] h = refl
none_pass p none (c ∷ cs) h =
    let both = neither (is_special c) (list_any is_special cs) h in
    ap (λ b. b || list_any p cs) (none c both.0) ∙ none_pass p none cs both.1

unspaced : (bytes : List ℕ) → ArePlain bytes → All (λ b. nat_eq b 32 ≡ false) bytes
unspaced [] h = All-nil (λ b. nat_eq b 32 ≡ false)
unspaced (c ∷ cs) h =
    let both = neither (is_special c) (list_any is_special cs) h in
    All-cons (λ b. nat_eq b 32 ≡ false) c cs (other c both.0) (unspaced cs both.1)

-- such bytes spell themselves
itself : (bytes : List ℕ) → ArePlain bytes → name_text bytes ≡ bytes
itself [] h = refl
itself (c ∷ cs) h =
    let both = neither (is_special c) (list_any is_special cs) h in
    ap (λ b. cond b (92 ∷ byte_hex c) (c ∷ []) ++ name_text cs) (shown c both.0) ∙ ap (λ bs. c ∷ bs) (itself cs both.1)

pub plain-name : (bytes : List ℕ) → ArePlain bytes → 0 < length bytes → length bytes ≤ 31 → IsName bytes
plain-name bytes h some short = record {
  some = some;
  short = short;
  ascii = none_pass (nat_le 128) ascii bytes h;
  allowed = none_pass is_forbidden allowed bytes h;
}

-- they are a path of one name
pub plain-path : (bytes : List ℕ) → ArePlain bytes → IsName bytes → path_read bytes ≡ Some (Ok (bytes ∷ []))
plain-path bytes h is = ap path_read (sym (itself bytes h)) ∙ path-spelled (bytes ∷ []) (λ e. absurd (search rules))
    (is, tt)

-- the word before a space
pub first-word : (text : List ℕ) (n : ℕ) → n < length text → get_or text n 0 ≡ 32 → ArePlain (take n text)
    → words text ≡ take n text ∷ words (drop (n + 1) text)
first-word text n within space h =
    ap words (split_at text n 0 within ∙ ap (λ c. take n text ++ c ∷ drop (suc n) text) space)
    ∙ slice_split_at (λ b. nat_eq b 32) (take n text) 32 (drop (suc n) text) (unspaced (take n text) h) refl
    ∙ ap (λ k. take n text ∷ words (drop k text)) (sym (add-one n))
