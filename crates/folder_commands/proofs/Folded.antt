-- Names in folders, where the two cases of a letter are one.
use Rattle.std.proofs.Common.{◌≡◌, ◌<◌, ◌+◌, ◌-◌, ◌*◌, ◌/◌, ◌%◌, ◌++◌, ℕ, suc, true, false, cond, List, [], ◌∷◌, length}
use Rattle.std.proofs.Common.{replicate, refl, sym, ap, ◌∙◌, arith, nat_eq, nat_lt}
use Rattle.std.proofs.lemmas.Bool.Decides.{nat_tests}
use Rattle.std.specs.Char.{to_ascii_uppercase}
use Rattle.std.specs.List.{list_any}
use Rattle.cfb_names.specs.Names.{IsName, is_forbidden, key}
use Rattle.text_words.specs.Spelled.{byte_text, digit_text, is_hidden}
use Rattle.folder_commands.specs.Paths.{component, last_text}
use Rattle.folder_commands.specs.Laws.{folded}
use Rattle.folder_commands.proofs.Bytes.{byte_cases, digits_of, last_cases, neither, not_backslash}

-- the value of a digit in upper case
abbrev value : ℕ → ℕ
value c = cond (nat_lt c 65) (c - 48) (c - 55)

-- the name that was spelled, in upper case
abbrev unfolded : List ℕ → List ℕ
unfolded [] = []
unfolded (c ∷ []) = c ∷ []
unfolded (c ∷ d ∷ []) = c ∷ unfolded (d ∷ [])
unfolded (c ∷ d ∷ e ∷ cs) = cond (nat_eq c 92) (to_ascii_uppercase (16 * value d + value e) ∷ unfolded cs)
    (c ∷ unfolded (d ∷ e ∷ cs))

digit_value : (n : ℕ) → n < 16 → value (to_ascii_uppercase (digit_text n)) ≡ n
digit_value n small = grind (arith, nat_tests)

upper_shown : (c : ℕ) → nat_eq c 92 ≡ false → nat_eq (to_ascii_uppercase c) 92 ≡ false
upper_shown c h = grind (arith, nat_tests)

shown_back : (c : ℕ) (rest : List ℕ) → nat_eq c 92 ≡ false → unfolded (c ∷ rest) ≡ c ∷ unfolded rest
shown_back c [] other = refl
shown_back c (d ∷ []) other = refl
shown_back c (d ∷ e ∷ cs) other = rw other refl

hidden_back : (c : ℕ) (rest : List ℕ) → is_hidden c ≡ true
    → unfolded (folded (92 ∷ digit_text (c / 16) ∷ digit_text (c % 16) ∷ []) ++ rest) ≡ to_ascii_uppercase c
    ∷ unfolded rest
hidden_back c rest hidden =
    let d = digits_of c hidden in
    rw (digit_value (c / 16) d.high, digit_value (c % 16) d.low, d.whole) refl

byte_back : (c : ℕ) (rest : List ℕ) → is_forbidden c ≡ false → unfolded (folded (byte_text c) ++ rest)
    ≡ to_ascii_uppercase c ∷ unfolded rest
byte_back c rest allowed =
    byte_cases (λ t. unfolded (folded t ++ rest) ≡ to_ascii_uppercase c ∷ unfolded rest) c (hidden_back c rest)
    (λ h. shown_back (to_ascii_uppercase c) rest (upper_shown c (not_backslash c allowed)))

folded_more : (xs ys : List ℕ) → folded (xs ++ ys) ≡ folded xs ++ folded ys
folded_more [] ys = refl
folded_more (x ∷ xs) ys = ap (λ t. to_ascii_uppercase x ∷ t) (folded_more xs ys)

no_more : (xs : List ℕ) → xs ++ [] ≡ xs
no_more [] = refl
no_more (x ∷ xs) = ap (λ t. x ∷ t) (no_more xs)

last_back : (c : ℕ) → is_forbidden c ≡ false → unfolded (folded (last_text c)) ≡ to_ascii_uppercase c ∷ []
last_back c allowed =
    last_cases (λ t. unfolded (folded t) ≡ to_ascii_uppercase c ∷ []) c
    (λ is. ap (λ x. to_ascii_uppercase x ∷ []) (sym is))
    (λ h. ap unfolded (sym (no_more (folded (byte_text c)))) ∙ byte_back c [] allowed)

component_back : (name : List ℕ) → list_any is_forbidden name ≡ false → unfolded (folded (component name)) ≡ folded name
component_back [] h = refl
component_back (c ∷ []) h = last_back c (neither (is_forbidden c) false h).0
component_back (c ∷ d ∷ ds) h =
    let both = neither (is_forbidden c) (list_any is_forbidden (d ∷ ds)) h in
    ap unfolded (folded_more (byte_text c) (component (d ∷ ds))) ∙ byte_back c (folded (component (d ∷ ds))) both.0
    ∙ ap (λ t. to_ascii_uppercase c ∷ t) (component_back (d ∷ ds) both.1)

as_long : (name : List ℕ) → length (folded name) ≡ length name
as_long [] = refl
as_long (c ∷ cs) = ap suc (as_long cs)

one_key : (a b : List ℕ) → folded a ≡ folded b → key a ≡ key b
one_key a b is =
    let long : length a ≡ length b = sym (as_long a) ∙ ap length is ∙ as_long b in
    ap (λ n. n ∷ (folded a ++ replicate (31 - n) 0)) long ∙ ap (λ t. length b ∷ (t ++ replicate (31 - length b) 0)) is

pub apart : (a b : List ℕ) → IsName a → IsName b → folded (component a) ≡ folded (component b) → key a ≡ key b
apart a b x y is = one_key a b (sym (component_back a x.allowed) ∙ ap unfolded is ∙ component_back b y.allowed)
