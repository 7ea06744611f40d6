-- Names that a folder holds are read again.
use Rattle.std.proofs.Common.{◌≡◌, ◌<◌, ◌+◌, ◌*◌, ◌/◌, ◌%◌, ◌++◌, ◌||◌, ℕ, Bool, true, false, cond, List, [], ◌∷◌, Some}
use Rattle.std.proofs.Common.{refl, sym, ap, ◌∙◌, arith, rules, nat_eq, nat_lt}
use Rattle.std.proofs.lemmas.Bool.Decides.{nat_tests}
use Rattle.std.proofs.lemmas.List.{append-nil}
use Rattle.std.specs.List.{list_any}
use Rattle.cfb_names.specs.Names.{IsName, is_forbidden}
use Rattle.text_words.specs.Spelled.{byte_text, digit_text, is_hidden}
use Rattle.text_spelling.specs.Words.{lower_digit, onto}
use Rattle.folder_commands.specs.Paths.{component, last_text}
use Rattle.folder_commands.proofs.Bytes.{byte_cases, digits_of, last_cases, neither, not_backslash}
use Rattle.folder_commands.specs.Names.{component_read}

digit_read : (n : ℕ) → n < 16 → lower_digit (digit_text n) ≡ Some n
digit_read n small = grind (arith, nat_tests)

shown_read : (c : ℕ) (rest : List ℕ) → is_hidden c ≡ false → nat_eq c 92 ≡ false
    → component_read (c ∷ rest) ≡ onto (Some c) (component_read rest)
shown_read c [] shown other = rw (shown, other) refl
shown_read c (d ∷ []) shown other = rw (shown, other) refl
shown_read c (d ∷ e ∷ cs) shown other = rw (shown, other) refl

hidden_read : (c : ℕ) (rest : List ℕ) → is_hidden c ≡ true
    → component_read ((92 ∷ digit_text (c / 16) ∷ digit_text (c % 16) ∷ []) ++ rest)
    ≡ onto (Some c) (component_read rest)
hidden_read c rest hidden =
    let d = digits_of c hidden in
    rw (digit_read (c / 16) d.high, digit_read (c % 16) d.low, d.whole, hidden) refl

byte_read : (c : ℕ) (rest : List ℕ) → is_forbidden c ≡ false → component_read (byte_text c ++ rest)
    ≡ onto (Some c) (component_read rest)
byte_read c rest allowed =
    byte_cases (λ t. component_read (t ++ rest) ≡ onto (Some c) (component_read rest)) c (hidden_read c rest)
    (λ h. shown_read c rest h (not_backslash c allowed))

last_read : (c : ℕ) → is_forbidden c ≡ false → component_read (last_text c) ≡ Some (c ∷ [])
last_read c allowed =
    last_cases (λ t. component_read t ≡ Some (c ∷ [])) c (λ is. ap (λ x. Some (x ∷ [])) (sym is))
    (λ h. ap component_read (sym (append-nil (byte_text c))) ∙ byte_read c [] allowed)

pub read_back : (name : List ℕ) → list_any is_forbidden name ≡ false → component_read (component name) ≡ Some name
read_back [] h = refl
read_back (c ∷ []) h = last_read c (neither (is_forbidden c) false h).0
read_back (c ∷ d ∷ ds) h =
    let both = neither (is_forbidden c) (list_any is_forbidden (d ∷ ds)) h in
    byte_read c (component (d ∷ ds)) both.0 ∙ ap (onto (Some c)) (read_back (d ∷ ds) both.1)

pub components_read : (name : List ℕ) → IsName name → component_read (component name) ≡ Some name
components_read name is = read_back name is.allowed
