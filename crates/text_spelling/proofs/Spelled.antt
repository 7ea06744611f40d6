-- Paths that are spelled and read again.
use Rattle.std.proofs.Common.{◌≡◌, ◌≢◌, ◌<◌, ◌+◌, ◌*◌, ◌/◌, ◌%◌, ◌++◌, ◌||◌, ℕ, Bool, true, false, cond, List, [], ◌∷◌}
use Rattle.std.proofs.Common.{Some, Ok, length, refl, sym, ap, ◌∙◌, arith, rules, nat_eq, nat_lt, map}
use Rattle.std.proofs.lemmas.Bool.Decides.{nat_tests}
use Rattle.std.specs.List.{AllByRecursion, list_any, All}
use Rattle.std.proofs.lemmas.List.Elements.{All-cons, All-nil}
use Rattle.std.proofs.lemmas.List.Splits.{slice_split_at, slice_split_none}
use Rattle.cfb_names.specs.Names.{IsName, is_forbidden, name_read as taken_name}
use Rattle.text_words.specs.Words.{pieces}
use Rattle.std.specs.Option.{option_map}
use Rattle.text_spelling.specs.Words.{is_hidden, lower_digit, onto}
use Rattle.text_spelling.specs.Written.{digit_text}
use Rattle.text_spelling.specs.Paths.{byte_text, name_text, path_text, name_read, names_read, spelled_names, named}
use Rattle.text_spelling.specs.Paths.{named_onto, path_read}

digit-read : (n : ℕ) → n < 16 → lower_digit (digit_text n) ≡ Some n
digit-read n small = grind (arith, nat_tests)

digit-no-slash : (n : ℕ) → n < 16 → nat_eq (digit_text n) 47 ≡ false
digit-no-slash n small = grind (arith, nat_tests)

hidden-value : (c : ℕ) → is_hidden c ≡ true → c < 128
hidden-value c h = grind (arith, nat_tests)

shown-read : (c : ℕ) (rest : List ℕ) → is_hidden c ≡ false → nat_eq c 92 ≡ false
    → name_read (c ∷ rest) ≡ onto (Some c) (name_read rest)
shown-read c [] shown other = rw (shown, other) refl
shown-read c (d ∷ []) shown other = rw (shown, other) refl
shown-read c (d ∷ e ∷ cs) shown other = rw (shown, other) refl

hidden-read : (c : ℕ) (rest : List ℕ) → is_hidden c ≡ true
    → name_read (92 ∷ digit_text (c / 16) ∷ digit_text (c % 16) ∷ rest) ≡ onto (Some c) (name_read rest)
hidden-read c rest hidden =
    let small = hidden-value c hidden in
    let high : c / 16 < 16 = omega arith in
    let low : c % 16 < 16 = omega arith in
    let whole : 16 * (c / 16) + c % 16 ≡ c = omega arith in
    rw (digit-read (c / 16) high, digit-read (c % 16) low, whole, hidden) refl

byte-read : (c : ℕ) (rest : List ℕ) → nat_eq c 92 ≡ false → name_read (byte_text c ++ rest)
    ≡ onto (Some c) (name_read rest)
byte-read c rest other =
    (elim (is_hidden c) as (λ b. is_hidden c ≡ b
    → name_read ((cond b (92 ∷ digit_text (c / 16) ∷ digit_text (c % 16) ∷ []) (c ∷ [])) ++ rest)
    ≡ onto (Some c) (name_read rest))
    [ true ↦ λ h. hidden-read c rest h | false ↦ λ h. shown-read c rest h other ] refl)

pub neither : (a b : Bool) → (a || b) ≡ false → (a ≡ false) × (b ≡ false)
neither true b h = absurd (search rules)
neither false b h = (refl, h)

no-backslash : (c : ℕ) → is_forbidden c ≡ false → nat_eq c 92 ≡ false
no-backslash c h = grind (arith, nat_tests)

no-slash : (c : ℕ) → is_forbidden c ≡ false → nat_eq c 47 ≡ false
no-slash c h = grind (arith, nat_tests)

name-read : (name : List ℕ) → list_any is_forbidden name ≡ false → name_read (name_text name) ≡ Some name
name-read [] h = refl
name-read (c ∷ cs) h =
    let both = neither (is_forbidden c) (list_any is_forbidden cs) h in
    byte-read c (name_text cs) (no-backslash c both.0) ∙ ap (onto (Some c)) (name-read cs both.1)

-- no byte is a slash
abbrev Unslashed : List ℕ → Type 0
Unslashed text = All (λ b. nat_eq b 47 ≡ false) text

byte-unslashed : (c : ℕ) (rest : List ℕ) → is_forbidden c ≡ false → Unslashed rest → Unslashed (byte_text c ++ rest)
byte-unslashed c rest allowed all =
    (elim (is_hidden c) as (λ b. is_hidden c ≡ b
    → Unslashed ((cond b (92 ∷ digit_text (c / 16) ∷ digit_text (c % 16) ∷ []) (c ∷ [])) ++ rest)) [
      | true ↦ λ h.
          let small = hidden-value c h in
          let high : c / 16 < 16 = omega arith in
          let low : c % 16 < 16 = omega arith in
          All-cons (λ b. nat_eq b 47 ≡ false) 92 (digit_text (c / 16) ∷ digit_text (c % 16) ∷ rest) refl
          (All-cons (λ b. nat_eq b 47 ≡ false) (digit_text (c / 16)) (digit_text (c % 16) ∷ rest)
          (digit-no-slash (c / 16) high) (All-cons (λ b. nat_eq b 47 ≡ false) (digit_text (c % 16)) rest
          (digit-no-slash (c % 16) low) all))
      | false ↦ λ h. All-cons (λ b. nat_eq b 47 ≡ false) c rest (no-slash c allowed) all
    ] refl)

name-unslashed : (name : List ℕ) → list_any is_forbidden name ≡ false → Unslashed (name_text name)
name-unslashed [] h = All-nil (λ b. nat_eq b 47 ≡ false)
name-unslashed (c ∷ cs) h =
    let both = neither (is_forbidden c) (list_any is_forbidden cs) h in
    byte-unslashed c (name_text cs) both.0 (name-unslashed cs both.1)

pieces-path : (name : List ℕ) (names : List (List ℕ)) → AllByRecursion IsName (name ∷ names)
    → pieces 47 (path_text (name ∷ names)) ≡ name_text name ∷ map name_text names
pieces-path name [] are = slice_split_none (λ b. nat_eq b 47) (name_text name) (name-unslashed name are.0.allowed)
pieces-path name (next ∷ names) are =
    slice_split_at (λ b. nat_eq b 47) (name_text name) 47 (path_text (next ∷ names))
    (name-unslashed name are.0.allowed) refl
    ∙ ap (λ ps. name_text name ∷ ps) (pieces-path next names are.1)

names-read : (names : List (List ℕ)) → AllByRecursion IsName names → names_read (map name_text names) ≡ Some names
names-read [] are = refl
names-read (name ∷ names) are = ap (λ r. onto r (names_read (map name_text names))) (name-read name are.0.allowed)
    ∙ ap (onto (Some name)) (names-read names are.1)

byte-starts : (c : ℕ) (rest : List ℕ) → (x : ℕ) × (xs : List ℕ) × (byte_text c ++ rest ≡ x ∷ xs)
byte-starts c rest =
    elim (is_hidden c) as (λ b. (x : ℕ) × (xs : List ℕ)
    × ((cond b (92 ∷ digit_text (c / 16) ∷ digit_text (c % 16) ∷ []) (c ∷ [])) ++ rest ≡ x ∷ xs))
    [ true ↦ (92, digit_text (c / 16) ∷ digit_text (c % 16) ∷ rest, refl) | false ↦ (c, rest, refl) ]

path-starts : (name : List ℕ) (names : List (List ℕ)) → 0 < length name → (x : ℕ) × (xs : List ℕ)
    × (path_text (name ∷ names) ≡ x ∷ xs)
path-starts [] names some = absurd (omega arith)
path-starts (c ∷ cs) [] some = byte-starts c (name_text cs)
path-starts (c ∷ cs) (next ∷ names) some =
    let first = byte-starts c (name_text cs) in
    (first.0, first.1 ++ 47 ∷ path_text (next ∷ names), ap (λ t. t ++ 47 ∷ path_text (next ∷ names)) first.2)

started : (word : List ℕ) (x : ℕ) (xs : List ℕ) → word ≡ x ∷ xs → spelled_names word ≡ names_read (pieces 47 word)
started word x xs is = ap spelled_names is ∙ ap (λ w. names_read (pieces 47 w)) (sym is)

names-spelled : (names : List (List ℕ)) → names ≢ [] → AllByRecursion IsName names
    → spelled_names (path_text names) ≡ Some names
names-spelled [] some are = absurd (some refl)
names-spelled (name ∷ names) some are =
    let first = path-starts name names are.0.some in
    started (path_text (name ∷ names)) first.0 first.1 first.2 ∙ ap names_read (pieces-path name names are)
    ∙ names-read (name ∷ names) are

name-taken : (name : List ℕ) → IsName name → taken_name name ≡ Ok name
name-taken name is =
    let some : nat_eq (length name) 0 ≡ false = let s = is.some in grind (arith, nat_tests) in
    let short : nat_lt 31 (length name) ≡ false = let s = is.short in grind (arith, nat_tests) in
    rw (some, short, is.ascii, is.allowed) refl

named-names : (names : List (List ℕ)) → AllByRecursion IsName names → named names ≡ Ok names
named-names [] are = refl
named-names (name ∷ names) are = ap (λ r. named_onto r (named names)) (name-taken name are.0)
    ∙ ap (named_onto (Ok name)) (named-names names are.1)

pub path-spelled : (names : List (List ℕ)) → names ≢ [] → AllByRecursion IsName names
    → path_read (path_text names) ≡ Some (Ok names)
path-spelled names some are = ap (option_map named) (names-spelled names some are) ∙ ap Some (named-names names are)
