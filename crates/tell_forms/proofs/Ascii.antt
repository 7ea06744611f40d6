-- Paths are ASCII, so they are text.
use Rattle.std.proofs.Common.{◌≡◌, ◌<◌, ◌/◌, ◌%◌, ◌++◌, ◌||◌, ◌∙◌, ℕ, Bool, true, false, cond, List, [], ◌∷◌, refl, sym}
use Rattle.std.proofs.Common.{ap, subst, arith, rules, nat_le}
use Rattle.std.proofs.lemmas.Bool.Decides.{nat_tests}
use Rattle.std.proofs.lemmas.List.Elements.{All-append, All-cons, All-nil}
use Rattle.std.proofs.lemmas.Str.{IsUtf8-append, IsUtf8-from_ascii}
use Rattle.std.proofs.lemmas.Str.Ascii.{IsAscii-from_all}
use Rattle.std.specs.List.{All, list_any}
use Rattle.std.specs.Str.{IsUtf8}
use Rattle.cfb_names.specs.Names.{IsName}
use Rattle.text_words.specs.Spelled.{byte_text, digit_text, is_hidden, name_text}

abbrev AreAscii : List ℕ → Type 0
AreAscii text = All (λ b. b < 128) text

digit_ascii : (n : ℕ) → n < 16 → digit_text n < 128
digit_ascii n small = grind (arith, nat_tests)

high_small : (c : ℕ) → c < 128 → c / 16 < 16
high_small c small = omega (arith, small)

low_small : (c : ℕ) → c % 16 < 16
low_small c = omega arith

hidden_ascii : (c : ℕ) → c < 128 → AreAscii (92 ∷ digit_text (c / 16) ∷ digit_text (c % 16) ∷ [])
hidden_ascii c small =
    All-cons (λ b. b < 128) 92 (digit_text (c / 16) ∷ digit_text (c % 16) ∷ []) (omega arith)
    (All-cons (λ b. b < 128) (digit_text (c / 16)) (digit_text (c % 16) ∷ [])
    (digit_ascii (c / 16) (high_small c small))
    (All-cons (λ b. b < 128) (digit_text (c % 16)) [] (digit_ascii (c % 16) (low_small c)) (All-nil (λ b. b < 128))))

byte_ascii : (c : ℕ) → c < 128 → AreAscii (byte_text c)
byte_ascii c small =
    elim (is_hidden c) as (λ b. AreAscii (cond b (92 ∷ digit_text (c / 16) ∷ digit_text (c % 16) ∷ []) (c ∷ [])))
    [ true ↦ hidden_ascii c small | false ↦ All-cons (λ b. b < 128) c [] small (All-nil (λ b. b < 128)) ]

neither : (a b : Bool) → (a || b) ≡ false → (a ≡ false) × (b ≡ false)
neither true b h = absurd (search rules)
neither false b h = (refl, h)

below : (c : ℕ) → nat_le 128 c ≡ false → c < 128
below c h = grind (arith, nat_tests)

name_ascii : (name : List ℕ) → list_any (nat_le 128) name ≡ false → AreAscii (name_text name)
name_ascii [] h = All-nil (λ b. b < 128)
name_ascii (c ∷ cs) h =
    let both = neither (nat_le 128 c) (list_any (nat_le 128) cs) h in
    All-append (λ b. b < 128) (byte_text c) (name_text cs) (byte_ascii c (below c both.0)) (name_ascii cs both.1)

-- a name behind a text
pub path_utf8 : (within path name spelled after : List ℕ) → IsUtf8 within → path ≡ within → IsName name
    → spelled ≡ name → after ≡ path ++ name_text spelled → IsUtf8 after
path_utf8 within path name spelled after u same n is pushed =
    subst IsUtf8 (sym (pushed ∙ ap (λ p. p ++ name_text spelled) same ∙ ap (λ s. within ++ name_text s) is))
    (IsUtf8-append within (name_text name) u
    (IsUtf8-from_ascii (name_text name) (IsAscii-from_all (name_text name) (name_ascii name n.ascii))))

pub contrary : false ≡ true → ⊥
contrary p = cc
