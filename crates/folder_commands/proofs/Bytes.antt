-- The bytes of names as a folder can hold them.
use Rattle.std.proofs.Common.{◌≡◌, ◌≢◌, ◌<◌, ◌+◌, ◌*◌, ◌/◌, ◌%◌, ◌||◌, ℕ, Bool, true, false, cond, List, [], ◌∷◌, refl}
use Rattle.std.proofs.Common.{arith, rules, nat_eq}
use Rattle.std.proofs.lemmas.Bool.Decides.{nat_tests}
use Rattle.cfb_names.specs.Names.{is_forbidden}
use Rattle.text_words.specs.Spelled.{byte_text, digit_text, is_hidden}
use Rattle.folder_commands.specs.Paths.{is_parting, last_text}

pub neither : (a b : Bool) → (a || b) ≡ false → (a ≡ false) × (b ≡ false)
neither true b h = absurd (search rules)
neither false b h = (refl, h)

pub hidden_small : (c : ℕ) → is_hidden c ≡ true → c < 128
hidden_small c h = grind (arith, nat_tests)

-- the digits of a byte that can't be seen
pub record Digits (c : ℕ) : Type 0 where
  pub high : c / 16 < 16
  pub low : c % 16 < 16
  pub whole : 16 * (c / 16) + c % 16 ≡ c

pub digits_of : (c : ℕ) → is_hidden c ≡ true → Digits c
digits_of c h =
    let small = hidden_small c h in
    record { high = omega arith; low = omega arith; whole = omega arith }

-- what holds of each form of a byte's spelling holds of it
pub byte_cases : (P : List ℕ → Type 0) (c : ℕ)
    → (is_hidden c ≡ true → P (92 ∷ digit_text (c / 16) ∷ digit_text (c % 16) ∷ []))
    → (is_hidden c ≡ false → P (c ∷ [])) → P (byte_text c)
byte_cases P c f g =
    (elim (is_hidden c) as (λ b. is_hidden c ≡ b
    → P (cond b (92 ∷ digit_text (c / 16) ∷ digit_text (c % 16) ∷ []) (c ∷ [])))
    [ true ↦ λ h. f h | false ↦ λ h. g h ] refl)

-- what holds of each form of the last byte's spelling holds of it
pub last_cases : (P : List ℕ → Type 0) (c : ℕ) → (c ≡ 46 → P (92 ∷ 50 ∷ 101 ∷ []))
    → (nat_eq c 46 ≡ false → P (byte_text c)) → P (last_text c)
last_cases P c f g =
    (elim (nat_eq c 46) as (λ b. nat_eq c 46 ≡ b → P (cond b (92 ∷ 50 ∷ 101 ∷ []) (byte_text c)))
    [ true ↦ λ h. f (grind (arith, nat_tests)) | false ↦ λ h. g h ] refl)

pub digit_not_dot : (n : ℕ) → n < 16 → digit_text n ≢ 46
digit_not_dot n small is = grind (arith, nat_tests)

pub digit_not_parting : (n : ℕ) → n < 16 → is_parting (digit_text n) ≡ false
digit_not_parting n small = grind (arith, nat_tests)

pub not_parting : (c : ℕ) → is_forbidden c ≡ false → is_parting c ≡ false
not_parting c h = grind (arith, nat_tests)

pub not_backslash : (c : ℕ) → is_forbidden c ≡ false → nat_eq c 92 ≡ false
not_backslash c h = grind (arith, nat_tests)
