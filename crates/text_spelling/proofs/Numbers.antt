-- Numbers that are spelled and read again.
use Rattle.std.proofs.Common.{◌≡◌, ◌≤◌, ◌<◌, ◌+◌, ◌-◌, ◌*◌, ◌/◌, ◌%◌, ◌^◌, ◌++◌, ◌&&◌, ℕ, zero, suc, true, false, cond}
use Rattle.std.proofs.Common.{List, [], ◌∷◌, Option, Some, None, length, get_or, refl, ap, ◌∙◌, arith, nat_le}
use Rattle.std.proofs.lemmas.Bool.{ne_eqb}
use Rattle.std.proofs.lemmas.Bool.Decides.{nat_tests}
use Rattle.std.proofs.lemmas.Fmt.{decimal_by_steps, decimal_nonempty, first_decimal, decimal_digit}
use Rattle.std.specs.Char.{is_ascii_digit}
use Rattle.std.specs.Fmt.{decimal}
use Rattle.std.specs.Option.{option_and_then}
use Rattle.text_words.specs.Words.{digits_read, number_read}

-- one more digit behind a number
abbrev digit_behind : ℕ → ℕ → Option ℕ
digit_behind d n = digits_read n (d ∷ [])

digits_read-append : (n : ℕ) (ds : List ℕ) (d : ℕ) → digits_read n (ds ++ d ∷ [])
    ≡ option_and_then (digit_behind d) (digits_read n ds)
digits_read-append n [] d = refl
digits_read-append n (c ∷ cs) d =
    elim (is_ascii_digit c && nat_le (10 * n + (c - 48)) 4294967295) as (λ t. cond t
    (digits_read (10 * n + (c - 48)) (cs ++ d ∷ [])) None ≡ option_and_then (digit_behind d)
    (cond t (digits_read (10 * n + (c - 48)) cs) None))
    [ true ↦ digits_read-append (10 * n + (c - 48)) cs d | false ↦ refl ]

digit-behind : (k d : ℕ) → d < 10 → 10 * k + d ≤ 4294967295 → digit_behind (48 + d) k ≡ Some (10 * k + d)
digit-behind k d small fits =
    let digit : is_ascii_digit (48 + d) ≡ true = grind (arith, nat_tests) in
    let value : 10 * k + (48 + d - 48) ≡ 10 * k + d = omega arith in
    let within : nat_le (10 * k + d) 4294967295 ≡ true = grind (arith, nat_tests) in
    rw (digit, value, within) refl

abbrev IsRead : ℕ → List ℕ → Type 0
IsRead n ds = n ≤ 4294967295 → digits_read 0 ds ≡ Some n

read-digits : (n : ℕ) → n < 2 ^ 64 → IsRead n (decimal n)
read-digits n few =
    decimal_by_steps IsRead
    (λ d small fits. let same : 10 * 0 + d ≡ d = omega arith in digit-behind 0 d small (omega arith) ∙ ap Some same)
    (λ m ds much so fits.
    let less : m / 10 ≤ 4294967295 = omega arith in
    let digit : m % 10 < 10 = omega arith in
    let whole : 10 * (m / 10) + m % 10 ≡ m = omega arith in
    digits_read-append 0 ds (48 + m % 10) ∙ ap (option_and_then (digit_behind (48 + m % 10))) (so less)
    ∙ digit-behind (m / 10) (m % 10) digit (omega arith) ∙ ap Some whole)
    n few

plain : (ds : List ℕ) → 0 < length ds → (get_or ds 0 0 ≡ 48 → length ds ≡ 1) → number_read ds ≡ digits_read 0 ds
plain [] some first = absurd (omega arith)
plain (c ∷ []) some first = refl
plain (c ∷ d ∷ ds) some first =
    let other : (c ≡ 48 → ⊥) = λ is. let one : length (c ∷ d ∷ ds) ≡ 1 = first is in absurd (omega arith) in
    ap (λ t. cond t None (digits_read 0 (c ∷ d ∷ ds))) (ne_eqb c 48 other)

pub number-spelled : (n : ℕ) → n < 2 ^ 32 → number_read (decimal n) ≡ Some n
number-spelled zero small = ap number_read (decimal_digit 0 (omega arith))
number-spelled (suc n) small =
    plain (decimal (suc n)) (decimal_nonempty (suc n) (omega arith))
    (λ is. absurd (omega (arith, first_decimal (suc n) (omega arith) (omega arith), is)))
    ∙ read-digits (suc n) (omega arith) (omega arith)
