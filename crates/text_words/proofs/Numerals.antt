-- Numbers that are spelled and read.
use Rattle.std.proofs.Common.{◌≡◌, ◌≤◌, ◌<◌, ◌+◌, ◌-◌, ◌*◌, ◌^◌, ◌&&◌, ℕ, true, cond, List, [], ◌∷◌, zero, suc, length}
use Rattle.std.proofs.Common.{get_or, refl, ap, sym, ◌∙◌, arith, rules, nat_le, nat_eq}
use Rattle.std.specs.Prelude.{Option, Some, None}
use Rattle.std.specs.Char.{is_ascii_digit}
use Rattle.std.specs.Str.{all_ascii_digits}
use Rattle.std.specs.Fmt.{decimal}
use Rattle.std.proofs.lemmas.Fmt.{digits_decimal, digits_value-decimal, decimal-digits_value, decimal_nonempty}
use Rattle.std.proofs.lemmas.Fmt.{first_decimal, decimal_digit}
use Rattle.std.proofs.lemmas.Str.Parse.{IsNumeralModel, numerals_by_fold}
use Rattle.text_words.specs.Words.{digits_read, number_read}
use Rattle.text_words.proofs.Passing.{both, first_of_both, second_of_both, told_cond, le_told, le_passes, ne_told}
use Rattle.text_words.proofs.Passing.{eq_told}

-- the value of digits behind a number
abbrev pub read_on : ℕ → List ℕ → ℕ
read_on n [] = n
read_on n (c ∷ cs) = read_on (10 * n + (c - 48)) cs

pub numerals : IsNumeralModel (λ ds. all_ascii_digits ds ≡ true) (read_on 0)
numerals = numerals_by_fold _ (search rules) read_on (search rules)

pub record IsRead (n : ℕ) (ds : List ℕ) (m : ℕ) : Type 0 where
  pub digits : all_ascii_digits ds ≡ true
  pub value : read_on n ds ≡ m
  pub small : m ≤ 4294967295

-- what digits are read as is their value
pub digits_told : (n : ℕ) (ds : List ℕ) (m : ℕ) → n ≤ 4294967295 → digits_read n ds ≡ Some m → IsRead n ds m
digits_told n [] m small h = let e : n ≡ m = cc in record { digits = refl; value = e; small = omega arith }
digits_told n (c ∷ cs) m small h =
    let next = 10 * n + (c - 48) in
    let P : Option ℕ → Type 0 = λ told. told ≡ Some m → IsRead n (c ∷ cs) m in
    told_cond P (is_ascii_digit c && nat_le next 4294967295) (digits_read next cs) None
    (λ fits told.
    let more : IsRead next cs m = digits_told next cs m
    (le_told next 4294967295 (second_of_both (is_ascii_digit c) (nat_le next 4294967295) fits)) told in
    record {
      digits = both (is_ascii_digit c) (all_ascii_digits cs)
          (first_of_both (is_ascii_digit c) (nat_le next 4294967295) fits) more.digits;
      value = more.value;
      small = more.small;
    })
    (λ stops told. cc)
    h

read_on-grows : (n : ℕ) (ds : List ℕ) → n ≤ read_on n ds
read_on-grows n [] = omega arith
read_on-grows n (c ∷ cs) = omega (arith, read_on-grows (10 * n + (c - 48)) cs)

-- digits of a small value are read as it
pub digits_read-value : (n : ℕ) (ds : List ℕ) → all_ascii_digits ds ≡ true → read_on n ds ≤ 4294967295
    → digits_read n ds ≡ Some (read_on n ds)
digits_read-value n [] d h = refl
digits_read-value n (c ∷ cs) d h =
    let next = 10 * n + (c - 48) in
    let grows : next ≤ read_on next cs = read_on-grows next cs in
    let passes : (is_ascii_digit c && nat_le next 4294967295) ≡ true =
    both (is_ascii_digit c) (nat_le next 4294967295) (first_of_both (is_ascii_digit c) (all_ascii_digits cs) d)
    (le_passes next 4294967295 (omega arith)) in
    ap (λ b. cond b (digits_read next cs) None) passes ∙ digits_read-value next cs
    (second_of_both (is_ascii_digit c) (all_ascii_digits cs) d) h

number_read-digits : (ds : List ℕ) → 0 < length ds → (get_or ds 0 0 ≡ 48 → length ds ≡ 1)
    → number_read ds ≡ digits_read 0 ds
number_read-digits [] some front = absurd (omega arith)
number_read-digits (c ∷ []) some front = refl
number_read-digits (c ∷ d ∷ ds) some front =
    told_cond (λ (told : Option ℕ). told ≡ digits_read 0 (c ∷ d ∷ ds)) (nat_eq c 48) None (digits_read 0 (c ∷ d ∷ ds))
    (λ zeros. let two : suc (suc (length ds)) ≡ 1 = front (eq_told c 48 zeros) in absurd (omega arith))
    (λ other. refl)

pub record IsNumber (ds : List ℕ) (n : ℕ) : Type 0 where
  pub spelled : decimal n ≡ ds
  pub small : n < 2 ^ 32

spelled_so : (ds : List ℕ) (n : ℕ) → 0 < length ds → (get_or ds 0 0 ≡ 48 → length ds ≡ 1) → IsRead 0 ds n
    → IsNumber ds n
spelled_so ds n some front r =
    let small : n ≤ 4294967295 = r.small in
    let fits : read_on 0 ds < 2 ^ 64 = (let v = r.value in omega arith) in
    record {
      spelled = ap decimal (sym r.value) ∙ decimal-digits_value numerals ds r.digits some front fits;
      small = omega arith;
    }

-- what is read as a number is how the number is spelled
pub number_told : (ds : List ℕ) (n : ℕ) → number_read ds ≡ Some n → IsNumber ds n
number_told [] n h = cc
number_told (c ∷ []) n h = spelled_so (c ∷ []) n (omega arith) (λ z. refl) (digits_told 0 (c ∷ []) n (omega arith) h)
number_told (c ∷ d ∷ ds) n h =
    told_cond (λ (told : Option ℕ). told ≡ Some n → IsNumber (c ∷ d ∷ ds) n) (nat_eq c 48) None
    (digits_read 0 (c ∷ d ∷ ds))
    (λ zeros told. cc)
    (λ other told. spelled_so (c ∷ d ∷ ds) n (omega arith) (λ z. absurd (ne_told c 48 other z))
    (digits_told 0 (c ∷ d ∷ ds) n (omega arith) told))
    h

front_of : (n : ℕ) → n < 2 ^ 64 → get_or (decimal n) 0 0 ≡ 48 → length (decimal n) ≡ 1
front_of zero h e = ap length (decimal_digit 0 (omega arith))
front_of (suc n) h e = let past : 48 < get_or (decimal (suc n)) 0 0 = first_decimal (suc n) (omega arith) h in
    absurd (omega arith)

-- a number of 32 bits is read as it is spelled
pub number_read-decimal : (n : ℕ) → n < 2 ^ 32 → number_read (decimal n) ≡ Some n
number_read-decimal n h =
    let small : n < 2 ^ 64 = omega arith in
    let value : read_on 0 (decimal n) ≡ n = digits_value-decimal numerals n small in
    number_read-digits (decimal n) (decimal_nonempty n small) (front_of n small)
    ∙ digits_read-value 0 (decimal n) (digits_decimal numerals n small) (omega arith)
    ∙ ap (λ m. Some m) value
