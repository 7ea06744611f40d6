-- The tables of bytes: the hexadecimal digits, and what names don't have.
use Rattle.std.proofs.Common.{◌≡◌, ◌<◌, ◌≤◌, ◌+◌, ◌*◌, ◌^◌, ◌++◌, ℕ, zero, suc, List, [], ◌∷◌, replicate, Bool, true}
use Rattle.std.proofs.Common.{false, not, cond, nat_eq, nat_lt, bit_or, Option, Some, None, slice_index_or, refl, ap}
use Rattle.std.proofs.Common.{sym, ◌∙◌, arith, lt-ltb, rules}
use Rattle.std.proofs.lemmas.Nat.{le_or_l, le_or_r, or_shifted}
use Rattle.text_spelling.specs.Paths.{is_special}
use Rattle.text_spelling.specs.Words.{byte_told, hex_digit, pair_value, weighed}

abbrev firsts : List ℕ
firsts =
    replicate 48 256 ++ (0 ∷ 16 ∷ 32 ∷ 48 ∷ 64 ∷ 80 ∷ 96 ∷ 112 ∷ 128 ∷ 144 ∷ []) ++ replicate 7 256
    ++ (160 ∷ 176 ∷ 192 ∷ 208 ∷ 224 ∷ 240 ∷ [])
    ++ replicate 26 256 ++ (160 ∷ 176 ∷ 192 ∷ 208 ∷ 224 ∷ 240 ∷ []) ++ replicate 153 256

abbrev seconds : List ℕ
seconds =
    replicate 48 256 ++ (0 ∷ 1 ∷ 2 ∷ 3 ∷ 4 ∷ 5 ∷ 6 ∷ 7 ∷ 8 ∷ 9 ∷ []) ++ replicate 7 256
    ++ (10 ∷ 11 ∷ 12 ∷ 13 ∷ 14 ∷ 15 ∷ [])
    ++ replicate 26 256 ++ (10 ∷ 11 ∷ 12 ∷ 13 ∷ 14 ∷ 15 ∷ []) ++ replicate 153 256

equal : (a b : ℕ) → nat_eq a b ≡ true → a ≡ b
equal a b h = grind (arith, h)

abbrev pub every : (ℕ → Bool) → ℕ → Bool
every p zero = true
every p (suc n) = cond (p n) (every p n) false

pub every-is : (p : ℕ → Bool) (n d : ℕ) → every p n ≡ true → d < n → p d ≡ true
every-is p zero d h l = absurd (omega (arith, l))
every-is p (suc n) d h l = elim (p n) as (λ b. p n ≡ b → cond b (every p n) false ≡ true → p d ≡ true) [
  | true ↦ λ q g. elim (nat_eq d n) as (λ b. nat_eq d n ≡ b → p d ≡ true) [
    | true ↦ λ e. ap p (equal d n e)
        ∙ q
    | false ↦ λ e. every-is p n d g (grind (arith, l, e))
  ] refl
  | false ↦ λ q g. absurd (search rules)
] refl h

abbrev bool_eq : Bool → Bool → Bool
bool_eq true b = b
bool_eq false b = not b

same : (a b : Bool) → bool_eq a b ≡ true → a ≡ b
same true true h = refl
same true false h = absurd (cc h)
same false true h = absurd (cc h)
same false false h = refl

abbrev specials : List Bool
specials =
    replicate 34 true ++ replicate 13 false ++ (true ∷ []) ++ replicate 10 false ++ (true ∷ [])
    ++ replicate 33 false ++ (true ∷ []) ++ replicate 34 false
    ++ replicate 129 true

-- what the tables tell of a byte
pub in_specials : (d n : ℕ) → d < 256 → n ≡ d → slice_index_or specials n false ≡ is_special d
in_specials d n l at =
    ap (λ k. slice_index_or specials k false) at
    ∙ same (slice_index_or specials d false) (is_special d)
    (every-is (λ x. bool_eq (slice_index_or specials x false) (is_special x)) 256 d refl l)

pub in_firsts : (d n : ℕ) → d < 256 → n ≡ d → slice_index_or firsts n 0 ≡ weighed 16 (hex_digit d)
in_firsts d n l at =
    ap (λ k. slice_index_or firsts k 0) at
    ∙ equal (slice_index_or firsts d 0) (weighed 16 (hex_digit d))
    (every-is (λ x. nat_eq (slice_index_or firsts x 0) (weighed 16 (hex_digit x))) 256 d refl l)

pub in_seconds : (d n : ℕ) → d < 256 → n ≡ d → slice_index_or seconds n 0 ≡ weighed 1 (hex_digit d)
in_seconds d n l at =
    ap (λ k. slice_index_or seconds k 0) at
    ∙ equal (slice_index_or seconds d 0) (weighed 1 (hex_digit d))
    (every-is (λ x. nat_eq (slice_index_or seconds x 0) (weighed 1 (hex_digit x))) 256 d refl l)

-- values of digits are below sixteen
abbrev is_small : Option ℕ → Bool
is_small None = true
is_small (Some n) = nat_lt n 16

pub small : (d : ℕ) → d < 256 → is_small (hex_digit d) ≡ true
small d l = every-is (λ x. is_small (hex_digit x)) 256 d refl l

ltb-lt : (a b : ℕ) → nat_lt a b ≡ true → a < b
ltb-lt a b h = grind (arith, h)

pub told-some : (n : ℕ) → n < 256 → byte_told n ≡ Some n
told-some n low = ap (λ b. cond b (Some n) None) (lt-ltb n 256 low)

not-below : (n : ℕ) → 256 ≤ n → nat_lt n 256 ≡ false
not-below n big = grind (arith, big)

pub told-none : (n : ℕ) → 256 ≤ n → byte_told n ≡ None
told-none n big = ap (λ b. cond b (Some n) None) (not-below n big)

-- what two digits give together
pub both_told : (first second : Option ℕ) → is_small first ≡ true → is_small second ≡ true
    → byte_told (bit_or (weighed 16 first) (weighed 1 second)) ≡ pair_value first second
both_told None second a b = told-none (bit_or 256 (weighed 1 second)) (le_or_l 256 (weighed 1 second))
both_told (Some v) None a b = told-none (bit_or (16 * v) 256) (le_or_r (16 * v) 256)
both_told (Some v) (Some w) a b =
    let high : v < 16 = ltb-lt v 16 a in
    let low : w < 16 = ltb-lt w 16 b in
    let turned : 16 * v ≡ v * 2 ^ 4 = omega arith in
    let plain : 1 * w ≡ w = omega arith in
    let sum : bit_or (16 * v) (1 * w) ≡ 16 * v + w =
    ap (λ x. bit_or x (1 * w)) turned ∙ ap (bit_or (v * 2 ^ 4)) plain ∙ or_shifted v 4 w low
    ∙ ap (λ x. x + w) (sym turned) in
    ap byte_told sum ∙ told-some (16 * v + w) (omega (arith, high, low))
