-- Characters that a name can hold, told of many at once by vectors.
use Rattle.std.proofs.Common.{◌≡◌, ◌≤◌, ◌<◌, ◌+◌, ◌-◌, ◌*◌, ◌%◌, ◌^◌, ◌||◌, ℕ, zero, suc, Bool, true, false, eqb}
use Rattle.std.proofs.Common.{eqb-true, leb, ltb, cond, nat_eq, nat_le, List, [], ◌∷◌, map, not, length, replicate}
use Rattle.std.proofs.Common.{take, drop, bit_or, bit_xor, refl, sym, ap, ◌∙◌, inl, inr, arith, rules, w8, Fits}
use Rattle.std.proofs.lemmas.Bool.{cases_lt}
use Rattle.std.proofs.lemmas.List.{length-map}
use Rattle.std.proofs.lemmas.Simd.{mask_l-mod}
use Rattle.std.proofs.Math.Seq.{drop-nil, take-nil}
use lib.Lanes.{zip2, mask_l, top, Each1}
use Rattle.std.specs.List.{list_any, range_with_len}
use Rattle.cfb_names.specs.Names.{is_forbidden}
use Rattle.read_packed.specs.Named.{HoldsName}

-- ---- what holds of each number below another
abbrev pub every : (ℕ → Bool) → ℕ → Bool
every p zero = true
every p (suc n) = cond (p n) (every p n) false

pub every-is : (p : ℕ → Bool) (n d : ℕ) → every p n ≡ true → d < n → p d ≡ true
every-is p zero d h l = absurd (omega (arith, l))
every-is p (suc n) d h l = elim (p n) as (λ b. p n ≡ b → cond b (every p n) false ≡ true → p d ≡ true) [
  | true ↦ λ q g. elim (nat_eq d n) as (λ b. nat_eq d n ≡ b → p d ≡ true) [
    | true ↦ λ e. ap p (eqb-true d n e)
        ∙ q
    | false ↦ λ e. every-is p n d g (grind (arith, l, e))
  ] refl
  | false ↦ λ q g. absurd (search rules)
] refl h

-- ---- a flag for each character that a name can't hold where it stands
abbrev is : ℕ → ℕ → ℕ
is a b = cond (eqb a b) 255 0

abbrev differs : ℕ → ℕ → ℕ
differs a b = cond (not (eqb a b)) 255 0

abbrev below : ℕ → ℕ → ℕ
below a b = cond (ltb a b) 255 0

abbrev at_least : ℕ → ℕ → ℕ
at_least a b = cond (leb a b) 255 0

-- of the characters from a place on, of which those below a count are a name's
abbrev pub flags : ℕ → ℕ → ℕ → List ℕ → List ℕ
flags i n count xs =
    zip2 bit_or
    (zip2 bit_or
    (zip2 bit_or
    (zip2 bit_or
    (zip2 bit_or (zip2 bit_xor (zip2 below (range_with_len i n) (replicate n count))
    (zip2 differs xs (replicate n 0))) (zip2 is xs (replicate n 47)))
    (zip2 is xs (replicate n 92)))
    (zip2 is xs (replicate n 58)))
    (zip2 is xs (replicate n 33)))
    (zip2 at_least (replicate n 128) xs)

-- the flag of a character inside the name, or behind it
abbrev flag : Bool → ℕ → ℕ
flag inside x =
    bit_or (bit_or (bit_or (bit_or (bit_or (bit_xor (cond inside 255 0) (differs x 0)) (is x 47)) (is x 92))
    (is x 58)) (is x 33)) (at_least 128 x)

abbrev told_inside : ℕ → Bool
told_inside x = cond (top 7 (flag true x)) true (cond (nat_le 128 x) false (cond (is_forbidden x) false true))

abbrev told_behind : ℕ → Bool
told_behind x = cond (top 7 (flag false x)) true (nat_eq x 0)

allowed : (x : ℕ) → x < 256 → top 7 (flag true x) ≡ false → (nat_le 128 x ≡ false) × (is_forbidden x ≡ false)
allowed x low none =
    go (nat_le 128 x) (is_forbidden x) refl refl
    (sym (ap (λ b. cond b true (cond (nat_le 128 x) false (cond (is_forbidden x) false true))) none)
    ∙ every-is told_inside 256 x refl low)
  where
    go : (a b : Bool) → nat_le 128 x ≡ a → is_forbidden x ≡ b → cond a false (cond b false true) ≡ true
        → (nat_le 128 x ≡ false) × (is_forbidden x ≡ false)
    go true b p q e = absurd (search rules)
    go false true p q e = absurd (search rules)
    go false false p q e = (p, q)

nothing : (x : ℕ) → x < 256 → top 7 (flag false x) ≡ false → x ≡ 0
nothing x low none = eqb-true x 0 (sym (ap (λ b. cond b true (nat_eq x 0)) none) ∙ every-is told_behind 256 x refl low)

no_flag : (b : Bool) (m : ℕ) → cond b 1 0 + 2 * m ≡ 0 → (b ≡ false) × (m ≡ 0)
no_flag true m e = absurd (omega (arith, e))
no_flag false m e = (refl, omega (arith, e))

is_below : (a b : ℕ) → a < b → ltb a b ≡ true
is_below a b l = grind (arith, l)

not_below : (a b : ℕ) → b ≤ a → ltb a b ≡ false
not_below a b l = grind (arith, l)

-- what is said of the characters from a place on
record HoldFrom (i n count : ℕ) (xs : List ℕ) : Type 0 where
  ascii : list_any (nat_le 128) (take (count - i) xs) ≡ false
  allowed_are : list_any is_forbidden (take (count - i) xs) ≡ false
  zeros : drop (count - i) xs ≡ replicate (n - (count - i)) 0

unflagged : (i n count : ℕ) (xs : List ℕ) → length xs ≡ n → Each1 (Fits w8) xs
    → mask_l (map (top 7) (flags i n count xs)) ≡ 0 → HoldFrom i n count xs
unflagged i zero count [] long fits e =
    let none : 0 - (count - i) ≡ 0 = omega arith in
    record {
      ascii = ap (list_any (nat_le 128)) (take-nil (count - i));
      allowed_are = ap (list_any is_forbidden) (take-nil (count - i));
      zeros = drop-nil (count - i) ∙ ap (λ (j : ℕ). replicate j 0) (sym none);
    }
unflagged i zero count (x ∷ xs) long fits e = absurd (omega (arith, long))
unflagged i (suc n) count [] long fits e = absurd (omega (arith, long))
unflagged i (suc n) count (x ∷ xs) long fits e =
    let parts = no_flag (top 7 (flag (ltb i count) x)) (mask_l (map (top 7) (flags (i + 1) n count xs))) e in
    let rest : HoldFrom (i + 1) n count xs = unflagged (i + 1) n count xs (omega (arith, long)) fits.1 parts.1 in
    elim (cases_lt i count) [
      | inl lt ↦
          let here = allowed x fits.0.fits (ap (λ b. top 7 (flag b x)) (sym (is_below i count lt)) ∙ parts.0) in
          let m : count - i ≡ suc (count - (i + 1)) = omega (arith, lt) in
          let k : suc n - (count - i) ≡ n - (count - (i + 1)) = omega (arith, lt) in
          record {
            ascii = ap (λ j. list_any (nat_le 128) (take j (x ∷ xs))) m
                ∙ ap (λ b. b || list_any (nat_le 128) (take (count - (i + 1)) xs)) here.0 ∙ rest.ascii;
            allowed_are = ap (λ j. list_any is_forbidden (take j (x ∷ xs))) m
                ∙ ap (λ b. b || list_any is_forbidden (take (count - (i + 1)) xs)) here.1 ∙ rest.allowed_are;
            zeros = ap (λ j. drop j (x ∷ xs)) m ∙ rest.zeros ∙ ap (λ (j : ℕ). replicate j 0) (sym k);
          }
      | inr ge ↦
          let here : x ≡ 0 = nothing x fits.0.fits (ap (λ b. top 7 (flag b x)) (sym (not_below i count ge))
          ∙ parts.0) in
          let m : count - i ≡ 0 = omega (arith, ge) in
          let none : count - (i + 1) ≡ 0 = omega (arith, ge) in
          let all : n - (count - (i + 1)) ≡ n = omega (arith, ge) in
          let whole : suc n ≡ suc n - (count - i) = omega (arith, ge) in
          let behind : xs ≡ replicate n 0 = ap (λ j. drop j xs) (sym none) ∙ rest.zeros
          ∙ ap (λ (j : ℕ). replicate j 0) all in
          record {
            ascii = ap (λ j. list_any (nat_le 128) (take j (x ∷ xs))) m;
            allowed_are = ap (λ j. list_any is_forbidden (take j (x ∷ xs))) m;
            zeros = ap (λ j. drop j (x ∷ xs)) m ∙ (λ t. here t ∷ behind t) ∙ ap (λ (j : ℕ). replicate j 0) whole;
          }
    ]

flags_long : (i n count : ℕ) (xs : List ℕ) → length xs ≡ n → length (flags i n count xs) ≡ n
flags_long i zero count [] long = refl
flags_long i zero count (x ∷ xs) long = absurd (omega (arith, long))
flags_long i (suc n) count [] long = absurd (omega (arith, long))
flags_long i (suc n) count (x ∷ xs) long = ap suc (flags_long (i + 1) n count xs (omega (arith, long)))

-- no flag of thirty-two: the first are a name's, and the others zeros
pub held_so : (count : ℕ) (xs : List ℕ) → length xs ≡ 32 → Each1 (Fits w8) xs
    → eqb (mask_l (map (top 7) (flags 0 32 count xs)) % 2 ^ 64) 0 ≡ true → HoldsName xs count
held_so count xs long fits e =
    let n : count - 0 ≡ count = omega arith in
    let h : HoldFrom 0 32 count xs =
    unflagged 0 32 count xs long fits
    (sym (mask_l-mod (map (top 7) (flags 0 32 count xs)) 64
    (omega (arith, length-map (flags 0 32 count xs) (top 7), flags_long 0 32 count xs long)))
    ∙ eqb-true _ _ e) in
    record {
      ascii = sym (ap (λ k. list_any (nat_le 128) (take k xs)) n) ∙ h.ascii;
      allowed = sym (ap (λ k. list_any is_forbidden (take k xs)) n) ∙ h.allowed_are;
      zeros = sym (ap (λ k. drop k xs) n) ∙ h.zeros ∙ ap (λ k. replicate (32 - k) 0) n;
    }
