-- Bytes in hexadecimal by vectors, lane by lane.
use Rattle.std.proofs.Common.{◌≡◌, ◌≤◌, ◌<◌, ◌+◌, ◌-◌, ◌*◌, ◌%◌, ◌^◌, ◌++◌, ℕ, zero, suc, Bool, true, false, ltb, leb}
use Rattle.std.proofs.Common.{cond, nat_eq, nat_lt, Option, Some, None, List, [], ◌∷◌, map, length, get_or, replicate}
use Rattle.std.proofs.Common.{take, drop, bit_and, bit_or, refl, sym, ap, ◌∙◌, inl, inr, arith, rules, w8, Fits}
use Rattle.std.proofs.Common.{eqb-true, lt-ltb, length-append, take-add, take-append-drop, append_assoc, ◌&&◌}
use Rattle.std.proofs.lemmas.Bool.{cases_lt}
use Rattle.std.proofs.lemmas.List.{length-drop, length-map, length-take, take_rest}
use Rattle.std.proofs.lemmas.Nat.{le_or_l, le_or_r, or_lt}
use Rattle.std.proofs.lemmas.Simd.{length-zip2, mask_l-mod}
use lib.Lanes.{zip2, sel_l, mask_l, top, Each1, pick_l}
use Rattle.std.specs.Option.{option_map}
use Rattle.text_spelling.specs.Blocks.{at_even, at_odd, is_all_below, value_told}
use Rattle.text_spelling.specs.Words.{hex_digit, hex_read, onto, pair_value}
use Rattle.text_spelling.proofs.Digits.{every-is}
use Rattle.text_spelling.proofs.Hex.{behind-nothing}

-- ---- the value of each lane

abbrev less : ℕ → ℕ → ℕ
less a b = (a + (2 ^ 8 - b)) % 2 ^ 8

abbrev plus : ℕ → ℕ → ℕ
plus a b = (a + b) % 2 ^ 8

abbrev below_mask : ℕ → ℕ → ℕ
below_mask a b = cond (ltb a b) 255 0

abbrev smaller : List ℕ → List ℕ → List ℕ
smaller xs ys = sel_l (map (top 7) (zip2 below_mask xs ys)) xs ys

abbrev excess : List ℕ → List ℕ → List ℕ
excess xs ys = zip2 less (sel_l (map (top 7) (zip2 below_mask xs ys)) ys xs) ys

abbrev numbers : ℕ → List ℕ → List ℕ
numbers n xs = zip2 less (excess (zip2 less xs (replicate n 58)) (replicate n 6)) (replicate n 240)

abbrev letters : ℕ → List ℕ → List ℕ
letters n xs = zip2 plus (smaller (zip2 less (zip2 bit_and xs (replicate n 223)) (replicate n 65))
    (replicate n 245)) (replicate n 10)

abbrev lanes : ℕ → List ℕ → List ℕ
lanes n xs = smaller (numbers n xs) (letters n xs)

abbrev lane : ℕ → ℕ
lane x = get_or (lanes 1 (x ∷ [])) 0 0

abbrev same : Option ℕ → Option ℕ → Bool
same None None = true
same None (Some b) = false
same (Some a) None = false
same (Some a) (Some b) = nat_eq a b

same-is : (a b : Option ℕ) → same a b ≡ true → a ≡ b
same-is None None h = refl
same-is None (Some b) h = absurd (search rules)
same-is (Some a) None h = absurd (search rules)
same-is (Some a) (Some b) h = ap Some (eqb-true a b h)

lane-told : (x : ℕ) → x < 256 → value_told (lane x) ≡ hex_digit x
lane-told x low = same-is (value_told (lane x)) (hex_digit x)
    (every-is (λ y. same (value_told (lane y)) (hex_digit y)) 256 x refl low)

pub lanes-told : (n : ℕ) (xs : List ℕ) → length xs ≡ n → Each1 (Fits w8) xs
    → map value_told (lanes n xs) ≡ map hex_digit xs
lanes-told zero [] long fits = refl
lanes-told zero (x ∷ xs) long fits = absurd (omega (arith, long))
lanes-told (suc n) [] long fits = absurd (omega (arith, long))
lanes-told (suc n) (x ∷ xs) long fits =
    ap (λ told. told ∷ map value_told (lanes n xs)) (lane-told x fits.0.fits)
    ∙ ap (λ told. hex_digit x ∷ told) (lanes-told n xs (omega (arith, long)) fits.1)

-- ---- whether all lanes are digits

abbrev at_least : ℕ → ℕ → ℕ
at_least a b = cond (leb a b) 255 0

one-flag : (x m : ℕ) → nat_eq (cond (top 7 (at_least 16 x)) 1 0 + 2 * m) 0 ≡ (nat_lt x 16 && nat_eq m 0)
one-flag x m =
    elim (cases_lt x 16) [
      | inl low ↦ ap (λ b. nat_eq (cond (top 7 (cond b 255 0)) 1 0 + 2 * m) 0) (leb-above 16 x low) ∙ twice m
          ∙ ap (λ b. b && nat_eq m 0) (sym (lt-ltb x 16 low))
      | inr big ↦ ap (λ b. nat_eq (cond (top 7 (cond b 255 0)) 1 0 + 2 * m) 0) (leb-below 16 x big) ∙ odd m
          ∙ ap (λ b. b && nat_eq m 0) (sym (not-lt x 16 big))
    ]
  where
    leb-above : (a b : ℕ) → b < a → leb a b ≡ false
    leb-above a b l = grind (arith, l)

    leb-below : (a b : ℕ) → a ≤ b → leb a b ≡ true
    leb-below a b l = grind (arith, l)

    not-lt : (a b : ℕ) → b ≤ a → nat_lt a b ≡ false
    not-lt a b l = grind (arith, l)

    twice : (m : ℕ) → nat_eq (0 + 2 * m) 0 ≡ nat_eq m 0
    twice m = grind arith

    odd : (m : ℕ) → nat_eq (1 + 2 * m) 0 ≡ false
    odd m = grind arith

no-flags : (n : ℕ) (xs : List ℕ) → length xs ≡ n → nat_eq (mask_l (map (top 7) (zip2 at_least (replicate n 16) xs)))
    0 ≡ is_all_below 16 xs
no-flags zero [] long = refl
no-flags zero (x ∷ xs) long = absurd (omega (arith, long))
no-flags (suc n) [] long = absurd (omega (arith, long))
no-flags (suc n) (x ∷ xs) long =
    one-flag x (mask_l (map (top 7) (zip2 at_least (replicate n 16) xs)))
    ∙ ap (λ b. nat_lt x 16 && b) (no-flags n xs (omega (arith, long)))

pub mask-tells : (xs : List ℕ) → length xs ≡ 16
    → nat_eq (mask_l (map (top 7) (zip2 at_least (replicate 16 16) xs)) % 2 ^ 64) 0 ≡ is_all_below 16 xs
mask-tells xs long =
    let flags : List Bool = map (top 7) (zip2 at_least (replicate 16 16) xs) in
    let few : length flags ≤ 64 =
    omega (
      arith,
      length-map (zip2 at_least (replicate 16 16) xs) (top 7),
      length-zip2 at_least
          (replicate 16 16) xs (sym long),
    ) in
    ap (λ m. nat_eq m 0) (mask_l-mod flags 64 few) ∙ no-flags 16 xs long

-- ---- characters at even and at odd places

abbrev steps : ℕ → ℕ → List ℕ
steps i zero = []
steps i (suc n) = i ∷ steps (suc (suc i)) n

shifted : (x : ℕ) (xs : List ℕ) (i n : ℕ) → pick_l 0 (x ∷ xs) (steps (suc i) n) ≡ pick_l 0 xs (steps i n)
shifted x xs i zero = refl
shifted x xs i (suc n) = ap (λ l. get_or xs i 0 ∷ l) (shifted x xs (suc (suc i)) n)

pub picked-even : (n : ℕ) (xs : List ℕ) → length xs ≡ 2 * n → pick_l 0 xs (steps 0 n) ≡ at_even xs
picked-even zero [] long = refl
picked-even zero (a ∷ xs) long = absurd (omega (arith, long))
picked-even (suc n) [] long = absurd (omega (arith, long))
picked-even (suc n) (a ∷ []) long = absurd (omega (arith, long))
picked-even (suc n) (a ∷ b ∷ xs) long =
    ap (λ l. a ∷ l) (shifted a (b ∷ xs) 1 n ∙ shifted b xs 0 n ∙ picked-even n xs (omega (arith, long)))

pub picked-odd : (n : ℕ) (xs : List ℕ) → length xs ≡ 2 * n → pick_l 0 xs (steps 1 n) ≡ at_odd xs
picked-odd zero [] long = refl
picked-odd zero (a ∷ xs) long = absurd (omega (arith, long))
picked-odd (suc n) [] long = absurd (omega (arith, long))
picked-odd (suc n) (a ∷ []) long = absurd (omega (arith, long))
picked-odd (suc n) (a ∷ b ∷ xs) long =
    ap (λ l. b ∷ l) (shifted a (b ∷ xs) 2 n ∙ shifted b xs 1 n ∙ picked-odd n xs (omega (arith, long)))

module _ (word : List ℕ) (long : 32 ≤ length word) where
  abbrev pub both : List ℕ
  both = take 16 word ++ take 16 (drop 16 word)

  both-long : length both ≡ 32
  both-long = omega (
    arith,
    long,
    length-append (take 16 word) (take 16 (drop 16 word)),
    length-take 16 word,
    length-take 16 (drop 16 word),
    length-drop 16 word,
  )

  pub split-even : pick_l 0 both (steps 0 16) ≡ at_even (take 32 word)
  split-even = picked-even 16 both both-long ∙ ap at_even (sym (take-add 16 16 word))

  pub split-odd : pick_l 0 both (steps 1 16) ≡ at_odd (take 32 word)
  split-odd = picked-odd 16 both both-long ∙ ap at_odd (sym (take-add 16 16 word))

-- ---- the bytes of pairs

abbrev times : ℕ → ℕ → ℕ
times a b = (a * b) % 2 ^ 8

value-some : (n : ℕ) → n < 16 → value_told n ≡ Some n
value-some n low = ap (λ b. cond b (Some n) None) (lt-ltb n 16 low)

not-below : (n : ℕ) → 16 ≤ n → nat_lt n 16 ≡ false
not-below n big = grind (arith, big)

value-none : (n : ℕ) → 16 ≤ n → value_told n ≡ None
value-none n big = ap (λ b. cond b (Some n) None) (not-below n big)

onto-when : (b : Bool) (z : ℕ) (zs : List ℕ) → onto (Some z) (cond b (Some zs) None) ≡ cond b (Some (z ∷ zs)) None
onto-when true z zs = refl
onto-when false z zs = refl

one-pair : (x y : ℕ) (b : Bool) (zs : List ℕ)
    → onto (pair_value (value_told x) (value_told y)) (cond b (Some zs) None)
    ≡ cond (nat_lt (bit_or x y) 16 && b) (Some (plus (times x 16) y ∷ zs)) None
one-pair x y b zs =
    let rest : Option (List ℕ) = cond b (Some zs) None in
    let bytes : List ℕ = plus (times x 16) y ∷ zs in
    let refused : 16 ≤ bit_or x y → ◌≡◌ {A = Option (List ℕ)} None
    (cond (nat_lt (bit_or x y) 16 && b) (Some bytes) None) =
    λ big. ap (λ t. cond (t && b) (Some bytes) None) (sym (not-below (bit_or x y) big)) in
    elim (cases_lt x 16) [
      | inl lx ↦ elim (cases_lt y 16) [
        | inl ly ↦ ap (λ v. onto (pair_value v (value_told y)) rest) (value-some x lx)
            ∙ ap (λ v. onto (pair_value (Some x) v) rest) (value-some y ly)
            ∙ onto-when b (16 * x + y) zs ∙ ap (λ z. cond b (Some (z ∷ zs)) None) (whole x y lx ly)
            ∙ ap (λ t. cond (t && b) (Some bytes) None) (sym (lt-ltb (bit_or x y) 16 (or_lt 4 x y lx ly)))
        | inr by ↦ ap (λ v. onto (pair_value v (value_told y)) rest) (value-some x lx)
            ∙ ap (λ v. onto (pair_value (Some x) v) rest) (value-none y by)
            ∙ refused (omega (arith, by, le_or_r x y))
      ]
      | inr bx ↦ ap (λ v. onto (pair_value v (value_told y)) rest) (value-none x bx)
          ∙ refused (omega (arith, bx, le_or_l x y))
    ]
  where
    whole : (x y : ℕ) → x < 16 → y < 16 → 16 * x + y ≡ plus (times x 16) y
    whole x y lx ly = omega (arith, lx, ly)

first-of : {A : Type 0} {a b : A} {xs ys : List A} → a ∷ xs ≡ b ∷ ys → a ≡ b
first-of {a = a} e = ap (λ l. get_or l 0 a) e

rest-of : {A : Type 0} {a b : A} {xs ys : List A} → a ∷ xs ≡ b ∷ ys → xs ≡ ys
rest-of e = ap (drop 1) e

pub pairs-read : (n : ℕ) (xs high low : List ℕ) → length xs ≡ 2 * n
    → map value_told high ≡ map hex_digit (at_even xs) → map value_told low ≡ map hex_digit (at_odd xs)
    → hex_read xs ≡ cond (is_all_below 16 (zip2 bit_or high low))
    (Some (zip2 plus (zip2 times high (replicate n 16)) low)) None
pairs-read zero [] [] [] long even odd = refl
pairs-read zero [] (h ∷ high) low long even odd = absurd (omega (arith, ap length even))
pairs-read zero [] [] (l ∷ low) long even odd = absurd (omega (arith, ap length odd))
pairs-read zero (a ∷ xs) high low long even odd = absurd (omega (arith, long))
pairs-read (suc n) [] high low long even odd = absurd (omega (arith, long))
pairs-read (suc n) (a ∷ []) high low long even odd = absurd (omega (arith, long))
pairs-read (suc n) (a ∷ b ∷ xs) [] low long even odd = absurd (omega (arith, ap length even))
pairs-read (suc n) (a ∷ b ∷ xs) (h ∷ high) [] long even odd = absurd (omega (arith, ap length odd))
pairs-read (suc n) (a ∷ b ∷ xs) (h ∷ high) (l ∷ low) long even odd =
    let more = pairs-read n xs high low (omega (arith, long)) (rest-of even) (rest-of odd) in
    ap (λ told. onto (pair_value told (hex_digit b)) (hex_read xs)) (sym (first-of even))
    ∙ ap (λ told. onto (pair_value (value_told h) told) (hex_read xs)) (sym (first-of odd))
    ∙ ap (onto (pair_value (value_told h) (value_told l))) more
    ∙ one-pair h l (is_all_below 16 (zip2 bit_or high low)) (zip2 plus (zip2 times high (replicate n 16)) low)

pub pairs-long : (n : ℕ) (xs high low : List ℕ) → length xs ≡ 2 * n
    → map value_told high ≡ map hex_digit (at_even xs) → map value_told low ≡ map hex_digit (at_odd xs)
    → length (zip2 plus (zip2 times high (replicate n 16)) low) ≡ n
pairs-long zero [] [] low long even odd = refl
pairs-long zero [] (h ∷ high) low long even odd = absurd (omega (arith, ap length even))
pairs-long zero (a ∷ xs) high low long even odd = absurd (omega (arith, long))
pairs-long (suc n) [] high low long even odd = absurd (omega (arith, long))
pairs-long (suc n) (a ∷ []) high low long even odd = absurd (omega (arith, long))
pairs-long (suc n) (a ∷ b ∷ xs) [] low long even odd = absurd (omega (arith, ap length even))
pairs-long (suc n) (a ∷ b ∷ xs) (h ∷ high) [] long even odd = absurd (omega (arith, ap length odd))
pairs-long (suc n) (a ∷ b ∷ xs) (h ∷ high) (l ∷ low) long even odd =
    ap suc (pairs-long n xs high low (omega (arith, long)) (rest-of even) (rest-of odd))

-- ---- one block behind another

abbrev pub joined : Option (List ℕ) → Option (List ℕ) → Option (List ℕ)
joined None more = None
joined (Some bytes) more = option_map (λ bs. bytes ++ bs) more

onto-joined : (told : Option ℕ) (some more : Option (List ℕ)) → onto told (joined some more)
    ≡ joined (onto told some) more
onto-joined None some more = refl
onto-joined (Some b) None more = refl
onto-joined (Some b) (Some bytes) None = refl
onto-joined (Some b) (Some bytes) (Some bs) = refl

joined-read : (n : ℕ) (xs ys : List ℕ) → length xs ≡ 2 * n → hex_read (xs ++ ys) ≡ joined (hex_read xs) (hex_read ys)
joined-read zero [] ys long = sym (behind-nothing (hex_read ys))
joined-read zero (a ∷ xs) ys long = absurd (omega (arith, long))
joined-read (suc n) [] ys long = absurd (omega (arith, long))
joined-read (suc n) (a ∷ []) ys long = absurd (omega (arith, long))
joined-read (suc n) (a ∷ b ∷ xs) ys long =
    let told : Option ℕ = pair_value (hex_digit a) (hex_digit b) in
    ap (onto told) (joined-read n xs ys (omega (arith, long))) ∙ onto-joined told (hex_read xs) (hex_read ys)

split-read : (rest : List ℕ) → 32 ≤ length rest → hex_read rest ≡ joined (hex_read (take 32 rest))
    (hex_read (drop 32 rest))
split-read rest long = ap hex_read (sym (take-append-drop 32 rest)) ∙ joined-read 16 (take 32 rest) (drop 32 rest)
    (omega (arith, long, length-take 32 rest))

map-append : (out bytes : List ℕ) (more : Option (List ℕ)) → option_map (λ bs. (out ++ bytes) ++ bs) more
    ≡ option_map (λ bs. out ++ bs) (joined (Some bytes) more)
map-append out bytes None = refl
map-append out bytes (Some bs) = ap Some (append_assoc out bytes bs)

-- a block that is read, and one that isn't, behind those read so far
module _ (word out rest : List ℕ) (long : 32 ≤ length rest)
    (same : option_map (λ bs. out ++ bs) (hex_read rest) ≡ hex_read word) where
  pub block-turn : (bytes : List ℕ) → hex_read (take 32 rest) ≡ Some bytes
      → option_map (λ bs. (out ++ bytes) ++ bs) (hex_read (take (length rest - 32) (drop 32 rest))) ≡ hex_read word
  block-turn bytes is =
      ap (λ r. option_map (λ bs. (out ++ bytes) ++ bs) (hex_read r)) (take_rest rest 32)
      ∙ map-append out bytes (hex_read (drop 32 rest))
      ∙ ap (λ t. option_map (λ bs. out ++ bs) (joined t (hex_read (drop 32 rest)))) (sym is)
      ∙ ap (option_map (λ bs. out ++ bs)) (sym (split-read rest long))
      ∙ same

  pub block-stops : hex_read (take 32 rest) ≡ None → hex_read word ≡ None
  block-stops is = sym same ∙ ap (option_map (λ bs. out ++ bs))
      (split-read rest long ∙ ap (λ t. joined t (hex_read (drop 32 rest))) is)

-- what a block's test tells
pub when-hex : (is : Bool) (bytes : List ℕ) (told : Option (List ℕ)) → is ≡ true → told ≡ cond is (Some bytes) None
    → told ≡ Some bytes
when-hex is bytes told e so = so ∙ ap (λ b. cond b (Some bytes) None) e

pub when-none : (is : Bool) (bytes : List ℕ) (told : Option (List ℕ)) → is ≡ false
    → told ≡ cond is (Some bytes) None → told ≡ None
when-none is bytes told e so = so ∙ ap (λ b. cond b (Some bytes) None) e

-- what a block spells, of the values of its characters
module _ (front high low : List ℕ) (long : length front ≡ 32)
    (even : map value_told high ≡ map hex_digit (at_even front))
    (odd : map value_told low ≡ map hex_digit (at_odd front)) where
  pub block-long : length (zip2 plus (zip2 times high (replicate 16 16)) low) ≡ 16
  block-long = pairs-long 16 front high low long even odd

  pub block-read : (is : Bool) → is ≡ is_all_below 16 (zip2 bit_or high low)
      → hex_read front ≡ cond is (Some (zip2 plus (zip2 times high (replicate 16 16)) low)) None
  block-read is e = pairs-read 16 front high low long even odd
      ∙ ap (λ b. cond b (Some (zip2 plus (zip2 times high (replicate 16 16)) low)) None) (sym e)
