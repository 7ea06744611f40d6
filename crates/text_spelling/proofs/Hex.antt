-- Bytes in hexadecimal.
use Rattle.std.proofs.Common.{◌≡◌, ◌≤◌, ◌<◌, ◌-◌, ◌++◌, ℕ, List, [], ◌∷◌, Bool, Option, Some, None, true, false}
use Rattle.std.proofs.Common.{is_some, length, get_or, take, drop, sym, ap, ◌∙◌, arith, append_assoc, refl, inl, inr}
use Rattle.std.proofs.Common.{rules, bit_or}
use Rattle.std.specs.Bool.{◌==◌}
use Rattle.std.specs.Option.{option_map}
use Rattle.std.proofs.lemmas.List.{take_rest}
use Rattle.std.proofs.lemmas.Bool.{cases_lt}
use Rattle.std.proofs.lemmas.Nat.{le_or_l, le_or_r, or_of_8}
use Rattle.text_spelling.specs.Words.{byte_told, hex_read, hex_digit, pair_value, onto}
use Rattle.text_spelling.proofs.Digits.{told-none, told-some}

-- no bytes before those that are read
pub behind-nothing : {A : Type 0} (told : Option (List A)) → option_map (λ bs. [] ++ bs) told ≡ told
behind-nothing None = refl
behind-nothing (Some bs) = refl

-- one more byte, behind those read so far
pub onto-behind : {A : Type 0} (out : List A) (b : A) (told : Option A) (more : Option (List A)) → told ≡ Some b
    → option_map (λ bs. (out ++ b ∷ []) ++ bs) more ≡ option_map (λ bs. out ++ bs) (onto told more)
onto-behind out b told None is = ap (λ t. option_map (λ bs. out ++ bs) (onto t None)) (sym is)
onto-behind out b told (Some bs) is = ap Some (append_assoc out (b ∷ []) bs)
    ∙ ap (λ t. option_map (λ bs. out ++ bs) (onto t (Some bs))) (sym is)

pub hex_turn : (word out rest : List ℕ) (b : ℕ) → 2 ≤ length rest
    → pair_value (hex_digit (get_or rest 0 0)) (hex_digit (get_or rest 1 0)) ≡ Some b
    → option_map (λ bs. out ++ bs) (hex_read rest) ≡ hex_read word
    → option_map (λ bs. (out ++ b ∷ []) ++ bs) (hex_read (take (length rest - 2) (drop 2 rest))) ≡ hex_read word
hex_turn word out [] b long is same = absurd (omega arith)
hex_turn word out (a ∷ []) b long is same = absurd (omega arith)
hex_turn word out (a ∷ d ∷ cs) b long is same =
    ap (λ r. option_map (λ bs. (out ++ b ∷ []) ++ bs) (hex_read r)) (take_rest (a ∷ d ∷ cs) 2)
    ∙ onto-behind out b (pair_value (hex_digit a) (hex_digit d)) (hex_read cs) is ∙ same

hex-none : (rest : List ℕ) → 2 ≤ length rest → pair_value (hex_digit (get_or rest 0 0))
    (hex_digit (get_or rest 1 0)) ≡ None → hex_read rest ≡ None
hex-none [] long is = absurd (omega arith)
hex-none (a ∷ []) long is = absurd (omega arith)
hex-none (a ∷ d ∷ cs) long is = ap (λ told. onto told (hex_read cs)) is

-- what a byte is told to be, and the bits of all of them so far
module _ (word out rest : List ℕ) (bits told byte : ℕ) (long : 2 ≤ length rest)
    (is : byte_told told ≡ pair_value (hex_digit (get_or rest 0 0)) (hex_digit (get_or rest 1 0)))
    (cast : told < 256 → byte ≡ told)
    (well : bits < 256 → option_map (λ bs. out ++ bs) (hex_read rest) ≡ hex_read word) where
  pub hex_well : bit_or bits told < 256 → option_map (λ bs. (out ++ byte ∷ []) ++ bs)
      (hex_read (take (length rest - 2) (drop 2 rest))) ≡ hex_read word
  hex_well few =
      let before : bits < 256 = omega (arith, few, le_or_l bits told) in
      let low : told < 256 = omega (arith, few, le_or_r bits told) in
      hex_turn word out rest byte long (sym is ∙ told-some told low ∙ ap Some (sym (cast low))) (well before)

  pub hex_ill : (256 ≤ bits → hex_read word ≡ None) → 256 ≤ bit_or bits told → hex_read word ≡ None
  hex_ill ill many =
      elim (cases_lt bits 256) [
        | inl few ↦ elim (cases_lt told 256) [
          | inl low ↦ absurd (omega (arith, many, or_of_8 bits told few low))
          | inr big ↦ sym (well few) ∙ ap (option_map (λ bs. out ++ bs))
              (hex-none rest long (sym is ∙ told-none told big))
        ]
        | inr big ↦ ill big
      ]

-- whether what comes first and what is behind it can be read
pub some-onto : {A : Type 0} (told : Option A) (more : Option (List A)) → true ≡ is_some told
    → is_some more ≡ is_some (onto told more)
some-onto (Some a) None is = refl
some-onto (Some a) (Some xs) is = refl
some-onto None more is = absurd (search rules)

pub none-onto : {A : Type 0} (told : Option A) (more : Option (List A)) → false ≡ is_some told
    → false ≡ is_some (onto told more)
none-onto None more is = refl
none-onto (Some a) more is = absurd (search rules)

-- whether a word is bytes, where its next two bytes are digits, where they aren't, and where there are no two
pub hex_more : (rest : List ℕ) (b : ℕ) (whole : Bool) → 2 ≤ length rest
    → pair_value (hex_digit (get_or rest 0 0)) (hex_digit (get_or rest 1 0)) ≡ Some b
    → is_some (hex_read rest) ≡ whole → is_some (hex_read (take (length rest - 2) (drop 2 rest))) ≡ whole
hex_more [] b whole long is so = absurd (omega arith)
hex_more (a ∷ []) b whole long is so = absurd (omega arith)
hex_more (a ∷ d ∷ cs) b whole long is so =
    ap (λ r. is_some (hex_read r)) (take_rest (a ∷ d ∷ cs) 2) ∙ some-onto (pair_value (hex_digit a) (hex_digit d))
    (hex_read cs) (ap is_some (sym is)) ∙ so

pub hex_stops : (rest : List ℕ) (whole : Bool) → 2 ≤ length rest
    → None ≡ pair_value (hex_digit (get_or rest 0 0)) (hex_digit (get_or rest 1 0))
    → is_some (hex_read rest) ≡ whole → false ≡ whole
hex_stops [] whole long is so = absurd (omega arith)
hex_stops (a ∷ []) whole long is so = absurd (omega arith)
hex_stops (a ∷ d ∷ cs) whole long is so = none-onto (pair_value (hex_digit a) (hex_digit d)) (hex_read cs)
    (ap is_some is) ∙ so

pub hex_ends : (rest : List ℕ) (whole : Bool) → length rest < 2 → is_some (hex_read rest) ≡ whole
    → (length rest == 0) ≡ whole
hex_ends [] whole short so = so
hex_ends (a ∷ []) whole short so = so
hex_ends (a ∷ d ∷ cs) whole short so = absurd (omega arith)

-- what is no value
pub absent : {A : Type 0} (o : Option A) → false ≡ is_some o → None ≡ o
absent None is = refl
absent (Some a) is = absurd (search rules)
