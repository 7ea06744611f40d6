-- Reading from a text whose first words were cut off.
use Rattle.std.proofs.Common.{◌≡◌, ℕ, List, ◌∷◌, None, refl}
use Rattle.object_core.specs.Edits.{Edit}
use Rattle.object_core.specs.Reading.{one_number, shape_of}
use Rattle.text_words.specs.Words.{words}
use Rattle.text_words.proofs.Cuts.{pieces-known}

-- a shape has no fifth word
pub shape_of-more : (letter : ℕ) (a b c d rest : List ℕ) → shape_of letter (a ∷ b ∷ c ∷ d ∷ words rest) ≡ None
shape_of-more letter a b c d rest = pieces-known 32 rest (λ ws. shape_of letter (a ∷ b ∷ c ∷ d ∷ ws)) None
    (λ p ps e. refl)

-- a number stands alone
pub one_number-more : (made : ℕ → Edit) (n rest : List ℕ) → one_number made (n ∷ words rest) ≡ None
one_number-more made n rest = pieces-known 32 rest (λ ws. one_number made (n ∷ ws)) None (λ p ps e. refl)

pub ruleset readings = (shape_of-more, one_number-more)
