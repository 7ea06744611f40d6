-- Reading from a text whose first words were cut off.
use Rattle.std.proofs.Common.{◌≡◌, ℕ, List, ◌∷◌, None, option_map, refl, ap}
use Rattle.object_core.specs.Content.{Cell}
use Rattle.object_core.specs.Edits.{insert, set}
use Rattle.object_core.specs.Reading.{cell_of, place_and_text, place_and_count, cell_and_text, cell_alone, entry_in}
use Rattle.text_words.specs.Words.{words, number_read}
use Rattle.text_words.proofs.Cuts.{pieces-joined}

pub place_and_text-rest : (p rest : List ℕ) → place_and_text (p ∷ words rest)
    ≡ option_map (λ n. insert n rest) (number_read p)
place_and_text-rest p rest =
    pieces-joined 32 rest (λ ws. place_and_text (p ∷ ws)) (option_map (λ n. insert n rest) (number_read p))
    (λ t ts e. ap (λ (r : List ℕ). option_map (λ n. insert n r) (number_read p)) e)

pub place_and_count-more : (p n rest : List ℕ) → place_and_count (p ∷ n ∷ words rest) ≡ None
place_and_count-more p n rest = pieces-joined 32 rest (λ ws. place_and_count (p ∷ n ∷ ws)) None (λ t ts e. refl)

pub cell_and_text-rest : (c rest : List ℕ) → cell_and_text (c ∷ words rest)
    ≡ option_map (λ cell. set cell rest) (cell_of c)
cell_and_text-rest c rest =
    pieces-joined 32 rest (λ ws. cell_and_text (c ∷ ws)) (option_map (λ cell. set cell rest) (cell_of c))
    (λ t ts e. ap (λ (r : List ℕ). option_map (λ cell. set cell r) (cell_of c)) e)

pub cell_alone-more : (c rest : List ℕ) → cell_alone (c ∷ words rest) ≡ None
cell_alone-more c rest = pieces-joined 32 rest (λ ws. cell_alone (c ∷ ws)) None (λ t ts e. refl)

pub entry_in-rest : (c rest : List ℕ) → entry_in (c ∷ words rest) ≡ option_map (λ cell. (cell, rest)) (cell_of c)
entry_in-rest c rest =
    pieces-joined 32 rest (λ ws. entry_in (c ∷ ws)) (option_map (λ cell. (cell, rest)) (cell_of c))
    (λ t ts e. ap (λ (r : List ℕ). option_map (λ (cell : Cell). (cell, r)) (cell_of c)) e)

pub ruleset readings = (place_and_text-rest, place_and_count-more, cell_and_text-rest, cell_alone-more, entry_in-rest)
