-- Events read from a line whose first words were cut off.
use Rattle.std.proofs.Common.{◌≡◌, ℕ, List, [], ◌∷◌, true, false, None, bytes_eq, codes, cond, option_map, refl, ap}
use Rattle.text_words.specs.Words.{words, number_read}
use Rattle.text_words.proofs.Cuts.{pieces-known, pieces-joined}
use Rattle.container_model.specs.declared.command.Command.{Command}
use Rattle.text_worlds.specs.Events.{alone_read, edit_of, edit_read, forge_named, forge_read, open_named, open_read}

pub edit_read-rest : (o rest : List ℕ) → edit_read (o ∷ words rest) ≡ option_map (edit_of rest) (number_read o)
edit_read-rest o rest =
    pieces-joined 32 rest (λ ws. edit_read (o ∷ ws)) (option_map (edit_of rest) (number_read o))
    (λ t ts e. ap (λ (r : List ℕ). option_map (edit_of r) (number_read o)) e)

-- nothing stands behind a command alone, not even a space
pub alone_read-rest : (c : Command) (rest : List ℕ) → alone_read c (words rest) ≡ None
alone_read-rest c rest = pieces-known 32 rest (alone_read c) None (λ p ps e. refl)

-- nothing is opened without a name
pub open_alone : (name : List ℕ) → open_named name [] ≡ None
open_alone name = elim (bytes_eq name (codes "open")) as (λ b. cond b (open_read []) None ≡ None) [
  | true ↦
      refl
  | false ↦ refl
]

-- nor is a message forged
pub forge_alone : (name : List ℕ) → forge_named name [] ≡ None
forge_alone name = elim (bytes_eq name (codes "forge")) as (λ b. cond b (forge_read []) None ≡ None) [
  | true ↦
      refl
  | false ↦ refl
]

pub ruleset readings = (alone_read-rest, edit_read-rest)
