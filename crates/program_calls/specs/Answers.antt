-- What a call of the library leaves.
use Rattle.std.specs.Prelude.{◌≡◌, ◌≤◌, ◌<◌, ◌⊎◌, ◌++◌, ℕ, List, length, drop}

-- Bytes were put at the front of a place; or there is no room for them, which is told by a 1, and nothing was put.
abbrev pub IsPut : ℕ → List ℕ → List ℕ → List ℕ → Type 0
IsPut result old new bytes =
    ((result ≡ 0) × (length bytes ≤ length old) × (new ≡ bytes ++ drop (length bytes) old))
    ⊎ ((result ≡ 1) × (length old < length bytes) × (new ≡ old))

-- Bytes were put of which P holds, and their number is told; or there is a fault, told by its number, and nothing was
-- put.
abbrev pub Answers : (List ℕ → Type 0) → (ℕ → Type 0) → ℕ → List ℕ → List ℕ → ℕ → Type 0
Answers P IsFault result old new needed =
    ((bytes : List ℕ) × P bytes × IsPut result old new bytes × (needed ≡ length bytes))
    ⊎ ((1 < result) × IsFault result × (new ≡ old) × (needed ≡ 0))

-- likewise, with the number of the line that is refused; 0 where none is
abbrev pub AnswersAt : (List ℕ → Type 0) → (ℕ → ℕ → Type 0) → ℕ → List ℕ → List ℕ → ℕ → ℕ → Type 0
AnswersAt P IsFault result old new needed line =
    ((bytes : List ℕ) × P bytes × IsPut result old new bytes × (needed ≡ length bytes) × (line ≡ 0))
    ⊎ ((1 < result) × IsFault line result × (new ≡ old) × (needed ≡ 0))
