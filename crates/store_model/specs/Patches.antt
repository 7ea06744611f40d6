-- Which bytes of a document blocks leave alone, and which they tell.
use Rattle.std.specs.Prelude.{◌≡◌, ◌<◌, ◌≤◌, ◌⊎◌, ◌+◌, ◌*◌, ℕ, List, [], ◌∷◌, ◌++◌, length, get_or, ⊤}
use Rattle.store_model.specs.Journal.{Block, blocks_in, form_in}
use Rattle.store_model.specs.declared.journal.TheConstants.{BLOCK, WHOLE}

-- the byte at p is in none of these blocks
abbrev pub Misses : ℕ → List Block → Type 0
Misses p [] = ⊤
Misses p (b ∷ bs) = (p < BLOCK * b.number ⊎ BLOCK * b.number + BLOCK ≤ p) × Misses p bs

-- each block is whole
abbrev pub AreWhole : List Block → Type 0
AreWhole [] = ⊤
AreWhole (b ∷ bs) = (length b.bytes ≡ BLOCK) × AreWhole bs

-- each block has the bytes of this document, up to its size
abbrev pub Tell : List ℕ → ℕ → List Block → Type 0
Tell document size [] = ⊤
Tell document size (b ∷ bs) = ((q : ℕ) → q < BLOCK → BLOCK * b.number + q < size
    → get_or b.bytes q 0 ≡ get_or document (BLOCK * b.number + q) 0) × Tell document size bs

-- outside of these blocks a document area has the bytes of this document, up to its size
abbrev pub Agrees : List ℕ → ℕ → List Block → List ℕ → Type 0
Agrees document size bs area = (p : ℕ) → p < size → Misses p bs → (p < length area)
    × (get_or area p 0 ≡ get_or document p 0)

-- these blocks follow one another, from this number on
abbrev pub Follow : ℕ → List Block → Type 0
Follow n [] = ⊤
Follow n (b ∷ bs) = (b.number ≡ n) × Follow (n + 1) bs

-- their bytes
abbrev pub joined : List Block → List ℕ
joined [] = []
joined (b ∷ bs) = b.bytes ++ joined bs

-- Bytes from there on, so many, that a journal tells: it has the whole document, or each of them is in one of its
-- blocks.
abbrev pub IsTold : List ℕ → ℕ → ℕ → Type 0
IsTold journal at n = (form_in journal ≡ WHOLE) ⊎ ((p : ℕ) → at ≤ p → p < at + n → Misses p (blocks_in journal) → ⊥)
