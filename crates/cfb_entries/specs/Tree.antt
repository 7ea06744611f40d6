-- Trees of storages and streams (MS-CFB 1.3.1, 2.6).
use Rattle.std.specs.Prelude.{ℕ, List, [], ◌∷◌}

-- A storage is its class id, its state bits and its children, each a stream of bytes or a storage. A child
-- stands under the key of its name, with the name as it is spelled.
mutual
  pub data Tree : Type 0 where
    tree : List ℕ → ℕ → Children → Tree

  pub data Children : Type 0 where
    none : Children
    stream : List ℕ → List ℕ → List ℕ → Children → Children
    storage : List ℕ → List ℕ → Tree → Children → Children

-- the keys of children, in their order
abbrev pub keys : Children → List (List ℕ)
keys none = []
keys (stream k n b cs) = k ∷ keys cs
keys (storage k n t cs) = k ∷ keys cs

-- the names of children, as they are spelled, in their order
abbrev pub names : Children → List (List ℕ)
names none = []
names (stream k n b cs) = n ∷ names cs
names (storage k n t cs) = n ∷ names cs

abbrev pub child_names : Tree → List (List ℕ)
child_names (tree class state cs) = names cs
