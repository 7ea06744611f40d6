-- What is first among children, and what is behind it.
use Rattle.std.proofs.Common.{◌≡◌, ◌+◌, ℕ, Bool, true, false, List, [], ◌∷◌, ◌++◌, length, if◌then◌else◌, nat_lt, refl}
use Rattle.std.proofs.Common.{◌∙◌, ap}
use Rattle.cfb_entries.specs.Seen.{Seen, bytes, inner}
use Rattle.cfb_entries.specs.Tree.{Tree, Children, stream, storage}
use Rattle.cfb_file.specs.Limits.{CUTOFF}
use Rattle.cfb_file.specs.Need.{entries_of}
use Rattle.cfb_layout.specs.Directory.{entries_with, long_streams_of, short_streams_of}
use Rattle.write_parts.specs.Streams.{long_within, short_within}

first-if : (t : Bool) (b : List ℕ) (xs : List (List ℕ)) → (if t then b ∷ xs else xs) ≡ (if t then b ∷ [] else []) ++ xs
first-if true b xs = refl
first-if false b xs = refl

first-unless : (t : Bool) (b : List ℕ) (xs : List (List ℕ)) → (if t then xs else b ∷ xs)
    ≡ (if t then [] else b ∷ []) ++ xs
first-unless true b xs = refl
first-unless false b xs = refl

-- of children with one more in front, whatever puts it there
module _ (child : List ℕ → List ℕ × Seen → Children → Children)
    (streams : (k n b : List ℕ) (cs : Children) → child k (n, bytes b) cs ≡ stream k n b cs)
    (storages : (k n : List ℕ) (t : Tree) (cs : Children) → child k (n, inner t) cs ≡ storage k n t cs) where
  pub entries-child : (k n : List ℕ) (s : Seen) (cs : Children) → entries_of (child k (n, s) cs)
      ≡ entries_with s + entries_of cs
  entries-child k n (bytes b) cs = ap entries_of (streams k n b cs)
  entries-child k n (inner t) cs = ap entries_of (storages k n t cs)

  pub shorts-child : (k n : List ℕ) (s : Seen) (cs : Children) → short_streams_of (child k (n, s) cs)
      ≡ short_within s ++ short_streams_of cs
  shorts-child k n (bytes b) cs = ap short_streams_of (streams k n b cs)
      ∙ first-if (nat_lt (length b) CUTOFF) b (short_streams_of cs)
  shorts-child k n (inner t) cs = ap short_streams_of (storages k n t cs)

  pub longs-child : (k n : List ℕ) (s : Seen) (cs : Children) → long_streams_of (child k (n, s) cs)
      ≡ long_within s ++ long_streams_of cs
  longs-child k n (bytes b) cs = ap long_streams_of (streams k n b cs)
      ∙ first-unless (nat_lt (length b) CUTOFF) b (long_streams_of cs)
  longs-child k n (inner t) cs = ap long_streams_of (storages k n t cs)
