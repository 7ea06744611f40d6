-- A file that was changed block by block, and what puts it back.
use Rattle.std.specs.Prelude.{ℕ, ◌≡◌, ◌+◌, ◌-◌, ◌*◌, List, [], ◌∷◌, ◌++◌, drop, length, take}
use Rattle.store_images.specs.declared.in_place.Was.{Was}

-- a file with these bytes in its block of this number, as far as it has that block
unfoldable pub with_block : ℕ → List ℕ → List ℕ → List ℕ
with_block n bytes file = take (512 * n) file ++ take (length file - 512 * n) bytes ++ drop (512 * n + 512) file

-- a file whose blocks are put back as they were, the last one first
abbrev pub undone : List Was → List ℕ → List ℕ
undone [] file = file
undone (w ∷ ws) file = with_block w.number w.bytes (undone ws file)

-- What a step leaves of a file that changes no block but this one: what puts the new file back is what put the old one
-- back, and more.
pub record ChangesBlock (n : ℕ) (was_old was_new : List Was) (old new : List ℕ) : Type 0 where
  pub back : undone was_new new ≡ undone was_old old
  pub before : take (512 * n) new ≡ take (512 * n) old
  pub behind : drop (512 * n + 512) new ≡ drop (512 * n + 512) old
  pub long : length new ≡ length old
