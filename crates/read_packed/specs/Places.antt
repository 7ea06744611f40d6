-- A file of which only some blocks were read.
use Rattle.std.specs.Prelude.{◌≤◌, ◌+◌, ◌-◌, ◌*◌, ◌++◌, ℕ, List, length, replicate, take}
use Rattle.std.specs.List.{All, flat_map}
use Rattle.cfb_bytes.specs.Bytes.{block}

-- the blocks that begin at these places of a pool, one after another, up to so many bytes
abbrev pub placed : ℕ → List ℕ → List ℕ → List ℕ
placed len pool places = take len (flat_map (block 512 pool) places)

-- a block of which these are the first bytes, zero bytes standing for the others
abbrev pub whole : List ℕ → List ℕ
whole bytes = bytes ++ replicate (512 - length bytes) 0

-- the places of so many blocks, the first of which begin at these; the others begin where the pool does, at zero bytes
abbrev pub filled : ℕ → List ℕ → List ℕ
filled count places = places ++ replicate (count - length places) 0

-- there are as many blocks as the bytes need, each whole in the pool
pub record IsPlaced (len : ℕ) (pool places : List ℕ) : Type 0 where
  pub enough : len ≤ 512 * length places
  pub inside : All (λ at. at + 512 ≤ length pool) places
