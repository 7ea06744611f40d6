-- A tree whose streams have more bytes than any file is refused.
use Rattle.std.proofs.Common.{◌≡◌, ◌≤◌, ◌<◌, ◌+◌, ◌*◌, ℕ, true, false, cond, List, Ok, Err, length, ap, arith, nat_lt}
use Rattle.std.proofs.Common.{lt-ltb}
use Rattle.cfb_entries.specs.Tree.{Tree, Children, tree, none, stream, storage}
use Rattle.cfb_file.specs.Need.{pieces, over_streams, over_streams_of, short_pieces, long_pieces, data_sectors}
use Rattle.cfb_file.specs.Need.{fat_sectors}
use Rattle.cfb_file.specs.Limits.{MOST_FAT_SECTORS}
use Rattle.cfb_file.specs.Refusals.{writable}
use Rattle.cfb_file.specs.declared.fault.WriteFault.TheVariants.{TooBig}
use Rattle.tree_descriptions.specs.Building.{room}

stream-room : (b : List ℕ) → length b ≤ 64 * short_pieces b + 512 * long_pieces b
stream-room b =
    elim (nat_lt (length b) 4096) as (λ t. length b ≤ 64 * (cond t (pieces 64 (length b)) 0) + 512
    * (cond t 0 (pieces 512 (length b))))
    [ true ↦ omega arith | false ↦ omega arith ]

mutual
  tree-room : (t : Tree) → over_streams length t ≤ 64 * over_streams short_pieces t + 512 * over_streams long_pieces t
  tree-room (tree class state cs) = children-room cs

  children-room : (cs : Children) → over_streams_of length cs ≤ 64 * over_streams_of short_pieces cs + 512
      * over_streams_of long_pieces cs
  children-room none = omega arith
  children-room (stream k n b cs) = omega (arith, stream-room b, children-room cs)
  children-room (storage k n t cs) = omega (arith, tree-room t, children-room cs)

many : (d : ℕ) → 127 * MOST_FAT_SECTORS < d → MOST_FAT_SECTORS < fat_sectors d
many d h = omega (arith, h)

pub many-sectors : (t : Tree) → room < over_streams length t → MOST_FAT_SECTORS < fat_sectors (data_sectors t)
many-sectors t much = many (data_sectors t) (omega (arith, tree-room t, much))

pub too_large : (t : Tree) → room < over_streams length t → writable t ≡ Err TooBig
too_large t much = ap (λ b. cond b (Err TooBig) (Ok tt))
    (lt-ltb MOST_FAT_SECTORS (fat_sectors (data_sectors t)) (many-sectors t much))
