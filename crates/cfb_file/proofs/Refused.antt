-- Which trees are refused, by how many entries, mini sectors and sectors they need.
use Rattle.std.proofs.Common.{◌≡◌, ◌≤◌, ◌<◌, ◌*◌, ◌-◌, subst, min, ℕ, cond, Ok, Err, ap, arith}
use Rattle.std.proofs.lemmas.Bool.{lt-ltb, le-ltb}
use Rattle.cfb_entries.specs.Tree.{Tree}
use Rattle.cfb_file.specs.Limits.{MANY, MOST_FAT_SECTORS}
use Rattle.cfb_file.specs.Need.{entries, mini_sectors, long_sectors, data_sectors, fat_sectors, needed, pieces}
use Rattle.cfb_file.specs.Refusals.{writable}
use Rattle.cfb_file.specs.declared.fault.WriteFault.TheVariants.{TooBig}

-- the sectors of a tree, of which each sort is counted up to the bound
abbrev pub bounded : Tree → ℕ
bounded t = needed (min MANY (entries t)) (min MANY (mini_sectors t)) (min MANY (long_sectors t))

above : (a b : ℕ) → MOST_FAT_SECTORS < a → a ≤ b → MOST_FAT_SECTORS < b
above a b h g = omega (arith, h, g)

-- more sectors need no fewer FAT sectors
grows : (d e : ℕ) → d ≤ e → fat_sectors d ≤ fat_sectors e
grows d e le =
    let x : pieces 16128 (d - 13843) ≤ pieces 16128 (e - 13843) = omega (arith, le) in
    omega (arith, le, x)

bounded_le : (t : Tree) → bounded t ≤ data_sectors t
bounded_le t = omega arith

-- where they are within the limit, none was cut off
bounded_few : (d : ℕ) → fat_sectors d ≤ MOST_FAT_SECTORS → d ≤ 127 * MOST_FAT_SECTORS
bounded_few d few = omega (arith, few)

bounded_all : (t : Tree) → bounded t ≤ 127 * MOST_FAT_SECTORS → bounded t ≡ data_sectors t
bounded_all t few = omega (arith, few)

pub refused_room : (t : Tree) → MOST_FAT_SECTORS < fat_sectors (bounded t) → writable t ≡ Err TooBig
refused_room t h =
    let grown : fat_sectors (bounded t) ≤ fat_sectors (data_sectors t) =
    grows (bounded t) (data_sectors t) (bounded_le t) in
    let more : MOST_FAT_SECTORS < fat_sectors (data_sectors t) =
    above (fat_sectors (bounded t)) (fat_sectors (data_sectors t)) h grown in
    ap (λ b. cond b (Err TooBig) (Ok tt)) (lt-ltb MOST_FAT_SECTORS (fat_sectors (data_sectors t)) more)

pub allowed_room : (t : Tree) → fat_sectors (bounded t) ≤ MOST_FAT_SECTORS → writable t ≡ Ok tt
allowed_room t h =
    let few : fat_sectors (data_sectors t) ≤ MOST_FAT_SECTORS =
    subst (λ d. fat_sectors d ≤ MOST_FAT_SECTORS) (bounded_all t (bounded_few (bounded t) h)) h in
    ap (λ b. cond b (Err TooBig) (Ok tt)) (le-ltb MOST_FAT_SECTORS (fat_sectors (data_sectors t)) few)
