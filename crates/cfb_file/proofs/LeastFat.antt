-- The closed form gives the least number of FAT sectors.
use Rattle.std.proofs.Common.{◌<◌, ◌≤◌, ◌+◌, ◌-◌, ◌*◌, ℕ, inl, inr, arith}
use Rattle.std.proofs.lemmas.Bool.{cases_lt}
use Rattle.cfb_file.specs.Need.{difat_sectors, fat_sectors, pieces}

-- so many pieces are enough, and no fewer
enough : (d : ℕ) → d ≤ 13843 + 16128 * pieces 16128 (d - 13843)
enough d = omega arith

fewer : (d z : ℕ) → z < pieces 16128 (d - 13843) → 13843 + 16128 * z < d
fewer d z h = omega (arith, h)

fits : (n f : ℕ) → n ≤ 127 * pieces 127 n
fits n f = omega arith

below : (n f : ℕ) → n ≤ 127 * f → pieces 127 n ≤ f
below n f h = omega (arith, h)

listed : (f x : ℕ) → f ≤ 109 + 127 * x → difat_sectors f ≤ x
listed f x h = omega (arith, h)

room : (g : ℕ) → g ≤ 109 + 127 * difat_sectors g
room g = omega arith

total : (d x f y : ℕ) → d + x ≤ 127 * f → y ≤ x → f + y + d ≤ 128 * f
total d x f y b e = omega (arith, b, e)

clash : (d g z : ℕ) → g + z + d ≤ 128 * g → g ≤ 109 + 127 * z → 13843 + 16128 * z < d → ⊥
clash d g z h r f = omega (arith, h, r, f)

reaches : (d x g z : ℕ) → g + z + d ≤ 128 * g → x ≤ z → d + x ≤ 127 * g
reaches d x g z h ge = omega (arith, h, ge)

pub covers : (d : ℕ) → fat_sectors d + difat_sectors (fat_sectors d) + d ≤ 128 * fat_sectors d
covers d =
    let a : d ≤ 13843 + 16128 * pieces 16128 (d - 13843) = enough d in
    let b : d + pieces 16128 (d - 13843) ≤ 127 * fat_sectors d = fits (d + pieces 16128 (d - 13843)) 0 in
    let c : fat_sectors d ≤ 109 + 127 * pieces 16128 (d - 13843) =
    below (d + pieces 16128 (d - 13843)) (109 + 127 * pieces 16128 (d - 13843)) (omega (arith, a)) in
    let e : difat_sectors (fat_sectors d) ≤ pieces 16128 (d - 13843) =
    listed (fat_sectors d) (pieces 16128 (d - 13843)) c in
    total d (pieces 16128 (d - 13843)) (fat_sectors d) (difat_sectors (fat_sectors d)) b e

pub least : (d g : ℕ) → g + difat_sectors g + d ≤ 128 * g → fat_sectors d ≤ g
least d g h =
    elim (cases_lt (difat_sectors g) (pieces 16128 (d - 13843))) [
      | inl less ↦ absurd (clash d g (difat_sectors g) h (room g) (fewer d (difat_sectors g) less))
      | inr ge ↦ below (d + pieces 16128 (d - 13843)) g (reaches d (pieces 16128 (d - 13843)) g (difat_sectors g) h ge)
    ]
