-- A box is painted edge by edge.
use Rattle.std.proofs.Common.{◌≡◌, ◌+◌, ◌-◌, ◌<◌, ◌&&◌, ◌||◌, ℕ, Bool, true, false, cond, nat_eq, refl, arith}
use Rattle.std.proofs.lemmas.Bool.Decides.{nat_tests}
use Rattle.object_core.specs.Content.{box}
use Rattle.object_core.specs.Pictures.{is_end, is_within, painted}
use Rattle.object_kinds.specs.Canvases.{along, downward, edge}

-- the ends of so many cells are the first and the last of them
ends : (start count at : ℕ) → 0 < count → is_within start count at && is_end start count at
    ≡ nat_eq start at || nat_eq (start + count - 1) at
ends start count at some = grind (arith, nat_tests)

-- whether a column is in the box and at an end of its lines, with the same of a line, and whether they are its left,
-- right, top and bottom
outline : (in-columns at-side in-lines at-edge left right top bottom : Bool) (below : ℕ)
    → in-columns && at-side ≡ left || right → in-lines && at-edge ≡ top || bottom
    → cond (in-columns && bottom) (cond at-side 43 45)
    (cond (in-columns && top) (cond at-side 43 45)
    (cond (right && in-lines) 124 (cond (left && in-lines) 124 below)))
    ≡ cond (in-columns && in-lines) (cond at-edge (cond at-side 43 45) (cond at-side 124 below)) below
outline false e b d false false r s below h k = refl
outline false e b d false true r s below h k = cc
outline false e b d true q r s below h k = cc
outline true e false d true true false false below h k = refl
outline true e false d true false false false below h k = refl
outline true e false d false true false false below h k = refl
outline true e false d false false false false below h k = refl
outline true e false d p q false true below h k = cc
outline true e false d p q true s below h k = cc
outline true e true true p q r true below h k = refl
outline true e true true p q true false below h k = refl
outline true e true true p q false false below h k = cc
outline true e true false p q true s below h k = cc
outline true e true false p q false true below h k = cc
outline true true true false true true false false below h k = refl
outline true true true false true false false false below h k = refl
outline true true true false false true false false below h k = refl
outline true true true false false false false false below h k = cc
outline true false true false true q false false below h k = cc
outline true false true false false true false false below h k = cc
outline true false true false false false false false below h k = refl

-- its two sides, and over them its first and its last line
pub box_painted : (x y width height column row below : ℕ) → 0 < width → 0 < height
    → along x (y + height - 1) width (edge x width 43 45) column row
    (along x y width (edge x width 43 45) column row
    (downward (x + width - 1) y height column row (downward x y height column row below)))
    ≡ painted (box x y width height) column row below
box_painted x y width height column row below wide high =
    outline (is_within x width column) (is_end x width column) (is_within y height row) (is_end y height row)
    (nat_eq x column) (nat_eq (x + width - 1) column) (nat_eq y row) (nat_eq (y + height - 1) row) below
    (ends x width column wide) (ends y height row high)
