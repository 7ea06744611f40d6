-- A line is painted cell by cell.
use Rattle.std.proofs.Common.{◌≡◌, ◌<◌, ◌+◌, ◌++◌, ℕ, zero, suc, List, [], ◌∷◌, take, drop, length, slice_set}
use Rattle.std.proofs.Common.{slice_index_or, refl, ap, arith, subst, sym}
use Rattle.tree_streams.specs.declared.area.Area.{Area}
use Rattle.container_core.specs.Screen.{Strip, cell_at, or_left, painted}

painted_next : (area : Area) (strip : Strip) (x d i : ℕ) (row : List ℕ) → i < length row
    → d ≡ or_left (slice_index_or row i 0) (cell_at area strip x)
    → take (suc i) (slice_set row i d) ++ painted area strip (x + 1) (drop (suc i) (slice_set row i d))
    ≡ take i row ++ painted area strip x (drop i row)
painted_next area strip x d i [] fits is = absurd (omega (arith, fits))
painted_next area strip x d zero (c ∷ cs) fits is = ap (λ (y : ℕ). y ∷ painted area strip (x + 1) cs) is
painted_next area strip x d (suc i) (c ∷ cs) fits is = ap (λ (ys : List ℕ). c ∷ ys)
    (painted_next area strip x d i cs (omega (arith, fits)) is)

pub painted_step : (area : Area) (strip : Strip) (x d i : ℕ) (row : List ℕ) → i < length row
    → d ≡ or_left (slice_index_or row i 0) (cell_at area strip x)
    → take (i + 1) (slice_set row i d) ++ painted area strip (x + 1) (drop (i + 1) (slice_set row i d))
    ≡ take i row ++ painted area strip x (drop i row)
painted_step area strip x d i row fits is =
    subst (λ (j : ℕ). take j (slice_set row i d) ++ painted area strip (x + 1) (drop j (slice_set row i d))
    ≡ take i row ++ painted area strip x (drop i row)) {x = suc i} (omega arith)
    (painted_next area strip x d i row fits is)
