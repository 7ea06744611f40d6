-- Numbers of an entry that are read where they stand in the directory.
use Rattle.std.proofs.Common.{◌≡◌, ◌<◌, ◌≤◌, ◌+◌, ◌-◌, ℕ, List, ◌++◌, length, take, drop, replicate, min, sym, ◌∙◌, ap}
use Rattle.std.proofs.Common.{arith}
use Rattle.std.proofs.lemmas.List.{drop-append-le, drop-drop, length-drop, length-take, length-take-le, take-append-le}
use Rattle.std.proofs.lemmas.List.{get_or-drop, get_or-take}
use Rattle.std.proofs.lemmas.Grind.{same_number_lists}
use Rattle.std.specs.Int.{w32, from_le_bytes}
use Rattle.cfb_bytes.specs.Bytes.{block, u32_at}

-- bytes that are cut from a longer run are the run's own
inside : (xs : List ℕ) (n at m : ℕ) → at + m ≤ n → at + m ≤ length xs → take m (drop at (take n xs))
    ≡ take m (drop at xs)
inside xs n at m short there =
    let front : length (take n xs) ≡ min n (length xs) = length-take n xs in
    let long : at + m ≤ length (take n xs) = omega (arith, front, short, there) in
    let left : length (take m (drop at (take n xs))) ≡ m = length-take-le m (drop at (take n xs))
    (omega (arith, long, length-drop at (take n xs))) in
    let right : length (take m (drop at xs)) ≡ m = length-take-le m (drop at xs)
    (omega (arith, there, length-drop at xs)) in
    same_number_lists (take m (drop at (take n xs))) (take m (drop at xs)) (left ∙ sym right)
    (λ k lt.
    let l : k < m = omega (arith, lt, left) in
    get_or-take m (drop at (take n xs)) k 0 l ∙ get_or-drop at (take n xs) k 0
    ∙ get_or-take n xs (at + k) 0 (omega (arith, l, short))
    ∙ sym (get_or-drop at xs k 0) ∙ sym (get_or-take m (drop at xs) k 0 l))

pub u32_inside : (dir : List ℕ) (start at : ℕ) → at + 4 ≤ 128 → start + at + 4 ≤ length dir
    → u32_at dir (start + at) ≡ u32_at (block 128 dir start) at
unfolding u32_at block
u32_inside dir start at within there =
    let rest : List ℕ = drop start dir in
    let zeros : List ℕ = replicate (128 - length rest) 0 in
    let long : at + 4 ≤ length rest = omega (arith, there, length-drop start dir) in
    let front : at + 4 ≤ length (take 128 rest) = omega (arith, length-take 128 rest, within, long) in
    let behind : drop at (take 128 rest ++ zeros) ≡ drop at (take 128 rest) ++ zeros =
    drop-append-le at (take 128 rest) zeros (omega (arith, front)) in
    let cut : take 4 (drop at (take 128 rest) ++ zeros) ≡ take 4 (drop at (take 128 rest)) =
    take-append-le 4 (drop at (take 128 rest)) zeros (omega (arith, front, length-drop at (take 128 rest))) in
    ap (from_le_bytes w32) (ap (take 4) (sym (drop-drop at start dir)) ∙ sym (inside rest 128 at 4 within long)
    ∙ sym cut ∙ ap (take 4) (sym behind))
