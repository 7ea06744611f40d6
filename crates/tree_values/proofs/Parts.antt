-- Parts of lists of bytes.
use Rattle.std.proofs.Common.{◌≡◌, ◌+◌, ◌-◌, ◌≤◌, ◌∙◌, ℕ, zero, suc, List, [], ◌∷◌, ap, arith, drop, length, min, refl}
use Rattle.std.proofs.Common.{sym, take}
use Rattle.std.proofs.lemmas.List.{drop-drop, drop-take, length-take}

front_of : (m n : ℕ) (bs : List ℕ) → m ≤ n → take m (take n bs) ≡ take m bs
front_of zero n bs h = refl
front_of (suc m) zero bs h = absurd (omega (arith, h))
front_of (suc m) (suc n) [] h = refl
front_of (suc m) (suc n) (b ∷ bs) h = ap (λ xs. b ∷ xs) (front_of m n bs (omega (arith, h)))

-- a part of a part of a list is a part of the list
pub part_of : (start len s l : ℕ) (bs : List ℕ) → start + len ≤ length (take l (drop s bs))
    → take len (drop (s + start) bs) ≡ take len (drop start (take l (drop s bs)))
part_of start len s l bs h =
    let rest : List ℕ = drop s bs in
    let long : length (take l rest) ≡ min l (length rest) = length-take l rest in
    let split : l ≡ start + (l - start) = omega (arith, h, long) in
    let cut : drop start (take l rest) ≡ take (l - start) (drop start rest) =
    ap (λ k. drop start (take k rest)) split ∙ drop-take start (l - start) rest in
    ap (take len) (sym (drop-drop start s bs))
    ∙ sym (front_of len (l - start) (drop start rest) (omega (arith, h, long))) ∙ ap (take len) (sym cut)
