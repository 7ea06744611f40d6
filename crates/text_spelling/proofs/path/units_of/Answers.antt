use Rattle.std.proofs.Common.{◌≡◌, ◌+◌, ◌-◌, ℕ, ◌∷◌, ◌++◌, length, drop, replicate, ap, arith}
use Rattle.std.proofs.lemmas.List.{drop-replicate}
use Rattle.text_spelling.proofs.path.units_of.Goals as goal

pub returns : goal.returns
returns c =
    let n : ℕ = length c.args.name.now in
    let e : n + 1 - 1 ≡ n = omega arith in
    let zeros : drop n (replicate 31 0) ≡ replicate (31 - n) 0 = drop-replicate n 31 0 in
    rw (e, c.copy_from_slice.ensures.after) (ap (λ zs. n ∷ (c.args.name.now ++ zs)) zeros)
