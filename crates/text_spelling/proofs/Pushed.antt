-- Bytes that are written one after another.
use Rattle.std.proofs.Common.{◌≡◌, ◌<◌, ◌+◌, ◌++◌, ◌∷◌, ◌∙◌, ℕ, List, length, get_or, drop, refl, sym, ap, append_assoc}
use Rattle.std.proofs.Common.{add-one}
use Rattle.std.proofs.Math.Seq.{drop-cons}
use Rattle.std.specs.List.{flat_map}

-- one more of them
pub push-turn : (f : ℕ → List ℕ) (before after whole bytes : List ℕ) (k : ℕ) → k < length bytes
    → after ≡ before ++ f (get_or bytes k 0)
    → before ++ flat_map f (drop k bytes) ≡ whole → after ++ flat_map f (drop (k + 1) bytes) ≡ whole
push-turn f before after whole bytes k some written so =
    let here : drop k bytes ≡ get_or bytes k 0 ∷ drop (k + 1) bytes = rw (add-one, drop-cons bytes k 0) refl in
    ap (λ t. t ++ flat_map f (drop (k + 1) bytes)) written ∙ append_assoc before (f (get_or bytes k 0))
    (flat_map f (drop (k + 1) bytes))
    ∙ ap (λ bs. before ++ flat_map f bs) (sym here) ∙ so
