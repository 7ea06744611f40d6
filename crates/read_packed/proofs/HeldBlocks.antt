-- The bytes of blocks some of which are held as entries of a directory.
use Rattle.std.proofs.Common.{◌≡◌, ◌≤◌, ◌+◌, ◌-◌, ℕ, List, ◌++◌, length, take, drop, sym, ◌∙◌, ap, arith, length-append}
use Rattle.std.proofs.Common.{length-drop}
use Rattle.std.proofs.lemmas.List.{drop-append-le, take-append-le}
use Rattle.std.proofs.Math.Seq.{drop-append-add}

-- bytes that stand before all others
pub in_front : (before rest run : List ℕ) (at size : ℕ) → run ≡ take size (drop at before) → at + size ≤ length before
    → run ≡ take size (drop at (before ++ rest))
in_front before rest run at size is inside =
    is
    ∙ sym (take-append-le size (drop at before) rest (omega (arith, inside, length-drop at before)))
    ∙ ap (take size) (sym (drop-append-le at before rest (omega (arith, inside))))

-- bytes that stand behind all others
pub behind : (before directory after run : List ℕ) (at size rest entries from : ℕ) → entries ≡ length directory
    → length before ≤ at
    → rest ≡ at - length before → entries ≤ rest → from ≡ rest - entries → run ≡ take size (drop from after)
    → run ≡ take size (drop at (before ++ directory ++ after))
behind before directory after run at size rest entries from e a r b f is =
    let whole : at ≡ length (before ++ directory) + from =
    omega (arith, e, a, r, b, f, length-append before directory) in
    is ∙ ap (take size) (sym (drop-append-add (before ++ directory) after from))
    ∙ ap (λ n. take size (drop n (before ++ directory ++ after))) (sym whole)
