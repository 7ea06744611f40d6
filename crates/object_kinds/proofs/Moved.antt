-- Shapes in another order.
use Rattle.std.proofs.Common.{◌≡◌, ◌+◌, ◌-◌, ◌<◌, ℕ, suc, List, [], ◌∷◌, ◌++◌, length, map, take, drop, get_or, ap, sym}
use Rattle.std.proofs.Common.{◌∙◌, arith}
use borrow.Rule.Slice.PartMut.{put_mid, mid_of}
use Rattle.std.proofs.lemmas.List.{map-append, take-map, drop-map, drop_more}
use Rattle.std.proofs.lemmas.Slice.{put_mid-rotated}
use Rattle.object_kinds.specs.Drawn.{shape_told, shapes_told}
use Rattle.object_kinds.specs.declared.shapes.Figure.{Figure}

-- the shapes of figures of which one is taken out
pub told_without : (figures : List Figure) (i n : ℕ) → i + 1 ≡ n
    → shapes_told (take i figures ++ drop (i + 1) figures) ≡ take i (shapes_told figures)
    ++ drop n (shapes_told figures)
told_without figures i n e =
    map-append shape_told (take i figures) (drop (i + 1) figures)
    ∙ ap (λ front. front ++ map shape_told (drop (i + 1) figures)) (sym (take-map shape_told i figures))
    ∙ ap (λ rest. take i (shapes_told figures) ++ rest) (sym (drop-map shape_told (i + 1) figures))
    ∙ ap (λ m. take i (shapes_told figures) ++ drop m (shapes_told figures)) e

-- the shapes of figures of which one is moved to the end
pub told_raised : (figures : List Figure) (i n : ℕ) → i + 1 ≡ n
    → shapes_told (take i figures ++ drop (i + 1) figures ++ take 1 (drop i figures))
    ≡ take i (shapes_told figures) ++ drop n (shapes_told figures) ++ take 1 (drop i (shapes_told figures))
told_raised figures i n e =
    map-append shape_told (take i figures ++ drop (i + 1) figures) (take 1 (drop i figures))
    ∙ ap (λ front. front ++ map shape_told (take 1 (drop i figures))) (told_without figures i n e)
    ∙ ap (λ last. take i (shapes_told figures) ++ drop n (shapes_told figures) ++ last)
    (sym (take-map shape_told 1 (drop i figures)) ∙ ap (take 1) (sym (drop-map shape_told i figures)))

-- what is moved behind all others by a turn of the part that it begins
pub turned : {X : Type 0} (i k : ℕ) (xs ys : List X) → k ≡ length xs - i → i < length xs
    → ys ≡ drop 1 (mid_of i k xs) ++ take 1 (mid_of i k xs)
    → put_mid i k xs ys ≡ take i xs ++ drop (i + 1) xs ++ take 1 (drop i xs)
turned i k [] ys part within after = absurd (omega arith)
turned i k (x ∷ xs) ys part within after =
    let next : suc i ≡ i + 1 = omega arith in
    put_mid-rotated i k (x ∷ xs) ys x within (omega arith) after
    ∙ ap (λ m. take i (x ∷ xs) ++ drop m (x ∷ xs) ++ get_or (x ∷ xs) i x ∷ []) next
    ∙ ap (λ last. take i (x ∷ xs) ++ drop (i + 1) (x ∷ xs) ++ last) (sym (ap (take 1) (drop_more (x ∷ xs) i x within)))
