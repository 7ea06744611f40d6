-- How many storages an outline has, by which a walk over it is seen to end.
use Rattle.std.proofs.Common.{◌≡◌, ◌+◌, ◌≤◌, ◌∙◌, ℕ, zero, suc, List, [], ◌∷◌, ap, arith, drop, map, rules, sym}
use Rattle.std.specs.List.{sum}
use Rattle.cfb_layout.proofs.ContentsPieces.{sum-cons}
use Rattle.read_outlines.specs.declared.outline.Outline.{Outline, fold-Outline, fold_out-Outline}
use Rattle.read_outlines.specs.declared.outline.Part.{Part, fold-Part, fold-roll-Part}
use Rattle.read_outlines.specs.declared.outline.Part.TheOpen.{Outline-F, Part-F}
use Rattle.read_outlines.specs.declared.outline.Part.TheVariants as variant
use Rattle.read_outlines.specs.declared.outline.Part.TheViews.{rolls-Storage}

abbrev part_step : Part-F ℕ ℕ → ℕ
part_step (Part-F.Stream place) = 0
part_step (Part-F.Storage n) = n

abbrev outline_step : Outline-F ℕ ℕ → ℕ
outline_step o = 1 + sum (map (λ p. p.1) o.parts.items)

abbrev pub part_weight : Part → ℕ
part_weight = fold-Part ℕ ℕ part_step outline_step

abbrev pub weight : Outline → ℕ
weight = fold-Outline ℕ ℕ part_step outline_step

-- the weights of parts
abbrev pub weights : List (List ℕ × Part) → List ℕ
weights ps = map (λ (q : List ℕ × ℕ). q.1) (map (λ (q : List ℕ × Part). (q.0, part_weight q.1)) ps)

pub weight-out : (o : Outline) → weight o ≡ 1 + sum (weights o.parts.items)
weight-out o = fold_out-Outline ℕ ℕ part_step outline_step o

pub weight-inner : (p : Part) (o : Outline) → p ≡ variant.Storage o → part_weight p ≡ weight o
weight-inner p o is = ap part_weight (is ∙ sym (rolls-Storage o)) ∙ fold-roll-Part ℕ ℕ part_step outline_step
    (Part-F.Storage o)

none-behind : (n : ℕ) (p : List ℕ × Part) (rest : List (List ℕ × Part)) → drop n [] ≡ p ∷ rest → ⊥
none-behind zero p rest is = search (rules, is)
none-behind (suc n) p rest is = search (rules, is)

pub one-of : (i : ℕ) (ps : List (List ℕ × Part)) (p : List ℕ × Part) (rest : List (List ℕ × Part))
    → drop i ps ≡ p ∷ rest
    → part_weight p.1 ≤ sum (weights ps)
one-of i [] p rest is = absurd (none-behind i p rest is)
one-of zero (q ∷ ps) p rest is =
    let same : q ≡ p = search (rules, is) in
    let w : part_weight q.1 ≡ part_weight p.1 = ap (λ (x : List ℕ × Part). part_weight x.1) same in
    omega (arith, w, sum-cons (part_weight q.1) (weights ps))
one-of (suc i) (q ∷ ps) p rest is =
    omega (arith, one-of i ps p rest (search (rules, is)), sum-cons (part_weight q.1) (weights ps))
