-- The tree of an outline whose streams are zeros has one outline with each tree whose streams are as long.
use Rattle.std.proofs.Common.{◌≡◌, ◌≤◌, ◌-◌, ◌∙◌, ℕ, List, [], ◌∷◌, ap, arith, drop, get_or, length, refl, sym, take}
use Rattle.std.proofs.Math.Seq.{take-length}
use Rattle.tree_storage.specs.Change.{child}
use Rattle.write_parts.specs.Blank.{blank_part, blanks}
use Rattle.write_parts.proofs.Blank.{outline-blank}
use Rattle.cfb_file.specs.Outline as model
use Rattle.cfb_file.specs.Outline.{nested, outline_of, part, sized}
use Rattle.read_outlines.specs.View.{outline_view, part_view, parts_view, shown}
use Rattle.read_outlines.specs.declared.outline.Outline.{Outline}
use Rattle.read_outlines.specs.declared.outline.Part.{Part}
use Rattle.read_outlines.specs.declared.outline.Place.{Place}
use Rattle.write_cleaned.specs.Sizes.{IsSized, blank_of}

pub one-outline : (content : Place → List ℕ) (o : Outline) → IsSized content o
    → outline_of (blank_of o) ≡ outline_of (shown content o)
one-outline content o same = outline-blank (outline_view o) ∙ sym same

-- ---- what stands first in it
blanks-part : (n : List ℕ) (p : model.Part) (ps : model.Parts) → blanks (part n p ps)
    ≡ child [] (n, blank_part p) (blanks ps)
blanks-part n (sized size) ps = refl
blanks-part n (nested o) ps = refl

pub blanks-first : (ps : List (List ℕ × Part)) (p : List ℕ × Part) → 1 ≤ length ps → p ≡ get_or ps 0 p
    → blanks (parts_view ps) ≡ child [] (p.0, blank_part (part_view p.1))
    (blanks (parts_view (take (length ps - 1) (drop 1 ps))))
blanks-first [] p some is = absurd (omega (arith, some))
blanks-first (q ∷ ps) p some is =
    let same : q ≡ p = sym is in
    let count : length (q ∷ ps) - 1 ≡ length ps = omega arith in
    let rest : take (length (q ∷ ps) - 1) ps ≡ ps = ap (λ n. take n ps) count ∙ take-length ps in
    blanks-part q.0 (part_view q.1) (parts_view ps)
    ∙ ap (λ (x : List ℕ × Part). child [] (x.0, blank_part (part_view x.1)) (blanks (parts_view ps))) same
    ∙ ap (λ xs. child [] (p.0, blank_part (part_view p.1)) (blanks (parts_view xs))) (sym rest)
