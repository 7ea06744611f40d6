-- Lines that are written one after another.
use Rattle.std.proofs.Common.{◌≡◌, ◌<◌, ◌+◌, ◌++◌, ◌∷◌, [], ◌∙◌, ℕ, List, length, get_or, drop, refl, ap}
use Rattle.std.specs.Prelude.{codes}
use Rattle.cfb_file.specs.Outline as model
use Rattle.cfb_file.specs.Outline.{Outline, Parts, nested, outline, part, sized}
use Rattle.text_words.specs.Spelled.{class_text}
use Rattle.read_outlines.specs.View.{part_view, parts_view}
use Rattle.read_outlines.specs.declared.outline.Part.{Part}
use Rattle.tell_forms.specs.Lines.{below, child_lines, class_of, each, storage_line, storage_lines}
use Rattle.tell_forms.proofs.Told.{behind, one_more}

-- the line of a storage, word by word
pub storage_pushed : (t word named spaced classed ended path class : List ℕ) → word ≡ t ++ codes "storage "
    → named ≡ word ++ path → spaced ≡ named ++ 32 ∷ []
    → classed ≡ spaced ++ class_text class → ended ≡ classed ++ 10 ∷ [] → ended ≡ t ++ storage_line path class
storage_pushed t word named spaced classed ended path class a b c d e =
    e ∙ behind spaced classed (class_text class) (10 ∷ []) d ∙ behind named spaced (32 ∷ [])
    (class_text class ++ 10 ∷ []) c
    ∙ behind word named path (32 ∷ (class_text class ++ 10 ∷ [])) b ∙ behind t word (codes "storage ")
    (path ++ 32 ∷ (class_text class ++ 10 ∷ [])) a

each-part : (within name : List ℕ) (q : model.Part) (ps : Parts) → each within (part name q ps)
    ≡ child_lines within name q ++ each within ps
each-part within name (sized size) ps = refl
each-part within name (nested o) ps = refl

-- one more child
pub child_pushed : (within before after whole : List ℕ) (items parts : List (List ℕ × Part)) (k : ℕ)
    (p : List ℕ × Part) → items ≡ parts → k < length items → get_or items k p ≡ p
    → after ≡ before ++ child_lines within p.0 (part_view p.1) → before ++ each within (parts_view (drop k parts))
    ≡ whole → after ++ each within (parts_view (drop (k + 1) parts)) ≡ whole
child_pushed within =
    one_more (λ xs. each within (parts_view xs)) (λ p. child_lines within p.0 (part_view p.1))
    (λ p xs. each-part within p.0 (part_view p.1) (parts_view xs))

-- a storage's line, and what stands below it
pub storage_below : (o : Outline) (t mid after path word slashed named : List ℕ) → named ≡ class_of o
    → mid ≡ t ++ storage_line word named → word ≡ path → slashed ≡ path ++ 47 ∷ []
    → after ≡ mid ++ below slashed o → after ≡ t ++ storage_lines path o
storage_below (outline class state ps) t mid after path word slashed named is line same slash written =
    written ∙ behind t mid (storage_line path class) (each slashed ps)
    (line ∙ ap (λ x. t ++ storage_line x named) same ∙ ap (λ x. t ++ storage_line path x) is)
    ∙ ap (λ x. t ++ (storage_line path class ++ each x ps)) slash
