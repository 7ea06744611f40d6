-- What the parts of an outline tell of the entries that they were read of.
use Rattle.std.proofs.Common.{◌≡◌, ◌<◌, ◌≤◌, ◌+◌, ℕ, suc, List, [], ◌∷◌, ◌++◌, length, get_or, take, refl, sym, ap, ◌∙◌}
use Rattle.std.proofs.Common.{subst}
use Rattle.std.proofs.lemmas.List.{take_more, take_all}
use Rattle.cfb_entries.specs.Entries.{IsNamed, entry_at}
use Rattle.read_outlines.specs.declared.outline.Outline.{Outline}
use Rattle.cfb_file.specs.Outline as model
use Rattle.cfb_file.specs.Outline.{nested, sized}
use Rattle.read_outlines.specs.View.{outline_step, outline_view, part_step, part_view}
use Rattle.read_outlines.specs.declared.outline.Part.{Part, fold-roll-Part}
use Rattle.read_outlines.specs.declared.outline.Part.TheOpen.{Part-F}
use Rattle.read_outlines.specs.declared.outline.Part.TheVariants as variant
use Rattle.read_outlines.specs.declared.outline.Part.TheViews.{rolls-Storage, rolls-Stream}
use Rattle.read_outlines.specs.declared.outline.Place.{Place}
use Rattle.read_outlines.specs.Places.{AreTold, IsPartTold, more, none}

-- one more part
told_push : (dir ids : List ℕ) (parts : List (List ℕ × Part)) (id : ℕ) (name : List ℕ) (part : Part)
    → AreTold dir ids parts
    → IsNamed (entry_at dir id) name → IsPartTold dir id part
    → AreTold dir (ids ++ id ∷ []) (parts ++ (name, part) ∷ [])
told_push dir ids parts id name part none n p = more id [] name part [] n p none
told_push dir ids parts id name part (more m others other q rest is told each) n p =
    more m (others ++ id ∷ []) other q (rest ++ (name, part) ∷ []) is told
    (told_push dir others rest id name part each n p)

pub told_none : (dir : List ℕ) (parts : List (List ℕ × Part)) → parts ≡ [] → AreTold dir [] parts
told_none dir parts e = subst (AreTold dir []) (sym e) none

pub told_next : (dir items : List ℕ) (parts : List (List ℕ × Part)) (i : ℕ) (name : List ℕ) (part : Part)
    → i < length items → AreTold dir (take i items) parts
    → IsNamed (entry_at dir (get_or items i 0)) name → IsPartTold dir (get_or items i 0) part
    → AreTold dir (take (i + 1) items) (parts ++ (name, part) ∷ [])
told_next dir items parts i name part lt told n p =
    subst (λ (ids : List ℕ). AreTold dir ids (parts ++ (name, part) ∷ [])) (sym (take_more items i 0 lt))
    (told_push dir (take i items) parts (get_or items i 0) name part told n p)

pub told_all : (dir items : List ℕ) (parts : List (List ℕ × Part)) (i : ℕ) → length items ≤ i
    → AreTold dir (take i items) parts → AreTold dir items parts
told_all dir items parts i le told = subst (λ (ids : List ℕ). AreTold dir ids parts) (take_all i items le) told

-- as many parts as entries
pub told_long : (dir items : List ℕ) (parts : List (List ℕ × Part)) → AreTold dir items parts
    → length parts ≡ length items
told_long dir items parts none = refl
told_long dir items parts (more m others other q rest is told each) = ap suc (told_long dir others rest each)

-- what a storage is as a part, and a stream
pub view_nested : (o : Outline) → part_view (variant.Storage o) ≡ nested (outline_view o)
view_nested o = ap part_view (sym (rolls-Storage o)) ∙ fold-roll-Part model.Part model.Outline part_step
    outline_step (Part-F.Storage o)

pub view_sized : (place : Place) → part_view (variant.Stream place) ≡ sized place.size
view_sized place = ap part_view (sym (rolls-Stream place)) ∙ fold-roll-Part model.Part model.Outline part_step
    outline_step (Part-F.Stream place)
