-- Rows that are written one after another.
use Rattle.std.proofs.Common.{◌≡◌, ◌<◌, ◌+◌, ◌-◌, ◌++◌, ◌∷◌, [], ◌∙◌, ℕ, List, length, get_or, drop, replicate, refl}
use Rattle.std.proofs.Common.{sym, ap}
use Rattle.std.specs.Prelude.{codes}
use Rattle.std.specs.Fmt.{decimal}
use Rattle.cfb_file.specs.Outline as model
use Rattle.cfb_file.specs.Outline.{Outline, Parts, nested, outline, part, sized}
use Rattle.read_outlines.specs.View.{outline_step, outline_view, part_step, part_view, parts_view}
use Rattle.read_outlines.specs.declared.outline.Outline as raw
use Rattle.read_outlines.specs.declared.outline.Outline.{fold_out-Outline}
use Rattle.read_outlines.specs.declared.outline.Part.{Part}
use Rattle.tell_forms.specs.Long.{below_rows, child_rows, each_row, heading, long_listed, right_text, storage_row}
use Rattle.tell_forms.specs.Long.{storage_rows}
use Rattle.tell_forms.specs.Lines.{class_of}
use Rattle.tell_forms.proofs.Told.{behind, one_more}

-- the class of what an outline tells
pub class_out : (o : raw.Outline) → o.class ≡ class_of (outline_view o)
class_out o = ap class_of (sym (fold_out-Outline model.Part model.Outline part_step outline_step o))

-- five pieces, one after another
pub five : {A : Type 0} (t u v w x y a b c d e : List A) → u ≡ t ++ a → v ≡ u ++ b → w ≡ v ++ c → x ≡ w ++ d
    → y ≡ x ++ e → y ≡ t ++ (a ++ (b ++ (c ++ (d ++ e))))
five t u v w x y a b c d e p q r s m =
    m ∙ behind w x d e s ∙ behind v w c (d ++ e) r ∙ behind u v b (c ++ (d ++ e)) q
    ∙ behind t u a (b ++ (c ++ (d ++ e))) p

pub three : {A : Type 0} (t u v w a b c : List A) → u ≡ t ++ a → v ≡ u ++ b → w ≡ v ++ c → w ≡ t ++ (a ++ (b ++ c))
three t u v w a b c p q r = r ∙ behind u v b c q ∙ behind t u a (b ++ c) p

-- a number behind spaces
pub right_pushed : (t mid after digits : List ℕ) (n : ℕ) → digits ≡ decimal n
    → mid ≡ t ++ replicate (10 - length digits) 32 → after ≡ mid ++ digits → after ≡ t ++ right_text n
right_pushed t mid after digits n is spaces then =
    then ∙ behind t mid (replicate (10 - length digits) 32) digits spaces
    ∙ ap (λ d. t ++ (replicate (10 - length d) 32 ++ d)) is

each-part : (within name : List ℕ) (q : model.Part) (ps : Parts) → each_row within (part name q ps)
    ≡ child_rows within name q ++ each_row within ps
each-part within name (sized size) ps = refl
each-part within name (nested o) ps = refl

-- one more child
pub child_rowed : (within before after whole : List ℕ) (items parts : List (List ℕ × Part)) (k : ℕ)
    (p : List ℕ × Part) → items ≡ parts → k < length items → get_or items k p ≡ p
    → after ≡ before ++ child_rows within p.0 (part_view p.1)
    → before ++ each_row within (parts_view (drop k parts)) ≡ whole
    → after ++ each_row within (parts_view (drop (k + 1) parts)) ≡ whole
child_rowed within =
    one_more (λ xs. each_row within (parts_view xs)) (λ p. child_rows within p.0 (part_view p.1))
    (λ p xs. each-part within p.0 (part_view p.1) (parts_view xs))

-- a storage's row, and those of what stands below it
pub storage_below : (o : Outline) (t mid after kind path word slashed named : List ℕ) → kind ≡ codes "storage"
    → named ≡ class_of o → mid ≡ t ++ storage_row kind word named → word ≡ path → slashed ≡ path ++ 47 ∷ []
    → after ≡ mid ++ below_rows slashed o → after ≡ t ++ storage_rows path o
storage_below (outline class state ps) t mid after kind path word slashed named kept is row same slash written =
    written ∙ behind t mid (storage_row (codes "storage") path class) (each_row slashed ps)
    (row ∙ ap (λ x. t ++ storage_row x word named) kept ∙ ap (λ x. t ++ storage_row (codes "storage") x named) same
    ∙ ap (λ x. t ++ storage_row (codes "storage") path x) is)
    ∙ ap (λ x. t ++ (storage_row (codes "storage") path class ++ each_row x ps)) slash

-- all rows
pub all_rowed : (o : Outline) (t mid after kind slash named : List ℕ) → kind ≡ codes "root   " → slash ≡ 47 ∷ []
    → named ≡ class_of o → t ≡ heading → mid ≡ t ++ storage_row kind slash named → after ≡ mid ++ below_rows [] o
    → after ≡ long_listed o
all_rowed (outline class state ps) t mid after kind slash named kept slashed is headed row written =
    written ∙ behind t mid (storage_row (codes "root   ") (47 ∷ []) class) (each_row [] ps)
    (row ∙ ap (λ x. t ++ storage_row x slash named) kept ∙ ap (λ x. t ++ storage_row (codes "root   ") x named)
    slashed ∙ ap (λ x. t ++ storage_row (codes "root   ") (47 ∷ []) x) is)
    ∙ ap (λ x. x ++ (storage_row (codes "root   ") (47 ∷ []) class ++ each_row [] ps)) headed
