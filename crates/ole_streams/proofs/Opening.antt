-- Steps of reading a document.
use Rattle.std.proofs.Common.{◌≡◌, ◌<◌, ◌+◌, ◌∷◌, ◌∙◌, ℕ, List, [], Result, Ok, Err, IsOk, false, length, drop, get_or}
use Rattle.std.proofs.Common.{refl, ap, sym, rules, add-one, subst}
use Rattle.std.specs.Bool.{IsTrue}
use Rattle.std.proofs.Math.Seq.{drop-cons}
use Rattle.cfb_names.specs.Names.{key}
use Rattle.tree_streams.specs.declared.area.Area.{Area}
use Rattle.cfb_entries.specs.Tree.{Children, Tree, tree}
use Rattle.tree_storage.specs.Change.{Seen, bytes, inner, child, find, without}
use Rattle.tree_storage.specs.View.{children, shown}
use Rattle.tree_storage.specs.declared.nodes.Node.{Node}
use Rattle.tree_streams.specs.Limits.{COMP_OBJ, OLE_PRES}
use Rattle.ole_model.specs.DocOf.{as_picture, as_storage, behind_comp_obj, behind_picture, object_pushed, object_read}
use Rattle.ole_model.specs.DocOf.{objects_behind, pushed}
use Rattle.ole_model.specs.DocTree.{object_name}
use Rattle.ole_model.specs.Fields.{on_ok}
use Rattle.ole_model.specs.Documents.{Doc}
use Rattle.ole_model.specs.declared.fault.OleFault.{OleFault}
use Rattle.ole_model.specs.declared.fault.OleFault.TheVariants.{NotADocument}
use Rattle.ole_streams.specs.Begun.{object_user_type, user_type_in, user_type_of}

pub err_same : {A : Type 0} {x y : OleFault} → ◌≡◌ {A = Result A OleFault} (Err x) (Err y) → x ≡ y
err_same h = cc

pub objects_behind-more : (objects : Doc) (n i : ℕ) (areas : List Area) (d : Area) (cs : Children) → i < length areas
    → objects_behind objects n (drop i areas) cs
    ≡ on_ok (λ os. objects_behind os (n + 1) (drop (i + 1) areas) (without (key (object_name n)) cs))
    (object_pushed objects n (get_or areas i d) cs)
objects_behind-more objects n i areas d cs h =
    let e : drop i areas ≡ get_or areas i d ∷ drop (i + 1) areas = rw (add-one, drop-cons areas i d) refl in
    ap (λ xs. objects_behind objects n xs cs) e

left-child : (objects : Doc) (n : ℕ) (k : List ℕ) (c : List ℕ × Seen) (cs : Children)
    → objects_behind objects n [] (child k c cs) ≡ Err NotADocument
left-child objects n k (name, bytes b) cs = refl
left-child objects n k (name, inner t) cs = refl

pub objects_behind-left : (objects : Doc) (n : ℕ) (es : List (List ℕ × (List ℕ × Node))) → (length es ≡ 0 → ⊥)
    → objects_behind objects n [] (children es) ≡ Err NotADocument
objects_behind-left objects n [] h = absurd (h refl)
objects_behind-left objects n (e ∷ es) h = left-child objects n e.0 (shown e.1) (children es)

pub not_true : IsTrue false → ⊥
not_true h = search rules

pub refused : (objects : Doc) (n i : ℕ) (areas : List Area) (cs : Children) (fault : OleFault) (d : Area)
    → Err fault ≡ object_pushed objects n (get_or areas i d) cs → i < length areas
    → Err fault ≡ objects_behind objects n (drop i areas) cs
refused objects n i areas cs fault d e h =
    ap (on_ok (λ os. objects_behind os (n + 1) (drop (i + 1) areas) (without (key (object_name n)) cs))) e
    ∙ sym (objects_behind-more objects n i areas d cs h)

pub step-on : (objects after : Doc) (n i : ℕ) (areas : List Area) (cs rest : Children) (d : Area)
    → Ok after ≡ object_pushed objects n (get_or areas i d) cs → rest ≡ without (key (object_name n)) cs
    → i < length areas
    → objects_behind after (n + 1) (drop (i + 1) areas) rest ≡ objects_behind objects n (drop i areas) cs
step-on objects after n i areas cs rest d e left h =
    ap (objects_behind after (n + 1) (drop (i + 1) areas)) left
    ∙ ap (on_ok (λ os. objects_behind os (n + 1) (drop (i + 1) areas) (without (key (object_name n)) cs))) e
    ∙ sym (objects_behind-more objects n i areas d cs h)

-- What is read where memory is wanting.
pub ok_by : {A : Type 0} {a : A} {r : Result A OleFault} → Ok a ≡ r → IsOk r
ok_by {A = A} e = subst (λ (r : Result A OleFault). IsOk r) e refl

pub on-first : {A B : Type 0} (f : A → Result B OleFault) (r : Result A OleFault) → IsOk (on_ok f r) → IsOk r
on-first f (Ok a) h = refl
on-first f (Err e) h = h

pub on-through : {A B C : Type 0} (f : A → Result B OleFault) (g : A → Result C OleFault) (r : Result A OleFault)
    → ((a : A) → IsOk (f a) → IsOk (g a)) → IsOk (on_ok f r) → IsOk (on_ok g r)
on-through f g (Ok a) step h = step a h
on-through f g (Err e) step h = h

begun : (area : Area) (t : Tree) → IsOk (object_read area t) → IsOk (user_type_of t)
begun area (tree class state cs) h =
    on-through (λ picture. behind_picture area class picture (without (key OLE_PRES) cs))
    (λ picture. user_type_in (without (key OLE_PRES) cs)) (as_picture (find (key OLE_PRES) cs))
    (λ picture g. on-first (λ user_type. behind_comp_obj area class picture user_type
    (without (key COMP_OBJ) (without (key OLE_PRES) cs))) (user_type_in (without (key OLE_PRES) cs)) g) h

pub object-begun : (d : Doc) (n : ℕ) (area : Area) (cs : Children) → IsOk (object_pushed d n area cs)
    → IsOk (object_user_type n cs)
object-begun d n area cs h =
    on-through (λ t. object_read area t) user_type_of (as_storage (find (key (object_name n)) cs))
    (λ t g. begun area t g)
    (on-first (λ o. pushed d o) (on_ok (λ t. object_read area t) (as_storage (find (key (object_name n)) cs))) h)
