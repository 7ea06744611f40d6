-- Tokens that are written one after another.
use Rattle.std.proofs.Common.{◌≡◌, ◌<◌, ◌+◌, ◌++◌, ◌∷◌, [], ◌∙◌, ℕ, List, Result, Ok, Err, OnOk, length, get_or, drop}
use Rattle.std.proofs.Common.{refl, sym, ap, append_assoc}
use Rattle.std.proofs.lemmas.List.{drop_more}
use Rattle.json.specs.Token.{Token, begin_array, end_array}
use Rattle.tell_forms.specs.Placed as model
use Rattle.tell_forms.specs.Placed.{Parts, Placed, lies, nested, part, part_placed, part_step, parts_placed, placed}
use Rattle.tell_forms.specs.Placed.{placed_step, placed_view}
use Rattle.read_outlines.specs.declared.outline.Outline as raw
use Rattle.read_outlines.specs.declared.outline.Outline.{fold_out-Outline}
use Rattle.read_outlines.specs.declared.outline.Part.{Part}
use Rattle.std.specs.Prelude.{codes}
use Rattle.tell_forms.specs.Json.{below_tokens, child_tokens, each_tokens, inner_tokens, json_tokens, storage_tokens}

pub behind : {A : Type 0} (before after more rest : List A) → after ≡ before ++ more
    → after ++ rest ≡ before ++ (more ++ rest)
behind before after more rest is = ap (λ t. t ++ rest) is ∙ append_assoc before more rest

refused : {A E : Type 0} {x : A} {e : E} → ◌≡◌ {A = Result A E} (Err e) (Ok x) → ⊥
refused p = cc

-- six pieces, one after another
pub six : {A : Type 0} (t u v w x y z a b c d e f : List A) → u ≡ t ++ a → v ≡ u ++ b → w ≡ v ++ c → x ≡ w ++ d
    → y ≡ x ++ e → z ≡ y ++ f
    → z ≡ t ++ (a ++ (b ++ (c ++ (d ++ (e ++ f)))))
six t u v w x y z a b c d e f p q r s m n =
    n ∙ behind x y e f m ∙ behind w x d (e ++ f) s ∙ behind v w c (d ++ (e ++ f)) r
    ∙ behind u v b (c ++ (d ++ (e ++ f))) q ∙ behind t u a (b ++ (c ++ (d ++ (e ++ f)))) p

four : {A : Type 0} (t u v w x a b c d : List A) → u ≡ t ++ a → v ≡ u ++ b → w ≡ v ++ c → x ≡ w ++ d
    → x ≡ t ++ (a ++ (b ++ (c ++ d)))
four t u v w x a b c d p q r s = s ∙ behind v w c d r ∙ behind u v b (c ++ d) q ∙ behind t u a (b ++ (c ++ d)) p

-- one more of a list, of whose elements something is told one after another
pub one_more : {X A : Type 0} (told : List X → List A) (piece : X → List A)
    → ((p : X) (xs : List X) → told (p ∷ xs) ≡ piece p ++ told xs)
    → (before after whole : List A) (items parts : List X) (k : ℕ) (p : X)
    → items ≡ parts → k < length items → get_or items k p ≡ p
    → after ≡ before ++ piece p → before ++ told (drop k parts) ≡ whole → after ++ told (drop (k + 1) parts) ≡ whole
one_more told piece first before after whole items parts k p same some here written so =
    let cut : drop k items ≡ p ∷ drop (k + 1) items =
    drop_more items k p some ∙ ap (λ x. x ∷ drop (k + 1) items) here in
    behind before after (piece p) (told (drop (k + 1) parts)) written
    ∙ ap (λ x. before ++ x) (sym (first p (drop (k + 1) parts)))
    ∙ ap (λ xs. before ++ told (p ∷ drop (k + 1) xs)) (sym same)
    ∙ ap (λ xs. before ++ told xs) (sym cut)
    ∙ ap (λ xs. before ++ told (drop k xs)) same ∙ so

-- what a call that was done promises
pub done : {A E : Type 0} (r : Result A E) (x : A) (P : Type 0) → r ≡ Ok x → OnOk r P → P
done (Ok y) x P is h = h
done (Err e) x P is h = absurd (refused is)

each-part : (within name : List ℕ) (q : model.Part) (ps : Parts) → each_tokens within (part name q ps)
    ≡ child_tokens within name q ++ each_tokens within ps
each-part within name (lies place) ps = refl
each-part within name (nested o) ps = refl

-- one more child
pub child_told : (within : List ℕ) (before after whole : List Token) (items parts : List (List ℕ × Part)) (k : ℕ)
    (p : List ℕ × Part) → items ≡ parts → k < length items → get_or items k p ≡ p
    → after ≡ before ++ child_tokens within p.0 (part_placed p.1)
    → before ++ each_tokens within (parts_placed (drop k parts)) ≡ whole
    → after ++ each_tokens within (parts_placed (drop (k + 1) parts)) ≡ whole
child_told within =
    one_more (λ xs. each_tokens within (parts_placed xs)) (λ p. child_tokens within p.0 (part_placed p.1))
    (λ p xs. each-part within p.0 (part_placed p.1) (parts_placed xs))

abbrev class_of : Placed → List ℕ
class_of (placed class state ps) = class

abbrev state_of : Placed → ℕ
state_of (placed class state ps) = state

-- the class and the state of what an outline tells
pub class_out : (o : raw.Outline) → o.class ≡ class_of (placed_view o)
class_out o = ap class_of (sym (fold_out-Outline model.Part model.Placed part_step placed_step o))

pub state_out : (o : raw.Outline) → o.state ≡ state_of (placed_view o)
state_out o = ap state_of (sym (fold_out-Outline model.Part model.Placed part_step placed_step o))

-- what is told of a storage, and of what stands below it
pub inner_told : (o : Placed) (t mid after : List Token) (path word slashed named : List ℕ) (state : ℕ)
    → named ≡ class_of o → state ≡ state_of o
    → mid ≡ t ++ storage_tokens (codes "storage") word named state → word ≡ path → slashed ≡ path ++ 47 ∷ []
    → after ≡ mid ++ below_tokens slashed o → after ≡ t ++ inner_tokens path o
inner_told (placed class state ps) t mid after path word slashed named s is held told same slash written =
    written ∙ behind t mid (storage_tokens (codes "storage") path class state) (each_tokens slashed ps)
    (told ∙ ap (λ x. t ++ storage_tokens (codes "storage") x named s) same
    ∙ ap (λ x. t ++ storage_tokens (codes "storage") path x s) is
    ∙ ap (λ x. t ++ storage_tokens (codes "storage") path class x) held)
    ∙ ap (λ x. t ++ (storage_tokens (codes "storage") path class state ++ each_tokens x ps)) slash

-- the whole array
pub array_told : (o : Placed) (t u v w z : List Token) (class : List ℕ) (state : ℕ) → class ≡ class_of o
    → state ≡ state_of o
    → u ≡ t ++ begin_array ∷ [] → v ≡ u ++ storage_tokens (codes "root") [] class state → w ≡ v ++ below_tokens [] o
    → z ≡ w ++ end_array ∷ [] → z ≡ t ++ json_tokens o
array_told (placed class state ps) t u v w z named s is held a b c d =
    four t u v w z (begin_array ∷ []) (storage_tokens (codes "root") [] class state) (each_tokens [] ps)
    (end_array ∷ [])
    a (b ∙ ap (λ x. u ++ storage_tokens (codes "root") [] x s) is
    ∙ ap (λ x. u ++ storage_tokens (codes "root") [] class x) held) c d

pub ok_map : {A E : Type 0} (r : Result A E) (P Q : Type 0) → (P → Q) → OnOk r P → OnOk r Q
ok_map (Ok x) P Q f h = f h
ok_map (Err e) P Q f h = tt
