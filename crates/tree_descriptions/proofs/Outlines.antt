-- Changes of a tree and of its outline.
use Rattle.std.proofs.Common.{◌≡◌, ℕ, Bool, true, false, cond, List, [], ◌∷◌, Option, Some, None, Result, Ok, Err, refl}
use Rattle.std.proofs.Common.{sym, ap, ◌∙◌}
use Rattle.std.specs.Option.{option_map}
use Rattle.std.specs.Ordering.{match_ordering}
use Rattle.std.specs.declared.cmp.Ordering.TheVariants.{Less, Equal, Greater}
use Rattle.cfb_names.specs.Names.{key, key_cmp, key_eq}
use Rattle.cfb_entries.specs.Tree.{Children, tree, none, stream, storage}
use Rattle.tree_storage.specs.Change.{Seen, bytes, inner, child, find, place, look, map_ok, on_ok, found, change}
use Rattle.tree_storage.specs.Change.{edited, putting, put_seen, making}
use Rattle.tree_storage.specs.declared.storage.Edit.{Edit}
use Rattle.tree_storage.specs.declared.storage.Edit.TheVariants.{Put, Make}
use Rattle.tree_storage.specs.declared.fault.TreeFault.{TreeFault}
use Rattle.tree_descriptions.specs.Outline.{outline, outlines, outlined}

outlines-child : (k n : List ℕ) (s : Seen) (cs : Children) → outlines (child k (n, s) cs)
    ≡ child k (n, outlined s) (outlines cs)
outlines-child k n (bytes b) cs = refl
outlines-child k n (inner t) cs = refl

abbrev outlined_child : List ℕ × Seen → List ℕ × Seen
outlined_child c = (c.0, outlined c.1)

find-outlines : (k : List ℕ) (cs : Children) → find k (outlines cs) ≡ option_map outlined_child (find k cs)
find-outlines k none = refl
find-outlines k (stream q n b cs) =
    elim (key_eq k q) as (λ t. cond t (Some (n, bytes [])) (find k (outlines cs))
    ≡ option_map outlined_child (cond t (Some (n, bytes b)) (find k cs)))
    [ true ↦ refl | false ↦ find-outlines k cs ]
find-outlines k (storage q n t cs) =
    elim (key_eq k q) as (λ u. cond u (Some (n, inner (outline t))) (find k (outlines cs))
    ≡ option_map outlined_child (cond u (Some (n, inner t)) (find k cs)))
    [ true ↦ refl | false ↦ find-outlines k cs ]

place-outlines : (k n : List ℕ) (s : Seen) (cs : Children) → place k (n, outlined s) (outlines cs)
    ≡ outlines (place k (n, s) cs)
place-outlines k n s none = sym (outlines-child k n s none)
place-outlines k n s (stream q m b cs) =
    elim (key_cmp k q) as (λ o. match_ordering o (child k (n, outlined s) (stream q m [] (outlines cs)))
    (child q (n, outlined s) (outlines cs)) (stream q m [] (place k (n, outlined s) (outlines cs)))
    ≡ outlines (match_ordering o (child k (n, s) (stream q m b cs)) (child q (n, s) cs)
    (stream q m b (place k (n, s) cs)))) [
      | Less ↦ sym (outlines-child k n s (stream q m b cs))
      | Equal ↦ sym (outlines-child q n s cs)
      | Greater ↦
          ap (stream q m []) (place-outlines k n s cs)
    ]
place-outlines k n s (storage q m t cs) =
    elim (key_cmp k q) as (λ o. match_ordering o (child k (n, outlined s) (storage q m (outline t) (outlines cs)))
    (child q (n, outlined s) (outlines cs)) (storage q m (outline t) (place k (n, outlined s) (outlines cs)))
    ≡ outlines (match_ordering o (child k (n, s) (storage q m t cs)) (child q (n, s) cs)
    (storage q m t (place k (n, s) cs)))) [
      | Less ↦ sym (outlines-child k n s (storage q m t cs))
      | Equal ↦ sym (outlines-child q n s cs)
      | Greater ↦
          ap (storage q m (outline t)) (place-outlines k n s cs)
    ]

-- what stands at a path
look-below : (rest : List (List ℕ)) (at : (s : Seen) → look rest (outlined s) ≡ map_ok outlined (look rest s))
    (f : Option (List ℕ × Seen))
    → on_ok (λ c. look rest c.1) (found (option_map outlined_child f))
    ≡ map_ok outlined (on_ok (λ c. look rest c.1) (found f))
look-below rest at None = refl
look-below rest at (Some c) = at c.1

pub look-outlined : (path : List (List ℕ)) (s : Seen) → look path (outlined s) ≡ map_ok outlined (look path s)
look-outlined [] s = refl
look-outlined (name ∷ rest) (bytes b) = refl
look-outlined (name ∷ rest) (inner (tree class state cs)) =
    ap (λ f. on_ok (λ c. look rest c.1) (found f)) (find-outlines (key name) cs)
    ∙ look-below rest (look-outlined rest) (find (key name) cs)

-- A change that does to the children's outlines what it does to the children.
module _ (e light : Edit) (here : (name : List ℕ) (cs : Children) → edited light name (outlines cs)
    ≡ map_ok outlines (edited e name cs)) where
  wrapped : (class : List ℕ) (state : ℕ) (r : Result Children TreeFault)
      → map_ok (λ x. inner (tree class state x)) (map_ok outlines r)
      ≡ map_ok outlined (map_ok (λ x. inner (tree class state x)) r)
  wrapped class state (Ok cs) = refl
  wrapped class state (Err fault) = refl

  placed : (class : List ℕ) (state : ℕ) (k n : List ℕ) (cs : Children) (r : Result Seen TreeFault)
      → map_ok (λ s. inner (tree class state (place k (n, s) (outlines cs)))) (map_ok outlined r)
      ≡ map_ok outlined (map_ok (λ s. inner (tree class state (place k (n, s) cs))) r)
  placed class state k n cs (Ok s) = ap (λ x. Ok (inner (tree class state x))) (place-outlines k n s cs)
  placed class state k n cs (Err fault) = refl

  change-below : (path : List (List ℕ)) (at : (s : Seen) → change light path (outlined s)
      ≡ map_ok outlined (change e path s))
      (class : List ℕ) (state : ℕ) (k : List ℕ) (cs : Children) (f : Option (List ℕ × Seen))
      → on_ok (λ c. map_ok (λ s. inner (tree class state (place k (c.0, s) (outlines cs)))) (change light path c.1))
      (found (option_map outlined_child f))
      ≡ map_ok outlined
      (on_ok (λ c. map_ok (λ s. inner (tree class state (place k (c.0, s) cs))) (change e path c.1)) (found f))
  change-below path at class state k cs None = refl
  change-below path at class state k cs (Some c) =
      ap (map_ok (λ s. inner (tree class state (place k (c.0, s) (outlines cs))))) (at c.1)
      ∙ placed class state k c.0 cs (change e path c.1)

  change-outlined : (path : List (List ℕ)) (s : Seen) → change light path (outlined s)
      ≡ map_ok outlined (change e path s)
  change-outlined path (bytes b) = refl
  change-outlined [] (inner t) = refl
  change-outlined (name ∷ []) (inner (tree class state cs)) =
      ap (map_ok (λ x. inner (tree class state x))) (here name cs) ∙ wrapped class state (edited e name cs)
  change-outlined (name ∷ next ∷ rest) (inner (tree class state cs)) =
      ap (λ f. on_ok (λ c. map_ok (λ s. inner (tree class state (place (key name) (c.0, s) (outlines cs))))
      (change light (next ∷ rest) c.1)) (found f)) (find-outlines (key name) cs)
      ∙ change-below (next ∷ rest) (change-outlined (next ∷ rest)) class state (key name) cs (find (key name) cs)

-- a stream's bytes
put_seen-outlined : (new k n : List ℕ) (cs : Children) (s : Seen)
    → map_ok (λ x. place k (n, x) (outlines cs)) (put_seen [] (outlined s))
    ≡ map_ok outlines (map_ok (λ x. place k (n, x) cs) (put_seen new s))
put_seen-outlined new k n cs (bytes b) = ap Ok (place-outlines k n (bytes new) cs)
put_seen-outlined new k n cs (inner t) = refl

putting-outlines : (new name : List ℕ) (cs : Children) (f : Option (List ℕ × Seen))
    → putting name [] (outlines cs) (option_map outlined_child f) ≡ map_ok outlines (putting name new cs f)
putting-outlines new name cs None = ap Ok (place-outlines (key name) name (bytes new) cs)
putting-outlines new name cs (Some c) = put_seen-outlined new (key name) c.0 cs c.1

pub put-outlined : (new : List ℕ) (path : List (List ℕ)) (s : Seen) → change (Put []) path (outlined s)
    ≡ map_ok outlined (change (Put new) path s)
put-outlined new = change-outlined (Put new) (Put []) (λ name cs.
    ap (putting name [] (outlines cs)) (find-outlines (key name) cs)
    ∙ putting-outlines new name cs (find (key name) cs))

-- a storage
making-outlines : (class : List ℕ) (state : ℕ) (fits : Bool) (name : List ℕ) (cs : Children)
    (f : Option (List ℕ × Seen))
    → making name class state fits (outlines cs) (option_map outlined_child f)
    ≡ map_ok outlines (making name class state fits cs f)
making-outlines class state true name cs None =
    ap Ok (place-outlines (key name) name (inner (tree class state none)) cs)
making-outlines class state false name cs None = refl
making-outlines class state fits name cs (Some c) = refl

pub make-outlined : (class : List ℕ) (state : ℕ) (fits : Bool) (path : List (List ℕ)) (s : Seen)
    → change (Make class state fits) path (outlined s) ≡ map_ok outlined (change (Make class state fits) path s)
make-outlined class state fits = change-outlined (Make class state fits) (Make class state fits) (λ name cs.
    ap (making name class state fits (outlines cs)) (find-outlines (key name) cs)
    ∙ making-outlines class state fits name cs (find (key name) cs))
