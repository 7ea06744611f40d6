-- An entry under another name.
use Rattle.std.proofs.Common.{◌≡◌, ℕ, List, [], ◌∷◌, refl, sym, ◌∙◌, ap, subst, true, false, cond, Option, Some, None}
use Rattle.std.proofs.Common.{Result, Ok, Err, rules}
use Rattle.std.specs.Prelude.{IsOk, IsSome}
use Rattle.std.specs.Option.{is_some}
use Rattle.std.specs.List.Sorted.{IsStrictlySortedBy}
use Rattle.std.specs.Cmp.Lexicographic.{nat_list_cmp_total}
use Rattle.std.proofs.lemmas.Map.Keys.{sorted_head, sorted_tail}
use Rattle.std.specs.Map.{keys_of, lookup, set_value, remove_entry}
use Rattle.tree_storage.specs.declared.fault.TreeFault.{TreeFault}
use Rattle.tree_storage.specs.declared.storage.Edit.TheVariants.{Rename}
use Rattle.tree_storage.specs.declared.fault.TreeFault.TheVariants.{NotFound, Exists}
use Rattle.std.specs.BTreeMap.{insert_entry, is_at}
use Rattle.std.specs.Ordering.{is_eq, match_ordering}
use Rattle.std.specs.declared.cmp.Ordering.TheVariants.{Less, Equal, Greater}
use Rattle.cfb_entries.specs.Tree.{Children, tree}
use Rattle.tree_storage.specs.Change.{Seen, inner, find, place, without, map_ok, change, moving, renaming}
use Rattle.cfb_names.specs.Names.{key, key_cmp, key_eq}
use Rattle.tree_storage.specs.View.{seen, children, moved, moved_from, with_node}
use Rattle.tree_storage.specs.declared.nodes.Node.{Node}
use Rattle.tree_storage.proofs.Entries.{Entries, some_none, find-none, find-some, key_eq-flip, place-insert, place-set}
use Rattle.tree_storage.proofs.Entries.{reflexive, set-same, without-entries}

module _ (k : List ℕ) (v w : List ℕ × Node) where
  pub lookup-insert : (es : Entries) → lookup (is_at (key_cmp k)) (insert_entry key_cmp es k v) ≡ Some v
  lookup-insert [] = ap (λ o. cond (is_eq o) (Some v) None) (reflexive k)
  lookup-insert (e ∷ es) = elim (key_cmp k e.0) as (λ o. key_cmp k e.0 ≡ o
      → lookup (is_at (key_cmp k)) (match_ordering o ((k, v) ∷ e ∷ es) ((e.0, v) ∷ es)
      (e ∷ insert_entry key_cmp es k v)) ≡ Some v) [
        | Less ↦ λ q. ap (λ o. cond (is_eq o) (Some v) (lookup (is_at (key_cmp k)) (e ∷ es))) (reflexive k)
        | Equal ↦ λ q. ap (λ o. cond (is_eq o) (Some v) (lookup (is_at (key_cmp k)) es)) q
        | Greater ↦ λ q. ap (λ o. cond (is_eq o) (Some e.1) (lookup (is_at (key_cmp k)) (insert_entry key_cmp es k v)))
            q ∙ lookup-insert es
      ] refl

  pub set-insert : (es : Entries) → set_value (is_at (key_cmp k)) (insert_entry key_cmp es k v) w
      ≡ insert_entry key_cmp es k w
  set-insert [] = ap (λ o. cond (is_eq o) ((k, w) ∷ []) ((k, v) ∷ [])) (reflexive k)
  set-insert (e ∷ es) = elim (key_cmp k e.0) as (λ o. key_cmp k e.0 ≡ o
      → set_value (is_at (key_cmp k)) (match_ordering o ((k, v) ∷ e ∷ es) ((e.0, v) ∷ es)
      (e ∷ insert_entry key_cmp es k v)) w
      ≡ match_ordering o ((k, w) ∷ e ∷ es) ((e.0, w) ∷ es) (e ∷ insert_entry key_cmp es k w)) [
        | Less ↦ λ q. ap (λ o. cond (is_eq o) ((k, w) ∷ e ∷ es) ((k, v) ∷ set_value (is_at (key_cmp k)) (e ∷ es) w))
            (reflexive k)
        | Equal ↦ λ q. ap (λ o. cond (is_eq o) ((e.0, w) ∷ es) ((e.0, v) ∷ set_value (is_at (key_cmp k)) es w)) q
        | Greater ↦ λ q. ap (λ o. cond (is_eq o) ((e.0, w) ∷ insert_entry key_cmp es k v)
            (e ∷ set_value (is_at (key_cmp k)) (insert_entry key_cmp es k v) w)) q ∙ ap (λ x. e ∷ x) (set-insert es)
      ] refl

-- what was there, put back over what took its place
pub put-back : (k : List ℕ) (v x : List ℕ × Node) (es one two : Entries) → IsStrictlySortedBy key_cmp (keys_of es)
    → lookup (is_at (key_cmp k)) es ≡ Some x
    → one ≡ insert_entry key_cmp es k v
    → (IsSome (lookup (is_at (key_cmp k)) one) → two ≡ set_value (is_at (key_cmp k)) one x)
    → children two ≡ children es
put-back k v x es one two up known q put =
    let P : Option (List ℕ × Node) → Type 0 = λ o. IsSome o in
    let there : IsSome (lookup (is_at (key_cmp k)) one) =
    subst P (sym (ap (lookup (is_at (key_cmp k))) q ∙ lookup-insert k v x es)) refl in
    ap children (put there ∙ ap (λ e. set_value (is_at (key_cmp k)) e x) q ∙ set-insert k v x es)
    ∙ sym (place-insert k x es) ∙ place-set k x x es up known ∙ set-same k x es known

insert-first : (k : List ℕ) (v : List ℕ × Node) (e : List ℕ × (List ℕ × Node)) (es : Entries)
    → IsStrictlySortedBy key_cmp (keys_of (e ∷ es)) → key_cmp k e.0 ≡ Less
    → insert_entry key_cmp es k v ≡ (k, v) ∷ es
insert-first k v e [] up h = refl
insert-first k v e (f ∷ es) up h =
    let q : key_cmp k f.0 ≡ Less = nat_list_cmp_total.trans k e.0 f.0 h
    ((sorted_head key_cmp e.0 (keys_of (f ∷ es)) up).0) in
    ap (λ o. match_ordering o ((k, v) ∷ f ∷ es) ((f.0, v) ∷ es) (f ∷ insert_entry key_cmp es k v)) q

remove-insert : (k n : List ℕ) (v : List ℕ × Node) (es : Entries) → IsStrictlySortedBy key_cmp (keys_of es)
    → lookup (is_at (key_cmp n)) es ≡ None → key_eq k n ≡ false
    → remove_entry (is_at (key_cmp k)) (insert_entry key_cmp es n v)
    ≡ insert_entry key_cmp (remove_entry (is_at (key_cmp k)) es) n v
remove-insert k n v [] up h d = ap (λ b. cond b [] ((n, v) ∷ [])) d
remove-insert k n v (e ∷ es) up h d =
    elim (key_cmp n e.0) as (λ o. key_cmp n e.0 ≡ o → cond (is_eq o) (Some e.1) (lookup (is_at (key_cmp n)) es) ≡ None
    → remove_entry (is_at (key_cmp k)) (match_ordering o ((n, v) ∷ e ∷ es) ((e.0, v) ∷ es)
    (e ∷ insert_entry key_cmp es n v))
    ≡ insert_entry key_cmp (remove_entry (is_at (key_cmp k)) (e ∷ es)) n v) [
      | Less ↦ λ q g. ap (λ b. cond b (e ∷ es) ((n, v) ∷ remove_entry (is_at (key_cmp k)) (e ∷ es))) d
          ∙ (elim (key_eq k e.0) as (λ b. (n, v) ∷ cond b es (e ∷ remove_entry (is_at (key_cmp k)) es)
          ≡ insert_entry key_cmp (cond b es (e ∷ remove_entry (is_at (key_cmp k)) es)) n v) [
            | true ↦ sym (insert-first n v e es up q)
            | false ↦ ap (λ o. match_ordering o ((n, v) ∷ e ∷ remove_entry (is_at (key_cmp k)) es)
                ((e.0, v) ∷ remove_entry (is_at (key_cmp k)) es)
                (e ∷ insert_entry key_cmp (remove_entry (is_at (key_cmp k)) es) n v)) (sym q)
          ])
      | Equal ↦ λ q g. absurd (some_none g)
      | Greater ↦ λ q g. elim (key_eq k e.0) as (λ b. cond b (insert_entry key_cmp es n v)
          (e ∷ remove_entry (is_at (key_cmp k)) (insert_entry key_cmp es n v))
          ≡ insert_entry key_cmp (cond b es (e ∷ remove_entry (is_at (key_cmp k)) es)) n v) [
            | true ↦ refl
            | false ↦ ap (λ x. e ∷ x) (remove-insert k n v es (sorted_tail key_cmp e.0 (keys_of es) up) g d)
                ∙ ap (λ o. match_ordering o ((n, v) ∷ e ∷ remove_entry (is_at (key_cmp k)) es)
                ((e.0, v) ∷ remove_entry (is_at (key_cmp k)) es)
                (e ∷ insert_entry key_cmp (remove_entry (is_at (key_cmp k)) es) n v)) (sym q)
          ]
    ] refl h

pub moved-is : (k n new : List ℕ) (x v : List ℕ × Node) (es es' : Entries) → IsStrictlySortedBy key_cmp (keys_of es)
    → lookup (is_at (key_cmp n)) es ≡ None → key_eq n k ≡ false
    → es' ≡ insert_entry key_cmp es n v → lookup (is_at (key_cmp k)) es' ≡ Some x
    → moved k n es' ≡ insert_entry key_cmp (remove_entry (is_at (key_cmp k)) es) n (v.0, x.1)
moved-is k n new x v es es' up h d q l =
    let r : remove_entry (is_at (key_cmp k)) es' ≡ insert_entry key_cmp (remove_entry (is_at (key_cmp k)) es) n v =
    ap (remove_entry (is_at (key_cmp k))) q ∙ remove-insert k n v es up h (key_eq-flip n k d) in
    ap (moved_from k n es') l
    ∙ ap (λ y. with_node n x.1 y (lookup (is_at (key_cmp n)) y)) r
    ∙ ap (with_node n x.1 (insert_entry key_cmp (remove_entry (is_at (key_cmp k)) es) n v))
    (lookup-insert n v v (remove_entry (is_at (key_cmp k)) es))
    ∙ set-insert n v (v.0, x.1) (remove_entry (is_at (key_cmp k)) es)

pub some_of : {A : Type 0} (o : Option A) → is_some o ≡ true → (x : A) × (o ≡ Some x)
some_of None h = absurd (search (rules))
some_of (Some a) h = (a, refl)

module _ (name new : List ℕ) (class : List ℕ) (state : ℕ) (es : Entries) where
  abbrev whole_of : Children → Seen
  whole_of cs = inner (tree class state cs)

  pub respelled : (x : List ℕ × Node) (es' : Entries) → IsStrictlySortedBy key_cmp (keys_of es)
      → key_eq (key new) (key name) ≡ true → lookup (is_at (key_cmp (key name))) es ≡ Some x
      → es' ≡ set_value (is_at (key_cmp (key name))) es (new, x.1)
      → change (Rename new) (name ∷ []) (whole_of (children es)) ≡ Ok (whole_of (children es'))
  respelled x es' up b h q =
      ap (λ o. map_ok whole_of (renaming name new (children es) o)) (find-some (key name) x es h)
      ∙ ap (λ t. map_ok whole_of (cond t (Ok (place (key name) (new, seen x.1) (children es)))
      (moving name new (children es) (seen x.1) (find (key new) (children es))))) b
      ∙ ap (λ c. Ok (whole_of c)) (place-set (key name) (new, x.1) x es up h ∙ ap children (sym q))

  pub rename-none : lookup (is_at (key_cmp (key name))) es ≡ None
      → change (Rename new) (name ∷ []) (whole_of (children es)) ≡ Err NotFound
  rename-none h = ap (λ o. map_ok whole_of (renaming name new (children es) o)) (find-none (key name) es h)

  moving-is : (x : List ℕ × Node) → key_eq (key new) (key name) ≡ false → lookup (is_at (key_cmp (key name))) es
      ≡ Some x
      → change (Rename new) (name ∷ []) (whole_of (children es))
      ≡ map_ok whole_of (moving name new (children es) (seen x.1) (find (key new) (children es)))
  moving-is x b h =
      ap (λ o. map_ok whole_of (renaming name new (children es) o)) (find-some (key name) x es h)
      ∙ ap (λ t. map_ok whole_of (cond t (Ok (place (key name) (new, seen x.1) (children es)))
      (moving name new (children es) (seen x.1) (find (key new) (children es))))) b

  pub rename-exists : (x y : List ℕ × Node) → key_eq (key new) (key name) ≡ false
      → lookup (is_at (key_cmp (key name))) es ≡ Some x → lookup (is_at (key_cmp (key new))) es ≡ Some y
      → change (Rename new) (name ∷ []) (whole_of (children es)) ≡ Err Exists
  rename-exists x y b h g = moving-is x b h ∙ ap (λ o. map_ok whole_of (moving name new (children es) (seen x.1) o))
      (find-some (key new) y es g)

  rename-ok : (x : List ℕ × Node) → key_eq (key new) (key name) ≡ false → lookup (is_at (key_cmp (key name))) es
      ≡ Some x → lookup (is_at (key_cmp (key new))) es ≡ None
      → change (Rename new) (name ∷ []) (whole_of (children es))
      ≡ Ok (whole_of (place (key new) (new, seen x.1) (without (key name) (children es))))
  rename-ok x b h g = moving-is x b h ∙ ap (λ o. map_ok whole_of (moving name new (children es) (seen x.1) o))
      (find-none (key new) es g)

  pub rename-can : (x : List ℕ × Node) → key_eq (key new) (key name) ≡ false
      → lookup (is_at (key_cmp (key name))) es ≡ Some x → lookup (is_at (key_cmp (key new))) es ≡ None
      → IsOk (change (Rename new) (name ∷ []) (whole_of (children es)))
  rename-can x b h g = let P : Result Seen TreeFault → Type 0 = λ r. IsOk r in subst P (sym (rename-ok x b h g)) refl

  pub rename-moved : (x : List ℕ × Node) (v : Node) (made done : Entries) → IsStrictlySortedBy key_cmp (keys_of es)
      → key_eq (key new) (key name) ≡ false
      → lookup (is_at (key_cmp (key name))) es ≡ Some x → lookup (is_at (key_cmp (key new))) es ≡ None
      → made ≡ insert_entry key_cmp es (key new) (new, v) → lookup (is_at (key_cmp (key name))) made ≡ Some x
      → done ≡ moved (key name) (key new) made
      → change (Rename new) (name ∷ []) (whole_of (children es)) ≡ Ok (whole_of (children done))
  rename-moved x v made done up b h g q l d =
      rename-ok x b h g ∙ ap (λ c. Ok (whole_of c))
      (ap (place (key new) (new, seen x.1)) (without-entries (key name) es)
      ∙ place-insert (key new) (new, x.1) (remove_entry (is_at (key_cmp (key name))) es)
      ∙ ap children (sym (d ∙ moved-is (key name) (key new) new x (new, v) es made up g b q l)))
