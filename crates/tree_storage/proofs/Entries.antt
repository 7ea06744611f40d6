use Rattle.std.proofs.Common.{◌==◌, ◌++◌, append_assoc, ◌≡◌, ◌≤◌, ◌-◌, ℕ, List, [], ◌∷◌, map, refl, sym, ◌∙◌, ap, subst}
use Rattle.std.proofs.Common.{Bool, true, false, cond, Option, Some, None, Result, Ok, Err, length, take, drop, get_or}
use Rattle.std.proofs.Common.{arith, rules, take_all, length-drop}
use Rattle.std.specs.Prelude.{IsOk}
use Rattle.std.specs.Option.{is_some, option_map}
use Rattle.std.specs.List.Sorted.{IsStrictlySortedBy}
use Rattle.std.specs.Cmp.Lexicographic.{nat_list_cmp_total}
use Rattle.std.proofs.lemmas.Map.{lookup-none}
use Rattle.std.proofs.lemmas.Map.Entries.{none_below_head}
use Rattle.std.proofs.lemmas.Map.Keys.{sorted_head, sorted_tail}
use Rattle.std.proofs.lemmas.List.{map-append}
use Rattle.std.specs.List.{AllByRecursion}
use Rattle.std.specs.Map.{keys_of, lookup, set_value, remove_entry}
use Rattle.tree_storage.specs.declared.fault.TreeFault.{TreeFault}
use Rattle.tree_storage.specs.declared.storage.Edit.{Edit}
use Rattle.tree_storage.specs.declared.storage.Edit.TheVariants.{Put, Add, Make, Remove}
use Rattle.tree_storage.specs.declared.fault.TreeFault.TheVariants.{NotFound, Exists, WrongKind, NoTransaction, TooDeep}
use Rattle.tree_storage.specs.declared.fault.TreeFault.TheVariants.{NoMemory}
use Rattle.std.specs.BTreeMap.{insert_entry, is_at}
use Rattle.std.specs.Ordering.{is_eq, match_ordering, ordering_reverse}
use Rattle.std.specs.declared.cmp.Ordering.TheVariants.{Less, Equal, Greater}
use Rattle.cfb_entries.specs.Tree.{Children, none, tree}
use Rattle.tree_storage.specs.Change.{child, Seen, bytes, inner, find, place, without, map_ok, on_ok, found, change}
use Rattle.tree_storage.specs.Change.{putting, put_seen, adding, making, removing, look, Outcome}
use Rattle.cfb_names.specs.Names.{key, key_cmp, key_eq}
use Rattle.tree_storage.specs.View.{seen, shown, children}
pub use Rattle.tree_storage.proofs.Views.{view-out, view-roll, seen-stream, seen-storage}
use Rattle.tree_storage.specs.declared.nodes.Node.{Node}

pub some_none : {A : Type 0} {x : A} → Some x ≡ None → ⊥
some_none h = search rules

same : {A : Type 0} {x y : A} → Some x ≡ Some y → x ≡ y
same h = search rules

abbrev pub Entries : Type 0
Entries = List (List ℕ × (List ℕ × Node))

pub find-child : (k q : List ℕ) (c : List ℕ × Seen) (cs : Children)
    → find k (child q c cs) ≡ cond (key_eq k q) (Some c) (find k cs)
find-child k q (n, bytes b) cs = refl
find-child k q (n, inner t) cs = refl

pub find-entries : (k : List ℕ) (es : Entries) → find k (children es) ≡ option_map shown (lookup (is_at (key_cmp k)) es)
find-entries k [] = refl
find-entries k (e ∷ es) = find-child k e.0 (shown e.1) (children es)
    ∙ (elim (key_eq k e.0) as (λ b. cond b (Some (shown e.1)) (find k (children es))
    ≡ option_map shown (cond b (Some e.1) (lookup (is_at (key_cmp k)) es))) [
      | true ↦ refl
      | false ↦
          find-entries k es
    ])

pub place-child : (k : List ℕ) (c : List ℕ × Seen) (q : List ℕ) (old : List ℕ × Seen) (cs : Children)
    → place k c (child q old cs) ≡ match_ordering (key_cmp k q) (child k c (child q old cs)) (child q c cs)
    (child q old (place k c cs))
place-child k c q (n, bytes b) cs = refl
place-child k c q (n, inner t) cs = refl

pub without-child : (k q : List ℕ) (c : List ℕ × Seen) (cs : Children)
    → without k (child q c cs) ≡ cond (key_eq k q) cs (child q c (without k cs))
without-child k q (n, bytes b) cs = refl
without-child k q (n, inner t) cs = refl

-- a new entry
pub place-insert : (k : List ℕ) (v : List ℕ × Node) (es : Entries) → place k (shown v) (children es)
    ≡ children (insert_entry key_cmp es k v)
place-insert k v [] = refl
place-insert k v (e ∷ es) = place-child k (shown v) e.0 (shown e.1) (children es)
    ∙ (elim (key_cmp k e.0) as (λ o. match_ordering o (child k (shown v) (children (e ∷ es)))
    (child e.0 (shown v) (children es)) (child e.0 (shown e.1) (place k (shown v) (children es)))
    ≡ children (match_ordering o ((k, v) ∷ e ∷ es) ((e.0, v) ∷ es) (e ∷ insert_entry key_cmp es k v)))
    [ Less ↦ refl | Equal ↦ refl | Greater ↦ ap (child e.0 (shown e.1)) (place-insert k v es) ])

-- another value at an entry
pub place-set : (k : List ℕ) (v x : List ℕ × Node) (es : Entries) → IsStrictlySortedBy key_cmp (keys_of es)
    → lookup (is_at (key_cmp k)) es ≡ Some x
    → place k (shown v) (children es) ≡ children (set_value (is_at (key_cmp k)) es v)
place-set k v x [] up h = absurd (search rules)
place-set k v x (e ∷ es) up h = place-child k (shown v) e.0 (shown e.1) (children es)
    ∙ (elim (key_cmp k e.0) as (λ o. key_cmp k e.0 ≡ o → cond (is_eq o) (Some e.1) (lookup (is_at (key_cmp k)) es)
    ≡ Some x
    → match_ordering o (child k (shown v) (children (e ∷ es))) (child e.0 (shown v) (children es))
    (child e.0 (shown e.1) (place k (shown v) (children es)))
    ≡ children (cond (is_eq o) ((e.0, v) ∷ es) (e ∷ set_value (is_at (key_cmp k)) es v))) [
      | Less ↦ λ q g. absurd
          (some_none (sym h ∙ lookup-none (is_at (key_cmp k)) (e ∷ es)
          (none_below_head nat_list_cmp_total k e es up q)))
      | Equal ↦ λ q g. refl
      | Greater ↦ λ q g. ap (child e.0 (shown e.1)) (place-set k v x es (sorted_tail key_cmp e.0 (keys_of es) up) g)
    ] refl h)

-- the same value at an entry
pub set-same : (k : List ℕ) (x : List ℕ × Node) (es : Entries) → lookup (is_at (key_cmp k)) es ≡ Some x
    → children (set_value (is_at (key_cmp k)) es x) ≡ children es
set-same k x [] h = refl
set-same k x (e ∷ es) h =
    (elim (key_eq k e.0) as (λ b. cond b (Some e.1) (lookup (is_at (key_cmp k)) es) ≡ Some x
    → children (cond b ((e.0, x) ∷ es) (e ∷ set_value (is_at (key_cmp k)) es x)) ≡ children (e ∷ es)) [
      | true ↦ λ g. ap (λ s. child e.0 s (children es)) (same (ap (option_map shown) (sym g)))
      | false ↦
          λ g. ap (child e.0 (shown e.1)) (set-same k x es g)
    ] h)

-- an entry that goes
pub without-entries : (k : List ℕ) (es : Entries) → without k (children es)
    ≡ children (remove_entry (is_at (key_cmp k)) es)
without-entries k [] = refl
without-entries k (e ∷ es) = without-child k e.0 (shown e.1) (children es)
    ∙ (elim (key_eq k e.0) as (λ b. cond b (children es) (child e.0 (shown e.1) (without k (children es)))
    ≡ children (cond b es (e ∷ remove_entry (is_at (key_cmp k)) es)))
    [ true ↦ refl | false ↦ ap (child e.0 (shown e.1)) (without-entries k es) ])

pub find-none : (k : List ℕ) (es : Entries) → lookup (is_at (key_cmp k)) es ≡ None → find k (children es) ≡ None
find-none k es h = find-entries k es ∙ ap (option_map shown) h

pub find-some : (k : List ℕ) (x : List ℕ × Node) (es : Entries) → lookup (is_at (key_cmp k)) es ≡ Some x
    → find k (children es) ≡ Some (shown x)
find-some k x es h = find-entries k es ∙ ap (option_map shown) h

pub placed : (k name : List ℕ) (v : Node) (s : Seen) (es es' : Entries) → seen v ≡ s
    → es' ≡ insert_entry key_cmp es k (name, v)
    → place k (name, s) (children es) ≡ children es'
placed k name v s es es' e q = ap (λ x. place k (name, x) (children es)) (sym e) ∙ place-insert k (name, v) es
    ∙ ap children (sym q)

twice : {A B C : Type 0} (f : A → B) (g : B → C) (r : Result A TreeFault)
    → map_ok g (map_ok f r) ≡ map_ok (λ a. g (f a)) r
twice f g (Ok a) = refl
twice f g (Err e) = refl

pub ok-map : {A B : Type 0} (f : A → B) (r : Result A TreeFault) → IsOk r → IsOk (map_ok f r)
ok-map f (Ok a) h = refl
ok-map f (Err e) h = h

-- a call's outcome, seen from further up
pub outcome-map : {A B : Type 0} (f : A → B) (r : Result (Unit {0}) TreeFault) (told : Result A TreeFault) (old new : A)
    → Outcome r told old new → Outcome r (map_ok f told) (f old) (f new)
outcome-map f (Ok u) told old new h = ap (map_ok f) h
outcome-map f (Err NotFound) told old new h = (ap (map_ok f) h.0, ap f h.1)
outcome-map f (Err Exists) told old new h = (ap (map_ok f) h.0, ap f h.1)
outcome-map f (Err WrongKind) told old new h = (ap (map_ok f) h.0, ap f h.1)
outcome-map f (Err NoTransaction) told old new h = (ap (map_ok f) h.0, ap f h.1)
outcome-map f (Err TooDeep) told old new h = (ap (map_ok f) h.0, ap f h.1)
outcome-map f (Err NoMemory) told old new h = (ok-map f told h.0, ap f h.1)

pub path-cons : (xs : List (List ℕ)) (x : List ℕ) → x ≡ get_or xs 0 x → 1 ≤ length xs
    → xs ≡ x ∷ take (length xs - 1) (drop 1 xs)
path-cons [] x e h = absurd (omega (arith, h))
path-cons (y ∷ xs) x e h = let q : length (y ∷ xs) - 1 ≡ length xs = omega arith in
    let k : length (drop 1 (y ∷ xs)) ≤ length xs = omega (arith, length-drop 1 (y ∷ xs)) in
    rw (q, take_all) (ap (λ z. z ∷ xs) (sym e))

pub rest-long : (xs : List (List ℕ)) → 2 ≤ length xs → 1 ≤ length (take (length xs - 1) (drop 1 xs))
rest-long [] h = absurd (omega (arith, h))
rest-long (y ∷ xs) h = let q : length (y ∷ xs) - 1 ≡ length xs = omega arith in
    let k : length (drop 1 (y ∷ xs)) ≤ length xs = omega (arith, length-drop 1 (y ∷ xs)) in
    rw (q, take_all) (omega (arith, h))

module _ (r : Result (Unit {0}) TreeFault) (class : List ℕ) (state : ℕ) where
  abbrev pub whole : Children → Seen
  whole cs = inner (tree class state cs)

  -- a change of what stands under a key, seen from the storage
  pub through : (k : List ℕ) (told : Result Seen TreeFault) (es es' : Entries) (x x' : List ℕ × Node)
      → IsStrictlySortedBy key_cmp (keys_of es) → lookup (is_at (key_cmp k)) es ≡ Some x
      → es' ≡ set_value (is_at (key_cmp k)) es x' → x'.0 ≡ x.0
      → Outcome r told (seen x.1) (seen x'.1)
      → Outcome r (map_ok (λ s. whole (place k (x.0, s) (children es))) told) (whole (children es))
      (whole (children es'))
  through k told es es' x x' up known q n h =
      let f : Seen → Seen = λ s. whole (place k (x.0, s) (children es)) in
      let same_tree : f (seen x.1) ≡ whole (children es) =
      ap whole (place-set k x x es up known ∙ set-same k x es known) in
      let new_tree : f (seen x'.1) ≡ whole (children es') = ap (λ m. whole (place k (m, seen x'.1) (children es)))
      (sym n) ∙ ap whole (place-set k x' x es up known ∙ ap children (sym q)) in
      let Q : Seen → Type 0 = λ t. Outcome r (map_ok f told) t (f (seen x'.1)) in
      let R : Seen → Type 0 = λ t. Outcome r (map_ok f told) (whole (children es)) t in
      subst R new_tree (subst Q same_tree (outcome-map f r told _ _ h))

  -- a change below the storage that stands under a name
  pub below : (e : Edit) (path : List (List ℕ)) (name : List ℕ) (rest : List (List ℕ)) (es es' : Entries)
      (x x' : List ℕ × Node)
      → path ≡ name ∷ rest → 1 ≤ length rest
      → IsStrictlySortedBy key_cmp (keys_of es) → lookup (is_at (key_cmp (key name))) es ≡ Some x
      → es' ≡ set_value (is_at (key_cmp (key name))) es x' → x'.0 ≡ x.0
      → Outcome r (change e rest (seen x.1)) (seen x.1) (seen x'.1)
      → Outcome r (change e path (whole (children es))) (whole (children es)) (whole (children es'))
  below e path name [] es es' x x' p l up known q n h = absurd (omega (arith, l))
  below e path name (next ∷ rest) es es' x x' p l up known q n h =
      let P : List (List ℕ) → Type 0 = λ ns. Outcome r (change e ns (whole (children es))) (whole (children es))
      (whole (children es')) in
      let go : Option (List ℕ × Seen) → Result Seen TreeFault =
      λ o. on_ok (λ c. map_ok (λ s. whole (place (key name) (c.0, s) (children es)))
      (change e (next ∷ rest) c.1)) (found o) in
      let Q : Option (List ℕ × Seen) → Type 0 = λ o. Outcome r (go o) (whole (children es)) (whole (children es')) in
      subst P (sym p) (subst Q (sym (find-some (key name) x es known))
      (through (key name) (change e (next ∷ rest) (seen x.1)) es es' x x' up known q n h))

  pub put-there : (name new : List ℕ) (es es' : Entries) (x x' : List ℕ × Node)
      → IsStrictlySortedBy key_cmp (keys_of es) → lookup (is_at (key_cmp (key name))) es ≡ Some x
      → es' ≡ set_value (is_at (key_cmp (key name))) es x' → x'.0 ≡ x.0
      → Outcome r (put_seen new (seen x.1)) (seen x.1) (seen x'.1)
      → Outcome r (change (Put new) (name ∷ []) (whole (children es))) (whole (children es)) (whole (children es'))
  put-there name new es es' x x' up known q n h =
      let Q : Option (List ℕ × Seen) → Type 0 = λ o. Outcome r (map_ok whole (putting name new (children es) o))
      (whole (children es)) (whole (children es')) in
      let P : Result Seen TreeFault → Type 0 = λ t. Outcome r t (whole (children es)) (whole (children es')) in
      subst Q (sym (find-some (key name) x es known))
      (subst P (sym (twice (λ s. place (key name) (x.0, s) (children es)) whole (put_seen new (seen x.1))))
      (through (key name) (put_seen new (seen x.1)) es es' x x' up known q n h))

-- a change below nothing
pub below-none : (e : Edit) (path : List (List ℕ)) (name : List ℕ) (rest : List (List ℕ)) (class : List ℕ)
    (state : ℕ) (es : Entries)
    → path ≡ name ∷ rest → 1 ≤ length rest
    → lookup (is_at (key_cmp (key name))) es ≡ None → change e path (inner (tree class state (children es)))
    ≡ Err NotFound
below-none e path name [] class state es p l h = absurd (omega (arith, l))
below-none e path name (next ∷ rest) class state es p l h =
    ap (λ ns. change e ns (inner (tree class state (children es)))) p
    ∙ ap (λ o. on_ok (λ c. map_ok (λ s. whole (Ok tt) class state (place (key name) (c.0, s) (children es)))
    (change e (next ∷ rest) c.1)) (found o)) (find-none (key name) es h)

pub put-new : (name new class : List ℕ) (state : ℕ) (es es' : Entries) (v : Node)
    → lookup (is_at (key_cmp (key name))) es ≡ None → seen v ≡ bytes new
    → es' ≡ insert_entry key_cmp es (key name) (name, v)
    → change (Put new) (name ∷ []) (inner (tree class state (children es)))
    ≡ Ok (inner (tree class state (children es')))
put-new name new class state es es' v h e q =
    let g : Children → Seen = λ c. inner (tree class state c) in
    ap (λ o. map_ok g (putting name new (children es) o)) (find-none (key name) es h)
    ∙ ap (λ c. Ok (g c)) (placed (key name) name v (bytes new) es es' e q)

pub put-new-ok : (name new class : List ℕ) (state : ℕ) (es : Entries)
    → lookup (is_at (key_cmp (key name))) es ≡ None
    → IsOk (change (Put new) (name ∷ []) (inner (tree class state (children es))))
put-new-ok name new class state es h =
    let P : Option (List ℕ × Seen) → Type 0 =
    λ o. IsOk (map_ok {A = Children} {B = Seen} (λ c. inner (tree class state c))
    (putting name new (children es) o)) in
    subst P (sym (find-none (key name) es h)) refl

is_some-map : {A B : Type 0} (f : A → B) (o : Option A) (b : Bool) → b ≡ is_some o → is_some (option_map f o) ≡ b
is_some-map f None b h = sym h
is_some-map f (Some a) b h = sym h

pub none_from : {A : Type 0} (o : Option A) → is_some o ≡ false → o ≡ None
none_from None h = refl
none_from (Some a) h = absurd (search (rules))

-- a stream where nothing stands
pub add-new : (name new class : List ℕ) (state : ℕ) (es es' : Entries) (v : Node)
    → lookup (is_at (key_cmp (key name))) es ≡ None → seen v ≡ bytes new
    → es' ≡ insert_entry key_cmp es (key name) (name, v)
    → change (Add new) (name ∷ []) (inner (tree class state (children es)))
    ≡ Ok (inner (tree class state (children es')))
add-new name new class state es es' v h e q =
    let g : Children → Seen = λ c. inner (tree class state c) in
    ap (λ o. map_ok g (adding name new (children es) o)) (find-none (key name) es h)
    ∙ ap (λ c. Ok (g c)) (placed (key name) name v (bytes new) es es' e q)

pub add-ok : (name new class : List ℕ) (state : ℕ) (es : Entries)
    → lookup (is_at (key_cmp (key name))) es ≡ None
    → IsOk (change (Add new) (name ∷ []) (inner (tree class state (children es))))
add-ok name new class state es h =
    let P : Option (List ℕ × Seen) → Type 0 =
    λ o. IsOk (map_ok {A = Children} {B = Seen} (λ c. inner (tree class state c))
    (adding name new (children es) o)) in
    subst P (sym (find-none (key name) es h)) refl

adding-some : (name new class : List ℕ) (state : ℕ) (cs : Children) (o : Option (List ℕ × Seen)) → is_some o ≡ true
    → map_ok {A = Children} {B = Seen} (λ c. inner (tree class state c)) (adding name new cs o) ≡ Err Exists
adding-some name new class state cs None h = absurd (search (rules))
adding-some name new class state cs (Some c) h = refl

pub add-there : (name new class : List ℕ) (state : ℕ) (es : Entries)
    → is_some (lookup (is_at (key_cmp (key name))) es) ≡ true
    → change (Add new) (name ∷ []) (inner (tree class state (children es))) ≡ Err Exists
add-there name new class state es h = adding-some name new class state (children es) (find (key name) (children es))
    (ap is_some (find-entries (key name) es) ∙ is_some-map shown (lookup (is_at (key_cmp (key name))) es) true (sym h))

module _ (name class : List ℕ) (state : ℕ) (fits : Bool) (c : List ℕ) (st : ℕ) (cs : Children) where
  making-some : (o : Option (List ℕ × Seen)) → is_some o ≡ true
      → map_ok {A = Children} {B = Seen} (λ x. inner (tree c st x)) (making name class state fits cs o) ≡ Err Exists
  making-some None h = absurd (search (rules))
  making-some (Some s) h = refl

  making-none : (o : Option (List ℕ × Seen)) → is_some o ≡ false → making name class state fits cs o
      ≡ cond fits (Ok (place (key name) (name, inner (tree class state none)) cs)) (Err TooDeep)
  making-none None h = refl
  making-none (Some s) h = absurd (search (rules))

module _ (name class : List ℕ) (state : ℕ) (fits : Bool) (c : List ℕ) (st : ℕ) (es : Entries) (b : Bool)
    (is : b ≡ is_some (lookup (is_at (key_cmp (key name))) es)) where
  known : is_some (find (key name) (children es)) ≡ b
  known = ap is_some (find-entries (key name) es) ∙ is_some-map shown (lookup (is_at (key_cmp (key name))) es) b is

  pub make-there : b ≡ true → change (Make class state fits) (name ∷ []) (inner (tree c st (children es))) ≡ Err Exists
  make-there h = making-some name class state fits c st (children es) (find (key name) (children es)) (known ∙ h)

  making-is : b ≡ false → change (Make class state fits) (name ∷ []) (inner (tree c st (children es)))
      ≡ map_ok {A = Children} {B = Seen} (λ x. inner (tree c st x))
      (cond fits (Ok (place (key name) (name, inner (tree class state none)) (children es))) (Err TooDeep))
  making-is h = ap (map_ok {A = Children} {B = Seen} (λ x. inner (tree c st x)))
      (making-none name class state fits c st (children es) (find (key name) (children es)) (known ∙ h))

  pub make-deep : b ≡ false → fits ≡ false → change (Make class state fits) (name ∷ [])
      (inner (tree c st (children es))) ≡ Err TooDeep
  make-deep h f = making-is h
      ∙ ap (λ k. map_ok {A = Children} {B = Seen} (λ x. inner (tree c st x))
      (cond k (Ok (place (key name) (name, inner (tree class state none)) (children es))) (Err TooDeep))) f

  making-fits : b ≡ false → fits ≡ true → change (Make class state fits) (name ∷ [])
      (inner (tree c st (children es)))
      ≡ Ok (inner (tree c st (place (key name) (name, inner (tree class state none)) (children es))))
  making-fits h f = making-is h
      ∙ ap (λ k. map_ok {A = Children} {B = Seen} (λ x. inner (tree c st x))
      (cond k (Ok (place (key name) (name, inner (tree class state none)) (children es))) (Err TooDeep))) f

  pub make-ok : b ≡ false → fits ≡ true
      → IsOk (change (Make class state fits) (name ∷ []) (inner (tree c st (children es))))
  make-ok h f = let P : Result Seen TreeFault → Type 0 = λ r. IsOk r in subst P (sym (making-fits h f)) refl

  pub make-new : (v : Node) (es' : Entries) → b ≡ false → fits ≡ true → seen v ≡ inner (tree class state none)
      → es' ≡ insert_entry key_cmp es (key name) (name, v)
      → change (Make class state fits) (name ∷ []) (inner (tree c st (children es)))
      ≡ Ok (inner (tree c st (children es')))
  make-new v es' h f e q = making-fits h f ∙ ap (λ x. Ok (inner (tree c st x)))
      (placed (key name) name v (inner (tree class state none)) es es' e q)

removing-some : (name class : List ℕ) (state : ℕ) (cs : Children) (o : Option (List ℕ × Seen)) → is_some o ≡ true
    → map_ok {A = Children} {B = Seen} (λ c. inner (tree class state c)) (removing name cs o)
    ≡ Ok (inner (tree class state (without (key name) cs)))
removing-some name class state cs None h = absurd (search (rules))
removing-some name class state cs (Some c) h = refl

pub removed : (name class : List ℕ) (state : ℕ) (es es' : Entries)
    → is_some (lookup (is_at (key_cmp (key name))) es) ≡ true → es' ≡ remove_entry (is_at (key_cmp (key name))) es
    → change Remove (name ∷ []) (inner (tree class state (children es))) ≡ Ok (inner (tree class state (children es')))
removed name class state es es' h q = removing-some name class state (children es) (find (key name) (children es))
    (ap is_some (find-entries (key name) es) ∙ is_some-map shown (lookup (is_at (key_cmp (key name))) es) true
    (sym h))
    ∙ ap (λ c. Ok (inner (tree class state c))) (without-entries (key name) es ∙ ap children (sym q))

pub remove-none : (name class : List ℕ) (state : ℕ) (es : Entries) → lookup (is_at (key_cmp (key name))) es ≡ None
    → change Remove (name ∷ []) (inner (tree class state (children es))) ≡ Err NotFound
remove-none name class state es h =
    ap (λ o. map_ok {A = Children} {B = Seen} (λ c. inner (tree class state c)) (removing name (children es) o))
    (find-none (key name) es h)

pub look-stream : (path : List (List ℕ)) (b : List ℕ) → false ≡ (length path == 0) → Err WrongKind ≡ look path (bytes b)
look-stream [] b h = absurd (search (rules))
look-stream (name ∷ rest) b h = refl

pub look-here : (path : List (List ℕ)) (s : Seen) → true ≡ (length path == 0) → Ok s ≡ look path s
look-here [] s h = refl
look-here (name ∷ rest) s h = absurd (grind (arith))

pub look-below : (path : List (List ℕ)) (name : List ℕ) (rest : List (List ℕ)) (class : List ℕ) (state : ℕ)
    (es : Entries) (x : List ℕ × Node)
    → path ≡ name ∷ rest → lookup (is_at (key_cmp (key name))) es ≡ Some x
    → look rest (seen x.1) ≡ look path (inner (tree class state (children es)))
look-below path name rest class state es x p h =
    ap (λ o. on_ok (λ c. look rest c.1) (found o)) (sym (find-some (key name) x es h))
    ∙ ap (λ ns. look ns (inner (tree class state (children es)))) (sym p)

pub look-none : (path : List (List ℕ)) (name : List ℕ) (rest : List (List ℕ)) (class : List ℕ) (state : ℕ)
    (es : Entries)
    → path ≡ name ∷ rest → lookup (is_at (key_cmp (key name))) es ≡ None
    → Err NotFound ≡ look path (inner (tree class state (children es)))
look-none path name rest class state es p h =
    ap (λ o. on_ok (λ c. look rest c.1) (found o)) (sym (find-none (key name) es h))
    ∙ ap (λ ns. look ns (inner (tree class state (children es)))) (sym p)

-- the entries as they are seen
abbrev pub shows : Entries → List (List ℕ × (List ℕ × Seen))
shows es = map (λ e. (e.0, shown e.1)) es

-- every key of these is below k
abbrev Below : Entries → List ℕ → Type 0
Below [] k = Unit {0}
Below (e ∷ es) k = (key_cmp e.0 k ≡ Less) × Below es k

abbrev first : List ℕ × (List ℕ × Seen) → List ℕ
first e = e.0

all-at : (P : List ℕ → Type 0) (ks : List (List ℕ)) (k : List ℕ) (rest : List (List ℕ))
    → AllByRecursion P (ks ++ k ∷ rest) → P k
all-at P [] k rest h = h.0
all-at P (x ∷ ks) k rest h = all-at P ks k rest h.1

below-all : (es : Entries) (k : List ℕ) (rest : List (List ℕ))
    → IsStrictlySortedBy key_cmp (map first (shows es) ++ k ∷ rest) → Below es k
below-all [] k rest h = tt
below-all (e ∷ es) k rest h = (
  all-at (λ y. key_cmp e.0 y ≡ Less) (map first (shows es)) k rest
      (sorted_head key_cmp e.0 (map first (shows es) ++ k ∷ rest) h),
  below-all es k rest (sorted_tail key_cmp e.0 (map first (shows es) ++ k ∷ rest) h),
)

keys-shows : (es : Entries) → keys_of es ≡ map first (shows es)
keys-shows [] = refl
keys-shows (e ∷ es) = ap (λ ks. e.0 ∷ ks) (keys-shows es)

insert-last : (es : Entries) (k : List ℕ) (v : List ℕ × Node) → Below es k
    → insert_entry key_cmp es k v ≡ es ++ (k, v) ∷ []
insert-last [] k v h = refl
insert-last (e ∷ es) k v h =
    let q : key_cmp k e.0 ≡ Greater = nat_list_cmp_total.antisymm k e.0 ∙ ap ordering_reverse h.0 in
    ap (λ o. match_ordering o ((k, v) ∷ e ∷ es) ((e.0, v) ∷ es) (e ∷ insert_entry key_cmp es k v)) q
    ∙ ap (λ x. e ∷ x) (insert-last es k v h.1)

pub copy-step : (copied copied' all rest : Entries) (k : List ℕ) (v v' : List ℕ × Node)
    → IsStrictlySortedBy key_cmp (keys_of all) → shows copied ++ shows ((k, v) ∷ rest) ≡ shows all
    → shown v' ≡ shown v → copied' ≡ insert_entry key_cmp copied k v'
    → shows copied' ++ shows rest ≡ shows all
copy-step copied copied' all rest k v v' up h e q =
    let P : List (List ℕ) → Type 0 = IsStrictlySortedBy key_cmp in
    let keys : keys_of all ≡ map first (shows copied) ++ k ∷ map first (shows rest) = keys-shows all
    ∙ ap (map first) (sym h) ∙ map-append _ _ _ in
    let last : Below copied k = below-all copied k (map first (shows rest)) (subst P keys up) in
    ap (λ es. shows es ++ shows rest) (q ∙ insert-last copied k v' last)
    ∙ ap (λ es. es ++ shows rest) (map-append _ _ _)
    ∙ ap (λ c. shows copied ++ (k, c) ∷ [] ++ shows rest) e ∙ append_assoc (shows copied) ((k, shown v) ∷ [])
    (shows rest) ∙ h

pub reflexive : (k : List ℕ) → key_cmp k k ≡ Equal
reflexive k = elim (key_cmp k k) as (λ o. o ≡ ordering_reverse o → o ≡ Equal) [
  | Less ↦
      λ h. absurd (search (rules))
  | Equal ↦ λ h. refl
  | Greater ↦ λ h. absurd (search (rules))
]
    (nat_list_cmp_total.antisymm k k)

pub key_eq-flip : (a b : List ℕ) → key_eq a b ≡ false → key_eq b a ≡ false
key_eq-flip a b h = ap is_eq (nat_list_cmp_total.antisymm b a)
    ∙ (elim (key_cmp a b) as (λ o. is_eq o ≡ false → is_eq (ordering_reverse o) ≡ false) [
      | Less ↦
          λ g. refl
      | Equal ↦ λ g. g
      | Greater ↦ λ g. refl
    ] h)
