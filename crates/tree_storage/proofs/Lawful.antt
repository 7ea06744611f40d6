use Rattle.std.proofs.Common.{◌++◌, subst, ◌≡◌, ℕ, List, [], ◌∷◌, refl, sym, ◌∙◌, ap, Bool, true, false, cond, Option}
use Rattle.std.proofs.Common.{Some, None, Result, Ok, Err, rules, inl, inr}
use Rattle.std.specs.Prelude.{is_ok}
use Rattle.std.specs.Cmp.Lexicographic.{nat_list_cmp_total}
use Rattle.std.specs.Ordering.{is_eq, match_ordering, ordering_reverse}
use Rattle.std.specs.declared.cmp.Ordering.TheVariants.{Less, Equal, Greater}
use Rattle.tree_storage.specs.declared.fault.TreeFault.{TreeFault}
use Rattle.tree_storage.specs.declared.fault.TreeFault.TheVariants.{NotFound, Exists, WrongKind, TooDeep}
use Rattle.tree_storage.specs.declared.storage.Edit.{Edit}
use Rattle.tree_storage.specs.declared.storage.Edit.TheVariants.{Put, Add, Make, Remove, Rename}
use Rattle.cfb_names.specs.Names.{key, key_cmp, key_eq}
use Rattle.cfb_entries.specs.Tree.{Children, none, stream, storage, tree}
use Rattle.tree_storage.specs.Change.{child, Seen, bytes, inner, find, place, without, map_ok, on_ok, found, change}
use Rattle.tree_storage.specs.Change.{edited, putting, adding, making, removing, moving, renaming, look}
use Rattle.tree_storage.specs.Laws.{Apart, beside, target, Stays, AddedIsThere, PutIsThere, MadeIsThere, RenamedIsThere}
use Rattle.tree_storage.proofs.Entries.{find-child, place-child, without-child, reflexive}

pub err_ok : {A : Type 0} {P : Type 0} (f : TreeFault) (a : A) → ◌≡◌ {A = Result A TreeFault} (Err f) (Ok a) → P
err_ok f a h = absurd (search rules)

pub ok_is : {A : Type 0} (a b : A) → ◌≡◌ {A = Result A TreeFault} (Ok a) (Ok b) → a ≡ b
ok_is a b h = search rules

-- an equal key is equal to the same keys
key_eq-congr : (a b q : List ℕ) → key_cmp a b ≡ Equal → key_eq q a ≡ key_eq q b
key_eq-congr a b q h = ap is_eq (nat_list_cmp_total.antisymm q a
    ∙ ap ordering_reverse (nat_list_cmp_total.congr a b q h) ∙ sym (nat_list_cmp_total.antisymm q b))

-- what other keys find
place-step : (q k : List ℕ) (c : List ℕ × Seen) (n : List ℕ) (old : List ℕ × Seen) (cs : Children) → key_eq q k ≡ false
    → find q (place k c cs) ≡ find q cs → find q (place k c (child n old cs)) ≡ find q (child n old cs)
place-step q k c n old cs d ih = ap (find q) (place-child k c n old cs)
    ∙ (elim (key_cmp k n) as (λ o. key_cmp k n ≡ o
    → find q (match_ordering o (child k c (child n old cs)) (child n c cs) (child n old (place k c cs)))
    ≡ find q (child n old cs)) [
      | Less ↦ λ h. find-child q k c (child n old cs) ∙ ap (λ b. cond b (Some c) (find q (child n old cs))) d
      | Equal ↦ λ h. find-child q n c cs ∙ ap (λ b. cond b (Some c) (find q cs)) (sym (key_eq-congr k n q h) ∙ d)
          ∙ ap (λ b. cond b (Some old) (find q cs)) (sym (sym (key_eq-congr k n q h) ∙ d)) ∙ sym (find-child q n old cs)
      | Greater ↦ λ h. find-child q n old (place k c cs) ∙ ap (cond (key_eq q n) (Some old)) ih
          ∙ sym (find-child q n old cs)
    ] refl)

pub find-place-other : (q k : List ℕ) (c : List ℕ × Seen) (cs : Children) → key_eq q k ≡ false
    → find q (place k c cs) ≡ find q cs
find-place-other q k c none d = find-child q k c none ∙ ap (λ b. cond b (Some c) None) d
find-place-other q k c (stream n m b cs) d = place-step q k c n (m, bytes b) cs d (find-place-other q k c cs d)
find-place-other q k c (storage n m t cs) d = place-step q k c n (m, inner t) cs d (find-place-other q k c cs d)

-- the key itself
same-step : (k : List ℕ) (c : List ℕ × Seen) (n : List ℕ) (old : List ℕ × Seen) (cs : Children)
    → find k (place k c cs) ≡ Some c → find k (place k c (child n old cs)) ≡ Some c
same-step k c n old cs ih = ap (find k) (place-child k c n old cs)
    ∙ (elim (key_cmp k n) as (λ o. key_cmp k n ≡ o
    → find k (match_ordering o (child k c (child n old cs)) (child n c cs) (child n old (place k c cs)))
    ≡ Some c) [
      | Less ↦ λ h. find-child k k c (child n old cs) ∙ ap (λ o. cond (is_eq o) (Some c) (find k (child n old cs)))
          (reflexive k)
      | Equal ↦ λ h. find-child k n c cs ∙ ap (λ o. cond (is_eq o) (Some c) (find k cs)) h
      | Greater ↦ λ h. find-child k n old (place k c cs)
          ∙ ap (λ o. cond (is_eq o) (Some old) (find k (place k c cs))) h ∙ ih
    ] refl)

pub find-place : (k : List ℕ) (c : List ℕ × Seen) (cs : Children) → find k (place k c cs) ≡ Some c
find-place k c none = find-child k k c none ∙ ap (λ o. cond (is_eq o) (Some c) None) (reflexive k)
find-place k c (stream n m b cs) = same-step k c n (m, bytes b) cs (find-place k c cs)
find-place k c (storage n m t cs) = same-step k c n (m, inner t) cs (find-place k c cs)

-- another key finds the same without a child
without-step : (q k n : List ℕ) (c : List ℕ × Seen) (cs : Children) → key_eq q k ≡ false
    → find q (without k cs) ≡ find q cs → find q (without k (child n c cs)) ≡ find q (child n c cs)
without-step q k n c cs d ih = ap (find q) (without-child k n c cs)
    ∙ (elim (key_cmp k n) as (λ o. key_cmp k n ≡ o → find q (cond (is_eq o) cs (child n c (without k cs)))
    ≡ find q (child n c cs)) [
      | Less ↦ λ h. find-child q n c (without k cs) ∙ ap (cond (key_eq q n) (Some c)) ih ∙ sym (find-child q n c cs)
      | Equal ↦ λ h. ap (λ b. cond b (Some c) (find q cs)) (sym (sym (key_eq-congr k n q h) ∙ d))
          ∙ sym (find-child q n c cs)
      | Greater ↦ λ h. find-child q n c (without k cs) ∙ ap (cond (key_eq q n) (Some c)) ih ∙ sym (find-child q n c cs)
    ] refl)

find-without : (q k : List ℕ) (cs : Children) → key_eq q k ≡ false → find q (without k cs) ≡ find q cs
find-without q k none d = refl
find-without q k (stream n m b cs) d = without-step q k n (m, bytes b) cs d (find-without q k cs d)
find-without q k (storage n m t cs) d = without-step q k n (m, inner t) cs d (find-without q k cs d)

-- what an edit leaves under other keys
put-other : (q name new : List ℕ) (cs cs' : Children) (o : Option (List ℕ × Seen)) → key_eq q (key name) ≡ false
    → putting name new cs o ≡ Ok cs' → find q cs' ≡ find q cs
put-other q name new cs cs' None d h = ap (find q) (sym (ok_is _ _ h))
    ∙ find-place-other q (key name) (name, bytes new) cs d
put-other q name new cs cs' (Some (n, bytes b)) d h = ap (find q) (sym (ok_is _ _ h))
    ∙ find-place-other q (key name) (n, bytes new) cs d
put-other q name new cs cs' (Some (n, inner t)) d h = err_ok WrongKind cs' h

add-other : (q name new : List ℕ) (cs cs' : Children) (o : Option (List ℕ × Seen)) → key_eq q (key name) ≡ false
    → adding name new cs o ≡ Ok cs' → find q cs' ≡ find q cs
add-other q name new cs cs' None d h = ap (find q) (sym (ok_is _ _ h))
    ∙ find-place-other q (key name) (name, bytes new) cs d
add-other q name new cs cs' (Some c) d h = err_ok Exists cs' h

make-other : (q name class : List ℕ) (state : ℕ) (fits : Bool) (cs cs' : Children) (o : Option (List ℕ × Seen))
    → key_eq q (key name) ≡ false → making name class state fits cs o ≡ Ok cs' → find q cs' ≡ find q cs
make-other q name class state true cs cs' None d h = ap (find q) (sym (ok_is _ _ h))
    ∙ find-place-other q (key name) (name, inner (tree class state none)) cs d
make-other q name class state false cs cs' None d h = err_ok TooDeep cs' h
make-other q name class state fits cs cs' (Some c) d h = err_ok Exists cs' h

remove-other : (q name : List ℕ) (cs cs' : Children) (o : Option (List ℕ × Seen)) → key_eq q (key name) ≡ false
    → removing name cs o ≡ Ok cs' → find q cs' ≡ find q cs
remove-other q name cs cs' None d h = err_ok NotFound cs' h
remove-other q name cs cs' (Some c) d h = ap (find q) (sym (ok_is _ _ h)) ∙ find-without q (key name) cs d

move-other : (q name new : List ℕ) (cs cs' : Children) (s : Seen) (o : Option (List ℕ × Seen))
    → key_eq q (key name) ≡ false → key_eq q (key new) ≡ false → moving name new cs s o ≡ Ok cs'
    → find q cs' ≡ find q cs
move-other q name new cs cs' s None d e h = ap (find q) (sym (ok_is _ _ h))
    ∙ find-place-other q (key new) (new, s) (without (key name) cs) e ∙ find-without q (key name) cs d
move-other q name new cs cs' s (Some c) d e h = err_ok Exists cs' h

rename-other : (q name new : List ℕ) (cs cs' : Children) (o : Option (List ℕ × Seen)) → key_eq q (key name) ≡ false
    → key_eq q (key new) ≡ false → renaming name new cs o ≡ Ok cs' → find q cs' ≡ find q cs
rename-other q name new cs cs' None d e h = err_ok NotFound cs' h
rename-other q name new cs cs' (Some c) d e h =
    elim (key_eq (key new) (key name)) as (λ b. cond b (Ok (place (key name) (new, c.1) cs))
    (moving name new cs c.1 (find (key new) cs)) ≡ Ok cs' → find q cs' ≡ find q cs) [
      | true ↦ λ g. ap (find q) (sym (ok_is _ _ g)) ∙ find-place-other q (key name) (new, c.1) cs d
      | false ↦
          λ g. move-other q name new cs cs' c.1 (find (key new) cs) d e g
    ] h

edited-other : (e : Edit) (m n : List ℕ) (q : List (List ℕ)) (cs cs' : Children) → key_eq (key m) (key n) ≡ false
    → Apart (target e (n ∷ [])) (m ∷ q) → edited e n cs ≡ Ok cs' → find (key m) cs' ≡ find (key m) cs
edited-other (Put new) m n q cs cs' d a h = put-other (key m) n new cs cs' (find (key n) cs) d h
edited-other (Add new) m n q cs cs' d a h = add-other (key m) n new cs cs' (find (key n) cs) d h
edited-other (Make class state fits) m n q cs cs' d a h = make-other (key m) n class state fits cs cs'
    (find (key n) cs) d h
edited-other Remove m n q cs cs' d a h = remove-other (key m) n cs cs' (find (key n) cs) d h
edited-other (Rename new) m n q cs cs' d (inl e) h = rename-other (key m) n new cs cs' (find (key n) cs) d e h
edited-other (Rename new) m n q cs cs' d (inr a) h = absurd a

-- a result that is Ok
pub from_map : {A B : Type 0} (f : A → B) (r : Result A TreeFault) (b : B) → map_ok f r ≡ Ok b
    → (a : A) × (r ≡ Ok a) × (f a ≡ b)
from_map f (Ok a) b h = (a, refl, ok_is _ _ h)
from_map f (Err e) b h = err_ok e b h

pub from_found : {A B : Type 0} (f : A → Result B TreeFault) (o : Option A) (b : B) → on_ok f (found o) ≡ Ok b
    → (a : A) × (o ≡ Some a) × (f a ≡ Ok b)
from_found f None b h = err_ok NotFound b h
from_found f (Some a) b h = (a, refl, h)

find-same : (a b : List ℕ) (cs : Children) → key_cmp a b ≡ Equal → find a cs ≡ find b cs
find-same a b none h = refl
find-same a b (stream n m x cs) h = ap (λ o. cond (is_eq o) (Some (m, bytes x)) (find a cs))
    (nat_list_cmp_total.congr a b n h) ∙ ap (cond (key_eq b n) (Some (m, bytes x))) (find-same a b cs h)
find-same a b (storage n m x cs) h = ap (λ o. cond (is_eq o) (Some (m, inner x)) (find a cs))
    (nat_list_cmp_total.congr a b n h) ∙ ap (cond (key_eq b n) (Some (m, inner x))) (find-same a b cs h)

put-here : (name new : List ℕ) (cs cs' : Children) (o : Option (List ℕ × Seen)) → putting name new cs o ≡ Ok cs'
    → on_ok (λ c. look [] c.1) (found (find (key name) cs')) ≡ Ok (bytes new)
put-here name new cs cs' None h = ap (λ x. on_ok (λ c. look [] c.1) (found (find (key name) x))) (sym (ok_is _ _ h))
    ∙ ap (λ x. on_ok (λ c. look [] c.1) (found x)) (find-place (key name) (name, bytes new) cs)
put-here name new cs cs' (Some (n, bytes b)) h = ap (λ x. on_ok (λ c. look [] c.1) (found (find (key name) x)))
    (sym (ok_is _ _ h)) ∙ ap (λ x. on_ok (λ c. look [] c.1) (found x)) (find-place (key name) (n, bytes new) cs)
put-here name new cs cs' (Some (n, inner t)) h = err_ok WrongKind cs' h

add-at : (name new : List ℕ) (cs cs' : Children) (o : Option (List ℕ × Seen)) → adding name new cs o ≡ Ok cs'
    → on_ok (λ c. look [] c.1) (found (find (key name) cs')) ≡ Ok (bytes new)
add-at name new cs cs' None h = put-here name new cs cs' None h
add-at name new cs cs' (Some c) h = err_ok Exists cs' h

-- below one child that is another tree now
module _ (n m : List ℕ) (q : List (List ℕ)) (cs : Children) (c : List ℕ × Seen) (s : Seen)
    (known : find (key n) cs ≡ Some c) (ih : look q s ≡ look q c.1) where
  abbrev go : Option (List ℕ × Seen) → Result Seen TreeFault
  go o = on_ok (λ x. look q x.1) (found o)

  below-child : go (find (key m) (place (key n) (c.0, s) cs)) ≡ go (find (key m) cs)
  below-child = elim (key_cmp (key m) (key n)) as (λ o. key_cmp (key m) (key n) ≡ o
      → go (find (key m) (place (key n) (c.0, s) cs)) ≡ go (find (key m) cs)) [
        | Less ↦ λ h. ap go (find-place-other (key m) (key n) (c.0, s) cs (ap is_eq h))
        | Equal ↦ λ h. ap go (find-same (key m) (key n) (place (key n) (c.0, s) cs) h ∙ find-place (key n) (c.0, s) cs)
            ∙ ih ∙ sym (ap go (find-same (key m) (key n) cs h ∙ known))
        | Greater ↦ λ h. ap go (find-place-other (key m) (key n) (c.0, s) cs (ap is_eq h))
      ] refl

-- the target of a change below
target-below : (e : Edit) (n x : List ℕ) (rest : List (List ℕ)) → target e (n ∷ x ∷ rest) ≡ n ∷ target e (x ∷ rest)
target-below (Put new) n x rest = refl
target-below (Add new) n x rest = refl
target-below (Make class state fits) n x rest = refl
target-below Remove n x rest = refl
target-below (Rename new) n x rest = refl

pub stays : Stays
stays e path q (bytes b) t h a z = err_ok WrongKind t h
stays e [] q (inner s) t h a z = absurd a
stays e (n ∷ []) [] (inner (tree class state cs)) t h a z = absurd a
stays e (n ∷ []) (m ∷ q) (inner (tree class state cs)) t h (inl d) z =
    let w = from_map _ (edited e n cs) t h in
    ap (look (m ∷ q)) (sym w.2) ∙ ap (λ o. on_ok (λ c. look q c.1) (found o)) (edited-other e m n q cs w.0 d z w.1)
stays e (n ∷ []) (m ∷ q) (inner (tree class state cs)) t h (inr a) z = absurd a
stays e (n ∷ x ∷ rest) [] (inner (tree class state cs)) t h a z = absurd a
stays e (n ∷ x ∷ rest) (m ∷ q) (inner (tree class state cs)) t h (inl d) z =
    let u = from_found _ (find (key n) cs) t h in
    let w = from_map _ (change e (x ∷ rest) u.0.1) t u.2 in
    ap (look (m ∷ q)) (sym w.2) ∙ ap (λ o. on_ok (λ c. look q c.1) (found o))
    (find-place-other (key m) (key n) (u.0.0, w.0) cs d)
stays e (n ∷ x ∷ rest) (m ∷ q) (inner (tree class state cs)) t h (inr a) z =
    let u = from_found _ (find (key n) cs) t h in
    let w = from_map _ (change e (x ∷ rest) u.0.1) t u.2 in
    let z' : Apart (n ∷ target e (x ∷ rest)) (m ∷ q) = subst (λ p. Apart p (m ∷ q)) (target-below e n x rest) z in
    elim z' as (λ y. look (m ∷ q) t ≡ look (m ∷ q) (inner (tree class state cs))) [
      | inl d ↦ ap (look (m ∷ q)) (sym w.2) ∙ ap (λ o. on_ok (λ c. look q c.1) (found o))
          (find-place-other (key m) (key n) (u.0.0, w.0) cs d)
      | inr b ↦ ap (look (m ∷ q)) (sym w.2) ∙ below-child n m q cs u.0 w.0 u.1 (stays e (x ∷ rest) q u.0.1 w.0 w.1 a b)
    ]

pub put_is_there : PutIsThere
put_is_there path new (bytes b) t h = err_ok WrongKind t h
put_is_there [] new (inner s) t h = err_ok WrongKind t h
put_is_there (n ∷ []) new (inner (tree class state cs)) t h =
    let w = from_map _ (putting n new cs (find (key n) cs)) t h in
    ap (look (n ∷ [])) (sym w.2) ∙ put-here n new cs w.0 (find (key n) cs) w.1
put_is_there (n ∷ x ∷ rest) new (inner (tree class state cs)) t h =
    let u = from_found _ (find (key n) cs) t h in
    let w = from_map _ (change (Put new) (x ∷ rest) u.0.1) t u.2 in
    ap (look (n ∷ x ∷ rest)) (sym w.2) ∙ ap (λ o. on_ok (λ c. look (x ∷ rest) c.1) (found o))
    (find-place (key n) (u.0.0, w.0) cs)
    ∙ put_is_there (x ∷ rest) new u.0.1 w.0 w.1

pub added_is_there : AddedIsThere
added_is_there path new (bytes b) t h = err_ok WrongKind t h
added_is_there [] new (inner s) t h = err_ok WrongKind t h
added_is_there (n ∷ []) new (inner (tree class state cs)) t h =
    let w = from_map _ (adding n new cs (find (key n) cs)) t h in
    ap (look (n ∷ [])) (sym w.2) ∙ add-at n new cs w.0 (find (key n) cs) w.1
added_is_there (n ∷ x ∷ rest) new (inner (tree class state cs)) t h =
    let u = from_found _ (find (key n) cs) t h in
    let w = from_map _ (change (Add new) (x ∷ rest) u.0.1) t u.2 in
    ap (look (n ∷ x ∷ rest)) (sym w.2) ∙ ap (λ o. on_ok (λ c. look (x ∷ rest) c.1) (found o))
    (find-place (key n) (u.0.0, w.0) cs)
    ∙ added_is_there (x ∷ rest) new u.0.1 w.0 w.1

-- below the root, a stream is made as it is put
add-here : (class : List ℕ) (state : ℕ) (name new : List ℕ) (cs : Children) (o : Option (List ℕ × Seen))
    → map_ok {A = Children} {B = Seen} (λ x. inner (tree class state x)) (adding name new cs o)
    ≡ cond (is_ok (on_ok (λ c. look [] c.1) (found o))) (Err Exists)
    (map_ok (λ x. inner (tree class state x)) (putting name new cs o))
add-here class state name new cs None = refl
add-here class state name new cs (Some c) = refl

add-below : (f : Seen → Seen) (b : Bool) (told other : Result Seen TreeFault) → told ≡ cond b (Err Exists) other
    → map_ok f told ≡ cond b (Err Exists) (map_ok f other)
add-below f true told other h = ap (map_ok f) h
add-below f false told other h = ap (map_ok f) h

pub added_is_put : (name : List ℕ) (rest : List (List ℕ)) (new : List ℕ) (s : Seen)
    → change (Add new) (name ∷ rest) s ≡ cond (is_ok (look (name ∷ rest) s)) (Err Exists)
    (change (Put new) (name ∷ rest) s)
added_is_put n rest new (bytes b) = refl
added_is_put n [] new (inner (tree class state cs)) = add-here class state n new cs (find (key n) cs)
added_is_put n (x ∷ rest) new (inner (tree class state cs)) =
    elim (find (key n) cs) as (λ o. on_ok (λ c. map_ok (λ s. inner (tree class state (place (key n) (c.0, s) cs)))
    (change (Add new) (x ∷ rest) c.1)) (found o)
    ≡ cond (is_ok (on_ok (λ c. look (x ∷ rest) c.1) (found o))) (Err Exists)
    (on_ok (λ c. map_ok (λ s. inner (tree class state (place (key n) (c.0, s) cs)))
    (change (Put new) (x ∷ rest) c.1)) (found o))) [
      | None ↦ refl
      | Some c ↦ add-below (λ s. inner (tree class state (place (key n) (c.0, s) cs)))
          (is_ok (look (x ∷ rest) c.1)) (change (Add new) (x ∷ rest) c.1) (change (Put new) (x ∷ rest) c.1)
          (added_is_put x rest new c.1)
    ]

make-here : (name class : List ℕ) (state : ℕ) (fits : Bool) (cs cs' : Children) (o : Option (List ℕ × Seen))
    → making name class state fits cs o ≡ Ok cs'
    → on_ok (λ c. look [] c.1) (found (find (key name) cs')) ≡ Ok (inner (tree class state none))
make-here name class state true cs cs' None h = ap (λ x. on_ok (λ c. look [] c.1) (found (find (key name) x)))
    (sym (ok_is _ _ h)) ∙ ap (λ x. on_ok (λ c. look [] c.1) (found x))
    (find-place (key name) (name, inner (tree class state none)) cs)
make-here name class state false cs cs' None h = err_ok TooDeep cs' h
make-here name class state fits cs cs' (Some c) h = err_ok Exists cs' h

pub made_is_there : MadeIsThere
made_is_there path class state fits (bytes b) t h = err_ok WrongKind t h
made_is_there [] class state fits (inner s) t h = err_ok WrongKind t h
made_is_there (n ∷ []) class state fits (inner (tree c st cs)) t h =
    let w = from_map _ (making n class state fits cs (find (key n) cs)) t h in
    ap (look (n ∷ [])) (sym w.2) ∙ make-here n class state fits cs w.0 (find (key n) cs) w.1
made_is_there (n ∷ x ∷ rest) class state fits (inner (tree c st cs)) t h =
    let u = from_found _ (find (key n) cs) t h in
    let w = from_map _ (change (Make class state fits) (x ∷ rest) u.0.1) t u.2 in
    ap (look (n ∷ x ∷ rest)) (sym w.2) ∙ ap (λ o. on_ok (λ c. look (x ∷ rest) c.1) (found o))
    (find-place (key n) (u.0.0, w.0) cs)
    ∙ made_is_there (x ∷ rest) class state fits u.0.1 w.0 w.1

-- what was renamed
pub equal_from : (a b : List ℕ) → key_eq a b ≡ true → key_cmp a b ≡ Equal
equal_from a b h = elim (key_cmp a b) as (λ o. is_eq o ≡ true → o ≡ Equal) [
  | Less ↦
      λ g. absurd (search rules)
  | Equal ↦ λ g. refl
  | Greater ↦ λ g. absurd (search rules)
] h

moved-here : (name new : List ℕ) (cs cs' : Children) (s : Seen) (o : Option (List ℕ × Seen))
    → moving name new cs s o ≡ Ok cs' → find (key new) cs' ≡ Some (new, s)
moved-here name new cs cs' s None h = ap (find (key new)) (sym (ok_is _ _ h))
    ∙ find-place (key new) (new, s) (without (key name) cs)
moved-here name new cs cs' s (Some c) h = err_ok Exists cs' h

renamed-here : (name new : List ℕ) (cs cs' : Children) (o : Option (List ℕ × Seen))
    → renaming name new cs o ≡ Ok cs' → (c : List ℕ × Seen) × (o ≡ Some c) × (find (key new) cs' ≡ Some (new, c.1))
renamed-here name new cs cs' None h = err_ok NotFound cs' h
renamed-here name new cs cs' (Some c) h = (
  c,
  refl,
  elim (key_eq (key new) (key name)) as (λ b. key_eq (key new) (key name) ≡ b
      → cond b (Ok (place (key name) (new, c.1) cs)) (moving name new cs c.1 (find (key new) cs)) ≡ Ok cs'
      → find (key new) cs' ≡ Some (new, c.1)) [
        | true ↦ λ e g. ap (find (key new)) (sym (ok_is _ _ g)) ∙ find-same (key new) (key name)
            (place (key name) (new, c.1) cs) (equal_from (key new) (key name) e) ∙ find-place (key name) (new, c.1) cs
        | false ↦ λ e g. moved-here name new cs cs' c.1 (find (key new) cs) g
      ] refl h,
)

pub renamed_is_there : RenamedIsThere
renamed_is_there path below new (bytes b) t h = err_ok WrongKind t h
renamed_is_there [] below new (inner s) t h = err_ok WrongKind t h
renamed_is_there (n ∷ []) below new (inner (tree class state cs)) t h =
    let w = from_map _ (renaming n new cs (find (key n) cs)) t h in
    let r = renamed-here n new cs w.0 (find (key n) cs) w.1 in
    let go : Option (List ℕ × Seen) → Result Seen TreeFault = λ o. on_ok (λ c. look below c.1) (found o) in
    ap (look (new ∷ below)) (sym w.2) ∙ ap go r.2 ∙ sym (ap go r.1)
renamed_is_there (n ∷ x ∷ rest) below new (inner (tree class state cs)) t h =
    let u = from_found _ (find (key n) cs) t h in
    let w = from_map _ (change (Rename new) (x ∷ rest) u.0.1) t u.2 in
    ap (look (n ∷ (beside (x ∷ rest) new ++ below))) (sym w.2)
    ∙ ap (λ o. on_ok (λ c. look (beside (x ∷ rest) new ++ below) c.1) (found o)) (find-place (key n) (u.0.0, w.0) cs)
    ∙ renamed_is_there (x ∷ rest) below new u.0.1 w.0 w.1
    ∙ sym (ap (λ o. on_ok (λ c. look (x ∷ (rest ++ below)) c.1) (found o)) u.1)
