-- How many bytes the streams of a tree have together, and the room that they need.
use Rattle.std.proofs.Common.{◌≡◌, ◌≤◌, ◌+◌, ℕ, Bool, true, false, cond, List, [], ◌∷◌, Option, Some, None, Result, Ok}
use Rattle.std.proofs.Common.{Err, length, refl, sym, ap, arith, rules}
use Rattle.std.specs.Prelude.{is_ok}
use Rattle.std.specs.Ordering.{match_ordering, is_eq}
use Rattle.std.specs.declared.cmp.Ordering.TheVariants.{Less, Equal, Greater}
use Rattle.cfb_names.specs.Names.{key, key_cmp}
use Rattle.cfb_entries.specs.Tree.{Children, tree, none, stream, storage}
use Rattle.tree_storage.specs.Change.{Seen, bytes, inner, child, find, place, look, map_ok, on_ok, found, change}
use Rattle.tree_storage.specs.Change.{edited, putting, making}
use Rattle.tree_storage.specs.declared.storage.Edit.{Edit}
use Rattle.tree_storage.specs.declared.storage.Edit.TheVariants.{Put, Make}
use Rattle.tree_storage.specs.declared.fault.TreeFault.{TreeFault}
use Rattle.cfb_file.specs.Need.{over_streams_of}
use Rattle.tree_descriptions.specs.Outline.{total}

abbrev over : Children → ℕ
over cs = over_streams_of length cs

over-child : (k n : List ℕ) (s : Seen) (cs : Children) → over (child k (n, s) cs) ≡ total s + over cs
over-child k n (bytes b) cs = refl
over-child k n (inner t) cs = refl

not_found : {A : Type 0} {x : A} → Some x ≡ None → ⊥
not_found h = search rules

same : {A : Type 0} {x y : A} → Some x ≡ Some y → x ≡ y
same h = search rules

-- a new child adds its bytes
place-new : (k n : List ℕ) (s : Seen) (cs : Children) → find k cs ≡ None → over (place k (n, s) cs) ≡ total s + over cs
place-new k n s none absent = over-child k n s none
place-new k n s (stream q m b cs) absent =
    (elim (key_cmp k q) as (λ o. cond (is_eq o) (Some (m, bytes b)) (find k cs) ≡ None
    → over (match_ordering o (child k (n, s) (stream q m b cs)) (child q (n, s) cs)
    (stream q m b (place k (n, s) cs))) ≡ total s + over (stream q m b cs)) [
      | Less ↦ λ h. over-child k n s (stream q m b cs)
      | Equal ↦ λ h. absurd (not_found h)
      | Greater ↦ λ h. let deeper = place-new k n s cs h in omega (arith, deeper)
    ] absent)
place-new k n s (storage q m t cs) absent =
    (elim (key_cmp k q) as (λ o. cond (is_eq o) (Some (m, inner t)) (find k cs) ≡ None
    → over (match_ordering o (child k (n, s) (storage q m t cs)) (child q (n, s) cs)
    (storage q m t (place k (n, s) cs))) ≡ total s + over (storage q m t cs)) [
      | Less ↦ λ h. over-child k n s (storage q m t cs)
      | Equal ↦ λ h. absurd (not_found h)
      | Greater ↦ λ h. let deeper = place-new k n s cs h in omega (arith, deeper)
    ] absent)

-- a child that has more bytes than before
place-more : (k n : List ℕ) (c : List ℕ × Seen) (s : Seen) (more : ℕ) (cs : Children) → find k cs ≡ Some c
    → total c.1 + more ≤ total s
    → over cs + more ≤ over (place k (n, s) cs)
place-more k n c s more none present grows = absurd (not_found (sym present))
place-more k n c s more (stream q m b cs) present grows =
    (elim (key_cmp k q) as (λ o. cond (is_eq o) (Some (m, bytes b)) (find k cs) ≡ Some c
    → over (stream q m b cs) + more
    ≤ over (match_ordering o (child k (n, s) (stream q m b cs)) (child q (n, s) cs)
    (stream q m b (place k (n, s) cs)))) [
      | Less ↦ λ h. omega (arith, over-child k n s (stream q m b cs), grows)
      | Equal ↦ λ h. omega (arith, over-child q n s cs, ap (λ p. total p.1) (same h), grows)
      | Greater ↦ λ h. let deeper = place-more k n c s more cs h grows in omega (arith, deeper)
    ] present)
place-more k n c s more (storage q m t cs) present grows =
    (elim (key_cmp k q) as (λ o. cond (is_eq o) (Some (m, inner t)) (find k cs) ≡ Some c
    → over (storage q m t cs) + more
    ≤ over (match_ordering o (child k (n, s) (storage q m t cs)) (child q (n, s) cs)
    (storage q m t (place k (n, s) cs)))) [
      | Less ↦ λ h. omega (arith, over-child k n s (storage q m t cs), grows)
      | Equal ↦ λ h. omega (arith, over-child q n s cs, ap (λ p. total p.1) (same h), grows)
      | Greater ↦ λ h. let deeper = place-more k n c s more cs h grows in omega (arith, deeper)
    ] present)

pub is_told : {A : Type 0} {x y : A} → ◌≡◌ {A = Result A TreeFault} (Ok x) (Ok y) → x ≡ y
is_told h = cc

pub is_refused : {A : Type 0} {x : A} {e : TreeFault} → ◌≡◌ {A = Result A TreeFault} (Err e) (Ok x) → ⊥
is_refused h = cc

pub ok-of : {A B : Type 0} (f : A → B) (r : Result A TreeFault) (y : B) → map_ok f r ≡ Ok y → (x : A) × (r ≡ Ok x)
    × (f x ≡ y)
ok-of f (Ok x) y h = (x, refl, is_told h)
ok-of f (Err e) y h = absurd (is_refused h)

-- A change by which the streams gain so many bytes, at a path of which Q holds.
module _ (e : Edit) (more : ℕ) (Q : Result Seen TreeFault → Type 0)
    (here : (name : List ℕ) (class : List ℕ) (state : ℕ) (cs cs' : Children)
    → Q (look (name ∷ []) (inner (tree class state cs))) → edited e name cs ≡ Ok cs'
    → over cs + more ≤ over cs') where
  below-more : (path : List (List ℕ)) (at : (s s' : Seen) → Q (look path s) → change e path s ≡ Ok s'
      → total s + more ≤ total s')
      (class : List ℕ) (state : ℕ) (k : List ℕ) (cs : Children) (f : Option (List ℕ × Seen)) (s' : Seen) → find k cs ≡ f
      → Q (on_ok (λ c. look path c.1) (found f))
      → on_ok (λ c. map_ok (λ s. inner (tree class state (place k (c.0, s) cs))) (change e path c.1)) (found f)
      ≡ Ok s' → over cs + more ≤ total s'
  below-more path at class state k cs None s' is q h = absurd (is_refused h)
  below-more path at class state k cs (Some c) s' is q h =
      let told = ok-of (λ s. inner (tree class state (place k (c.0, s) cs))) (change e path c.1) s' h in
      let grown : over cs + more ≤ over (place k (c.0, told.0) cs) =
      place-more k c.0 c told.0 more cs is (at c.1 told.0 q told.1) in
      omega (arith, grown, ap total told.2)

  change-more : (path : List (List ℕ)) (s s' : Seen) → Q (look path s) → change e path s ≡ Ok s'
      → total s + more ≤ total s'
  change-more path (bytes b) s' q h = absurd (is_refused h)
  change-more [] (inner t) s' q h = absurd (is_refused h)
  change-more (name ∷ []) (inner (tree class state cs)) s' q h =
      let told = ok-of (λ x. inner (tree class state x)) (edited e name cs) s' h in
      let grown = here name class state cs told.0 q told.1 in
      omega (arith, grown, ap total told.2)
  change-more (name ∷ next ∷ rest) (inner (tree class state cs)) s' q h =
      below-more (next ∷ rest) (change-more (next ∷ rest)) class state (key name) cs (find (key name) cs) s' refl q h

put-here : (new name : List ℕ) (cs cs' : Children) (f : Option (List ℕ × Seen)) → find (key name) cs ≡ f
    → is_ok (on_ok (λ c. look [] c.1) (found f)) ≡ false
    → putting name new cs f ≡ Ok cs' → over cs + length new ≤ over cs'
put-here new name cs cs' None absent free h =
    omega (arith, place-new (key name) name (bytes new) cs absent, ap over (is_told h))
put-here new name cs cs' (Some c) present free h = absurd (search rules)

-- a new stream
pub put-total : (new : List ℕ) (path : List (List ℕ)) (s s' : Seen) → is_ok (look path s) ≡ false
    → change (Put new) path s ≡ Ok s' → total s + length new ≤ total s'
put-total new = change-more (Put new) (length new) (λ r. is_ok r ≡ false)
    (λ name class state cs cs' free h. put-here new name cs cs' (find (key name) cs) refl free h)

make-here : (class : List ℕ) (state : ℕ) (fits : Bool) (name : List ℕ) (cs cs' : Children)
    (f : Option (List ℕ × Seen)) → find (key name) cs ≡ f
    → making name class state fits cs f ≡ Ok cs' → over cs + 0 ≤ over cs'
make-here class state true name cs cs' None absent h =
    omega (arith, place-new (key name) name (inner (tree class state none)) cs absent, ap over (is_told h))
make-here class state false name cs cs' None absent h = absurd (is_refused h)
make-here class state fits name cs cs' (Some c) present h = absurd (is_refused h)

-- a storage
pub make-total : (class : List ℕ) (state : ℕ) (fits : Bool) (path : List (List ℕ)) (s s' : Seen)
    → change (Make class state fits) path s ≡ Ok s' → total s ≤ total s'
make-total class state fits path s s' h =
    let grown : total s + 0 ≤ total s' = change-more (Make class state fits) 0 (λ r. Unit {0})
    (λ name c st cs cs' q g. make-here class state fits name cs cs' (find (key name) cs) refl g) path s s' tt
    h in
    omega (arith, grown)
