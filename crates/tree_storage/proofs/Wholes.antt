use Rattle.tree_storage.specs.View.{view}
use Rattle.tree_storage.specs.declared.nodes.Storage.{Storage}
use Rattle.std.proofs.Common.{map, ◌++◌, Result, Ok, Err, ◌≤◌, ◌+◌, length, arith, ◌≡◌, ℕ, zero, suc, List, [], ◌∷◌}
use Rattle.std.proofs.Common.{refl, sym, ◌∙◌, ap, subst, Bool, true, false, cond, rules, Option, Some, None, Ok}
use Rattle.std.specs.Cmp.Lexicographic.{nat_list_cmp_total}
use Rattle.std.specs.FinMap.{slice_cmp-IsAntisymmetric, nat_cmp-IsAntisymmetric}
use Rattle.std.specs.Ordering.{is_eq, match_ordering, ordering_reverse}
use Rattle.std.specs.declared.cmp.Ordering.TheVariants.{Less, Equal, Greater}
use Rattle.cfb_names.specs.Names.{key, key_cmp, key_eq, IsName}
use Rattle.cfb_entries.specs.Tree.{Tree, Children, none, stream, storage, tree}
use Rattle.tree_storage.specs.Change.{Outcome, child, Seen, bytes, inner, find, place, without, change, edited, putting}
use Rattle.tree_storage.specs.Change.{adding, making, removing, moving, renaming}
use Rattle.tree_storage.specs.declared.fault.TreeFault.{TreeFault}
use Rattle.tree_storage.specs.declared.fault.TreeFault.TheVariants.{NotFound, Exists, WrongKind, NoTransaction, TooDeep}
use Rattle.tree_storage.specs.declared.fault.TreeFault.TheVariants.{NoMemory}
use Rattle.tree_storage.specs.declared.storage.Edit.{Edit}
use Rattle.tree_storage.specs.declared.storage.Edit.TheVariants.{Put, Add, Make, Remove, Rename}
use Rattle.std.specs.Result.{OnOk}
use Rattle.tree_storage.specs.Laws.{IsNewName, LeavesNames, FitsIn, ChangeKeeps}
use Rattle.tree_storage.proofs.Lawful.{err_ok, ok_is, from_map, from_found}
use Rattle.cfb_entries.specs.Whole.{AllWhole, IsTree, AreAbove, AreTrees, IsNamed, IsWhole}
use Rattle.tree_storage.proofs.Entries.{place-child, without-child, find-child}

pub record Parts (d : ℕ) (k n : List ℕ) (s : Seen) (cs : Children) : Type 0 where
  pub named : IsNamed k n
  pub above : AreAbove k cs
  pub inside : IsWhole d s
  pub rest : AreTrees d cs

to : (d : ℕ) (k n : List ℕ) (s : Seen) (cs : Children) → Parts d k n s cs → AreTrees d (child k (n, s) cs)
to d k n (bytes b) cs p = (p.named, p.above, p.rest)
to zero k n (inner t) cs p = p.inside
to (suc d) k n (inner t) cs p = (p.named, p.above, p.inside, p.rest)

pub from : (d : ℕ) (k n : List ℕ) (s : Seen) (cs : Children) → AreTrees d (child k (n, s) cs) → Parts d k n s cs
from d k n (bytes b) cs p = record { named = p.0; above = p.1; inside = tt; rest = p.2 }
from zero k n (inner t) cs p = absurd p
from (suc d) k n (inner t) cs p = record { named = p.0; above = p.1; inside = p.2; rest = p.3 }

above-child : (k q : List ℕ) (c : List ℕ × Seen) (cs : Children) → key_cmp k q ≡ Less → AreAbove k cs
    → AreAbove k (child q c cs)
above-child k q (n, bytes b) cs h a = (h, a)
above-child k q (n, inner t) cs h a = (h, a)

above-trans : (k q : List ℕ) (cs : Children) → key_cmp k q ≡ Less → AreAbove q cs → AreAbove k cs
above-trans k q none h a = tt
above-trans k q (stream r n b cs) h a = (nat_list_cmp_total.trans k q r h a.0, above-trans k q cs h a.1)
above-trans k q (storage r n t cs) h a = (nat_list_cmp_total.trans k q r h a.0, above-trans k q cs h a.1)

above-step : (q k : List ℕ) (c : List ℕ × Seen) (r : List ℕ) (old : List ℕ × Seen) (cs : Children)
    → key_cmp q k ≡ Less → key_cmp q r ≡ Less → AreAbove q cs
    → AreAbove q (place k c cs) → AreAbove q (place k c (child r old cs))
above-step q k c r old cs h g a ih =
    let P : Children → Type 0 = AreAbove q in
    subst P (sym (place-child k c r old cs))
    (elim (key_cmp k r) as (λ o. P (match_ordering o (child k c (child r old cs)) (child r c cs)
    (child r old (place k c cs)))) [
      | Less ↦ above-child q k c (child r old cs) h (above-child q r old cs g a)
      | Equal ↦
          above-child q r c cs g a
      | Greater ↦ above-child q r old (place k c cs) g ih
    ])

above-place : (q k : List ℕ) (c : List ℕ × Seen) (cs : Children) → key_cmp q k ≡ Less → AreAbove q cs
    → AreAbove q (place k c cs)
above-place q k c none h a = above-child q k c none h tt
above-place q k c (stream r n b cs) h a = above-step q k c r (n, bytes b) cs h a.0 a.1 (above-place q k c cs h a.1)
above-place q k c (storage r n t cs) h a = above-step q k c r (n, inner t) cs h a.0 a.1 (above-place q k c cs h a.1)

same_some : {A : Type 0} {x y : A} → Some x ≡ Some y → x ≡ y
same_some h = search rules

equal_keys : (a b : List ℕ) → key_cmp a b ≡ Equal → a ≡ b
equal_keys a b h = slice_cmp-IsAntisymmetric nat_cmp-IsAntisymmetric a b h

named : {n : List ℕ} → IsName n → IsNamed (key n) n
named v = record { under_key = refl; valid = v }

place-step : (d : ℕ) (n : List ℕ) (s : Seen) (q m : List ℕ) (old : Seen) (cs : Children) → IsName n → IsWhole d s
    → AreTrees d (child q (m, old) cs) → AreTrees d (place (key n) (n, s) cs)
    → AreTrees d (place (key n) (n, s) (child q (m, old) cs))
place-step d n s q m old cs v w all ih =
    let P : Children → Type 0 = AreTrees d in
    let p = from d q m old cs all in
    subst P (sym (place-child (key n) (n, s) q (m, old) cs))
    (elim (key_cmp (key n) q) as (λ o. key_cmp (key n) q ≡ o
    → P (match_ordering o (child (key n) (n, s) (child q (m, old) cs)) (child q (n, s) cs)
    (child q (m, old) (place (key n) (n, s) cs)))) [
      | Less ↦ λ h. to d (key n) n s (child q (m, old) cs)
          (record {
            named = named v;
            above = above-child (key n) q (m, old) cs h
                (above-trans (key n) q cs h p.above);
            inside = w;
            rest = all;
          })
      | Equal ↦ λ h. to d q n s cs (record {
        named = record { under_key = sym (equal_keys (key n) q h); valid = v };
        above = p.above;
        inside = w;
        rest = p.rest;
      })
      | Greater ↦ λ h. to d q m old (place (key n) (n, s) cs) (record {
        named = p.named;
        above = above-place q (key n) (n, s) cs (nat_list_cmp_total.antisymm q (key n) ∙ ap ordering_reverse h) p.above;
        inside = p.inside;
        rest = ih;
      })
    ] refl)

pub place-whole : (d : ℕ) (n : List ℕ) (s : Seen) (cs : Children) → IsName n → IsWhole d s → AreTrees d cs
    → AreTrees d (place (key n) (n, s) cs)
place-whole d n s none v w all = to d (key n) n s none (record { named = named v; above = tt; inside = w; rest = tt })
place-whole d n s (stream q m b cs) v w all = place-step d n s q m (bytes b) cs v w all
    (place-whole d n s cs v w (from d q m (bytes b) cs all).rest)
place-whole d n s (storage q m t cs) v w all = place-step d n s q m (inner t) cs v w all
    (place-whole d n s cs v w (from d q m (inner t) cs all).rest)

-- a child that goes
without-above : (q k : List ℕ) (cs : Children) → AreAbove q cs → AreAbove q (without k cs)
without-above q k none a = tt
without-above q k (stream r n b cs) a =
    elim (key_eq k r) as (λ t. AreAbove q (cond t cs (stream r n b (without k cs)))) [
      | true ↦ a.1
      | false ↦
          (a.0, without-above q k cs a.1)
    ]
without-above q k (storage r n t cs) a =
    elim (key_eq k r) as (λ b. AreAbove q (cond b cs (storage r n t (without k cs)))) [
      | true ↦ a.1
      | false ↦
          (a.0, without-above q k cs a.1)
    ]

without-step : (d : ℕ) (k q m : List ℕ) (old : Seen) (cs : Children) → AreTrees d (child q (m, old) cs)
    → AreTrees d (without k cs) → AreTrees d (without k (child q (m, old) cs))
without-step d k q m old cs all ih =
    let P : Children → Type 0 = AreTrees d in
    let p = from d q m old cs all in
    subst P (sym (without-child k q (m, old) cs))
    (elim (key_eq k q) as (λ b. P (cond b cs (child q (m, old) (without k cs)))) [
      | true ↦ p.rest
      | false ↦ to d q m old (without k cs)
          (record { named = p.named; above = without-above q k cs p.above; inside = p.inside; rest = ih })
    ])

without-whole : (d : ℕ) (k : List ℕ) (cs : Children) → AreTrees d cs → AreTrees d (without k cs)
without-whole d k none all = tt
without-whole d k (stream q m b cs) all = without-step d k q m (bytes b) cs all
    (without-whole d k cs (from d q m (bytes b) cs all).rest)
without-whole d k (storage q m t cs) all = without-step d k q m (inner t) cs all
    (without-whole d k cs (from d q m (inner t) cs all).rest)

-- what is found is whole
find-step : (d : ℕ) (k q m : List ℕ) (old : Seen) (cs : Children) (c : List ℕ × Seen)
    → AreTrees d (child q (m, old) cs) → (find k cs ≡ Some c → IsWhole d c.1)
    → find k (child q (m, old) cs) ≡ Some c → IsWhole d c.1
find-step d k q m old cs c all ih h =
    let p = from d q m old cs all in
    let P : List ℕ × Seen → Type 0 = λ x. IsWhole d x.1 in
    elim (key_eq k q) as (λ b. cond b (Some (m, old)) (find k cs) ≡ Some c → IsWhole d c.1) [
      | true ↦
          λ g. subst P (same_some g) p.inside
      | false ↦ ih
    ] (sym (find-child k q (m, old) cs) ∙ h)

pub find-whole : (d : ℕ) (k : List ℕ) (cs : Children) (c : List ℕ × Seen) → AreTrees d cs → find k cs ≡ Some c
    → IsWhole d c.1
find-whole d k none c all h = absurd (search rules)
find-whole d k (stream q m b cs) c all h = find-step d k q m (bytes b) cs c all
    (find-whole d k cs c (from d q m (bytes b) cs all).rest) h
find-whole d k (storage q m t cs) c all h = find-step d k q m (inner t) cs c all
    (find-whole d k cs c (from d q m (inner t) cs all).rest) h

-- a child is found under the key of its name
pub tied : (a b : List ℕ) → key_eq a b ≡ true → a ≡ b
tied a b h = equal_keys a b
    (elim (key_cmp a b) as (λ o. is_eq o ≡ true → o ≡ Equal) [
      | Less ↦ λ g. absurd (search rules)
      | Equal ↦
          λ g. refl
      | Greater ↦ λ g. absurd (search rules)
    ] h)

named-step : (d : ℕ) (k q m : List ℕ) (old : Seen) (cs : Children) (c : List ℕ × Seen)
    → AreTrees d (child q (m, old) cs) → (find k cs ≡ Some c → IsNamed k c.0)
    → find k (child q (m, old) cs) ≡ Some c → IsNamed k c.0
named-step d k q m old cs c all ih h =
    let p = from d q m old cs all in
    let P : List ℕ × Seen → Type 0 = λ x. IsNamed k x.0 in
    elim (key_eq k q) as (λ b. key_eq k q ≡ b → cond b (Some (m, old)) (find k cs) ≡ Some c → IsNamed k c.0) [
      | true ↦ λ e g. subst P (same_some g)
          (record { under_key = tied k q e ∙ p.named.under_key; valid = p.named.valid })
      | false ↦ λ e. ih
    ] refl
    (sym (find-child k q (m, old) cs) ∙ h)

find-named : (d : ℕ) (k : List ℕ) (cs : Children) (c : List ℕ × Seen) → AreTrees d cs → find k cs ≡ Some c
    → IsNamed k c.0
find-named d k none c all h = absurd (search rules)
find-named d k (stream q m b cs) c all h = named-step d k q m (bytes b) cs c all
    (find-named d k cs c (from d q m (bytes b) cs all).rest) h
find-named d k (storage q m t cs) c all h = named-step d k q m (inner t) cs c all
    (find-named d k cs c (from d q m (inner t) cs all).rest) h

-- another thing under the key where something stands, with its name
replace-whole : (d : ℕ) (k : List ℕ) (c : List ℕ × Seen) (s : Seen) (cs : Children) → AreTrees d cs
    → find k cs ≡ Some c → IsWhole d s → AreTrees d (place k (c.0, s) cs)
replace-whole d k c s cs all h w = let P : List ℕ → Type 0 = λ x. AreTrees d (place x (c.0, s) cs) in
    let m = find-named d k cs c all h in
    subst P (sym m.under_key) (place-whole d c.0 s cs m.valid w all)

module _ (d : ℕ) (name : List ℕ) (cs cs' : Children) (all : AreTrees d cs) where
  abbrev P : Children → Type 0
  P x = AreTrees d x

  putting-whole : (new : List ℕ) (o : Option (List ℕ × Seen)) → IsName name → find (key name) cs ≡ o
      → putting name new cs o ≡ Ok cs' → AreTrees d cs'
  putting-whole new None v f h = subst P (ok_is _ _ h) (place-whole d name (bytes new) cs v tt all)
  putting-whole new (Some (n, bytes b)) v f h =
      subst P (ok_is _ _ h) (replace-whole d (key name) (n, bytes b) (bytes new) cs all f tt)
  putting-whole new (Some (n, inner t)) v f h = err_ok WrongKind cs' h

  adding-whole : (new : List ℕ) (o : Option (List ℕ × Seen)) → IsName name → adding name new cs o ≡ Ok cs'
      → AreTrees d cs'
  adding-whole new None v h = subst P (ok_is _ _ h) (place-whole d name (bytes new) cs v tt all)
  adding-whole new (Some c) v h = err_ok Exists cs' h

  making-whole : (class : List ℕ) (state : ℕ) (fits : Bool) (o : Option (List ℕ × Seen)) → IsName name
      → (fits ≡ true → IsWhole d (inner (tree class state none))) → making name class state fits cs o ≡ Ok cs'
      → AreTrees d cs'
  making-whole class state true None v w h = subst P (ok_is _ _ h)
      (place-whole d name (inner (tree class state none)) cs v (w refl) all)
  making-whole class state false None v w h = err_ok TooDeep cs' h
  making-whole class state fits (Some c) v w h = err_ok Exists cs' h

  removing-whole : (o : Option (List ℕ × Seen)) → removing name cs o ≡ Ok cs' → AreTrees d cs'
  removing-whole None h = err_ok NotFound cs' h
  removing-whole (Some c) h = subst P (ok_is _ _ h) (without-whole d (key name) cs all)

  moving-whole : (new : List ℕ) (s : Seen) (o : Option (List ℕ × Seen)) → IsName new → IsWhole d s
      → moving name new cs s o ≡ Ok cs' → AreTrees d cs'
  moving-whole new s None v w h = subst P (ok_is _ _ h)
      (place-whole d new s (without (key name) cs) v w (without-whole d (key name) cs all))
  moving-whole new s (Some c) v w h = err_ok Exists cs' h

  renaming-whole : (new : List ℕ) (o : Option (List ℕ × Seen)) → IsName new → find (key name) cs ≡ o
      → renaming name new cs o ≡ Ok cs' → AreTrees d cs'
  renaming-whole new None v f h = err_ok NotFound cs' h
  renaming-whole new (Some c) v f h =
      let w = find-whole d (key name) cs c all f in
      let Q : List ℕ → Type 0 = λ k. AreTrees d (place k (new, c.1) cs) in
      elim (key_eq (key new) (key name)) as (λ b. key_eq (key new) (key name) ≡ b
      → cond b (Ok (place (key name) (new, c.1) cs)) (moving name new cs c.1 (find (key new) cs)) ≡ Ok cs'
      → AreTrees d cs') [
        | true ↦ λ e g. subst P (ok_is _ _ g)
            (subst Q (tied (key new) (key name) e) (place-whole d new c.1 cs v w all))
        | false ↦
            λ e g. moving-whole new c.1 (find (key new) cs) v w g
      ] refl h

made-whole : (d : ℕ) (class : List ℕ) (state : ℕ) → 1 ≤ d → IsWhole d (inner (tree class state none))
made-whole zero class state h = absurd (omega (arith, h))
made-whole (suc d) class state h = tt

edited-whole : (e : Edit) (d : ℕ) (name : List ℕ) (cs cs' : Children) → AreTrees d cs → IsNewName e name
    → FitsIn e 1 d → edited e name cs ≡ Ok cs' → AreTrees d cs'
edited-whole (Put new) d name cs cs' all v w h = putting-whole d name cs cs' all new (find (key name) cs) v refl h
edited-whole (Add new) d name cs cs' all v w h = adding-whole d name cs cs' all new (find (key name) cs) v h
edited-whole (Make class state fits) d name cs cs' all v w h = making-whole d name cs cs' all class state fits
    (find (key name) cs) v (λ e. made-whole d class state (w e)) h
edited-whole Remove d name cs cs' all v w h = removing-whole d name cs cs' all (find (key name) cs) h
edited-whole (Rename new) d name cs cs' all v w h = renaming-whole d name cs cs' all new (find (key name) cs) v refl h

weaker : (e : Edit) (n d m k : ℕ) → (n ≤ d → m ≤ k) → FitsIn e n d → FitsIn e m k
weaker (Put new) n d m k f w = tt
weaker (Add new) n d m k f w = tt
weaker (Make class state fits) n d m k f w = λ h. f (w h)
weaker Remove n d m k f w = tt
weaker (Rename new) n d m k f w = tt

pub change_keeps : ChangeKeeps
change_keeps e path (bytes b) t d v w all h = err_ok WrongKind t h
change_keeps e [] (inner s) t d v w all h = err_ok WrongKind t h
change_keeps e (n ∷ []) (inner (tree class state cs)) t zero v w all h = absurd all
change_keeps e (n ∷ []) (inner (tree class state cs)) t (suc d) v w all h =
    let m = from_map _ (edited e n cs) t h in
    let P : Seen → Type 0 = λ s. IsWhole (suc d) s in
    subst P m.2 (edited-whole e d n cs m.0 all v
    (weaker e (length (n ∷ []) + 1) (suc d) 1 d (λ l. omega (arith, l)) w) m.1)
change_keeps e (n ∷ x ∷ rest) (inner (tree class state cs)) t zero v w all h = absurd all
change_keeps e (n ∷ x ∷ rest) (inner (tree class state cs)) t (suc d) v w all h =
    let u = from_found _ (find (key n) cs) t h in
    let m = from_map _ (change e (x ∷ rest) u.0.1) t u.2 in
    let P : Seen → Type 0 = λ s. IsWhole (suc d) s in
    let fits : FitsIn e (length (x ∷ rest) + 1) d = weaker e (length (n ∷ x ∷ rest) + 1) (suc d)
    (length (x ∷ rest) + 1) d (λ l. omega (arith, l)) w in
    subst P m.2 (replace-whole d (key n) u.0 m.0 cs all u.1
    (change_keeps e (x ∷ rest) u.0.1 m.0 d v fits (find-whole d (key n) cs u.0 all u.1) m.1))

-- what a call leaves
pub outcome_keeps : (r : Result (Unit {0}) TreeFault) (e : Edit) (path : List (List ℕ)) (t t' : Tree)
    → OnOk r (LeavesNames e path) → FitsIn e (length path) 32 → IsTree 32 t
    → Outcome r (change e path (inner t)) (inner t) (inner t') → IsTree 32 t'
outcome_keeps r e path t t' v w all h =
    let fits : FitsIn e (length path + 1) 33 = weaker e (length path) 32 (length path + 1) 33
    (λ l. omega (arith, l)) w in
    let P : Seen → Type 0 = λ s. IsWhole 33 s in
    elim r as (λ x. OnOk x (LeavesNames e path) → Outcome x (change e path (inner t)) (inner t) (inner t')
    → IsWhole 33 (inner t')) [
      | Ok u ↦ λ n g. change_keeps e path (inner t) (inner t') 33 n fits all g
      | Err f ↦ λ n. elim f as (λ x. Outcome (Err x) (change e path (inner t)) (inner t) (inner t')
          → IsWhole 33 (inner t')) [
            | NotFound ↦ λ g. subst P (sym g.1) all
            | Exists ↦ λ g. subst P (sym g.1) all
            | WrongKind ↦ λ g. subst P (sym g.1) all
            | NoTransaction ↦ λ g. subst P (sym g.1) all
            | TooDeep ↦ λ g. subst P (sym g.1) all
            | NoMemory ↦ λ g. subst P (sym g.1) all
          ]
    ] v h

pub all-push : (ss : List Storage) (s : Storage) → AllWhole (map view ss) → IsTree 32 (view s)
    → AllWhole (map view (ss ++ s ∷ []))
all-push [] s all h = (h, tt)
all-push (x ∷ ss) s all h = (all.0, all-push ss s all.1 h)

pub all-front : (ss ts : List Storage) → AllWhole (map view (ss ++ ts)) → AllWhole (map view ss)
all-front [] ts all = tt
all-front (x ∷ ss) ts all = (all.0, all-front ss ts all.1)

pub all-last : (ss : List Storage) (s : Storage) → AllWhole (map view (ss ++ s ∷ [])) → IsTree 32 (view s)
all-last [] s all = all.0
all-last (x ∷ ss) s all = all-last ss s all.1
