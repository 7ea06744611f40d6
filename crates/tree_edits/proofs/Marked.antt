-- Storages whose marks become others.
use Rattle.std.proofs.Common.{◌≡◌, ◌≤◌, ℕ, zero, suc, Bool, true, false, List, [], ◌∷◌, Option, Some, None, Result, Ok}
use Rattle.std.proofs.Common.{Err, cond, length, refl, sym, ap, subst, ◌∙◌, arith, rules}
use Rattle.std.specs.List.Sorted.{IsStrictlySortedBy}
use Rattle.std.specs.Map.{keys_of, lookup, set_value}
use Rattle.std.specs.BTreeMap.{is_at}
use Rattle.cfb_names.specs.Names.{key, key_cmp, key_eq}
use Rattle.tree_storage.specs.declared.nodes.Node.{Node}
use Rattle.cfb_entries.specs.Tree.{Tree, Children, tree, none, stream, storage}
use Rattle.cfb_entries.specs.Whole.{AreTrees, IsNamed, IsTree, IsWhole}
use Rattle.tree_storage.specs.Change.{Outcome, Seen, bytes, inner, child, find, found, map_ok, on_ok, place}
use Rattle.tree_storage.specs.View.{children, seen}
use Rattle.tree_storage.specs.declared.fault.TreeFault.{TreeFault}
use Rattle.tree_storage.specs.declared.fault.TreeFault.TheVariants.{NotFound, Exists, WrongKind, NoTransaction, TooDeep}
use Rattle.tree_storage.specs.declared.fault.TreeFault.TheVariants.{NoMemory}
use Rattle.tree_storage.proofs.Entries.{Entries, find-child, find-none, find-some, through}
use Rattle.tree_storage.proofs.Lawful.{err_ok, from_found, from_map}
use Rattle.tree_storage.proofs.Wholes.{find-whole, from, place-whole, tied}
use Rattle.tree_edits.specs.declared.change.Mark.{Mark}
use Rattle.tree_edits.specs.declared.change.Mark.TheVariants.{Class, State}
use Rattle.tree_edits.specs.Marks.{marking, with_mark}

-- ---- a call and what it is told
pub below : (r : Result (Unit {0}) TreeFault) (class : List ℕ) (state : ℕ) (mark : Mark) (path : List (List ℕ))
    (name : List ℕ) (rest : List (List ℕ)) (es es' : Entries) (x x' : List ℕ × Node)
    → path ≡ name ∷ rest
    → IsStrictlySortedBy key_cmp (keys_of es) → lookup (is_at (key_cmp (key name))) es ≡ Some x
    → es' ≡ set_value (is_at (key_cmp (key name))) es x' → x'.0 ≡ x.0
    → Outcome r (marking mark rest (seen x.1)) (seen x.1) (seen x'.1)
    → Outcome r (marking mark path (inner (tree class state (children es))))
    (inner (tree class state (children es))) (inner (tree class state (children es')))
below r class state mark path name rest es es' x x' p up known q n h =
    let P : List (List ℕ) → Type 0 = λ ns. Outcome r (marking mark ns (inner (tree class state (children es))))
    (inner (tree class state (children es))) (inner (tree class state (children es'))) in
    let go : Option (List ℕ × Seen) → Result Seen TreeFault =
    λ o. on_ok (λ c. map_ok (λ s. inner (tree class state (place (key name) (c.0, s) (children es))))
    (marking mark rest c.1)) (found o) in
    let Q : Option (List ℕ × Seen) → Type 0 = λ o. Outcome r (go o) (inner (tree class state (children es)))
    (inner (tree class state (children es'))) in
    subst P (sym p) (subst Q (sym (find-some (key name) x es known))
    (through r class state (key name) (marking mark rest (seen x.1)) es es' x x' up known q n h))

pub below-none : (mark : Mark) (path : List (List ℕ)) (name : List ℕ) (rest : List (List ℕ)) (class : List ℕ)
    (state : ℕ) (es : Entries)
    → path ≡ name ∷ rest → lookup (is_at (key_cmp (key name))) es ≡ None
    → marking mark path (inner (tree class state (children es))) ≡ Err NotFound
below-none mark path name rest class state es p h =
    ap (λ ns. marking mark ns (inner (tree class state (children es)))) p
    ∙ ap (λ o. on_ok (λ c. map_ok (λ s. inner (tree class state (place (key name) (c.0, s) (children es))))
    (marking mark rest c.1)) (found o)) (find-none (key name) es h)

-- ---- a whole tree stays whole
same_some : {A : Type 0} {x y : A} → ◌≡◌ {A = Option A} (Some x) (Some y) → x ≡ y
same_some h = cc

named-step : (d : ℕ) (k q m : List ℕ) (old : Seen) (cs : Children) (c : List ℕ × Seen)
    → AreTrees d (child q (m, old) cs) → (find k cs ≡ Some c → IsNamed k c.0)
    → find k (child q (m, old) cs) ≡ Some c → IsNamed k c.0
named-step d k q m old cs c all ih h =
    let p = from d q m old cs all in
    let P : List ℕ × Seen → Type 0 = λ x. IsNamed k x.0 in
    elim (key_eq k q) as (λ b. key_eq k q ≡ b → cond b (Some (m, old)) (find k cs) ≡ Some c → IsNamed k c.0) [
      | true ↦ λ e g. subst P (same_some g)
          (record { under_key = tied k q e ∙ p.named.under_key; valid = p.named.valid })
      | false ↦ λ e. ih
    ] refl
    (sym (find-child k q (m, old) cs) ∙ h)

find-named : (d : ℕ) (k : List ℕ) (cs : Children) (c : List ℕ × Seen) → AreTrees d cs → find k cs ≡ Some c
    → IsNamed k c.0
find-named d k none c all h = absurd (search rules)
find-named d k (stream q m b cs) c all h = named-step d k q m (bytes b) cs c all
    (find-named d k cs c (from d q m (bytes b) cs all).rest) h
find-named d k (storage q m t cs) c all h = named-step d k q m (inner t) cs c all
    (find-named d k cs c (from d q m (inner t) cs all).rest) h

replace-whole : (d : ℕ) (k : List ℕ) (c : List ℕ × Seen) (s : Seen) (cs : Children) → AreTrees d cs
    → find k cs ≡ Some c → IsWhole d s → AreTrees d (place k (c.0, s) cs)
replace-whole d k c s cs all h w = let P : List ℕ → Type 0 = λ x. AreTrees d (place x (c.0, s) cs) in
    let m = find-named d k cs c all h in
    subst P (sym m.under_key) (place-whole d c.0 s cs m.valid w all)

here-whole : (mark : Mark) (d : ℕ) (t : Tree) → IsWhole d (inner t) → IsWhole d (inner (with_mark mark t))
here-whole mark zero t all = all
here-whole (Class class) (suc d) (tree c state cs) all = all
here-whole (State state) (suc d) (tree class s cs) all = all

same_ok : {x y : Seen} → ◌≡◌ {A = Result Seen TreeFault} (Ok x) (Ok y) → x ≡ y
same_ok h = cc

keeps : (mark : Mark) (path : List (List ℕ)) (s t : Seen) (d : ℕ) → IsWhole d s → marking mark path s ≡ Ok t
    → IsWhole d t
keeps mark [] (bytes b) t d all h = err_ok WrongKind t h
keeps mark [] (inner s) t d all h = let P : Seen → Type 0 = IsWhole d in subst P (same_ok h) (here-whole mark d s all)
keeps mark (n ∷ rest) (bytes b) t d all h = err_ok WrongKind t h
keeps mark (n ∷ rest) (inner (tree class state cs)) t zero all h = absurd all
keeps mark (n ∷ rest) (inner (tree class state cs)) t (suc d) all h =
    let u = from_found _ (find (key n) cs) t h in
    let m = from_map _ (marking mark rest u.0.1) t u.2 in
    let P : Seen → Type 0 = λ s. IsWhole (suc d) s in
    subst P m.2 (replace-whole d (key n) u.0 m.0 cs all u.1
    (keeps mark rest u.0.1 m.0 d (find-whole d (key n) cs u.0 all u.1) m.1))

-- what a call leaves
pub outcome_keeps : (r : Result (Unit {0}) TreeFault) (mark : Mark) (path : List (List ℕ)) (t t' : Tree) → IsTree 32 t
    → Outcome r (marking mark path (inner t)) (inner t) (inner t') → IsTree 32 t'
outcome_keeps r mark path t t' w h = at r h where
  P : Seen → Type 0
  P s = IsWhole 33 s

  at : (x : Result (Unit {0}) TreeFault) → Outcome x (marking mark path (inner t)) (inner t) (inner t') → IsTree 32 t'
  at (Ok u) g = keeps mark path (inner t) (inner t') 33 w g
  at (Err NotFound) g = subst P (sym g.1) w
  at (Err Exists) g = subst P (sym g.1) w
  at (Err WrongKind) g = subst P (sym g.1) w
  at (Err NoTransaction) g = subst P (sym g.1) w
  at (Err TooDeep) g = subst P (sym g.1) w
  at (Err NoMemory) g = subst P (sym g.1) w
