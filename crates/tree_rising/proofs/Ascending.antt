-- Streams that are made behind all others.
use Rattle.std.proofs.Common.{◌++◌, ◌&&◌, ◌≡◌, ◌-◌, ℕ, List, [], ◌∷◌, T, refl, sym, ◌∙◌, ap, subst, Bool, true, false}
use Rattle.std.proofs.Common.{cond, Some, None, Result, Ok, Err, OnOk, OnErr, length, map, rules}
use Rattle.std.specs.List.{AllByRecursion}
use Rattle.std.specs.List.Sorted.{IsStrictlySortedBy}
use Rattle.std.specs.Map.{keys_of, lookup}
use Rattle.std.specs.Prelude.{slice_get}
use Rattle.std.specs.BTreeMap.{BTreeMap, IsFromIterResult, insert_entry, is_at}
use Rattle.std.specs.FinMap.Entries.{below_all, is_sorted, same_entries}
use Rattle.std.specs.FinMap.Entries as entries
use Rattle.std.specs.Cmp.Lexicographic.{nat_list_cmp_total}
use Rattle.std.specs.Ordering.{eq_by_cmp, is_eq, is_lt, match_ordering, ordering_reverse}
use Rattle.std.specs.declared.cmp.Ordering.{Ordering}
use Rattle.std.specs.declared.cmp.Ordering.TheVariants.{Less, Equal, Greater}
use Rattle.std.proofs.lemmas.Cmp.{eq_by_cmp_equiv}
use Rattle.std.proofs.lemmas.List.{map-append}
use Rattle.std.proofs.lemmas.Map.Keys.{IsDistinct-from_sorted, sorted_head, sorted_tail}
use Rattle.std.proofs.lemmas.Map.Lookups.{exact_bytes}
use Rattle.std.proofs.lemmas.Map.Made.{update_all_none}
use Rattle.cfb_names.specs.Names.{IsName, key, key_cmp}
use Rattle.tree_storage.specs.declared.nodes.Node.{Node}
use Rattle.tree_storage.specs.declared.nodes.Node.TheVariants.{Stream}
use Rattle.tree_storage.specs.Change.{change, inner}
use Rattle.cfb_entries.specs.Tree.{tree}
use Rattle.tree_rising.specs.Below.{AreBelow}
use Rattle.tree_rising.specs.Row.{entries_of, entry_of}
use Rattle.tree_storage.specs.View.{children, view}
use Rattle.cfb_entries.specs.Whole.{IsTree}
use Rattle.tree_storage.specs.declared.storage.Edit.TheVariants.{Add}
use Rattle.tree_storage.proofs.Entries.{Entries, add-new, seen-stream, view-roll}
use Rattle.tree_storage.proofs.Wholes.{change_keeps}

abbrev Row : Type 0
Row = List (List ℕ × List ℕ)

-- a key above the last one is above all
pub above-last : (names : List (List ℕ)) (last k : List ℕ) → IsStrictlySortedBy key_cmp (map key names)
    → slice_get names (length names - 1) ≡ Some last → key_cmp (key last) k ≡ Less
    → AreBelow k (map key names)
above-last [] last k up is h = tt
above-last (s ∷ []) last k up is h =
    let same : s ≡ last = search (rules, is) in
    (ap (λ (x : List ℕ). key_cmp (key x) k) same ∙ h, tt)
above-last (s ∷ next ∷ names) last k up is h =
    let rest : AreBelow k (map key (next ∷ names)) = above-last (next ∷ names) last k
    (sorted_tail key_cmp (key s) (map key (next ∷ names)) up) (search (rules, is)) h in (
      nat_list_cmp_total.trans (key s) (key next) k (sorted_head key_cmp (key s) (map key (next ∷ names)) up).0
          rest.0,
      rest,
    )

-- and where it is above all, it is above the last one
pub last-below : (names : List (List ℕ)) (last k : List ℕ) → slice_get names (length names - 1) ≡ Some last
    → AreBelow k (map key names) → key_cmp (key last) k ≡ Less
last-below [] last k is h = absurd (search (rules, is))
last-below (s ∷ []) last k is h =
    let same : s ≡ last = search (rules, is) in
    ap (λ (x : List ℕ). key_cmp (key x) k) (sym same) ∙ h.0
last-below (s ∷ next ∷ names) last k is h = last-below (next ∷ names) last k (search (rules, is)) h.1

pub lesser : (o : Ordering) → is_lt o ≡ true → o ≡ Less
lesser Less h = refl
lesser Equal h = absurd (search rules)
lesser Greater h = absurd (search rules)

greater : (q k : List ℕ) → key_cmp q k ≡ Less → key_cmp k q ≡ Greater
greater q k h = nat_list_cmp_total.antisymm k q ∙ ap ordering_reverse h

-- it stands there under none
absent : (es : Entries) (k : List ℕ) → AreBelow k (keys_of es) → lookup (is_at (key_cmp k)) es ≡ None
absent [] k h = refl
absent (e ∷ es) k h = ap (λ o. cond (is_eq o) (Some e.1) (lookup (is_at (key_cmp k)) es)) (greater e.0 k h.0)
    ∙ absent es k h.1

-- its entry goes behind them
behind : (es : Entries) (k : List ℕ) (v : List ℕ × Node) → AreBelow k (keys_of es)
    → insert_entry key_cmp es k v ≡ es ++ (k, v) ∷ []
behind [] k v h = refl
behind (e ∷ es) k v h =
    ap (λ o. match_ordering o ((k, v) ∷ e ∷ es) ((e.0, v) ∷ es) (e ∷ insert_entry key_cmp es k v))
    (greater e.0 k h.0) ∙ ap (λ x. e ∷ x) (behind es k v h.1)

all-behind : (P : List ℕ → Type 0) (es : Entries) (k : List ℕ) (v : List ℕ × Node) → AllByRecursion P (keys_of es)
    → P k → AllByRecursion P (keys_of (es ++ (k, v) ∷ []))
all-behind P [] k v all h = (h, tt)
all-behind P (e ∷ es) k v all h = (all.0, all-behind P es k v all.1 h)

-- and all ascend with it
pub ascend : (es : Entries) (k : List ℕ) (v : List ℕ × Node) → IsStrictlySortedBy key_cmp (keys_of es)
    → AreBelow k (keys_of es) → IsStrictlySortedBy key_cmp (keys_of (es ++ (k, v) ∷ []))
unfolding IsStrictlySortedBy
ascend [] k v up h = (tt, tt)
ascend (e ∷ es) k v up h = (all-behind (λ q. key_cmp e.0 q ≡ Less) es k v up.0 h.0, ascend es k v up.1 h.1)

-- a stream is made behind all others
pub made-behind : (class : List ℕ) (state : ℕ) (es : Entries) (name new : List ℕ) → AreBelow (key name) (keys_of es)
    → change (Add new) (name ∷ []) (inner (tree class state (children es)))
    ≡ Ok (inner (tree class state (children (es ++ (key name, (name, Stream new)) ∷ []))))
made-behind class state es name new h =
    add-new name new class state es (es ++ (key name, (name, Stream new)) ∷ []) (Stream new)
    (absent es (key name) h) (seen-stream new) (sym (behind es (key name) (name, Stream new) h))

-- which leaves the tree whole
pub whole-behind : (class : List ℕ) (state : ℕ) (es : Entries) (name new : List ℕ) → IsName name
    → AreBelow (key name) (keys_of es) → IsTree 32 (tree class state (children es))
    → IsTree 32 (tree class state (children (es ++ (key name, (name, Stream new)) ∷ [])))
whole-behind class state es name new valid h whole =
    change_keeps (Add new) (name ∷ []) (inner (tree class state (children es)))
    (inner (tree class state (children (es ++ (key name, (name, Stream new)) ∷ [])))) 33
    valid tt whole (made-behind class state es name new h)

-- what a stream that is pushed behind all others, or refused, leaves
module _ (class : List ℕ) (state : ℕ) (row row' : Row) (name n new : List ℕ) (copied : n ≡ name)
    (h : AreBelow (key name) (keys_of (entries_of row))) where
  longer : row' ≡ row ++ (n, new) ∷ [] → entries_of row' ≡ entries_of row ++ (key name, (name, Stream new)) ∷ []
  longer pushed = ap entries_of pushed ∙ ap (λ (m : List ℕ). entries_of (row ++ (m, new) ∷ [])) copied
      ∙ map-append entry_of row ((name, new) ∷ [])

  either : {A E : Type 0} (P : Entries → Type 0) (r : Result A E) → OnOk r (row' ≡ row ++ (n, new) ∷ [])
      → OnErr r (row' ≡ row) → P (entries_of row) → P (entries_of row ++ (key name, (name, Stream new)) ∷ [])
      → P (entries_of row')
  either P (Ok x) added kept p q = subst P (sym (longer added)) q
  either P (Err e) added kept p q = subst (λ r. P (entries_of r)) (sym kept) p

  pub left-ascending : {A E : Type 0} (r : Result A E) → OnOk r (row' ≡ row ++ (n, new) ∷ []) → OnErr r (row' ≡ row)
      → IsStrictlySortedBy key_cmp (keys_of (entries_of row))
      → IsStrictlySortedBy key_cmp (keys_of (entries_of row'))
  left-ascending r added kept up = either (λ es. IsStrictlySortedBy key_cmp (keys_of es)) r added kept up
      (ascend (entries_of row) (key name) (name, Stream new) up h)

  pub left-whole : {A E : Type 0} (r : Result A E) → OnOk r (row' ≡ row ++ (n, new) ∷ []) → OnErr r (row' ≡ row)
      → IsName name → IsTree 32 (tree class state (children (entries_of row)))
      → IsTree 32 (tree class state (children (entries_of row')))
  left-whole r added kept valid whole =
      either (λ es. IsTree 32 (tree class state (children es))) r added kept whole
      (whole-behind class state (entries_of row) name new valid h whole)

  pub left-made : row' ≡ row ++ (n, new) ∷ []
      → change (Add new) (name ∷ []) (inner (tree class state (children (entries_of row))))
      ≡ Ok (inner (tree class state (children (entries_of row'))))
  left-made pushed = made-behind class state (entries_of row) name new h
      ∙ ap (λ xs. Ok (inner (tree class state (children xs)))) (sym (longer pushed))

-- none of them
pub none-ascending : (row : Row) → row ≡ [] → IsStrictlySortedBy key_cmp (keys_of (entries_of row))
unfolding IsStrictlySortedBy
none-ascending row is = subst (λ r. IsStrictlySortedBy key_cmp (keys_of (entries_of r))) (sym is) tt

pub none-whole : (class : List ℕ) (state : ℕ) (row : Row) → row ≡ []
    → IsTree 32 (tree class state (children (entries_of row)))
none-whole class state row is = subst (λ r. IsTree 32 (tree class state (children (entries_of r)))) (sym is) tt

-- the root whose children they are
pub rolled : (class : List ℕ) (state : ℕ) (m : BTreeMap (List ℕ) (List ℕ × Node)) (es : Entries) → m.entries ≡ es
    → view (record { class = class; state = state; children = m }) ≡ tree class state (children es)
rolled class state m es is = view-roll class state m ∙ ap (λ xs. tree class state (children xs)) is

both : (a b : Bool) → T a → T b → T (a && b)
both true b p q = q
both false b p q = absurd p

less : (o : Ordering) → o ≡ Less → T (is_lt o)
less Less h = tt
less Equal h = absurd (search rules)
less Greater h = absurd (search rules)

rise_below : (k : List ℕ) (es : Entries) → AllByRecursion (λ q. key_cmp k q ≡ Less) (keys_of es)
    → T (below_all key_cmp k es)
rise_below k [] h = tt
rise_below k (e ∷ es) h = both (is_lt (key_cmp k e.0)) (below_all key_cmp k es) (less (key_cmp k e.0) h.0)
    (rise_below k es h.1)

-- keys that ascend, as a test says it
rise : (es : Entries) → IsStrictlySortedBy key_cmp (keys_of es) → T (is_sorted key_cmp es)
unfolding IsStrictlySortedBy
rise [] h = tt
rise (e ∷ es) h = both (below_all key_cmp e.0 es) (is_sorted key_cmp es) (rise_below e.0 es h.0) (rise es h.1)

found : (q : List ℕ) (es : Entries) → entries.find key_cmp q es ≡ lookup (is_at (key_cmp q)) es
found q [] = refl
found q (e ∷ es) = ap (cond (is_at (key_cmp q) e.0) (Some e.1)) (found q es)

-- the map that is made of pairs whose keys ascend has those entries
pub made_sorted : (xs : Entries) (m : BTreeMap (List ℕ) (List ℕ × Node)) → IsFromIterResult key_cmp xs m
    → IsStrictlySortedBy key_cmp (keys_of xs) → m.entries ≡ xs
made_sorted xs m h up =
    same_entries key_cmp nat_list_cmp_total exact_bytes m.entries xs (rise m.entries h.1) (rise xs up)
    (λ q. found q m.entries
    ∙ h.0 q
    ∙ update_all_none (eq_by_cmp_equiv nat_list_cmp_total) (eq_by_cmp key_cmp) (λ x y. refl) xs q
    (IsDistinct-from_sorted key_cmp (keys_of xs) up)
    ∙ sym (found q xs))

pub made_row : (row row' : Row) → row ≡ row' → (m : BTreeMap (List ℕ) (List ℕ × Node))
    → IsFromIterResult key_cmp (entries_of row) m → IsStrictlySortedBy key_cmp (keys_of (entries_of row'))
    → m.entries ≡ entries_of row'
made_row row row' is m h up = subst (λ r. IsStrictlySortedBy key_cmp (keys_of (entries_of r))
    → m.entries ≡ entries_of r) is (made_sorted (entries_of row) m h) up
