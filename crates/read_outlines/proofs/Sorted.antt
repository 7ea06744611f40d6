-- The pairs of a storage's children, in the order of their keys.
use Rattle.std.proofs.Common.{◌≡◌, ◌∙◌, ◌++◌, ◌∷◌, ◌&&◌, Bool, true, false, cond, ℕ, zero, suc, List, [], Some, T, ap}
use Rattle.std.proofs.Common.{refl, rules, sym}
use Rattle.std.proofs.lemmas.Cmp.{eq_by_cmp_equiv, nat_list_cmp_total}
use Rattle.std.proofs.lemmas.Map.Keys.{IsDistinct-from_sorted}
use Rattle.std.proofs.lemmas.Map.Lookups.{exact_bytes}
use Rattle.std.proofs.lemmas.Map.Made.{update_all_none}
use Rattle.std.specs.BTreeMap.{BTreeMap, IsFromIterResult, is_at}
use Rattle.std.specs.FinMap.Entries.{below_all, find, is_sorted, same_entries}
use Rattle.std.specs.List.{AllByRecursion}
use Rattle.std.specs.List.Sorted.{IsStrictlySortedBy}
use Rattle.std.specs.Map.{keys_of, lookup}
use Rattle.std.specs.Ordering.{eq_by_cmp, is_lt}
use Rattle.std.specs.declared.cmp.Ordering.{Ordering}
use Rattle.std.specs.declared.cmp.Ordering.TheVariants.{Less, Equal, Greater}
use Rattle.cfb_names.specs.Names.{key_cmp}
use Rattle.tree_storage.specs.Change.{Seen, bytes, inner, child}
use Rattle.cfb_entries.specs.Tree.{Children, none, stream, storage, keys}
use Rattle.tree_storage.specs.View.{children, seen, shown}
use Rattle.cfb_entries.specs.Whole.{AreAbove, AreTrees}
use Rattle.tree_storage.specs.declared.nodes.Node.{Node}
use Rattle.read_outlines.proofs.Followed.{followed}
use Rattle.read_outlines.proofs.Outlines.{followed-front}

both : (a b : Bool) → T a → T b → T (a && b)
both true b p q = q
both false b p q = absurd p

less : (o : Ordering) → o ≡ Less → T (is_lt o)
less Less h = tt
less Equal h = absurd (search rules)
less Greater h = absurd (search rules)

rise_below : {X : Type 0} (k : List ℕ) (es : List (List ℕ × X))
    → AllByRecursion (λ q. key_cmp k q ≡ Less) (keys_of es) → T (below_all key_cmp k es)
rise_below k [] h = tt
rise_below k (e ∷ es) h = both (is_lt (key_cmp k e.0)) (below_all key_cmp k es) (less (key_cmp k e.0) h.0)
    (rise_below k es h.1)

-- keys that rise, as a test says it
rise : {X : Type 0} (es : List (List ℕ × X)) → IsStrictlySortedBy key_cmp (keys_of es) → T (is_sorted key_cmp es)
unfolding IsStrictlySortedBy
rise [] h = tt
rise (e ∷ es) h = both (below_all key_cmp e.0 es) (is_sorted key_cmp es) (rise_below e.0 es h.0) (rise es h.1)

found : {X : Type 0} (q : List ℕ) (es : List (List ℕ × X)) → find key_cmp q es ≡ lookup (is_at (key_cmp q)) es
found q [] = refl
found q (e ∷ es) = ap (cond (is_at (key_cmp q) e.0) (Some e.1)) (found q es)

-- the map that is made of pairs whose keys ascend has those entries
pub made_sorted : {X : Type 0} (xs : List (List ℕ × X)) (m : BTreeMap (List ℕ) X) → IsFromIterResult key_cmp xs m
    → IsStrictlySortedBy key_cmp (keys_of xs) → m.entries ≡ xs
made_sorted xs m h up =
    same_entries key_cmp nat_list_cmp_total exact_bytes m.entries xs (rise m.entries h.1) (rise xs up)
    (λ q. found q m.entries
    ∙ h.0 q
    ∙ update_all_none (eq_by_cmp_equiv nat_list_cmp_total) (eq_by_cmp key_cmp) (λ x y. refl) xs q
    (IsDistinct-from_sorted key_cmp (keys_of xs) up)
    ∙ sym (found q xs))

above_all : (k : List ℕ) (cs : Children) → AreAbove k cs → AllByRecursion (λ q. key_cmp k q ≡ Less) (keys cs)
above_all k none h = tt
above_all k (stream q n b cs) h = (h.0, above_all k cs h.1)
above_all k (storage q n t cs) h = (h.0, above_all k cs h.1)

-- the keys that the children of a tree stand under ascend

pub trees_sorted : (depth : ℕ) (cs : Children) → AreTrees depth cs → IsStrictlySortedBy key_cmp (keys cs)
unfolding IsStrictlySortedBy
trees_sorted depth none h = tt
trees_sorted depth (stream k n b cs) h = (above_all k cs h.1, trees_sorted depth cs h.2)
trees_sorted zero (storage k n t cs) h = absurd h
trees_sorted (suc depth) (storage k n t cs) h = (above_all k cs h.1, trees_sorted (suc depth) cs h.3)

keys-front : (k : List ℕ) (c : List ℕ × Seen) (cs : Children) → keys (child k c cs) ≡ k ∷ keys cs
keys-front k (n, bytes b) cs = refl
keys-front k (n, inner t) cs = refl

pub keys-children : (es : List (List ℕ × (List ℕ × Node))) → keys (children es) ≡ keys_of es
keys-children [] = refl
keys-children (e ∷ es) = keys-front e.0 (shown e.1) (children es) ∙ ap (λ ks. e.0 ∷ ks) (keys-children es)

-- one more pair is one more child, behind the others
pub children-push : (es : List (List ℕ × (List ℕ × Node))) (k n : List ℕ) (x : Node) (ds : Children)
    → followed (children (es ++ (k, (n, x)) ∷ [])) ds ≡ followed (children es) (child k (n, seen x) ds)
children-push [] k n x ds = followed-front k (n, seen x) none ds
children-push (e ∷ es) k n x ds =
    followed-front e.0 (shown e.1) (children (es ++ (k, (n, x)) ∷ [])) ds
    ∙ ap (child e.0 (shown e.1)) (children-push es k n x ds)
    ∙ sym (followed-front e.0 (shown e.1) (children es) (child k (n, seen x) ds))
