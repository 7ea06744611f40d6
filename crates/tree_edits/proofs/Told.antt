-- What a tree's call refuses, told as a line's fault.
use Rattle.std.proofs.Common.{◌≡◌, ◌∙◌, ℕ, List, [], Result, Ok, Err, refl, sym, ap, subst, rules}
use Rattle.std.specs.Prelude.{IsOk}
use Rattle.tree_storage.specs.Change.{Outcome, Seen, change, inner, map_ok}
use Rattle.tree_storage.specs.Kept.{Kept, put, tree_of}
use Rattle.tree_storage.specs.declared.storage.Edit.TheVariants.{Put}
use Rattle.tree_storage.specs.declared.fault.TreeFault.{TreeFault}
use Rattle.tree_storage.specs.declared.fault.TreeFault.TheVariants.{NotFound, Exists, WrongKind, NoTransaction, TooDeep}
use Rattle.tree_storage.specs.declared.fault.TreeFault.TheVariants.{NoMemory}
use Rattle.tree_descriptions.specs.Outline.{outlined}
use Rattle.tree_descriptions.specs.Description.{Refuses, of_tree}
use Rattle.tree_descriptions.specs.Faults.{of_tree_fault}
use Rattle.tree_descriptions.proofs.Outlines.{put-outlined}

ok-of-tree : (told : Result Kept TreeFault) → IsOk told → IsOk (of_tree told)
ok-of-tree (Ok k) is = refl
ok-of-tree (Err fault) is = absurd (no_ok fault is) where
  no_ok : (fault : TreeFault) → IsOk {T = Kept} (Err fault) → ⊥
  no_ok fault is = search rules

pub refused : (told : Result Kept TreeFault) (old new : Kept) (fault : TreeFault)
    → Outcome {A = Kept} (Err fault) told old new → Refuses (of_tree told) (of_tree_fault fault)
refused told old new NotFound is = ap of_tree is.0
refused told old new Exists is = ap of_tree is.0
refused told old new WrongKind is = ap of_tree is.0
refused told old new NoTransaction is = ap of_tree is.0
refused told old new TooDeep is = ap of_tree is.0
refused told old new NoMemory is = ok-of-tree told is.0

-- ---- a stream is put, or refused, whatever its bytes are
alike : (path : List (List ℕ)) (new : List ℕ) (s : Seen) → map_ok outlined (change (Put []) path s)
    ≡ map_ok outlined (change (Put new) path s)
alike path new s = sym (put-outlined [] path s) ∙ put-outlined new path s

fault_told : {A : Type 0} {e f : TreeFault} → ◌≡◌ {A = Result A TreeFault} (Err e) (Err f) → e ≡ f
fault_told h = cc

ok_err : {A : Type 0} {x : A} {e : TreeFault} → ◌≡◌ {A = Result A TreeFault} (Ok x) (Err e) → ⊥
ok_err h = search rules

module _ (f : Seen → Kept) where
  moved : (a b : Result Seen TreeFault) (fault : TreeFault) → map_ok outlined a ≡ map_ok outlined b
      → map_ok f a ≡ Err fault → map_ok f b ≡ Err fault
  moved (Ok s) b fault same is = absurd (ok_err is)
  moved (Err e) (Ok t) fault same is = absurd (ok_err (sym same))
  moved (Err e) (Err g) fault same is = ap Err (sym (fault_told same) ∙ fault_told is)

  made : (a b : Result Seen TreeFault) → map_ok outlined a ≡ map_ok outlined b → IsOk (map_ok f a) → IsOk (map_ok f b)
  made (Ok s) (Ok t) same is = refl
  made (Ok s) (Err e) same is = absurd (ok_err same)
  made (Err e) b same is = absurd (none e is) where
    none : (e : TreeFault) → IsOk {T = Kept} (Err e) → ⊥
    none e is = search rules

abbrev after : Kept → Seen → Kept
after k s = record { now = tree_of s k.now; saved = k.saved }

pub put_made : (path : List (List ℕ)) (new : List ℕ) (k old : Kept) → put path [] k ≡ Ok old
    → IsOk (of_tree (put path new k))
put_made path new k old is =
    ok-of-tree (put path new k) (made (after k) (change (Put []) path (inner k.now))
    (change (Put new) path (inner k.now)) (alike path new (inner k.now)) (ok_is (put path [] k) old is))
  where
    ok_is : (r : Result Kept TreeFault) (x : Kept) → r ≡ Ok x → IsOk r
    ok_is r x is = let P : Result Kept TreeFault → Type 0 = IsOk in subst P (sym is) refl

pub put_refused : (path : List (List ℕ)) (new : List ℕ) (k next : Kept) (fault : TreeFault)
    → Outcome {A = Kept} (Err fault) (put path [] k) k next
    → Refuses (of_tree (put path new k)) (of_tree_fault fault)
put_refused path new k next fault is = at fault is
  where
    all : (e : TreeFault) → put path [] k ≡ Err e → put path new k ≡ Err e
    all e told = moved (after k) (change (Put []) path (inner k.now)) (change (Put new) path (inner k.now)) e
        (alike path new (inner k.now)) told

    at : (fault : TreeFault) → Outcome {A = Kept} (Err fault) (put path [] k) k next
        → Refuses (of_tree (put path new k)) (of_tree_fault fault)
    at NotFound is = ap of_tree (all NotFound is.0)
    at Exists is = ap of_tree (all Exists is.0)
    at WrongKind is = ap of_tree (all WrongKind is.0)
    at NoTransaction is = ap of_tree (all NoTransaction is.0)
    at TooDeep is = ap of_tree (all TooDeep is.0)
    at NoMemory is = ok-of-tree (put path new k)
        (made (after k) (change (Put []) path (inner k.now)) (change (Put new) path (inner k.now))
        (alike path new (inner k.now)) is.0)
