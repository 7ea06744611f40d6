-- What stands at paths, found among the parts of an outline.
use Rattle.std.proofs.Common.{◌≡◌, ◌<◌, ◌+◌, ◌++◌, ◌∙◌, ◌∷◌, [], ℕ, zero, suc, List, Result, Ok, Err, Some, None, ap}
use Rattle.std.proofs.Common.{arith, get_or, length, refl, subst, sym, take}
use Rattle.std.proofs.lemmas.List.{take_more}
use Rattle.std.specs.List.{AllByRecursion}
use Rattle.std.specs.Prelude.{IsOk, slice_get}
use Rattle.cfb_names.specs.Names.{key}
use Rattle.tree_storage.specs.Change.{Seen, inner, find, found, look, on_ok}
use Rattle.cfb_entries.specs.Tree.{Children, Tree, tree}
use Rattle.tree_storage.specs.declared.fault.TreeFault.{TreeFault}
use Rattle.tree_storage.specs.declared.fault.TreeFault.TheVariants.{NotFound}
use Rattle.folder_commands.specs.Chosen.{AllStand, standing}

-- ---- at the name that a path begins with
at_first : (path : List (List ℕ)) (name : List ℕ) (rest : List (List ℕ)) (t : Tree) (class : List ℕ) (state : ℕ)
    (cs : Children)
    → path ≡ name ∷ rest → t ≡ tree class state cs → look path (inner t)
    ≡ on_ok (λ c. look rest c.1) (found (find (key name) cs))
at_first path name rest t class state cs p q = ap (λ ns. look ns (inner t)) p ∙ ap (λ u. look (name ∷ rest) (inner u)) q

pub stands_below : (path : List (List ℕ)) (name : List ℕ) (rest : List (List ℕ)) (t : Tree) (class : List ℕ)
    (state : ℕ) (cs : Children) (n : List ℕ) (s : Seen)
    → path ≡ name ∷ rest → t ≡ tree class state cs → find (key name) cs ≡ Some (n, s)
    → standing (look rest s) ≡ standing (look path (inner t))
stands_below path name rest t class state cs n s p q h =
    ap standing (ap (λ o. on_ok (λ c. look rest c.1) (found o)) (sym h)
    ∙ sym (at_first path name rest t class state cs p q))

pub stands_none : (path : List (List ℕ)) (name : List ℕ) (rest : List (List ℕ)) (t : Tree) (class : List ℕ)
    (state : ℕ) (cs : Children)
    → path ≡ name ∷ rest → t ≡ tree class state cs → find (key name) cs ≡ None
    → standing (Err NotFound) ≡ standing (look path (inner t))
stands_none path name rest t class state cs p q h =
    ap standing (ap (λ o. on_ok (λ c. look rest c.1) (found o)) (sym h)
    ∙ sym (at_first path name rest t class state cs p q))

-- ---- what is told of it
pub is_there : (told : Result (Unit {0}) TreeFault) (r : Result Seen TreeFault) (u : Unit {0}) → told ≡ Ok u
    → told ≡ standing r → IsOk r
is_there told (Ok s) u is same = refl
is_there told (Err e) u is same = absurd (apart e u (sym same ∙ is))
  where
    apart : (e : TreeFault) (u : Unit {0}) → ◌≡◌ {A = Result (Unit {0}) TreeFault} (Err e) (Ok u) → ⊥
    apart e u p = cc

pub is_missing : (told : Result (Unit {0}) TreeFault) (r : Result Seen TreeFault) (fault : TreeFault)
    → told ≡ Err fault → told ≡ standing r → r ≡ Err fault
is_missing told (Ok s) fault is same = absurd (apart fault (sym same ∙ is))
  where
    apart : (e : TreeFault) → ◌≡◌ {A = Result (Unit {0}) TreeFault} (Ok tt) (Err e) → ⊥
    apart e p = cc
is_missing told (Err e) fault is same = ap (λ (x : TreeFault). Err x) (one e fault (sym same ∙ is))
  where
    one : (e f : TreeFault) → ◌≡◌ {A = Result (Unit {0}) TreeFault} (Err e) (Err f) → e ≡ f
    one e f p = cc

-- ---- paths that are looked for one after another
all_last : (P : List (List ℕ) → Type 0) (paths : List (List (List ℕ))) (path : List (List ℕ))
    → AllByRecursion P paths → P path → AllByRecursion P (paths ++ path ∷ [])
all_last P [] path all one = (one, tt)
all_last P (p ∷ ps) path all one = (all.0, all_last P ps path all.1 one)

pub stand_next : (t : Tree) (paths : List (List (List ℕ))) (k : ℕ) (path : List (List ℕ)) → k < length paths
    → get_or paths k path ≡ path
    → IsOk (look path (inner t)) → AllStand (take k paths) t → AllStand (take (k + 1) paths) t
stand_next t paths k path less here stands all =
    subst (λ ps. AllStand ps t) (sym (take_more paths k path less ∙ ap (λ x. take k paths ++ x ∷ []) here))
    (all_last (λ p. IsOk (look p (inner t))) (take k paths) path all stands)

-- what stands at a place of a list
pub at_place : (paths : List (List (List ℕ))) (n : ℕ) (path : List (List ℕ)) → n < length paths
    → get_or paths n path ≡ path → slice_get paths n ≡ Some path
at_place [] n path less here = absurd (omega (arith, less))
at_place (p ∷ ps) zero path less here = ap (λ (x : List (List ℕ)). Some x) here
at_place (p ∷ ps) (suc n) path less here = at_place ps n path (omega (arith, less)) here
