-- Streams in one of two tables, and what is marked for them.
use Rattle.std.proofs.Common.{◌≡◌, ℕ, Bool, true, false, List, [], ◌∷◌, ◌++◌, refl, sym, subst, if◌then◌else◌}
use Rattle.std.proofs.lemmas.List.{append-nil}
use Rattle.cfb_header.specs.Bytes.{joined}
use Rattle.cfb_chains.specs.Chain.{AreDistinct, IsChainOf, Store}
use Rattle.cfb_chains.specs.Fat.{AreFree, AreSame, FatValue, IsFound, marked, store_of}
use Rattle.cfb_chains.proofs.Chains.{chain_below, chain_of_same, joined_same, same_back}
use Rattle.cfb_chains.proofs.Marks.{Marks, free_when, marks_more}
use Rattle.cfb_file.specs.Denotes.{Used}

-- ---- one stream, whose bytes lie in mini sectors where the test is true
abbrev table_by : Bool → FatValue → FatValue → FatValue
table_by b fat mini = if b then mini else fat

abbrev used_by : Bool → ℕ → List ℕ → Used
used_by b id ns = if b then record { ids = id ∷ []; sectors = []; minis = ns }
    else record { ids = id ∷ []; sectors = ns; minis = [] }

module _ (s t : Store) (fat mini : FatValue) (same : AreSame (store_of fat) s)
    (same_minis : AreSame (store_of mini) t) where
  pub found_chain : (b : Bool) (start size : ℕ) (ns : List ℕ) → IsFound (table_by b fat mini) start size ns
      → IsChainOf (if b then t else s) start size ns
  found_chain true start size ns h = chain_of_same (store_of mini) t same_minis start size ns h.chain
  found_chain false start size ns h = chain_of_same (store_of fat) s same start size ns h.chain

  pub found_bytes : (b : Bool) (start size : ℕ) (ns : List ℕ) → IsFound (table_by b fat mini) start size ns
      → joined (store_of (table_by b fat mini)).piece ns ≡ joined (if b then t else s).piece ns
  found_bytes true start size ns h = joined_same (store_of mini) t same_minis ns
      (chain_below (store_of mini) start size ns h.chain)
  found_bytes false start size ns h = joined_same (store_of fat) s same ns
      (chain_below (store_of fat) start size ns h.chain)

  pub chain_found : (b : Bool) (start size : ℕ) (ns : List ℕ) → IsChainOf (if b then t else s) start size ns
      → AreFree (table_by b fat mini) ns
      → IsFound (table_by b fat mini) start size ns
  chain_found true start size ns h g =
      record { chain = chain_of_same t (store_of mini) (same_back same_minis) start size ns h; free = g }
  chain_found false start size ns h g =
      record { chain = chain_of_same s (store_of fat) (same_back same) start size ns h; free = g }

  pub same_after : (b : Bool) (ns : List ℕ) → AreSame (store_of (if b then fat else marked fat ns)) s
  same_after true ns = same
  same_after false ns = same

  pub same_minis_after : (b : Bool) (ns : List ℕ) → AreSame (store_of (if b then marked mini ns else mini)) t
  same_minis_after true ns = same_minis
  same_minis_after false ns = same_minis

  module _ (xs ys : List ℕ) (m : Marks fat xs) (m' : Marks mini ys) (id : ℕ) where
    pub marks_after : (b : Bool) (ns : List ℕ) → AreFree (table_by b fat mini) ns
        → Marks (if b then fat else marked fat ns) (xs ++ (used_by b id ns).sectors)
    marks_after true ns g = subst (Marks fat) (sym (append-nil xs)) m
    marks_after false ns g = marks_more fat xs ns m g

    pub mini_marks_after : (b : Bool) (ns : List ℕ) → AreFree (table_by b fat mini) ns
        → Marks (if b then marked mini ns else mini) (ys ++ (used_by b id ns).minis)
    mini_marks_after true ns g = marks_more mini ys ns m' g
    mini_marks_after false ns g = subst (Marks mini) (sym (append-nil ys)) m'

    pub free_by : (b : Bool) (start size : ℕ) (ns : List ℕ) → IsChainOf (if b then t else s) start size ns
        → AreDistinct (xs ++ (used_by b id ns).sectors)
        → AreDistinct (ys ++ (used_by b id ns).minis) → AreFree (table_by b fat mini) ns
    free_by true start size ns h d d' =
        free_when mini ys ns m' d' (chain_below (store_of mini) start size ns
        (chain_of_same t (store_of mini) (same_back same_minis) start size ns h))
    free_by false start size ns h d d' =
        free_when fat xs ns m d (chain_below (store_of fat) start size ns
        (chain_of_same s (store_of fat) (same_back same) start size ns h))

pub ids_by : (b : Bool) (id : ℕ) (ns : List ℕ) → (used_by b id ns).ids ≡ id ∷ []
ids_by true id ns = refl
ids_by false id ns = refl
