-- Entries whose names stand in order, and which may stand in a storage.
use Rattle.std.proofs.Common.{◌≡◌, ◌≢◌, ◌<◌, ◌*◌, ◌⊎◌, inl, inr, ℕ, zero, suc, Bool, true, false, List, [], length}
use Rattle.std.proofs.Common.{get_or, map, refl, sym, ◌∙◌, ap, subst, arith}
use Rattle.std.proofs.lemmas.Cmp.{nat_list_cmp_total}
use Rattle.std.proofs.lemmas.List.{length-map, get_or-map, get_or_default}
use Rattle.std.proofs.lemmas.Map.Keys.{Less-from_sorted}
use Rattle.std.specs.List.{All, Contains}
use Rattle.std.specs.List.Sorted.{IsStrictlySortedBy}
use Rattle.std.specs.Ordering.{ordering_reverse}
use Rattle.std.specs.declared.cmp.Ordering.TheVariants.{Less}
use Rattle.cfb_chains.specs.Chain.{AreDistinct}
use Rattle.cfb_names.specs.Names.{IsName, key_cmp}
use Rattle.cfb_entries.specs.Entries.{AreFree, EntriesValue, IsKindOf, IsNamed, MayRefuseEntry, entry_at, kind}
use Rattle.cfb_names.specs.declared.fault.DirFault.{DirFault}
use Rattle.cfb_faults.specs.Faults.{key_at}
use Rattle.cfb_entries.proofs.Marked.{entry_kept}

true_false : {P : Type 0} (b : Bool) → b ≡ true → b ≡ false → P
true_false b h i = let e : true ≡ false = sym h ∙ i in cc

-- where the root is marked, entries that aren't lie below it
pub below_root : (e : EntriesValue) (ids : List ℕ) → get_or e.used 0 true ≡ true → AreFree e ids → All (λ n. n ≢ 0) ids
below_root e ids root h = λ k d lt z. true_false (get_or e.used 0 true) root
    (subst (λ (n : ℕ). get_or e.used n true ≡ false) z (h.free k d lt).1)

-- ---- names
not_less : (k : List ℕ) → key_cmp k k ≡ Less → ⊥
not_less k h =
    let e : Less ≡ ordering_reverse Less = sym h ∙ nat_list_cmp_total.antisymm k k ∙ ap ordering_reverse h in cc e

places : (i j : ℕ) → (i < j) ⊎ ((j < i) ⊎ (i ≡ j))
places zero zero = inr (inr refl)
places zero (suc j) = inl (omega arith)
places (suc i) zero = inr (inl (omega arith))
places (suc i) (suc j) =
    elim (places i j) [
      | inl lt ↦ inl (omega arith)
      | inr s ↦ elim s [ inl lt ↦ inr (inl (omega arith)) | inr e ↦ inr (inr (ap suc e)) ]
    ]

-- entries at two places in order have other keys
apart_keys : (dir ids : List ℕ) (i j : ℕ) → IsStrictlySortedBy key_cmp (map (key_at dir) ids) → i < j
    → j < length ids → key_at dir (get_or ids i 0) ≡ key_at dir (get_or ids j 0) → ⊥
apart_keys dir ids i j sorted lt l e =
    let ks : List (List ℕ) = map (key_at dir) ids in
    let less : key_cmp (get_or ks i []) (get_or ks j []) ≡ Less =
    Less-from_sorted key_cmp ks i j [] sorted lt (omega (arith, l, length-map ids (key_at dir))) in
    let first : get_or ks i [] ≡ key_at dir (get_or ids i 0) =
    get_or-map (key_at dir) ids i 0 [] (omega (arith, lt, l)) in
    let second : get_or ks j [] ≡ key_at dir (get_or ids j 0) = get_or-map (key_at dir) ids j 0 [] l in
    let same : get_or ks i [] ≡ get_or ks j [] = first ∙ e ∙ sym second in
    not_less (get_or ks j []) (subst (λ (k : List ℕ). key_cmp k (get_or ks j []) ≡ Less) same less)

pub two_keys : (dir ids : List ℕ) (m n : ℕ) → IsStrictlySortedBy key_cmp (map (key_at dir) ids) → Contains ids m
    → Contains ids n → m ≢ n → key_at dir m ≡ key_at dir n → ⊥
two_keys dir ids m n sorted c d ne e =
    let at : get_or ids c.0 0 ≡ m = get_or_default ids c.0 0 m c.1 ∙ c.2 in
    let at' : get_or ids d.0 0 ≡ n = get_or_default ids d.0 0 n d.1 ∙ d.2 in
    let same : key_at dir (get_or ids c.0 0) ≡ key_at dir (get_or ids d.0 0) = ap (key_at dir) at ∙ e
    ∙ sym (ap (key_at dir) at') in
    elim (places c.0 d.0) [
      | inl lt ↦ apart_keys dir ids c.0 d.0 sorted lt d.1 same
      | inr s ↦ elim s [
        | inl lt ↦ apart_keys dir ids d.0 c.0 sorted lt c.1 (sym same)
        | inr is ↦ ne (sym at ∙ ap (λ k. get_or ids k 0) is ∙ at')
      ]
    ]

-- an entry that may stand in a storage
pub record IsReadable (dir : List ℕ) (id : ℕ) : Type 0 where
  pub name : List ℕ
  pub kind_is : (kind (entry_at dir id) ≡ 1) ⊎ (kind (entry_at dir id) ≡ 2)
  pub named : IsNamed (entry_at dir id) name
  pub valid : IsName name

kind_below : (id k : ℕ) → id ≢ 0 → (k ≡ 1) ⊎ (k ≡ 2) → IsKindOf id k
kind_below zero k ne h = absurd (ne refl)
kind_below (suc id) k ne h = h

pub readable_not_refused : (dir : List ℕ) (id : ℕ) (fault : DirFault) → 128 * id < length dir → id ≢ 0
    → IsReadable dir id → MayRefuseEntry dir id fault → ⊥
readable_not_refused dir id fault lt ne h refused =
    entry_kept dir id h.name fault lt (kind_below id (kind (entry_at dir id)) ne h.kind_is) (λ x. h.named) h.valid
    refused

-- sorted entries are distinct
pub sorted_distinct : (dir ids : List ℕ) → IsStrictlySortedBy key_cmp (map (key_at dir) ids) → AreDistinct ids
sorted_distinct dir ids sorted = λ i j d lt l e.
    let at : get_or ids i 0 ≡ get_or ids i d = get_or_default ids i 0 d (omega (arith, lt, l)) in
    let at' : get_or ids j 0 ≡ get_or ids j d = get_or_default ids j 0 d l in
    apart_keys dir ids i j sorted lt l (ap (key_at dir) (at ∙ e ∙ sym at'))
