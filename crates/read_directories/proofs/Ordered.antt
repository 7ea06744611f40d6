-- Entries in the order of their names: as they come, and as sorting left them.
use Rattle.std.proofs.Common.{◌≡◌, ◌↔◌, ◌<◌, ◌+◌, ◌-◌, ◌++◌, ℕ, true, inl, inr, List, length, get_or, map, take, refl}
use Rattle.std.proofs.Common.{sym, ◌∙◌, ap, subst, arith}
use Rattle.std.proofs.lemmas.Bool.{cases_lt}
use Rattle.std.proofs.lemmas.List.{get_or_default, length-map, take-append-le, take_all}
use Rattle.std.specs.List.{Contains}
use Rattle.std.specs.List.Sorted.{IsPermutation, IsStrictlySortedBy}
use Rattle.std.specs.Ordering.{is_lt}
use Rattle.std.specs.declared.cmp.Ordering.{Ordering}
use Rattle.std.specs.declared.cmp.Ordering.TheVariants.{Less, Equal, Greater}
use Rattle.cfb_names.specs.Names.{key_cmp}
use Rattle.cfb_faults.specs.Faults.{key_at}
use Rattle.read_directories.specs.Sorting.{keyed, places}
use Rattle.read_directories.proofs.SortedNames.{as_many, same_entries, sorted}

-- the keys of the first entries, so many, rise from each to the next
pub record DoRise (dir ids : List ℕ) (count : ℕ) : Type 0 where
  pub rise : (j d : ℕ) → j + 1 < count → key_cmp (key_at dir (get_or ids j d)) (key_at dir (get_or ids (j + 1) d))
      ≡ Less

less : (o : Ordering) → is_lt o ≡ true → o ≡ Less
less Less h = refl
less Equal h = absurd (cc h)
less Greater h = absurd (cc h)

pub one_more_rises : (dir ids last next : List ℕ) (k : ℕ) → 1 < k + 1 → k < length ids
    → last ≡ key_at dir (get_or ids (k - 1) 0) → next ≡ key_at dir (get_or ids k 0)
    → is_lt (key_cmp last next) ≡ true → DoRise dir ids k → DoRise dir ids (k + 1)
one_more_rises dir ids last next k some lt at_last at_next up h = record {
  rise = λ j d below.
      elim (cases_lt (j + 1) k) [
        | inl before ↦ h.rise j d before
        | inr at ↦
            let m : k - 1 ≡ j = omega arith in
            let n : k ≡ j + 1 = omega arith in
            let a : last ≡ key_at dir (get_or ids j d) = at_last ∙ ap (λ x. key_at dir (get_or ids x 0)) m
            ∙ ap (key_at dir) (get_or_default ids j 0 d (omega arith)) in
            let b : next ≡ key_at dir (get_or ids (j + 1) d) = at_next ∙ ap (λ x. key_at dir (get_or ids x 0)) n
            ∙ ap (key_at dir) (get_or_default ids (j + 1) 0 d (omega arith)) in
            subst (λ (x : List ℕ). key_cmp x (key_at dir (get_or ids (j + 1) d)) ≡ Less) a
            (subst (λ (x : List ℕ). key_cmp last x ≡ Less) b (less (key_cmp last next) up))
      ];
}

pub all_rise : (dir ids : List ℕ) → DoRise dir ids (length ids) → IsStrictlySortedBy key_cmp (map (key_at dir) ids)
all_rise dir ids h = sorted (key_at dir) ids (λ n d lt. h.rise n d lt)

-- a list of as many numbers in the place of others at the front of a vector is what the vector holds
written : (new rest : List ℕ) (n : ℕ) → length new ≡ n → take n (new ++ rest) ≡ new
written new rest n h = take-append-le n new rest (omega (arith, h)) ∙ take_all n new (omega (arith, h))

-- the entries of a storage in the order of their names
pub record AreSorted (dir ids v : List ℕ) : Type 0 where
  pub ordered : IsStrictlySortedBy key_cmp (map (key_at dir) v)
  pub same : (n : ℕ) → Contains ids n ↔ Contains v n

pub by_sorting : (dir ids : List ℕ) (list : List (List ℕ × ℕ)) (v rest : List ℕ) (n : ℕ) → n ≡ length ids
    → IsPermutation (keyed dir ids) list
    → IsStrictlySortedBy key_cmp (map (key_at dir) (places list)) → v ≡ places list
    → AreSorted dir ids (take n (v ++ rest))
by_sorting dir ids list v rest n few permuted ordered is =
    let long : length v ≡ n = ap length is ∙ length-map list (λ e. e.1) ∙ sym (as_many dir ids list permuted)
    ∙ sym few in
    subst (AreSorted dir ids) (sym (written v rest n long ∙ is))
    (record { ordered = ordered; same = same_entries dir ids list permuted })
