-- A name that begins with neither 1 nor 2 is none of the three OLE streams'.
use Rattle.std.proofs.Common.{◌≡◌, ◌||◌, ℕ, false, List, [], ◌∷◌, nat_eq, slice_index, refl, arith}
use Rattle.std.proofs.lemmas.Bool.Decides.{nat_tests}
use Rattle.std.specs.Char.{to_ascii_uppercase}
use Rattle.std.specs.Ordering.{is_eq, nat_cmp, ordering_then}
use Rattle.std.specs.declared.cmp.Ordering.{Ordering}
use Rattle.std.specs.declared.cmp.Ordering.TheVariants.{Less, Equal, Greater}
use Rattle.cfb_names.specs.Names.{name_cmp}
use Rattle.tree_streams.specs.Limits.{OLE, COMP_OBJ, OLE_PRES, is_ole_name}

-- names that differ in their first characters
first_differs : (o p x : Ordering) → is_eq p ≡ false → is_eq (ordering_then o (ordering_then p x)) ≡ false
first_differs Less p x h = refl
first_differs Greater p x h = refl
first_differs Equal Less x h = refl
first_differs Equal Greater x h = refl
first_differs Equal Equal x h = absurd cc

not_one : (c : ℕ) → (nat_eq c 1 || nat_eq c 2) ≡ false → is_eq (nat_cmp (to_ascii_uppercase c) 1) ≡ false
not_one c h = grind (arith, nat_tests)

not_two : (c : ℕ) → (nat_eq c 1 || nat_eq c 2) ≡ false → is_eq (nat_cmp (to_ascii_uppercase c) 2) ≡ false
not_two c h = grind (arith, nat_tests)

pub others_apart : (n : List ℕ) → (nat_eq (slice_index n 0) 1 || nat_eq (slice_index n 0) 2) ≡ false
    → is_ole_name n ≡ false
others_apart [] h = refl
others_apart (c ∷ cs) h =
    let ole : is_eq (name_cmp (c ∷ cs) OLE) ≡ false = first_differs _ _ _ (not_one c h) in
    let comp_obj : is_eq (name_cmp (c ∷ cs) COMP_OBJ) ≡ false = first_differs _ _ _ (not_one c h) in
    let ole_pres : is_eq (name_cmp (c ∷ cs) OLE_PRES) ≡ false = first_differs _ _ _ (not_two c h) in
    rw (ole, comp_obj, ole_pres) refl
