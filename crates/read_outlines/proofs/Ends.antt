-- Names whose last characters differ have keys that differ.
use Rattle.std.proofs.Common.{◌≡◌, ◌<◌, ◌-◌, ◌∙◌, ℕ, suc, List, true, false, ap, arith, get_or, length, map, nat_eq}
use Rattle.std.proofs.Common.{replicate, refl, rules, sym}
use Rattle.std.proofs.lemmas.List.{get_or-map, get_or_append_left, length-map}
use Rattle.std.specs.Char.{to_ascii_uppercase}
use Rattle.cfb_names.specs.Names.{key, key_eq}
use Rattle.tree_storage.proofs.Wholes.{tied}

-- a character of a name in upper case, in its key
in-key : (a : List ℕ) (i : ℕ) → i < length a → get_or (key a) (suc i) 0 ≡ to_ascii_uppercase (get_or a i 0)
in-key a i h =
    get_or_append_left (map to_ascii_uppercase a) (replicate (31 - length a) 0) 0 i
    (omega (arith, length-map a to_ascii_uppercase, h))
    ∙ get_or-map to_ascii_uppercase a i 0 0 h

pub ends-differ : (a b : List ℕ) (i : ℕ) → i < length a → i < length b
    → nat_eq (to_ascii_uppercase (get_or a i 0)) (to_ascii_uppercase (get_or b i 0)) ≡ false
    → key_eq (key a) (key b) ≡ false
ends-differ a b i h g differ = elim (key_eq (key a) (key b)) as (λ x. key_eq (key a) (key b) ≡ x → x ≡ false) [
  | true ↦ λ e.
      let same : to_ascii_uppercase (get_or a i 0) ≡ to_ascii_uppercase (get_or b i 0) =
      sym (in-key a i h) ∙ ap (λ k. get_or k (suc i) 0) (tied (key a) (key b) e) ∙ in-key b i g in
      absurd (search (rules, same, differ))
  | false ↦ λ e. refl
] refl
