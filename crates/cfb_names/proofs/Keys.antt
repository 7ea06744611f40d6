-- Names in their bytes, and their keys.
use Rattle.std.proofs.Common.{◌≡◌, ◌≤◌, ◌-◌, ℕ, zero, suc, List, [], ◌∷◌, ◌++◌, length, map, replicate, nat_cmp, refl}
use Rattle.std.proofs.Common.{sym, ◌∙◌, ap, subst, rules, arith}
use Rattle.std.proofs.lemmas.List.{length-map, map-append, take-append-le, take_all}
use Rattle.std.specs.FinMap.{nat_cmp-IsAntisymmetric}
use Rattle.std.specs.Cmp.{nat_cmp_is}
use Rattle.std.specs.Char.{to_ascii_uppercase}
use Rattle.std.specs.Ordering.{ordering_then}
use Rattle.std.specs.Cmp.Lexicographic.{slice_cmp}
use Rattle.std.specs.declared.cmp.Ordering.{Ordering}
use Rattle.std.specs.declared.cmp.Ordering.TheVariants.{Less, Equal, Greater}
use Rattle.cfb_names.specs.Names.{IsName, key, key_cmp, name_cmp}
use Rattle.cfb_names.specs.View.{units_of, name_held, IsHeld}

-- the name in the bytes that spell it
pub held-units : (name : List ℕ) → name_held (units_of name) ≡ name
held-units name = take-append-le (length name) name (replicate (31 - length name) 0) (omega arith)
    ∙ take_all (length name) name (omega arith)

pub is_held-units : (name : List ℕ) → IsName name → IsHeld (units_of name)
is_held-units name h =
    let e : name ≡ name_held (units_of name) = sym (held-units name) in
    record { name = subst IsName e h; spelled = ap units_of e }

-- the key of the name in some bytes
map-replicate : (f : ℕ → ℕ) (n x : ℕ) → map f (replicate n x) ≡ replicate n (f x)
map-replicate f zero x = refl
map-replicate f (suc n) x = ap (λ xs. f x ∷ xs) (map-replicate f n x)

pub key-units : (name : List ℕ) → length name ≤ 31 → map to_ascii_uppercase (units_of name) ≡ key name
key-units name h =
    let low : to_ascii_uppercase (length name) ≡ length name = search rules in
    cc (
      low,
      map-append to_ascii_uppercase name (replicate (31 - length name) 0),
      map-replicate to_ascii_uppercase
          (31 - length name) 0,
    )

pub key-held : (units : List ℕ) → IsHeld units → map to_ascii_uppercase units ≡ key (name_held units)
key-held units h = ap (map to_ascii_uppercase) h.spelled ∙ key-units (name_held units) h.name.short

-- two lists that differ alone before a common end
pub slice_cmp-same : (xs : List ℕ) → slice_cmp nat_cmp xs xs ≡ Equal
slice_cmp-same [] = refl
slice_cmp-same (x ∷ xs) = let e : Equal ≡ nat_cmp x x = nat_cmp_is x x Equal refl in rw (← e) (slice_cmp-same xs)

slice_cmp-append : (xs ys zs : List ℕ) → length xs ≡ length ys → slice_cmp nat_cmp (xs ++ zs) (ys ++ zs)
    ≡ slice_cmp nat_cmp xs ys
slice_cmp-append [] [] zs h = slice_cmp-same zs
slice_cmp-append [] (y ∷ ys) zs h = absurd (omega arith)
slice_cmp-append (x ∷ xs) [] zs h = absurd (omega arith)
slice_cmp-append (x ∷ xs) (y ∷ ys) zs h = ap (ordering_then (nat_cmp x y)) (slice_cmp-append xs ys zs (omega arith))

pub keys_agree : (a b : List ℕ) → key_cmp (key a) (key b) ≡ name_cmp a b
keys_agree a b =
    let A : List ℕ = map to_ascii_uppercase a in
    let B : List ℕ = map to_ascii_uppercase b in
    let X : Ordering = slice_cmp nat_cmp (A ++ replicate (31 - length a) 0) (B ++ replicate (31 - length b) 0) in
    elim (nat_cmp (length a) (length b)) as (λ o. nat_cmp (length a) (length b) ≡ o
    → ordering_then o X ≡ ordering_then o (slice_cmp nat_cmp A B)) [
      | Less ↦ λ e. refl
      | Equal ↦ λ e.
          let same : length a ≡ length b = nat_cmp-IsAntisymmetric (length a) (length b) e in
          let long : length A ≡ length B = simp length-map same in
          ap (λ n. slice_cmp nat_cmp (A ++ replicate (31 - length a) 0) (B ++ replicate (31 - n) 0)) (sym same)
          ∙ slice_cmp-append A B (replicate (31 - length a) 0) long
      | Greater ↦ λ e. refl
    ] refl
