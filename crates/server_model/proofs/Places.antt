-- Items found by a test, and lists that are seen through a function.
use Rattle.std.proofs.Common.{◌≡◌, ℕ, ◌+◌, ◌<◌, Bool, List, map, zero, suc, [], ◌∷◌, ◌++◌, length, get_or, take, drop}
use Rattle.std.proofs.Common.{refl, ap, sym, subst, ◌∙◌, append_assoc, Some, true, false}
use Rattle.std.proofs.lemmas.List.{drop_more, take_more, set_split}
use Rattle.std.proofs.lemmas.Option.{slice_get-get_or}
use Rattle.std.proofs.Math.ListN.{set}
use Rattle.std.proofs.Math.Numerals.{add-one}
use Rattle.message_values.specs.Found.{find, put, IsPlace}

-- no item before i passes
pub record IsPast {A : Type 0} (test : A → Bool) (xs : List A) (i : ℕ) : Type 0 where
  pub found : find test xs ≡ find test (drop i xs)
  pub puts : (a : A) → put test a xs ≡ take i xs ++ put test a (drop i xs)

past_more : {A : Type 0} (test : A → Bool) (xs : List A) (i : ℕ) (x : A) → IsPast test xs i → i < length xs
    → x ≡ get_or xs i x → test x ≡ false → IsPast test xs (i + 1)
past_more test xs i x p lt e t =
    let split : drop i xs ≡ x ∷ drop (i + 1) xs = drop_more xs i x lt ∙ ap (λ y. y ∷ drop (i + 1) xs) (sym e) in
    let tk : take (i + 1) xs ≡ take i xs ++ x ∷ [] = take_more xs i x lt ∙ ap (λ y. take i xs ++ y ∷ []) (sym e) in
    record {
      found = p.found ∙ (ap (find test) split ∙ rw t refl);
      puts = λ a. p.puts a ∙ (ap (λ ys. take i xs ++ put test a ys) split
          ∙ (rw t (rw tk (sym (append_assoc (take i xs) (x ∷ []) (put test a (drop (i + 1) xs)))))));
    }

past_here : {A : Type 0} (test : A → Bool) (xs : List A) (i : ℕ) (x : A) → IsPast test xs i → i < length xs
    → x ≡ get_or xs i x → test x ≡ true → IsPlace test xs i
past_here test xs i x p lt e t =
    let split : drop i xs ≡ x ∷ drop (i + 1) xs = drop_more xs i x lt ∙ ap (λ y. y ∷ drop (i + 1) xs) (sym e) in
    record {
      fits = lt;
      found = p.found ∙ (ap (find test) split ∙ (rw t (ap Some e ∙ sym (slice_get-get_or xs i x lt))));
      puts = λ a. p.puts a ∙ (ap (λ ys. take i xs ++ put test a ys) split
          ∙ (rw t (sym (rw add-one (set_split xs i a lt)))));
    }

length_seen : {A B : Type 0} (f : A → B) (xs : List A) → length (map f xs) ≡ length xs
length_seen f [] = refl
length_seen f (x ∷ xs) = ap suc (length_seen f xs)

-- the item at i, seen
get_seen : {A B : Type 0} (f : A → B) (xs : List A) (i : ℕ) (x : A) → x ≡ get_or xs i x
    → f x ≡ get_or (map f xs) i (f x)
get_seen f [] i x e = refl
get_seen f (y ∷ ys) zero x e = ap f e
get_seen f (y ∷ ys) (suc i) x e = get_seen f ys i x e

pub seen_more : {A B : Type 0} (test : B → Bool) (f : A → B) (xs : List A) (i : ℕ) (x : A)
    → IsPast test (map f xs) i → i < length xs → x ≡ get_or xs i x → test (f x) ≡ false
    → IsPast test (map f xs) (i + 1)
seen_more test f xs i x p lt e t = past_more test (map f xs) i (f x) p (rw (length_seen f xs) lt)
    (get_seen f xs i x e) t

pub seen_here : {A B : Type 0} (test : B → Bool) (f : A → B) (xs ys : List A) (i : ℕ) (x : A) → xs ≡ ys
    → IsPast test (map f xs) i → i < length xs → x ≡ get_or xs i x → test (f x) ≡ true → IsPlace test (map f ys) i
seen_here test f xs ys i x same p lt e t = subst (λ zs. IsPlace test (map f zs) i) same
    (past_here test (map f xs) i (f x) p (rw (length_seen f xs) lt) (get_seen f xs i x e) t)

-- what is found, where the item at i is known
pub seen_at : {A B : Type 0} (test : B → Bool) (f : A → B) (xs : List A) (i : ℕ) (x : A) → IsPlace test (map f xs) i
    → x ≡ get_or xs i x → find test (map f xs) ≡ Some (f x)
seen_at test f xs i x p e = p.found ∙ (slice_get-get_or (map f xs) i (f x) p.fits ∙ ap Some (sym (get_seen f xs i x e)))

seen_set : {A B : Type 0} (f : A → B) (xs : List A) (i : ℕ) (y : A) → map f (set xs i y) ≡ set (map f xs) i (f y)
seen_set f [] i y = refl
seen_set f (x ∷ xs) zero y = refl
seen_set f (x ∷ xs) (suc i) y = ap (λ zs. f x ∷ zs) (seen_set f xs i y)

-- an item takes another's place that is seen alike
pub seen_same : {A B : Type 0} (f : A → B) (xs : List A) (i : ℕ) (x y : A) → x ≡ get_or xs i x → f y ≡ f x
    → map f (set xs i y) ≡ map f xs
seen_same f [] i x y e h = refl
seen_same f (z ∷ zs) zero x y e h = ap (λ v. v ∷ map f zs) (h ∙ ap f e)
seen_same f (z ∷ zs) (suc i) x y e h = ap (λ vs. f z ∷ vs) (seen_same f zs i x y e h)

pub seen_put : {A B : Type 0} (test : B → Bool) (f : A → B) (xs : List A) (i : ℕ) (y : A)
    → IsPlace test (map f xs) i → put test (f y) (map f xs) ≡ map f (set xs i y)
seen_put test f xs i y p = p.puts (f y) ∙ sym (seen_set f xs i y)

pub seen_push : {A B : Type 0} (f : A → B) (xs : List A) (y : A) → map f (xs ++ y ∷ []) ≡ map f xs ++ f y ∷ []
seen_push f [] y = refl
seen_push f (x ∷ xs) y = ap (λ zs. f x ∷ zs) (seen_push f xs y)
