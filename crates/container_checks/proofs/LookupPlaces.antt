use Rattle.std.specs.List.{range_with_len}
use Rattle.std.proofs.Common.{◌≡◌, ℕ, ◌+◌, ◌-◌, ◌<◌, ◌≤◌, Bool, List, map, zero, suc, [], ◌∷◌, ◌++◌, length, get_or}
use Rattle.std.proofs.Common.{take, drop, if◌then◌else◌, slice_get, IfSome, remove, ◌==◌, Option, refl, ap, sym, ◌∙◌}
use Rattle.std.proofs.Common.{append_assoc, Some, None, true, false, arith}
use Rattle.std.proofs.lemmas.List.{drop_more, take_more, set_split}
use Rattle.std.proofs.lemmas.Option.{slice_get-get_or}
use Rattle.std.proofs.Math.ListN.{drop_of_length-le, set}
use Rattle.std.proofs.Math.Numerals.{add-one}
use Rattle.message_values.specs.Found.{find, put, IsPlace}
use Rattle.container_model.specs.Numbered.{IsObjectAt, IsPast}
use Rattle.container_model.specs.Record.{is_object, without_first}
use Rattle.container_model.specs.declared.record.Object.{Object}

pub past_none : {A : Type 0} (test : A → Bool) (xs : List A) → IsPast test xs 0
past_none test xs = record { found = refl; puts = λ a. refl; without = refl }

pub past_more : {A : Type 0} (test : A → Bool) (xs : List A) (i : ℕ) (x : A) → IsPast test xs i → i < length xs
    → x ≡ get_or xs i x → test x ≡ false → IsPast test xs (i + 1)
past_more test xs i x p lt e t =
    let split : drop i xs ≡ x ∷ drop (i + 1) xs = drop_more xs i x lt ∙ ap (λ y. y ∷ drop (i + 1) xs) (sym e) in
    let tk : take (i + 1) xs ≡ take i xs ++ x ∷ [] = take_more xs i x lt ∙ ap (λ y. take i xs ++ y ∷ []) (sym e) in
    record {
      found = p.found ∙ (ap (find test) split ∙ rw t refl);
      puts = λ a. p.puts a ∙ (ap (λ ys. take i xs ++ put test a ys) split
          ∙ (rw t (rw tk (sym (append_assoc (take i xs) (x ∷ []) (put test a (drop (i + 1) xs)))))));
      without = p.without ∙ (ap (λ ys. take i xs ++ without_first test ys) split
          ∙ (rw t (rw tk (sym (append_assoc (take i xs) (x ∷ []) (without_first test (drop (i + 1) xs)))))));
    }

pub past_here : {A : Type 0} (test : A → Bool) (xs : List A) (i : ℕ) (x : A) → IsPast test xs i → i < length xs
    → x ≡ get_or xs i x → test x ≡ true → IsPlace test xs i
past_here test xs i x p lt e t =
    let split : drop i xs ≡ x ∷ drop (i + 1) xs = drop_more xs i x lt ∙ ap (λ y. y ∷ drop (i + 1) xs) (sym e) in
    record {
      fits = lt;
      found = p.found ∙ (ap (find test) split ∙ (rw t (ap Some e ∙ sym (slice_get-get_or xs i x lt))));
      puts = λ a. p.puts a ∙ (ap (λ ys. take i xs ++ put test a ys) split
          ∙ (rw t (sym (rw add-one (set_split xs i a lt)))));
    }

remove_here : {A : Type 0} (xs : List A) (i : ℕ) → i < length xs → take i xs ++ drop (suc i) xs ≡ remove xs i
remove_here [] i lt = absurd (omega arith)
remove_here (x ∷ xs) zero lt = refl
remove_here (x ∷ xs) (suc i) lt = ap (λ ys. x ∷ ys) (remove_here xs i (omega arith))

-- the list without the item that stands there
pub without_here : {A : Type 0} (test : A → Bool) (xs : List A) (i : ℕ) (x : A) → IsPast test xs i → i < length xs
    → x ≡ get_or xs i x → test x ≡ true → without_first test xs ≡ remove xs i
without_here test xs i x p lt e t =
    let split : drop i xs ≡ x ∷ drop (i + 1) xs = drop_more xs i x lt ∙ ap (λ y. y ∷ drop (i + 1) xs) (sym e) in
    p.without ∙ (ap (λ ys. take i xs ++ without_first test ys) split ∙ (rw t (rw add-one (remove_here xs i lt))))

pub past_all : {A : Type 0} (test : A → Bool) (xs : List A) (i : ℕ) → IsPast test xs i → length xs ≤ i
    → find test xs ≡ None
past_all test xs i p h = p.found ∙ ap (find test) (drop_of_length-le xs h)

mapped_suc : {A : Type 0} (f : A → A) (ys : List A) (i : ℕ) (d : A) → i < length ys
    → set (map f (take i ys) ++ drop i ys) i (f (get_or (map f (take i ys) ++ drop i ys) i d))
    ≡ map f (take (suc i) ys) ++ drop (suc i) ys
mapped_suc f [] i d lt = absurd (omega arith)
mapped_suc f (y ∷ ys) zero d lt = refl
mapped_suc f (y ∷ ys) (suc i) d lt = ap (λ zs. f y ∷ zs) (mapped_suc f ys i d (omega arith))

-- one more item of a list is changed
pub mapped_more : {A : Type 0} (f : A → A) (ys zs : List A) (i : ℕ) (d n : A) → zs ≡ map f (take i ys) ++ drop i ys
    → i < length ys → n ≡ f (get_or zs i d) → set zs i n ≡ map f (take (i + 1) ys) ++ drop (i + 1) ys
mapped_more f ys zs i d n h lt e = ap (set zs i) e ∙ rw (h, add-one) (mapped_suc f ys i d lt)

-- the numbers from i + 1 on
pub numbers_more : (n i : ℕ) → i < n → range_with_len (i + 1) (n - i) ≡ (i + 1)
    ∷ range_with_len (i + 1 + 1) (n - (i + 1))
numbers_more n i lt = let e : n - i ≡ suc (n - (i + 1)) = omega arith in rw e refl

eq_from_test : (a b : ℕ) → a == b ≡ true → a ≡ b
eq_from_test a b e = grind arith

-- the object that is found has the number
found_first : (n : ℕ) (x : Object) (os : List Object) (o : Object) (b : Bool) → x.number == n ≡ b
    → (find (is_object n) os ≡ Some o → o.number ≡ n) → (if b then Some x else find (is_object n) os) ≡ Some o
    → o.number ≡ n
found_first n x os o true t ih e = sym (ap (λ p. elim p [ None ↦ x.number | Some y ↦ y.number ]) e)
    ∙ eq_from_test x.number n t
found_first n x os o false t ih e = ih e

pub found_number : (n : ℕ) (os : List Object) (o : Object) → find (is_object n) os ≡ Some o → o.number ≡ n
found_number n [] o e = absurd (grind arith)
found_number n (x ∷ os) o e = found_first n x os o (x.number == n) refl (found_number n os o) e

if_some : {A : Type 0} (P : A → Type 0) (t : Option A) → ((x : A) → t ≡ Some x → P x) → IfSome t P
if_some P None h = tt
if_some P (Some x) h = h x refl

pub own_place : (n : ℕ) (os : List Object) (i : ℕ) → IsPlace (is_object n) os i
    → without_first (is_object n) os ≡ remove os i → IsObjectAt os i
own_place n os i p w = record {
  fits = p.fits;
  own = if_some (λ o. IsPlace (is_object o.number) os i) (slice_get os i)
      (λ o e. let h : o.number ≡ n = found_number n os o (p.found ∙ e) in rw h p);
  without = if_some (λ o. without_first (is_object o.number) os ≡ remove os i) (slice_get os i)
      (λ o e. let h : o.number ≡ n = found_number n os o (p.found ∙ e) in rw h w);
}
