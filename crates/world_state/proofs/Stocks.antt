-- Objects in stock, found by their class.
use Rattle.std.proofs.Common.{◌≡◌, ℕ, zero, suc, ◌+◌, ◌<◌, ◌≤◌, true, false, List, [], ◌∷◌, ◌++◌, Option, Some, None}
use Rattle.std.proofs.Common.{length, map, get_or, take, drop, refl, ap, sym, ◌∙◌, add-one, append_assoc, arith}
use Rattle.std.specs.Prelude.{slice_get, option_map}
use Rattle.std.specs.List.{insert, remove}
use Rattle.std.proofs.lemmas.List.{drop_more, take_more, length-map, get_or-map}
use Rattle.std.proofs.Math.ListN.{drop_of_length-le}
use Rattle.std.proofs.lemmas.Option.{slice_get-get_or}
use Rattle.object_core.specs.Kinds.{Kind, kind_of}
use Rattle.object_core.specs.Content.{Content}
use Rattle.message_values.specs.Found.{find}
use Rattle.world_model.specs.World.{is_of, without_first}
use Rattle.world_state.specs.Plans.{IsFirst, stock_with}

-- no object of the class stands before i
pub record IsPast (class : List ℕ) (xs : List Kind) (i : ℕ) : Type 0 where
  pub found : find (is_of class) xs ≡ find (is_of class) (drop i xs)
  pub out : without_first (is_of class) xs ≡ take i xs ++ without_first (is_of class) (drop i xs)

pub past_none : (class : List ℕ) (xs : List Kind) → IsPast class xs 0
past_none class xs = record { found = refl; out = refl }

kind_at : {A : Type 0} (f : A → Kind) (xs : List A) (i : ℕ) (x : A) → i < length xs → x ≡ get_or xs i x
    → f x ≡ get_or (map f xs) i (f x)
kind_at f xs i x lt e = ap f e ∙ sym (get_or-map f xs i x (f x) lt)

pub past_more : {A : Type 0} (f : A → Kind) (class : List ℕ) (xs : List A) (i : ℕ) (x : A)
    → IsPast class (map f xs) i → i < length xs → x ≡ get_or xs i x → is_of class (f x) ≡ false
    → IsPast class (map f xs) (i + 1)
past_more f class xs i x p lt e t =
    let fits : i < length (map f xs) = rw (length-map xs f) lt in
    let k : f x ≡ get_or (map f xs) i (f x) = kind_at f xs i x lt e in
    let split : drop i (map f xs) ≡ f x ∷ drop (i + 1) (map f xs) = drop_more (map f xs) i (f x) fits
    ∙ ap (λ y. y ∷ drop (i + 1) (map f xs)) (sym k) in
    let tk : take (i + 1) (map f xs) ≡ take i (map f xs) ++ f x ∷ [] = take_more (map f xs) i (f x) fits
    ∙ ap (λ y. take i (map f xs) ++ y ∷ []) (sym k) in
    record {
      found = p.found ∙ (ap (find (is_of class)) split ∙ rw t refl);
      out = p.out ∙ (ap (λ ys. take i (map f xs) ++ without_first (is_of class) ys) split
          ∙ (rw t
          (rw tk
          (sym (append_assoc (take i (map f xs)) (f x ∷ [])
          (without_first (is_of class) (drop (i + 1) (map f xs))))))));
    }

pub past_here : {A : Type 0} (f : A → Kind) (class : List ℕ) (xs : List A) (i : ℕ) (x : A)
    → IsPast class (map f xs) i → i < length xs → x ≡ get_or xs i x → is_of class (f x) ≡ true
    → IsFirst class (map f xs) i
past_here f class xs i x p lt e t =
    let fits : i < length (map f xs) = rw (length-map xs f) lt in
    let k : f x ≡ get_or (map f xs) i (f x) = kind_at f xs i x lt e in
    let split : drop i (map f xs) ≡ f x ∷ drop (i + 1) (map f xs) = drop_more (map f xs) i (f x) fits
    ∙ ap (λ y. y ∷ drop (i + 1) (map f xs)) (sym k) in
    record {
      fits = fits;
      found = p.found ∙ (ap (find (is_of class)) split
          ∙ (rw t (ap Some k ∙ sym (slice_get-get_or (map f xs) i (f x) fits))));
      out = p.out ∙ (ap (λ ys. take i (map f xs) ++ without_first (is_of class) ys) split
          ∙ (rw t (ap (λ n. take i (map f xs) ++ drop n (map f xs)) (add-one i))));
    }

pub past_all : {A : Type 0} (f : A → Kind) (class : List ℕ) (xs : List A) (i : ℕ) → IsPast class (map f xs) i
    → length xs ≤ i → find (is_of class) (map f xs) ≡ None
past_all f class xs i p h = p.found ∙ ap (find (is_of class)) (drop_of_length-le (map f xs) (rw (length-map xs f) h))

-- an object that is put into stock, as it is seen
map_append : {A B : Type 0} (f : A → B) (xs ys : List A) → map f (xs ++ ys) ≡ map f xs ++ map f ys
map_append f [] ys = refl
map_append f (x ∷ xs) ys = ap (λ zs. f x ∷ zs) (map_append f xs ys)

map_take : {A B : Type 0} (f : A → B) (xs : List A) (i : ℕ) → map f (take i xs) ≡ take i (map f xs)
map_take f xs zero = refl
map_take f [] (suc i) = refl
map_take f (x ∷ xs) (suc i) = ap (λ zs. f x ∷ zs) (map_take f xs i)

map_drop : {A B : Type 0} (f : A → B) (xs : List A) (i : ℕ) → map f (drop i xs) ≡ drop i (map f xs)
map_drop f xs zero = refl
map_drop f [] (suc i) = refl
map_drop f (x ∷ xs) (suc i) = map_drop f xs i

pub inserted : {A B : Type 0} (f : A → B) (xs : List A) (i : ℕ) (y : A)
    → map f (insert xs i y) ≡ insert (map f xs) i (f y)
inserted f xs i y = map_append f (take i xs) (y ∷ drop i xs) ∙ (rw (map_take f xs i, map_drop f xs i) refl)

pub removed : {A B : Type 0} (f : A → B) (xs : List A) (i : ℕ) → map f (remove xs i) ≡ remove (map f xs) i
removed f xs i = map_append f (take i xs) (drop (suc i) xs) ∙ (rw (map_take f xs i, map_drop f xs (suc i)) refl)

-- what is taken out and put back leaves the stock as it was
back_cons : {B : Type 0} (ys : List B) (i : ℕ) (y : B) → i < length ys → y ≡ get_or ys i y
    → insert (remove ys i) i y ≡ ys
back_cons [] i y lt e = absurd (omega arith)
back_cons (x ∷ ys) zero y lt e = ap (λ z. z ∷ ys) e
back_cons (x ∷ ys) (suc i) y lt e = ap (λ zs. x ∷ zs) (back_cons ys i y (omega arith) e)

pub put_back : {B : Type 0} (ys : List B) (i : ℕ) (y : B) → slice_get ys i ≡ Some y → i < length ys
    → insert (remove ys i) i y ≡ ys
put_back ys i y e lt = (let s : Some (get_or ys i y) ≡ Some y = sym (slice_get-get_or ys i y lt) ∙ e in
    back_cons ys i y lt cc)

pub stock_back : (stock left : List Kind) (i : ℕ) (k : Kind) (back : Option Kind) → left ≡ remove stock i
    → slice_get stock i ≡ Some k → i < length stock → back ≡ Some k → stock_with left i back ≡ stock
stock_back stock left i k back el e lt eb = rw (eb, el) (put_back stock i k e lt)

pub kind_back : {A : Type 0} (f : A → Content) (back : Option A) (c : Content) → option_map f back ≡ Some c
    → option_map (λ b. kind_of (f b)) back ≡ Some (kind_of c)
kind_back f None c e = cc
kind_back f (Some b) c e = ap (option_map kind_of) e
