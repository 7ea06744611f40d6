-- Servers by their incarnations, in a list and as they are seen.
use Rattle.std.proofs.Common.{◌≡◌, ℕ, ◌+◌, ◌<◌, List, Some, length, map, get_or, set, refl, ap, sym, ◌∙◌, add-one}
use Rattle.std.specs.Prelude.{slice_get}
use Rattle.std.proofs.lemmas.List.{map-set, get_or-map, length-map}
use Rattle.std.proofs.lemmas.Option.{slice_get-get_or}
use Rattle.message_values.specs.Found.{nth, set_nth}
use Rattle.container_model.specs.Numbered.{IsNth}

pub seen_at : {A B : Type 0} (f : A → B) (xs : List A) (i : ℕ) (x : A) → i < length xs → x ≡ get_or xs i x
    → slice_get (map f xs) i ≡ Some (f x)
seen_at f xs i x lt e =
    let fits : i < length (map f xs) = rw (length-map xs f) lt in
    slice_get-get_or (map f xs) i (f x) fits ∙ ap Some (get_or-map f xs i x (f x) lt ∙ ap f (sym e))

nth_suc : {A : Type 0} (xs : List A) (n i : ℕ) → n ≡ i + 1 → nth xs n ≡ slice_get xs i
nth_suc xs n i e = rw (e, add-one) refl

set_suc : {A : Type 0} (xs : List A) (n i : ℕ) (a : A) → n ≡ i + 1 → set_nth xs n a ≡ set xs i a
set_suc xs n i a e = rw (e, add-one) refl

-- the server of an incarnation, as it is seen
pub nth_at : {A B : Type 0} (f : A → B) (xs : List A) (n i : ℕ) (x : A) → IsNth n xs i → x ≡ get_or xs i x
    → nth (map f xs) n ≡ Some (f x)
nth_at f xs n i x p e = nth_suc (map f xs) n i p.number ∙ seen_at f xs i x p.fits e

-- a server that changed, as it is seen
pub set_at : {A B : Type 0} (f : A → B) (xs : List A) (n i : ℕ) (y : A) → n ≡ i + 1
    → map f (set xs i y) ≡ set_nth (map f xs) n (f y)
set_at f xs n i y e = map-set f xs i y ∙ sym (set_suc (map f xs) n i (f y) e)

pub is_nth : {A : Type 0} (xs : List A) (n i : ℕ) → n ≡ i + 1 → i < length xs → IsNth n xs i
is_nth xs n i e lt = record { fits = lt; number = e; found = nth_suc xs n i e; puts = λ a. set_suc xs n i a e }

pub seen_nth : {A B : Type 0} (f : A → B) (xs : List A) (n i : ℕ) → IsNth n xs i → IsNth n (map f xs) i
seen_nth f xs n i p = is_nth (map f xs) n i p.number (rw (length-map xs f) p.fits)

pub held_nth : {A B : Type 0} (f : A → B) (xs : List A) (n i : ℕ) → IsNth n (map f xs) i → IsNth n xs i
held_nth f xs n i p = is_nth xs n i p.number (rw (length-map xs f) at p.fits)
