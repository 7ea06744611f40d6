-- The grants of activations, gathered from the last to the first.
use Rattle.std.proofs.Common.{◌≡◌, ℕ, zero, suc, ◌+◌, ◌-◌, ◌<◌, List, [], ◌∷◌, Option, map, refl, length, get_or, drop}
use Rattle.std.proofs.Common.{ap, sym, ◌∙◌, arith}
use Rattle.std.proofs.lemmas.List.{drop_more}
use Rattle.server_model.specs.Server.{Activation, add_hold, holds_of}
use Rattle.server_model.specs.declared.hold.Hold.{Hold}

length_seen : {A B : Type 0} (f : A → B) (xs : List A) → length (map f xs) ≡ length xs
length_seen f [] = refl
length_seen f (x ∷ xs) = ap suc (length_seen f xs)

get_seen : {A B : Type 0} (f : A → B) (xs : List A) (i : ℕ) (x : A) → x ≡ get_or xs i x
    → f x ≡ get_or (map f xs) i (f x)
get_seen f [] i x e = refl
get_seen f (y ∷ ys) zero x e = ap f e
get_seen f (y ∷ ys) (suc i) x e = get_seen f ys i x e

-- one more, before those that were gathered
pub gathered_more : {A : Type 0} (f : A → Activation) (xs : List A) (count done : ℕ) (x : A) (act : ℕ)
    (grant : Option ℕ) (before after : List Hold)
    → count ≡ length xs → done < count → x ≡ get_or xs (count - 1 - done) x → act ≡ (f x).act → grant ≡ (f x).g
    → before ≡ holds_of (drop (count - done) (map f xs)) → after ≡ add_hold act grant before
    → after ≡ holds_of (drop (count - (done + 1)) (map f xs))
gathered_more f xs count done x act grant before after all left there acted granted known added =
    let place : count - 1 - done ≡ count - (done + 1) = omega arith in
    let next : count - (done + 1) + 1 ≡ count - done = omega (arith, left) in
    let fits : count - (done + 1) < length (map f xs) = rw (length_seen f xs) (omega (arith, all, left)) in
    let seen : f x ≡ get_or (map f xs) (count - (done + 1)) (f x) =
    get_seen f xs (count - (done + 1)) x (there ∙ ap (λ i. get_or xs i x) place) in
    let split : drop (count - (done + 1)) (map f xs) ≡ f x ∷ drop (count - done) (map f xs) =
    drop_more (map f xs) (count - (done + 1)) (f x) fits
    ∙ (ap (λ a. a ∷ drop (count - (done + 1) + 1) (map f xs)) (sym seen)
    ∙ ap (λ i. f x ∷ drop i (map f xs)) next) in
    added ∙ (ap (λ n. add_hold n grant before) acted
    ∙ (ap (λ g. add_hold (f x).act g before) granted
    ∙ (ap (λ hs. add_hold (f x).act (f x).g hs) known ∙ sym (ap holds_of split))))
