-- Which object is asked where a whole frame is.
use Rattle.std.proofs.Common.{◌≡◌, ◌⊎◌, inl, inr, ℕ, Bool, List, [], ◌∷◌, ◌++◌, Some, refl, sym, subst, ◌==◌}
use Rattle.std.proofs.Common.{if◌then◌else◌}
use Rattle.message_values.specs.Found.{find}
use Rattle.message_values.specs.declared.message.Message.{Message}
use Rattle.message_values.specs.declared.operation.Operation.{Operation}
use Rattle.container_model.specs.declared.record.Object.{Object}
use Rattle.container_model.specs.Record.{is_object, asked_sent, asked_all}
use Rattle.container_queues.specs.Steady.{InOrder, EachPair}
use Rattle.container_queues.proofs.SteadyLookups.{each_found}
use Rattle.container_steady.proofs.SteadyTells.{if_told}
use Rattle.container_steady.proofs.SteadyFinds.{number_apart, here}

-- what is in a list
abbrev pub Among : {A : Type 0} → List A → A → Type 0
Among [] x = ⊥
Among (y ∷ ys) x = (x ≡ y) ⊎ Among ys x

pub among_join : {A : Type 0} (xs ys : List A) (x : A) → Among (xs ++ ys) x → Among xs x ⊎ Among ys x
among_join [] ys x h = inr h
among_join (y ∷ xs) ys x (inl e) = inl (inl e)
among_join (y ∷ xs) ys x (inr h) = elim (among_join xs ys x h) [ inl g ↦ inl (inr g) | inr g ↦ inr g ]

-- which object is asked by a message
abbrev pub asked_of : ℕ → Operation → Object → List Message
asked_of f op o = if o.frame == f then asked_sent op o.link else []

there : (y x : Object) (os : List Object) → InOrder y x → find (is_object x.number) os ≡ Some x
    → find (is_object x.number) (y ∷ os) ≡ Some x
there y x os h e = subst (λ (b : Bool). (if b then Some y else find (is_object x.number) os) ≡ Some x)
    (sym (number_apart y x h)) e

pub call_of : (f : ℕ) (op : Operation) (os : List Object) (m : Message) → EachPair InOrder os
    → Among (asked_all f op os) m → (o : Object) × (find (is_object o.number) os ≡ Some o)
    × Among (asked_of f op o) m
call_of f op [] m h a = absurd a
call_of f op (y ∷ ys) m h a =
    let later : Among (asked_all f op ys) m → (o : Object) × (find (is_object o.number) (y ∷ ys) ≡ Some o)
    × Among (asked_of f op o) m =
    λ b. (let c = call_of f op ys m h.1 b in
    (c.0, there y c.0 ys (each_found (InOrder y) (is_object c.0.number) ys c.0 h.0 c.1) c.1, c.2)) in
    if_told (λ (ms : List Message). Among ms m → (o : Object) × (find (is_object o.number) (y ∷ ys) ≡ Some o)
    × Among (asked_of f op o) m) (y.frame == f) (asked_sent op y.link ++ asked_all f op ys) (asked_all f op ys)
    (λ t b. elim (among_join (asked_sent op y.link) (asked_all f op ys) m b) [
      | inl c ↦ (
        y,
        here y.number y ys refl,
        subst (λ (z : Bool). Among (if z then asked_sent op y.link else []) m)
            (sym t) c,
      )
      | inr c ↦ later c
    ])
    (λ t b. later b) a
