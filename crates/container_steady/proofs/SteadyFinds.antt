-- Objects of a steady record are found by their numbers, and by their activations, whatever changes.
use Rattle.std.proofs.Common.{◌≡◌, ◌<◌, ℕ, Bool, true, false, List, [], ◌∷◌, ◌++◌, Option, Some, None, refl, sym, ap}
use Rattle.std.proofs.Common.{◌∙◌, arith, subst, map, ◌==◌, if◌then◌else◌, eq-eqb}
use Rattle.std.proofs.lemmas.Bool.{eqb-true, ne_eqb}
use Rattle.std.specs.Prelude.{IfSome, ◌&&◌, option_map}
use Rattle.std.specs.List.{AllByRecursion}
use Rattle.message_values.specs.Found.{find, put}
use Rattle.container_model.specs.declared.record.Link.{Link}
use Rattle.container_model.specs.declared.record.Object.{Object}
use Rattle.container_model.specs.Record.{is_object, is_link, is_linked, without_first}
use Rattle.container_queues.specs.Steady.{InOrder, EachPair, OneObjectAnActivation}
use Rattle.container_queues.proofs.SteadyLookups.{each_found}
use Rattle.container_steady.proofs.SteadyTells.{if_at}

-- an object that stands further on has another number
pub number_apart : (y x : Object) → InOrder y x → (y.number == x.number) ≡ false
number_apart y x h = (let up = h.rising in ne_eqb y.number x.number (λ e. absurd (omega arith)))

pub here : (n : ℕ) (y : Object) (os : List Object) → n ≡ y.number → find (is_object n) (y ∷ os) ≡ Some y
here n y os e = subst (λ (b : Bool). (if b then Some y else find (is_object n) os) ≡ Some y)
    (sym (eq-eqb y.number n (sym e))) refl

-- what is found by any test is found by its number
pub found_by_number : (test : Object → Bool) (os : List Object) (x : Object) → EachPair InOrder os
    → find test os ≡ Some x → find (is_object x.number) os ≡ Some x
found_by_number test [] x h e = cc
found_by_number test (y ∷ ys) x h e = elim (test y) as (λ b. (if b then Some y else find test ys) ≡ Some x
    → find (is_object x.number) (y ∷ ys) ≡ Some x) [
      | true ↦ (λ g. let yx : y ≡ x = cc in subst (λ (z : Object). find (is_object z.number) (y ∷ ys) ≡ Some z) yx
          (here y.number y ys refl))
      | false ↦ (λ g. rw (number_apart y x (each_found (InOrder y) test ys x h.0 g)) (found_by_number test ys x h.1 g))
    ] e

-- and what is put in its place by any test, by its number
pub put_by_number : (test : Object → Bool) (a x : Object) (os : List Object) → EachPair InOrder os
    → find test os ≡ Some x → put test a os ≡ put (is_object x.number) a os
put_by_number test a x [] h e = refl
put_by_number test a x (y ∷ ys) h e = elim (test y) as (λ b. (if b then Some y else find test ys) ≡ Some x
    → (if b then a ∷ ys else y ∷ put test a ys) ≡ put (is_object x.number) a (y ∷ ys)) [
      | true ↦ (λ g. let yx : y ≡ x = cc in
          subst (λ (b : Bool). a ∷ ys ≡ (if b then a ∷ ys else y ∷ put (is_object x.number) a ys))
          (sym (eq-eqb y.number x.number (ap (λ (z : Object). z.number) yx))) refl)
      | false ↦
          (λ g. subst (λ (b : Bool). y ∷ put test a ys ≡ (if b then a ∷ ys else y ∷ put (is_object x.number) a ys))
          (sym (number_apart y x (each_found (InOrder y) test ys x h.0 g)))
          (ap (λ (zs : List Object). y ∷ zs) (put_by_number test a x ys h.1 g)))
    ] e

-- what stands at a number after an object was put in the place of one of its number
pub find-put_same : (n : ℕ) (a x : Object) (os : List Object) → find (is_object n) os ≡ Some x → a.number ≡ n
    → find (is_object n) (put (is_object n) a os) ≡ Some a
find-put_same n a x [] e t = cc
find-put_same n a x (y ∷ ys) e t = elim (y.number == n) as (λ b. (y.number == n) ≡ b
    → (if b then Some y else find (is_object n) ys) ≡ Some x
    → find (is_object n) (if b then a ∷ ys else y ∷ put (is_object n) a ys) ≡ Some a) [
      | true ↦ (λ s g. here n a ys (sym t))
      | false ↦
          (λ s g. subst (λ (b : Bool). (if b then Some y else find (is_object n) (put (is_object n) a ys)) ≡ Some a)
          (sym s) (find-put_same n a x ys g t))
    ] refl e

pub find-put_other : (n m : ℕ) (a : Object) (os : List Object) → a.number ≡ n → (n ≡ m → ⊥)
    → find (is_object m) (put (is_object n) a os) ≡ find (is_object m) os
find-put_other n m a [] t ne = refl
find-put_other n m a (y ∷ ys) t ne = elim (y.number == n) as (λ b. (y.number == n) ≡ b
    → find (is_object m) (if b then a ∷ ys else y ∷ put (is_object n) a ys) ≡ find (is_object m) (y ∷ ys)) [
      | true ↦
          (λ s. rw (
            ne_eqb a.number m (λ q. ne (sym t ∙ q)),
            ne_eqb y.number m
                (λ q. ne (sym (eqb-true y.number n s) ∙ q)),
          ) refl)
      | false ↦ (λ s. ap (λ (r : Option Object). if y.number == m then Some y else r) (find-put_other n m a ys t ne))
    ] refl

-- after each object was changed under its number
pub find-map : (n : ℕ) (g : Object → Object) (os : List Object) → ((x : Object) → (g x).number ≡ x.number)
    → find (is_object n) (map g os) ≡ option_map g (find (is_object n) os)
find-map n g [] h = refl
find-map n g (y ∷ ys) h = subst (λ (k : ℕ). (if k == n then Some (g y) else find (is_object n) (map g ys))
    ≡ option_map g (find (is_object n) (y ∷ ys))) (sym (h y))
    (elim (y.number == n) as (λ b. (if b then Some (g y) else find (is_object n) (map g ys))
    ≡ option_map g (if b then Some y else find (is_object n) ys)) [
      | true ↦ refl
      | false ↦ find-map n g ys h
    ])

-- after one more object
pub find-append_other : (n : ℕ) (a : Object) (os : List Object) → (a.number ≡ n → ⊥)
    → find (is_object n) (os ++ a ∷ []) ≡ find (is_object n) os
find-append_other n a [] ne = rw (ne_eqb a.number n ne) refl
find-append_other n a (y ∷ ys) ne = ap (λ (r : Option Object). if y.number == n then Some y else r)
    (find-append_other n a ys ne)

pub find-append_same : (a : Object) (os : List Object) → AllByRecursion (λ (o : Object). o.number < a.number) os
    → find (is_object a.number) (os ++ a ∷ []) ≡ Some a
find-append_same a [] h = here a.number a [] refl
find-append_same a (y ∷ ys) h =
    (let up = h.0 in rw (ne_eqb y.number a.number (λ e. absurd (omega arith))) (find-append_same a ys h.1))

-- after an object went
absent : (y : Object) (os : List Object) → AllByRecursion (InOrder y) os → find (is_object y.number) os ≡ None
absent y [] h = refl
absent y (z ∷ zs) h = (let up = h.0.rising in rw (ne_eqb z.number y.number (λ e. absurd (omega arith)))
    (absent y zs h.1))

pub find-without_same : (n : ℕ) (os : List Object) → EachPair InOrder os
    → find (is_object n) (without_first (is_object n) os) ≡ None
find-without_same n [] h = refl
find-without_same n (y ∷ ys) h = elim (y.number == n) as (λ b. (y.number == n) ≡ b
    → find (is_object n) (if b then ys else y ∷ without_first (is_object n) ys) ≡ None) [
      | true ↦ (λ s. ap (λ (m : ℕ). find (is_object m) ys) (sym (eqb-true y.number n s)) ∙ absent y ys h.0)
      | false ↦ (λ s. rw s (find-without_same n ys h.1))
    ] refl

pub find-without_other : (n m : ℕ) (os : List Object) → (n ≡ m → ⊥)
    → find (is_object m) (without_first (is_object n) os) ≡ find (is_object m) os
find-without_other n m [] ne = refl
find-without_other n m (y ∷ ys) ne = elim (y.number == n) as (λ b. (y.number == n) ≡ b
    → find (is_object m) (if b then ys else y ∷ without_first (is_object n) ys) ≡ find (is_object m) (y ∷ ys)) [
      | true ↦ (λ s. rw (ne_eqb y.number m (λ q. ne (sym (eqb-true y.number n s) ∙ q))) refl)
      | false ↦ (λ s. ap (λ (r : Option Object). if y.number == m then Some y else r) (find-without_other n m ys ne))
    ] refl

-- an activation's object is found by the activation
linked_here : (o : Object) (l : Link) → o.link ≡ Some l → is_linked l.inc l.act o ≡ true
linked_here o l e = ap (is_link l.inc l.act) e ∙ rw (eq-eqb l.inc l.inc refl, eq-eqb l.act l.act refl) refl

and_other : (a b : Bool) → b ≡ false → (a && b) ≡ false
and_other true b e = e
and_other false b e = refl

linked_other : (link : Option Link) (l : Link) → IfSome link (λ (m : Link). m.act ≡ l.act → ⊥)
    → is_link l.inc l.act link ≡ false
linked_other None l h = refl
linked_other (Some m) l h = and_other (m.inc == l.inc) (m.act == l.act) (ne_eqb m.act l.act h)

apart_at : (a b : Option Link) (l : Link) → b ≡ Some l
    → IfSome a (λ (m : Link). IfSome b (λ (n : Link). m.act ≡ n.act → ⊥))
    → IfSome a (λ (m : Link). m.act ≡ l.act → ⊥)
apart_at None b l e h = tt
apart_at (Some m) b l e h = if_at (λ (n : Link). m.act ≡ n.act → ⊥) b l e h

pub found_by_link : (test : Object → Bool) (os : List Object) (o : Object) (l : Link) → EachPair InOrder os
    → find test os ≡ Some o → o.link ≡ Some l → find (is_linked l.inc l.act) os ≡ Some o
found_by_link test [] o l h e is = cc
found_by_link test (y ∷ ys) o l h e is = elim (test y) as (λ b. (if b then Some y else find test ys) ≡ Some o
    → find (is_linked l.inc l.act) (y ∷ ys) ≡ Some o) [
      | true ↦ (λ g. let yo : y ≡ o = cc in rw (linked_here y l (ap (λ (z : Object). z.link) yo ∙ is)) g)
      | false ↦
          (λ g. rw (linked_other y.link l (apart_at y.link o.link l is (each_found (InOrder y) test ys o h.0 g).apart))
          (found_by_link test ys o l h.1 g is))
    ] e

-- an activation is of one object
pub acts_differ : (os : List Object) (n m : ℕ) (o p : Object) (l k : Link) → EachPair InOrder os
    → find (is_object n) os ≡ Some o → find (is_object m) os ≡ Some p → o.link ≡ Some l → p.link ≡ Some k
    → l.act ≡ k.act → n ≡ m
acts_differ [] n m o p l k h e g is was same = cc
acts_differ (y ∷ ys) n m o p l k h e g is was same =
    elim (y.number == n) as (λ b. (y.number == n) ≡ b → (if b then Some y else find (is_object n) ys) ≡ Some o
    → n ≡ m) [
      | true ↦ (λ s e'. let yo : y ≡ o = cc in
          elim (y.number == m) as (λ b. (y.number == m) ≡ b → (if b then Some y else find (is_object m) ys) ≡ Some p
          → n ≡ m) [
            | true ↦ (λ t g'. sym (eqb-true y.number n s) ∙ eqb-true y.number m t)
            | false ↦ (λ t g'. let apart = apart_at y.link p.link k was
                (each_found (InOrder y) (is_object m) ys p h.0 g').apart in
                absurd (if_at (λ (z : Link). z.act ≡ k.act → ⊥) y.link l (ap (λ (z : Object). z.link) yo ∙ is) apart
                same))
          ] refl g)
      | false ↦ (λ s e'.
          elim (y.number == m) as (λ b. (y.number == m) ≡ b → (if b then Some y else find (is_object m) ys) ≡ Some p
          → n ≡ m) [
            | true ↦ (λ t g'. let yp : y ≡ p = cc in
                let apart = apart_at y.link o.link l is (each_found (InOrder y) (is_object n) ys o h.0 e').apart in
                absurd (if_at (λ (z : Link). z.act ≡ l.act → ⊥) y.link k (ap (λ (z : Object). z.link) yp ∙ was)
                apart (sym same)))
            | false ↦ (λ t g'. acts_differ ys n m o p l k h.1 e' g' is was same)
          ] refl g)
    ] refl e

pub one_object_an_activation : OneObjectAnActivation
one_object_an_activation r n m o p l k s e g is was same = acts_differ r.objects n m o p l k s.order e g is was same
