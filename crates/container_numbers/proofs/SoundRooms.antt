-- A record within its numbers, where each object owes so many calls as its number and its frame say.
use Rattle.std.proofs.Common.{◌≡◌, ◌≤◌, ◌+◌, ◌==◌, ℕ, zero, suc, Bool, true, false, List, [], ◌∷◌, length, Option, Some}
use Rattle.std.proofs.Common.{None, All, refl, sym, ◌∙◌, ap, arith, if◌then◌else◌}
use Rattle.std.proofs.lemmas.Bool.{eqb-true, eqb-false}
use Rattle.std.proofs.lemmas.List.{length-append, length-set}
use Rattle.std.proofs.lemmas.List.Elements.{All-cons, All-head, All-nil, All-tail}
use Rattle.std.specs.List.{AllByRecursion}
use Rattle.message_values.specs.Found.{find, put, nth, set_nth}
use Rattle.message_values.specs.declared.operation.Operation.{Operation}
use Rattle.container_model.specs.declared.record.Link.{Link}
use Rattle.container_model.specs.declared.record.Object.{Object}
use Rattle.container_model.specs.declared.record.Frame.{Frame}
use Rattle.container_model.specs.Record.{Record, ask, ask_at, ask_each, asked_link, is_object}
use Rattle.container_model.specs.Room.{IfLinked, IsRoomy, debt_in, HasNumbers}
use Rattle.container_queues.specs.Steady.{EachPair, InOrder, Steady}
use Rattle.container_queues.proofs.SteadyLookups.{each_found, each_put, each_weaker}

-- ---- what each object owes
abbrev pub Owing : ℕ → (ℕ → ℕ → ℕ) → Object → Type 0
Owing numbers D o = IfLinked (IsRoomy numbers (D o.number o.frame)) o.link

-- what the frames say of it
abbrev pub debts : List Frame → ℕ → ℕ → ℕ
debts frames n f = debt_in n (nth frames f)

abbrev pub Differs : Object → Object → Type 0
Differs x y = x.number ≡ y.number → ⊥

abbrev pub IsSaved : ℕ → Frame → Type 0
IsSaved numbers frame = frame.k ≤ numbers

pub record Within (Greatest : ℕ → Type 0) (D : ℕ → ℕ → ℕ) (r : Record) : Type 0 where
  pub limit : Greatest r.numbers
  pub room : AllByRecursion (Owing r.numbers D) r.objects
  pub saves : AllByRecursion (IsSaved r.numbers) r.frames
  pub frames : length r.frames ≤ r.numbers
  pub servers : length r.servers ≤ r.numbers
  pub objects : r.last_object ≤ r.numbers
  pub acts : r.last_act ≤ r.numbers
  pub grants : r.last_g ≤ r.numbers
  pub apart : EachPair Differs r.objects

pub each_of : {A : Type 0} (P : A → Type 0) (xs : List A) → All P xs → AllByRecursion P xs
each_of P [] h = tt
each_of P (x ∷ xs) h = (All-head P x xs h, each_of P xs (All-tail P x xs h))

pub all_of : {A : Type 0} (P : A → Type 0) (xs : List A) → AllByRecursion P xs → All P xs
all_of P [] h = All-nil P
all_of P (x ∷ xs) h = All-cons P x xs h.0 (all_of P xs h.1)

differ : (os : List Object) → EachPair InOrder os → EachPair Differs os
differ [] h = tt
differ (o ∷ os) h = (
  each_weaker (InOrder o) (Differs o) os (λ y k e. (let up = k.rising in absurd (omega arith)))
      h.0,
  differ os h.1,
)

pub within_of : {Greatest : ℕ → Type 0} (r : Record) → Steady r → HasNumbers Greatest r
    → Within Greatest (debts r.frames) r
within_of r s h = record {
  limit = h.limit;
  room = each_of (Owing r.numbers (debts r.frames)) r.objects h.room;
  saves = each_of (IsSaved r.numbers) r.frames h.saves;
  frames = h.frames;
  servers = h.servers;
  objects = h.objects;
  acts = h.acts;
  grants = h.grants;
  apart = differ r.objects s.order;
}

pub sound_of : {Greatest : ℕ → Type 0} (r : Record) → Within Greatest (debts r.frames) r → HasNumbers Greatest r
sound_of r h = record {
  limit = h.limit;
  room = all_of (Owing r.numbers (debts r.frames)) r.objects h.room;
  saves = all_of (IsSaved r.numbers) r.frames h.saves;
  frames = h.frames;
  servers = h.servers;
  objects = h.objects;
  acts = h.acts;
  grants = h.grants;
}

-- ---- who owes less has room
less_linked : (numbers more less : ℕ) (link : Option Link) → less ≤ more → IfLinked (IsRoomy numbers more) link
    → IfLinked (IsRoomy numbers less) link
less_linked numbers more less None le h = tt
less_linked numbers more less (Some l) le h = record { calls = (let c = h.calls in omega arith); grants = h.grants }

pub owes_less : (numbers : ℕ) (D E : ℕ → ℕ → ℕ) (o : Object) → E o.number o.frame ≤ D o.number o.frame
    → Owing numbers D o → Owing numbers E o
owes_less numbers D E o le h = less_linked numbers (D o.number o.frame) (E o.number o.frame) o.link le h

-- the same record, its objects owing other numbers
pub owed : {Greatest : ℕ → Type 0} (r : Record) (D E : ℕ → ℕ → ℕ) → Within Greatest D r
    → AllByRecursion (Owing r.numbers E) r.objects → Within Greatest E r
owed r D E h room = record {
  limit = h.limit;
  room = room;
  saves = h.saves;
  frames = h.frames;
  servers = h.servers;
  objects = h.objects;
  acts = h.acts;
  grants = h.grants;
  apart = h.apart;
}

pub within_less : {Greatest : ℕ → Type 0} (r : Record) (D E : ℕ → ℕ → ℕ) → ((n f : ℕ) → E n f ≤ D n f)
    → Within Greatest D r → Within Greatest E r
within_less r D E le h =
    owed r D E h (each_weaker (Owing r.numbers D) (Owing r.numbers E) r.objects
    (λ o k. owes_less r.numbers D E o (le o.number o.frame) k) h.room)

-- ---- one object takes the place of that of its number
rest_room : (numbers : ℕ) (D E : ℕ → ℕ → ℕ) (n : ℕ) (y : Object) (ys : List Object) → y.number ≡ n
    → AllByRecursion (Differs y) ys → AllByRecursion (Owing numbers D) ys
    → ((m f : ℕ) → (m ≡ n → ⊥) → E m f ≤ D m f) → AllByRecursion (Owing numbers E) ys
rest_room numbers D E n y [] e apart h le = tt
rest_room numbers D E n y (z ∷ zs) e apart h le = (
  owes_less numbers D E z (le z.number z.frame (λ q. apart.0 (e ∙ sym q))) h.0,
  rest_room numbers D E n y zs e
      apart.1 h.1 le,
)

put_room : (numbers : ℕ) (D E : ℕ → ℕ → ℕ) (n : ℕ) (a : Object) (os : List Object) → EachPair Differs os
    → AllByRecursion (Owing numbers D) os
    → ((m f : ℕ) → (m ≡ n → ⊥) → E m f ≤ D m f) → Owing numbers E a
    → AllByRecursion (Owing numbers E) (put (is_object n) a os)
put_room numbers D E n a [] apart h le new = tt
put_room numbers D E n a (y ∷ ys) apart h le new =
    elim (y.number == n) as (λ b. (y.number == n) ≡ b
    → AllByRecursion (Owing numbers E) (if b then a ∷ ys else y ∷ put (is_object n) a ys)) [
      | true ↦ (λ t. (new, rest_room numbers D E n y ys (eqb-true y.number n t) apart.0 h.1 le))
      | false ↦
          (λ t. (
            owes_less numbers D E y (le y.number y.frame (eqb-false y.number n t)) h.0,
            put_room numbers D E n a ys
                apart.1 h.1 le new,
          ))
    ] refl

put_differs : (x : Object) (test : Object → Bool) (a y : Object) (os : List Object) → find test os ≡ Some y
    → a.number ≡ y.number → AllByRecursion (Differs x) os → AllByRecursion (Differs x) (put test a os)
put_differs x test a y os e same h = each_put (Differs x) test a os h
    (λ q. each_found (Differs x) test os y h e (q ∙ same))

-- by any test, what is found gives its number on
pub put_apart : (test : Object → Bool) (a x : Object) (os : List Object) → find test os ≡ Some x
    → a.number ≡ x.number → EachPair Differs os → EachPair Differs (put test a os)
put_apart test a x [] e same h = tt
put_apart test a x (y ∷ ys) e same h = elim (test y) as (λ b. (if b then Some y else find test ys) ≡ Some x
    → EachPair Differs (if b then a ∷ ys else y ∷ put test a ys)) [
      | true ↦ (λ g. let yx : y ≡ x = cc in
          let number : a.number ≡ y.number = same ∙ ap (λ (z : Object). z.number) (sym yx) in
          (each_weaker (Differs y) (Differs a) ys (λ z k q. k (sym number ∙ q)) h.0, h.1))
      | false ↦ (λ g. (put_differs y test a x ys g same h.0, put_apart test a x ys g same h.1))
    ] e

-- an object that isn't there
pub put_absent : {A : Type 0} (test : A → Bool) (a : A) (os : List A) → find test os ≡ None → put test a os ≡ os
put_absent test a [] e = refl
put_absent test a (y ∷ ys) e = elim (test y) as (λ b. (if b then Some y else find test ys) ≡ None
    → (if b then a ∷ ys else y ∷ put test a ys) ≡ y ∷ ys) [
      | true ↦ (λ g. cc)
      | false ↦ (λ g. ap (λ zs. y ∷ zs) (put_absent test a ys g))
    ] e

pub put_within : {Greatest : ℕ → Type 0} (r : Record) (D E : ℕ → ℕ → ℕ) (a x : Object) → Within Greatest D r
    → find (is_object a.number) r.objects ≡ Some x → ((m f : ℕ) → (m ≡ a.number → ⊥) → E m f ≤ D m f)
    → Owing r.numbers E a
    → x.number ≡ a.number → Within Greatest E (record r { objects = put (is_object a.number) a r.objects })
put_within r D E a x h found le new same = record {
  limit = h.limit;
  room = put_room r.numbers D E a.number a r.objects h.apart h.room le new;
  saves = h.saves;
  frames = h.frames;
  servers = h.servers;
  objects = h.objects;
  acts = h.acts;
  grants = h.grants;
  apart = put_apart (is_object a.number) a x r.objects found (sym same) h.apart;
}

pub length-set_nth : {A : Type 0} (xs : List A) (n : ℕ) (x : A) → length (set_nth xs n x) ≡ length xs
length-set_nth xs zero x = refl
length-set_nth xs (suc i) x = length-set xs i x

-- ---- who is asked pays one
asked_at : (numbers more : ℕ) (l : Link) (op : Operation) (p : Option Operation) → l.pending ≡ p
    → IsRoomy numbers (more + 1) l → IsRoomy numbers more (ask_at l op p).link
asked_at numbers more l op None e h = record {
  calls = (let c = h.calls in omega arith);
  grants = (let g = h.grants in omega arith);
}
asked_at numbers more l op (Some before) e h =
    record {
      calls = (let c = h.calls in let n = length-append l.waiting (op ∷ []) in omega arith);
      grants = h.grants;
    }

pub asked_roomy : (numbers more : ℕ) (l : Link) (op : Operation) → IsRoomy numbers (more + 1) l
    → IsRoomy numbers more (ask l op).link
asked_roomy numbers more l op h = asked_at numbers more l op l.pending refl h

pub asked_linked : (numbers more : ℕ) (op : Operation) (link : Option Link)
    → IfLinked (IsRoomy numbers (more + 1)) link → IfLinked (IsRoomy numbers more) (asked_link op link)
asked_linked numbers more op None h = tt
asked_linked numbers more op (Some l) h = asked_roomy numbers more l op h

pub each_asked_roomy : (numbers more : ℕ) (l : Link) (ops : List Operation) → IsRoomy numbers (more + length ops) l
    → IsRoomy numbers more (ask_each l ops).link
each_asked_roomy numbers more l [] h = record { calls = (let c = h.calls in omega arith); grants = h.grants }
each_asked_roomy numbers more l (op ∷ ops) h =
    each_asked_roomy numbers more (ask l op).link ops
    (asked_roomy numbers (more + length ops) l op
    (record { calls = (let c = h.calls in omega arith); grants = h.grants }))
