-- What is asked of one object, and of whole frames.
use Rattle.std.proofs.Common.{◌≡◌, ◌⊎◌, ◌==◌, ℕ, ◌+◌, ◌<◌, Bool, true, false, List, [], ◌∷◌, ◌++◌, map, Option, Some}
use Rattle.std.proofs.Common.{None, option_map, refl, sym, ap, ◌∙◌, inl, inr, arith, subst, if◌then◌else◌, eq-eqb}
use Rattle.std.specs.List.{AllByRecursion}
use Rattle.message_values.specs.Found.{find, put}
use Rattle.message_values.specs.declared.message.Said.{Said}
use Rattle.message_values.specs.declared.operation.Operation.{Operation}
use Rattle.tree_streams.specs.declared.stored.Stored.{Stored}
use Rattle.container_model.specs.declared.record.Link.{Link}
use Rattle.container_model.specs.declared.record.Object.{Object}
use Rattle.container_model.specs.Record.{Record, is_object, ask, ask_at, asked_link, asked_sent, asked_object}
use Rattle.container_model.specs.Record.{asked_all}
use Rattle.container_queues.specs.Steady.{EachPair, InOrder, WaitsBehind, Steady}
use Rattle.std.proofs.lemmas.Bool.{eqb-true, eqb-false, ne_eqb}
use Rattle.container_steady.proofs.SteadyRecords.{if_told}
use Rattle.container_steady.proofs.SteadyTests.{found_numbered}
use Rattle.container_steady.proofs.SteadyShapes.{asked_of}
use Rattle.world_model.specs.Safe.{Among, link_at, links_of}
use Rattle.world_facts.specs.Words.{Links, all_said}
use Rattle.world_facts.specs.Shapes.{IsSame, AskedAt, none, stays, queues, sends as sent, AsksAll, IsQuiet}
use Rattle.world_facts.proofs.Lookups.{among_join}
use Rattle.world_steps.proofs.Objects.{IsHeld, Waits, found_held, link_mapped, link_was, put_here, put_there, said_join}

-- an object of which nothing is asked
same_link : (l : Link) → IsSame l l
same_link l = record {
  session = refl;
  inc = refl;
  act = refl;
  last = refl;
  pending = refl;
  states = refl;
  s = refl;
  saved = inl refl;
}

pub unasked : (Asks : Operation → Type 0) (x : Option Link) → AskedAt Asks x x []
unasked Asks None = none refl refl refl
unasked Asks (Some l) = stays l l refl refl (same_link l) refl refl

pub unasked_as : (Asks : Operation → Type 0) (x y : Option Link) → y ≡ x → AskedAt Asks x y []
unasked_as Asks x y e = subst (λ z. AskedAt Asks x z []) (sym e) (unasked Asks x)

-- an operation is asked of a link whose save is as it was or over
module _ (Asks : Operation → Type 0) (b : Link) (saved : Option Stored) (op : Operation) (asks : Asks op)
    (same : (saved ≡ b.saved) ⊎ (saved ≡ None)) where
  asked_by : (p : Option Operation) → b.pending ≡ p → WaitsBehind p b.waiting
      → AskedAt Asks (Some b) (Some (ask_at (record b { saved = saved }) op p).link) (all_said (ask_at b op p).sent)
  asked_by None e w = sent b (record b { last = b.last + 1; pending = Some op; saved = saved }) op refl refl
      (record {
        session = refl;
        inc = refl;
        act = refl;
        free = e;
        last = refl;
        pending = refl;
        states = refl;
        s = refl;
        saved = same;
      }) w w asks refl
  asked_by (Some before) e w = queues b (record b { waiting = b.waiting ++ op ∷ []; saved = saved }) op before refl refl
      (record {
        session = refl;
        inc = refl;
        act = refl;
        last = refl;
        pending = refl;
        states = refl;
        s = refl;
        saved = same;
      }) e refl asks refl

  pub is_asked : WaitsBehind b.pending b.waiting
      → AskedAt Asks (Some b) (Some (ask (record b { saved = saved }) op).link) (all_said (ask b op).sent)
  is_asked w = asked_by b.pending refl w

-- no link changes, and nothing is sent
pub none_asked : (links after : Links) → ((n : ℕ) → after n ≡ links n) → AsksAll (λ o op. IsQuiet op) links after []
none_asked links after same = record {
  news = λ n. [];
  each = λ n. unasked_as IsQuiet (links n) (after n) (same n);
  from = λ m h. absurd h;
}

-- each object is changed under its number
module _ (Asks : ℕ → Operation → Type 0) (os : List Object) (g : Object → Object) (news : Object → List Said)
    (more : List Said) (number : (o : Object) → (g o).number ≡ o.number)
    (each : (n : ℕ) (o : Object) → find (is_object n) os ≡ Some o → AskedAt (Asks n) o.link (g o).link (news o))
    (from : (m : Said) → Among more m → (o : Object) × (find (is_object o.number) os ≡ Some o) × Among (news o) m) where
  abbrev news_in : Option Object → List Said
  news_in None = []
  news_in (Some o) = news o

  each_in : (n : ℕ) (x : Option Object) → find (is_object n) os ≡ x
      → AskedAt (Asks n) (link_at x) (link_at (option_map g x)) (news_in x)
  each_in n None e = none refl refl refl
  each_in n (Some o) e = each n o e

  pub all_mapped : AsksAll Asks (links_of os) (links_of (map g os)) more
  all_mapped = record {
    news = λ n. news_in (find (is_object n) os);
    each = λ n. subst (λ z. AskedAt (Asks n) (links_of os n) z (news_in (find (is_object n) os)))
        (sym (link_mapped g os n number)) (each_in n (find (is_object n) os) refl);
    from = λ m h. (let c = from m h in (c.0.number, subst (λ z. Among (news_in z) m) (sym c.1) c.2));
  }

-- objects whose numbers rise, as a container's do
abbrev pub numbers : List Object → List ℕ
numbers os = map (λ (o : Object). o.number) os

abbrev pub Rising : List Object → Type 0
Rising os = EachPair ◌<◌ (numbers os)

numbers_above : (n : ℕ) (x : Object) (os : List Object) → x.number ≡ n → AllByRecursion (InOrder x) os
    → AllByRecursion (λ (m : ℕ). n < m) (numbers os)
numbers_above n x [] e h = tt
numbers_above n x (o ∷ os) e h = (subst (λ m. m < o.number) e h.0.rising, numbers_above n x os e h.1)

pub ordered_rise : (os : List Object) → EachPair InOrder os → Rising os
ordered_rise [] h = tt
ordered_rise (o ∷ os) h = (numbers_above o.number o os refl h.0, ordered_rise os h.1)

found_above : (n k : ℕ) (os : List Object) (o : Object) → AllByRecursion (λ (m : ℕ). n < m) (numbers os)
    → find (is_object k) os ≡ Some o → n < o.number
found_above n k [] o h e = cc
found_above n k (x ∷ os) o h e = elim (x.number == k) as (λ b. (if b then Some x else find (is_object k) os)
    ≡ Some o → n < o.number) [
      | true ↦ (λ g. let is : x ≡ o = cc in subst (λ (y : Object). n < y.number) is h.0)
      | false ↦ (λ g. found_above n k os o h.1 g)
    ] e

-- who is asked by a message to a whole frame
pub who_is_asked : (os : List Object) (f : ℕ) (op : Operation) (m : Said) → Rising os
    → Among (all_said (asked_all f op os)) m → (o : Object) × (find (is_object o.number) os ≡ Some o)
    × Among (all_said (asked_of f op o)) m
who_is_asked [] f op m s h = absurd h
who_is_asked (x ∷ os) f op m s h =
    let later : Among (all_said (asked_all f op os)) m → (o : Object)
    × (find (is_object o.number) (x ∷ os) ≡ Some o) × Among (all_said (asked_of f op o)) m = λ g.
    (let c = who_is_asked os f op m s.1 g in
    let above : x.number < c.0.number = found_above x.number c.0.number os c.0 s.0 c.1 in (
      c.0,
      ap (λ b. if b then Some x else find (is_object c.0.number) os)
          (ne_eqb x.number c.0.number (λ e. absurd (omega arith))) ∙ c.1,
      c.2,
    )) in
    elim (x.frame == f) as (λ b. (x.frame == f) ≡ b
    → Among (all_said (if b then asked_sent op x.link ++ asked_all f op os else asked_all f op os)) m
    → (o : Object) × (find (is_object o.number) (x ∷ os) ≡ Some o) × Among (all_said (asked_of f op o)) m) [
      | true ↦
          (λ t g. elim (among_join (all_said (asked_sent op x.link)) (all_said (asked_all f op os)) m
          (subst (λ ms. Among ms m) (said_join (asked_sent op x.link) (asked_all f op os)) g)) [
            | inl here ↦ (
              x,
              ap (λ b. if b then Some x else find (is_object x.number) os)
                  (eq-eqb x.number x.number refl),
              subst
                  (λ (b : Bool). Among (all_said (if b then asked_sent op x.link else [])) m) (sym t) here,
            )
            | inr more ↦ later more
          ])
      | false ↦ (λ t g. later g)
    ] refl h

-- one object is asked
pub one_asked : (r : Record) (n : ℕ) (op : Operation) (x : Object) (l : Link) → Steady r
    → find (is_object n) r.objects ≡ Some x → x.link ≡ Some l → IsQuiet op
    → AsksAll (λ o op. IsQuiet op) (links_of r.objects)
    (links_of (put (is_object x.number) (record x { link = Some (ask l op).link }) r.objects))
    (all_said (ask l op).sent)
one_asked r n op x l s f xl quiet =
    let a : Object = record x { link = Some (ask l op).link } in
    let ms = all_said (ask l op).sent in
    let h : IsHeld r n l = found_held r n l x s f xl in
    let test = is_object x.number in
    let here : find test r.objects ≡ Some x = found_numbered n r.objects x f in
    let asked : AskedAt IsQuiet (Some l) (Some (ask l op).link) ms =
    is_asked IsQuiet l l.saved op quiet (inl refl) h.steady.waits_behind in
    record {
      news = λ k. if x.number == k then ms else [];
      each = λ k. if_told (AskedAt IsQuiet (links_of r.objects k) (links_of (put test a r.objects) k))
          (x.number == k) ms []
          (λ t'. subst (λ j. AskedAt IsQuiet (links_of r.objects j) (links_of (put test a r.objects) j) ms)
          (eqb-true x.number k t')
          (subst (λ z. AskedAt IsQuiet z (links_of (put test a r.objects) x.number) ms)
          (sym (link_was r.objects test x a s.order here refl ∙ xl))
          (subst (λ z. AskedAt IsQuiet (Some l) z ms) (sym (put_here r.objects test x a s.order here refl)) asked)))
          (λ t'. unasked_as IsQuiet (links_of r.objects k) (links_of (put test a r.objects) k)
          (put_there r.objects test x a s.order here refl k (λ q. eqb-false x.number k t' (sym q))));
      from = λ m g. (x.number, subst (λ b. Among (if b then ms else []) m) (sym (eq-eqb x.number x.number refl)) g);
    }

-- whole frames
pub asked_number : (f : ℕ) (op : Operation) (o : Object) → (asked_object f op o).number ≡ o.number
asked_number f op o = if_told (λ (z : Object). z.number ≡ o.number) (o.frame == f)
    (record o { link = asked_link op o.link }) o (λ e. refl) (λ e. refl)

-- each object of a frame that isn't passive is asked
module _ (os : List Object) (f : ℕ) (op : Operation) (w : Waits (links_of os)) (rise : Rising os)
    (quiet : IsQuiet op) where
  asked_one : (n : ℕ) (o : Object) (x : Option Link) → find (is_object n) os ≡ Some o → o.link ≡ x
      → AskedAt IsQuiet x (asked_link op x) (all_said (asked_sent op x))
  asked_one n o None e q = none refl refl refl
  asked_one n o (Some l) e q = is_asked IsQuiet l l.saved op quiet (inl refl) (w n l (ap link_at e ∙ q))

  asked_each : (n : ℕ) (o : Object) → find (is_object n) os ≡ Some o
      → AskedAt IsQuiet o.link (asked_object f op o).link (all_said (asked_of f op o))
  asked_each n o e =
      elim (o.frame == f) as (λ b. AskedAt IsQuiet o.link (if b then record o { link = asked_link op o.link }
      else o).link (all_said (if b then asked_sent op o.link else []))) [
        | true ↦ asked_one n o o.link e refl
        | false ↦ unasked IsQuiet o.link
      ]

  pub frame_asked : AsksAll (λ o p. IsQuiet p) (links_of os) (links_of (map (asked_object f op) os))
      (all_said (asked_all f op os))
  frame_asked = all_mapped (λ o p. IsQuiet p) os (asked_object f op) (λ o. all_said (asked_of f op o))
      (all_said (asked_all f op os)) (asked_number f op) asked_each (λ m h. who_is_asked os f op m rise h)
