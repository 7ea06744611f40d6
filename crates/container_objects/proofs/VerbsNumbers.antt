-- Objects keep their numbers where one of them takes its frame.
use Rattle.std.proofs.Common.{◌≡◌, ◌∙◌, ◌<◌, ℕ, zero, suc, List, [], ◌∷◌, length, Option, Some, None, IfSome, Result}
use Rattle.std.proofs.Common.{Ok, Err, OnErr, OnOk, is_some, refl, ap, sym, subst, slice_get, true}
use Rattle.std.proofs.lemmas.Option.{same_Some}
use Rattle.std.specs.Prelude.{slice_set}
use Rattle.object_state.specs.declared.verbs.Step.{Step}
use Rattle.container_model.specs.declared.record.Link.{Link}
use Rattle.container_model.specs.declared.record.Object.{Object}
use Rattle.container_model.specs.Verbs.{stepped_link}
use Rattle.container_objects.specs.Stepping.{both_told}
use Rattle.container_objects.proofs.VerbsTake.{item_at}
use Rattle.container_checks.proofs.Numbers.{AreRising, numbers, still}

numbers_set : (os : List Object) (i : ℕ) (o : Object) → numbers (slice_set os i o) ≡ slice_set (numbers os) i o.number
numbers_set [] i o = refl
numbers_set (y ∷ ys) zero o = refl
numbers_set (y ∷ ys) (suc i) o = ap (λ ns. y.number ∷ ns) (numbers_set ys i o)

same_set : (ks : List ℕ) (i k : ℕ) → slice_get ks i ≡ Some k → slice_set ks i k ≡ ks
same_set [] i k at = refl
same_set (n ∷ ns) zero k at = ap (λ m. m ∷ ns) (sym (same_Some n k at))
same_set (n ∷ ns) (suc i) k at = ap (λ ms. n ∷ ms) (same_set ns i k at)

numbers_get : (os : List Object) (i : ℕ) (x : Object) → slice_get os i ≡ Some x
    → slice_get (numbers os) i ≡ Some x.number
numbers_get [] i x at = cc
numbers_get (y ∷ ys) zero x at = ap (λ (z : Object). Some z.number) (same_Some y x at)
numbers_get (y ∷ ys) (suc i) x at = numbers_get ys i x at

set_kept : (os : List Object) (i : ℕ) (o x : Object) → slice_get os i ≡ Some x → o.number ≡ x.number
    → numbers (slice_set os i o) ≡ numbers os
set_kept os i o x at same = numbers_set os i o
    ∙ (ap (slice_set (numbers os) i) same ∙ same_set (numbers os) i x.number (numbers_get os i x at))

linked_at : (t : Option Link) → is_some t ≡ true → (l : Link) × (t ≡ Some l)
linked_at None e = cc
linked_at (Some l) e = (l, refl)

-- what is done keeps the numbers, and a refusal keeps all, so they still rise
pub same_on : {A E : Type 0} (r : Result A E) (os new : List Object) → AreRising (numbers os)
    → OnOk r (numbers new ≡ numbers os) → OnErr r (new ≡ os) → AreRising (numbers new)
same_on (Ok a) os new up made kept = still up (sym made)
same_on (Err e) os new up made kept = still up (ap numbers (sym kept))

module _ (os : List Object) (i g : ℕ) (steps : List Step) (fits : i < length os)
    (linked : IfSome (slice_get os i) (λ (o : Object). is_some o.link ≡ true)) where
  x : (o : Object) × (slice_get os i ≡ Some o)
  x = item_at os i fits

  l : (m : Link) × (x.0.link ≡ Some m)
  l = linked_at x.0.link (subst (λ t. IfSome t (λ (o : Object). is_some o.link ≡ true)) x.1 linked)

  abbrev later : Object
  later = record x.0 { link = Some (stepped_link g l.0 steps).link }

  -- it is asked alone
  pub alone_kept : (new : List Object) → ((o : Object) (m : Link) → slice_get os i ≡ Some o → o.link ≡ Some m
      → new ≡ slice_set os i (record o { link = Some (stepped_link g m steps).link })) → numbers new ≡ numbers os
  alone_kept new made = ap numbers (made x.0 l.0 x.1 l.1) ∙ set_kept os i later x.0 x.1 refl

  -- the one that has the frame is told
  pub both_kept : (j : ℕ) → j < length os → (new : List Object)
      → ((o h : Object) (m : Link) → slice_get os i ≡ Some o → slice_get os j ≡ Some h → o.link ≡ Some m
      → new ≡ both_told os i (record o { link = Some (stepped_link g m steps).link }) j h)
      → numbers new ≡ numbers os
  both_kept j within new made =
      let h : (o : Object) × (slice_get os j ≡ Some o) = item_at os j within in
      ap numbers (made x.0 h.0 l.0 x.1 h.1 l.1)
      ∙ (numbers_set (slice_set os i later) j _
      ∙ (ap (λ ks. slice_set ks j h.0.number) (set_kept os i later x.0 x.1 refl)
      ∙ same_set (numbers os) j h.0.number (numbers_get os j h.0 h.1)))
